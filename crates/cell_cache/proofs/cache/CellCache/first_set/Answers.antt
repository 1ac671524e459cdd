use Rattle.std.proofs.Common.{◌≡◌, true, Option, sym, subst, ◌∙◌}
use Rattle.harp_cells.specs.declared.cell.Cell.{Cell}
use Rattle.harp_cells.specs.declared.value.Value.{Value}
use Rattle.cell_cache.specs.Entries.{Entries, has_entry, left_by}
use Rattle.cell_cache.proofs.Keeping.{has_first, has_later, none_left, set_later}
use Rattle.cell_cache.proofs.cache.CellCache.first_set.Goals as goal

pub returns-then-sets-clause-entry : goal.returns-then-sets-clause-entry
returns-then-sets-clause-entry c =
    c.loop-cell.invariant.within c.in-Some.cell.now
    (subst (λ (l : Entries). has_entry c.in-Some.cell.now l ≡ true) (sym c.in-Some.ensures.steps)
    (has_first (c.in-Some.cell.now, c.in-Some.field-0-1.now) c.next.new.self))

pub loop-cell-preserved : goal.loop-cell-preserved
loop-cell-preserved c =
    let e : Cell × Option Value = (c.in-Some.cell.now, c.in-Some.field-0-1.now) in
    record {
      can_next = tt;
      finite = tt;
      none = λ h. c.loop-cell.invariant.none
          (subst (λ (l : Entries). left_by c.args.change.now l ≡ l) (sym c.in-Some.ensures.steps)
          (set_later c.args.change.now e c.next.new.self (sym c.sets.ensures ∙ c.if-sets.false) h));
      within = λ d has. c.loop-cell.invariant.within d
          (subst (λ (l : Entries). has_entry d l ≡ true) (sym c.in-Some.ensures.steps)
          (has_later d e c.next.new.self has));
    }

pub returns-clause-none : goal.returns-clause-none
returns-clause-none c = c.loop-cell.invariant.none
    (subst (λ (l : Entries). left_by c.args.change.now l ≡ l) (sym c.in-None.ensures.steps.0) (none_left c.args.change.now))
