use Rattle.std.proofs.Common.{sym, ap, ◌∙◌}
use Rattle.harp_cells.specs.declared.change.Change.{Change}
use Rattle.cell_cache.specs.Entries.{Entries, left_by}
use Rattle.cell_cache.proofs.Keeping.{left_after, put_left, record_of}
use Rattle.cell_cache.proofs.cache.CellCache.forget.Goals as goal

pub returns-in-Put-clause-left : goal.returns-in-Put-clause-left
returns-in-Put-clause-left c =
    let old = c.args.self.now in
    c.forget_cell.ensures
    ∙ ap (λ (l : Entries). record_of l old.places)
    (put_left c.in-Put.cell c.in-Put.value old.entries ∙ ap (λ (x : Change). left_by x old.entries) (sym c.in-Put.is))

pub returns-in-Put-clause-after : goal.returns-in-Put-clause-after
returns-in-Put-clause-after c =
    left_after c.args.change.now c.args.self.now c.forget_cell.new.self (returns-in-Put-clause-left c)

pub returns-in-Erase-clause-after : goal.returns-in-Erase-clause-after
returns-in-Erase-clause-after c =
    let old = c.args.self.now in
    left_after c.args.change.now old c.forget_cell-in-Erase.new.self
    (c.forget_cell-in-Erase.ensures ∙ ap (λ (x : Change). record_of (left_by x old.entries) old.places) (sym c.in-Erase.is))

pub returns-then-has_few_from-clause-left : goal.returns-then-has_few_from-clause-left
returns-then-has_few_from-clause-left c =
    let old = c.args.self.now in
    c.forget_blocks.ensures
    ∙ ap (λ (x : Change). record_of (left_by x old.entries) old.places) (sym c.in-EraseFrom.is)

pub returns-then-has_few_from-clause-after : goal.returns-then-has_few_from-clause-after
returns-then-has_few_from-clause-after c =
    left_after c.args.change.now c.args.self.now c.forget_blocks.new.self
    (returns-then-has_few_from-clause-left c)

pub returns-else-has_few_from-clause-after : goal.returns-else-has_few_from-clause-after
returns-else-has_few_from-clause-after c =
    left_after c.args.change.now c.args.self.now c.forget_each.new.self c.forget_each.ensures
