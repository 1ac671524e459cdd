use Rattle.std.proofs.Common.{◌⊎◌, Some, ap, refl, subst, ◌∙◌}
use Rattle.std.specs.Prelude.{◌||◌}
use Rattle.std.specs.Bool.{if◌then◌else◌}
use Rattle.harp_cells.specs.declared.change.Change.TheVariants as change
use Rattle.harp_cells.specs.Effect.{is_cell}
use Rattle.store_folder.specs.Unsynced.{IsAlike, IsChanged, Pending, is_cut, is_touched, seen}
use Rattle.store_folder.proofs.KeyLaws.{keyed_after, touched_after}
use Rattle.store_folder.proofs.SeenLaws.{on_err, pending_of, put_part, put_seen}
use Rattle.store_folder.proofs.unsynced.Unsynced.put_value.Goals as goal

pub returns-clause-put : goal.returns-clause-put
returns-clause-put c = λ disk d.
    put_seen
    (pending_of c.self.inside.values c.self.inside.touched.entries c.self.inside.cuts.entries
    c.self.inside.blocks.keys)
    (pending_of c.put.new.self c.insert.new.self.entries c.self.inside.cuts.entries
    c.self.inside.blocks.keys)
    c.args.cell c.args.value c.in_ok-put.ensures.put
    (touched_after c.self.inside.touched.entries c.insert.new.self.entries c.args.cell
    c.key.result c.args.cell c.key.ensures c.in_ok-insert.ensures.updates.0)
    refl disk d
    ∙ ap (λ (p : Pending). if◌then◌else◌ (is_cell c.args.cell d) (Some c.args.value)
    (seen p disk d)) c.self.view_is

pub invariant_of-self-2 : goal.invariant_of-self-2
invariant_of-self-2 c = (
  keyed_after c.self.inside.touched.entries c.insert.new.self.entries c.args.cell c.key.result
      c.key.ensures c.in_ok-insert.ensures.updates.0 c.self.invariant.0,
  c.self.invariant.1,
)

pub returns-in_err-insert-clause-part : goal.returns-in_err-insert-clause-part
returns-in_err-insert-clause-part c =
    let old =
    pending_of c.self.inside.values c.self.inside.touched.entries c.self.inside.cuts.entries
    c.self.inside.blocks.keys in
    let new =
    pending_of c.put.new.self c.insert.new.self.entries c.self.inside.cuts.entries
    c.self.inside.blocks.keys in
    let part =
    put_part old new c.args.cell c.args.value c.in_ok-put.ensures.put c.in_err-insert.ensures.err
    refl (is_touched old.touched c.args.cell || is_cut old.cuts c.args.cell) refl in
    on_err c.from_residual-in_err-insert.result
    (IsAlike c.args.self.now new ⊎ IsChanged (change.Put c.args.cell c.args.value) c.args.self.now new)
    (subst (λ (p : Pending). IsAlike p new ⊎ IsChanged (change.Put c.args.cell c.args.value) p new)
    c.self.view_is part)
