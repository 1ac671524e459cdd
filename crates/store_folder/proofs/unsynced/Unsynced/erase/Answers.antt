use Rattle.std.proofs.Common.{None, ap, refl, ◌∙◌}
use Rattle.std.specs.Bool.{if◌then◌else◌}
use Rattle.harp_cells.specs.Effect.{is_cell}
use Rattle.store_folder.specs.Unsynced.{Pending, seen}
use Rattle.store_folder.proofs.KeyLaws.{keyed_after, touched_after}
use Rattle.store_folder.proofs.SeenLaws.{erase_seen, pending_of}
use Rattle.store_folder.proofs.unsynced.Unsynced.erase.Goals as goal

pub returns-clause-erased : goal.returns-clause-erased
returns-clause-erased c = λ disk d.
    erase_seen
    (pending_of c.self.inside.values c.self.inside.touched.entries c.self.inside.cuts.entries
    c.self.inside.blocks.keys)
    (pending_of c.erase.new.self c.insert.new.self.entries c.self.inside.cuts.entries
    c.self.inside.blocks.keys)
    c.args.cell c.erase.ensures.erased
    (touched_after c.self.inside.touched.entries c.insert.new.self.entries c.args.cell
    c.key.result c.args.cell c.key.ensures c.in_ok-insert.ensures.updates.0)
    refl disk d
    ∙ ap (λ (p : Pending). if◌then◌else◌ (is_cell c.args.cell d) None (seen p disk d))
    c.self.view_is

pub invariant_of-self-2 : goal.invariant_of-self-2
invariant_of-self-2 c = (
  keyed_after c.self.inside.touched.entries c.insert.new.self.entries c.args.cell c.key.result
      c.key.ensures c.in_ok-insert.ensures.updates.0 c.self.invariant.0,
  c.self.invariant.1,
)
