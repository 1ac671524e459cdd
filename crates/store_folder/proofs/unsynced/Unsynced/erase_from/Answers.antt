use Rattle.std.proofs.Common.{None, ap, refl, sym, ◌∙◌}
use Rattle.std.specs.Bool.{if◌then◌else◌}
use Rattle.harp_cells.specs.Effect.{is_block_from}
use Rattle.store_folder.specs.Unsynced.{Pending, cut_of, earlier, seen}
use Rattle.store_folder.proofs.CutLaws.{cut_after}
use Rattle.store_folder.proofs.SeenLaws.{erase_from_seen, pending_of}
use Rattle.store_folder.proofs.unsynced.Unsynced.erase_from.Goals as goal

pub returns-clause-erased : goal.returns-clause-erased
returns-clause-erased c = λ disk d.
    erase_from_seen
    (pending_of c.self.inside.values c.self.inside.touched.entries c.self.inside.cuts.entries
    c.self.inside.blocks.keys)
    (pending_of c.erase_from.new.self c.self.inside.touched.entries c.insert.new.self.entries
    c.self.inside.blocks.keys)
    c.args.object c.args.first c.erase_from.ensures.erased refl
    (cut_after c.self.inside.cuts.entries c.insert.new.self.entries c.args.object c.args.first
    c.earlier_cut-cut.result
    (c.earlier_cut-cut.ensures
    ∙ ap (λ (p : Pending). earlier (cut_of p.cuts c.args.object) c.args.first) (sym c.self.view_is))
    c.in_ok-insert.ensures.updates.0)
    disk d
    ∙ ap (λ (p : Pending). if◌then◌else◌ (is_block_from c.args.object c.args.first d) None
    (seen p disk d)) c.self.view_is
