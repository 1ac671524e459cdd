use Rattle.std.proofs.Common.{◌≡◌, ◌∙◌, sym, ap, min, Ok}
use Rattle.file_tree.specs.Tree.{place, slots_of, free_from}
use Rattle.nfs_calls.proofs.MovesWithin.{within_planned}
use Rattle.nfs_calls.proofs.updates.relocate.move_within.Goals as goal

pub returns-clause-plan : goal.returns-clause-plan
returns-clause-plan c t name totals free one is none =
    let m = c.args.moving.now in
    let slots = slots_of (place t.tree m.to_dir) in
    let first : c.min-to_slot.result ≡ min m.slot (free_from 0 slots) = c.min-to_slot.ensures
    ∙ ap (λ n. min m.slot n) free in
    within_planned t.cells t.tree m name c.args.to_name c.args.now c.min-to_slot.result t.sound one
    is none first
    ∙ ap Ok (rw (sym c.relinked-to.ensures, sym totals) (sym c.in_ok-plan_in.ensures.plan))
