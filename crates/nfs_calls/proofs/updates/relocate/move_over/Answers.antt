use Rattle.std.proofs.Common.{ℕ, Some, Ok, ◌∙◌, sym, ap, refl}
use Rattle.file_tree.specs.Rename.{check_target}
use Rattle.nfs_calls.specs.declared.parts.totals.Totals.{Totals}
use Rattle.nfs_calls.specs.TreeCells.{IsInode}
use Rattle.nfs_calls.specs.Entries.{after_loss}
use Rattle.nfs_calls.proofs.MovesIn.{over_view}
use Rattle.nfs_calls.proofs.MovesOver.{same_planned}
use Rattle.nfs_calls.proofs.Replacing.{target_planned}
use Rattle.nfs_calls.proofs.Targets.{fails_then, target_is, target_refused}
use Rattle.nfs_calls.proofs.updates.relocate.move_over.Goals as goal

pub returns-in-Err-clause-plan : goal.returns-in-Err-clause-plan
returns-in-Err-clause-plan g c t name told totals is entry =
    let m = c.args.moving.now in
    let y : ℕ × ℕ = (c.args.to_slot, c.args.target) in
    let object = c.in_ok-object.ensures.inode t m.to_dir y.0 c.args.to_name told entry in
    fails_then c.in-Err.refusal (check_target t.tree m.number (Some y)) _
    (λ status e. target_refused t.cells t.tree m name c.args.to_name y c.args.now status e)
    (c.in-Err.ensures.step t y.0 (c.named.ensures.kept ∙ told) is.moved object)

pub returns-then-target-moving-clause-plan : goal.returns-then-target-moving-clause-plan
returns-then-target-moving-clause-plan g c t name told totals is entry =
    let m = c.args.moving.now in
    let y : ℕ × ℕ = (c.args.to_slot, c.args.target) in
    let object = c.in_ok-object.ensures.inode t m.to_dir y.0 c.args.to_name told entry in
    let checked = c.in_default.ensures.step t y.0 (c.named.ensures.kept ∙ told) is.moved object in
    same_planned t.cells t.tree m name c.args.to_name y c.args.now is.entry entry
    c.if-target-moving.true checked
    ∙ ap Ok (rw (c.new.ensures.items, totals) refl)

pub returns-clause-plan : goal.returns-clause-plan
returns-clause-plan g c t name told totals is entry =
    let m = c.args.moving.now in
    let y : ℕ × ℕ = (c.args.to_slot, c.args.target) in
    let object : IsInode t.tree y.1 c.in_ok-object.object =
    c.in_ok-object.ensures.inode t m.to_dir y.0 c.args.to_name told entry in
    let checked = c.in_default.ensures.step t y.0 (c.named.ensures.kept ∙ told) is.moved object in
    let target =
    target_is t.tree m c.args.to_name y c.in_ok-object.object entry object
    c.if-target-moving.false checked in
    target_planned t.cells t.tree m name c.args.to_name y c.in_ok-object.object c.args.now t.sound
    is target checked
    ∙ ap Ok (sym (c.in_ok-plan_over.ensures.plan
    ∙ ap (λ (n : Totals). over_view m y c.args.to_name c.args.now c.in_ok-object.object
    (after_loss n c.in_ok-object.object)) totals))
