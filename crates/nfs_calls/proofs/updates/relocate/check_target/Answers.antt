use Rattle.std.proofs.Common.{◌≡◌, false, true, ◌∙◌, sym, ap, Err}
use Rattle.file_tree.specs.Tree.{place, slots_of}
use Rattle.file_tree.specs.Outcome.{has_no_entry}
use Rattle.harp_types.specs.declared.reply.Status.{Status}
use Rattle.nfs_calls.proofs.Losses.{kind_at}
use Rattle.nfs_calls.proofs.Targets.{differ, alike, target_differs, target_same, target_full, target_empty}
use Rattle.nfs_calls.proofs.updates.relocate.check_target.Goals as goal

pub returns-then-from-to-clause-step : goal.returns-then-from-to-clause-step
returns-then-from-to-clause-step g c t slot told moved target =
    let from = c.is_directory-from.ensures
    ∙ kind_at t.tree c.args.moving.now.number c.args.moving.now.moved moved in
    let to = c.is_directory-to.ensures ∙ kind_at t.tree c.args.target c.args.object.now target in
    target_differs t.tree c.args.moving.now.number slot c.args.target c.is_directory-from.result
    c.is_directory-to.result from to
    (differ c.is_directory-from.result c.is_directory-to.result c.if-from-to.true)
    ∙ ap (λ (s : Status). Err s) (sym c.kind_refusal.ensures)

pub returns-then-target-moving-clause-step : goal.returns-then-target-moving-clause-step
returns-then-target-moving-clause-step g c t slot told moved target =
    target_same t.tree c.args.moving.now.number slot c.args.target c.if-target-moving.true

pub returns-then-not-branch-clause-step : goal.returns-then-not-branch-clause-step
returns-then-not-branch-clause-step g c t slot told moved target =
    let from = c.is_directory-from.ensures
    ∙ kind_at t.tree c.args.moving.now.number c.args.moving.now.moved moved in
    let to = c.is_directory-to.ensures ∙ kind_at t.tree c.args.target c.args.object.now target in
    let full : has_no_entry (slots_of (place t.tree c.args.target)) ≡ false =
    sym (c.in_ok-is_empty.ensures.empty t told target) ∙ c.if-not-branch.true in
    target_full t.tree c.args.moving.now.number slot c.args.target
    (sym from ∙ alike c.is_directory-from.result c.is_directory-to.result c.if-from-to.false
    ∙ to) c.if-target-moving.false full

pub returns-clause-step : goal.returns-clause-step
returns-clause-step g c t slot told moved target =
    let from = c.is_directory-from.ensures
    ∙ kind_at t.tree c.args.moving.now.number c.args.moving.now.moved moved in
    let to = c.is_directory-to.ensures ∙ kind_at t.tree c.args.target c.args.object.now target in
    let empty : has_no_entry (slots_of (place t.tree c.args.target)) ≡ true =
    sym (c.in_ok-is_empty.ensures.empty t told target) ∙ c.if-not-branch.false in
    target_empty t.tree c.args.moving.now.number slot c.args.target
    (sym from ∙ alike c.is_directory-from.result c.is_directory-to.result c.if-from-to.false
    ∙ to) c.if-target-moving.false empty
