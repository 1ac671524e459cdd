use Rattle.std.proofs.Common.{◌≡◌, false, ◌∙◌, sym, subst}
use Rattle.harp_types.specs.declared.call.Call.TheVariants as call
use Rattle.file_tree.specs.Tries.{is_dots}
use Rattle.file_tree.specs.Outcome.{Outcome}
use Rattle.file_tree.proofs.TryLaws.{entry_name_from}
use Rattle.nfs_calls.specs.TreeCells.{IsInode, IsDirectory, object_at}
use Rattle.nfs_calls.specs.Gives.{Gives}
use Rattle.nfs_calls.specs.Plans.{plan_view, planned}
use Rattle.nfs_calls.proofs.Inodes.{kind_is}
use Rattle.nfs_calls.proofs.TakenAway.{not_refused}
use Rattle.nfs_calls.proofs.Renames.{directory_from, rename_is}
use Rattle.nfs_calls.proofs.updates.rename.rename.Goals as goal

pub returns-clause-plan : goal.returns-clause-plan
returns-clause-plan g c t told totals =
    let dir = c.args.dir in
    let to_dir = c.args.to_dir in
    let name = c.args.name.now in
    let to_name = c.args.to_name.now in
    let i = c.in_ok-from.from in
    let j = c.in_ok-to.to in
    let own : IsInode t.tree dir i = c.in_ok-from.ensures.inode t told in
    let later = c.live.ensures.kept ∙ told in
    let to_own : IsInode t.tree to_dir j = c.in_ok-to.ensures.inode t later in
    let from : IsDirectory t.tree dir i =
    directory_from t.tree dir i own
    (c.in_ok-slots_in.ensures (object_at t.tree dir).body (kind_is t.tree dir i own)) in
    let to : IsDirectory t.tree to_dir j =
    directory_from t.tree to_dir j to_own
    (c.in_ok-slots_in-2.ensures (object_at t.tree to_dir).body
    (kind_is t.tree to_dir j to_own)) in
    let dots : is_dots name ≡ false = sym c.is_dots.ensures
    ∙ not_refused _ _ (sym c.refuse.ensures ∙ c.in_ok-refuse.was) in
    let to_dots : is_dots to_name ≡ false = sym c.is_dots-2.ensures
    ∙ not_refused _ _ (sym c.refuse-2.ensures ∙ c.in_ok-refuse-2.was) in
    let checked = sym c.check_name.ensures.step ∙ c.in_ok-check_name.was in
    let to_checked = sym c.check_name-2.ensures.step ∙ c.in_ok-check_name-2.was in
    let searches = sym (c.allowed.ensures t.tree dir own) ∙ c.in_ok-allowed.was in
    let to_searches = sym (c.allowed-2.ensures t.tree to_dir to_own) ∙ c.in_ok-allowed-2.was in
    let right = entry_name_from to_name to_checked to_dots in
    subst (λ (o : Outcome). Gives plan_view c.rename_checked.result
    (planned t.cells t.tree (call.Rename dir name to_dir to_name) o))
    (rename_is t.tree c.args.cred dir i name to_dir j to_name c.args.now from to searches
    to_searches dots to_dots checked to_checked)
    (c.rename_checked.ensures.plan t (c.live-2.ensures.kept ∙ later) totals from to right)
