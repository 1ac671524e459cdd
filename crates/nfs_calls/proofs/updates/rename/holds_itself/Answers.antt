use Rattle.std.proofs.Common.{◌≡◌, length, true, ◌∙◌, sym}
use Rattle.file_tree.specs.Tree.{place, is_directory_at}
use Rattle.file_tree.specs.Rename.{is_above}
use Rattle.inode_dirs.proofs.TreeCells.{trees_tell_parents}
use Rattle.nfs_calls.proofs.Losses.{kind_at}
use Rattle.nfs_calls.proofs.Renames.{directory_above}
use Rattle.nfs_calls.proofs.updates.rename.holds_itself.Goals as goal

pub returns-clause-above : goal.returns-clause-above
returns-clause-above g c t told is d =
    let directory : is_directory_at (place t.tree c.args.number) ≡ true =
    sym (kind_at t.tree c.args.number c.args.moved.now is)
    ∙ sym c.if-not-is_directory.ensures in
    directory_above c.is_below.result (is_directory_at (place t.tree c.args.number))
    (is_above (length t.tree) t.tree c.args.number c.args.to_dir) directory
    (c.is_below.ensures.below t.tree t.sound d
    (trees_tell_parents _ t.cells t.tree t.stamp told t.sound t.stand))
