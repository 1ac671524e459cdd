use Rattle.std.proofs.Common.{◌≡◌, ℕ, true, false, ◌∙◌, sym}
use Rattle.file_tree.specs.Tree.{place, is_directory_at}
use Rattle.file_tree.proofs.WaysUp.{file_is_bare}
use Rattle.nfs_calls.specs.TreeCells.{IsInode, IsDirectory}
use Rattle.nfs_calls.proofs.Losses.{kind_at}
use Rattle.nfs_calls.proofs.TakenAway.{MayTake, remove_planned, remove_directory}
use Rattle.nfs_calls.proofs.updates.remove.remove.Goals as goal

pub returns-then-is_directory-clause-plan : goal.returns-then-is_directory-clause-plan
returns-then-is_directory-clause-plan g c t told totals =
    let dir = c.args.dir in
    let name = c.args.name.now in
    let x : ℕ × ℕ = (c.in_ok-slot.slot, c.in_ok-slot.number) in
    let is : IsDirectory t.tree dir c.in_ok-inode.inode = c.in_ok-inode.ensures.directory t told in
    let then = c.searched.ensures.kept ∙ told in
    let object : IsInode t.tree x.1 c.in_ok-object.object =
    c.in_ok-object.ensures.inode t dir x.0 name (c.doomed.ensures.kept ∙ then)
    (c.in_ok-slot.ensures.entry t then is) in
    let directory : is_directory_at (place t.tree x.1) ≡ true =
    sym (kind_at t.tree x.1 c.in_ok-object.object object) ∙ sym c.if-is_directory.ensures in
    let takes : MayTake t.tree c.args.cred dir =
    record {
      searches = c.in_ok-inode.ensures.step t told;
      writes = sym (c.in_ok-allowed.ensures t.tree dir is.own);
    } in
    remove_directory t.cells t.tree c.args.cred dir name x c.args.now takes
    (c.in_ok-slot.ensures.step t then is) directory

pub returns-clause-plan : goal.returns-clause-plan
returns-clause-plan g c t told totals =
    let dir = c.args.dir in
    let name = c.args.name.now in
    let x : ℕ × ℕ = (c.in_ok-slot.slot, c.in_ok-slot.number) in
    let j = c.in_ok-object.object in
    let is : IsDirectory t.tree dir c.in_ok-inode.inode = c.in_ok-inode.ensures.directory t told in
    let then = c.searched.ensures.kept ∙ told in
    let found = c.in_ok-slot.ensures.step t then is in
    let entry = c.in_ok-slot.ensures.entry t then is in
    let object : IsInode t.tree x.1 j =
    c.in_ok-object.ensures.inode t dir x.0 name (c.doomed.ensures.kept ∙ then) entry in
    let file : is_directory_at (place t.tree x.1) ≡ false = sym (kind_at t.tree x.1 j object)
    ∙ sym c.if-is_directory.ensures in
    let takes : MayTake t.tree c.args.cred dir =
    record {
      searches = c.in_ok-inode.ensures.step t told;
      writes = sym (c.in_ok-allowed.ensures t.tree dir is.own);
    } in
    remove_planned t.cells t.tree c.args.cred dir name x c.args.now c.in_ok-inode.inode j _ takes
    found file
    (c.in_ok-take.ensures.plan t name totals
    (record {
      sound = t.sound;
      directory = is;
      entry = entry;
      object = object;
      bare = file_is_bare t.tree x.1 file;
    }))
