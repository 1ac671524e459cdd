use Rattle.std.proofs.Common.{◌≡◌, ℕ, true, false, ◌∙◌, sym}
use Rattle.file_tree.specs.Tree.{place, slots_of, is_directory_at}
use Rattle.file_tree.specs.Outcome.{has_no_entry}
use Rattle.file_tree.proofs.SoundCalls.{empty_is_bare}
use Rattle.nfs_calls.specs.TreeCells.{IsInode, IsDirectory}
use Rattle.nfs_calls.proofs.Losses.{kind_at}
use Rattle.nfs_calls.proofs.TakenAway.{MayTake, remove_dir_planned, remove_dir_full, remove_dir_file}
use Rattle.nfs_calls.proofs.updates.remove.remove_dir.Goals as goal

pub returns-then-not-is_directory-clause-plan : goal.returns-then-not-is_directory-clause-plan
returns-then-not-is_directory-clause-plan g c t told totals =
    let dir = c.args.dir in
    let name = c.args.name.now in
    let x : ℕ × ℕ = (c.in_ok-slot.slot, c.in_ok-slot.number) in
    let is : IsDirectory t.tree dir c.in_ok-inode.inode = c.in_ok-inode.ensures.directory t told in
    let then = c.searched.ensures.kept ∙ told in
    let object : IsInode t.tree x.1 c.in_ok-object.object =
    c.in_ok-object.ensures.inode t dir x.0 name (c.doomed.ensures.kept ∙ then)
    (c.in_ok-slot.ensures.entry t then is) in
    let file : is_directory_at (place t.tree x.1) ≡ false =
    sym (kind_at t.tree x.1 c.in_ok-object.object object) ∙ sym c.if-not-is_directory.ensures in
    let takes : MayTake t.tree c.args.cred dir =
    record {
      searches = c.in_ok-inode.ensures.step t told;
      writes = sym (c.in_ok-allowed.ensures t.tree dir is.own);
    } in
    remove_dir_file t.cells t.tree c.args.cred dir name x c.args.now takes
    (c.in_ok-slot.ensures.step t then is) file

pub returns-then-not-branch-clause-plan : goal.returns-then-not-branch-clause-plan
returns-then-not-branch-clause-plan g c t told totals =
    let dir = c.args.dir in
    let name = c.args.name.now in
    let x : ℕ × ℕ = (c.in_ok-slot.slot, c.in_ok-slot.number) in
    let j = c.in_ok-object.object in
    let is : IsDirectory t.tree dir c.in_ok-inode.inode = c.in_ok-inode.ensures.directory t told in
    let then = c.searched.ensures.kept ∙ told in
    let last = c.doomed.ensures.kept ∙ then in
    let object : IsInode t.tree x.1 j =
    c.in_ok-object.ensures.inode t dir x.0 name last (c.in_ok-slot.ensures.entry t then is) in
    let directory : is_directory_at (place t.tree x.1) ≡ true = sym (kind_at t.tree x.1 j object)
    ∙ sym c.if-not-is_directory.ensures in
    let full : has_no_entry (slots_of (place t.tree x.1)) ≡ false =
    sym (c.in_ok-is_empty.ensures.empty t (c.named.ensures.kept ∙ last) object)
    ∙ c.if-not-branch.true in
    let takes : MayTake t.tree c.args.cred dir =
    record {
      searches = c.in_ok-inode.ensures.step t told;
      writes = sym (c.in_ok-allowed.ensures t.tree dir is.own);
    } in
    remove_dir_full t.cells t.tree c.args.cred dir name x c.args.now c.in_ok-inode.inode takes
    (c.in_ok-slot.ensures.step t then is) directory full

pub returns-clause-plan : goal.returns-clause-plan
returns-clause-plan g c t told totals =
    let dir = c.args.dir in
    let name = c.args.name.now in
    let x : ℕ × ℕ = (c.in_ok-slot.slot, c.in_ok-slot.number) in
    let j = c.in_ok-object.object in
    let is : IsDirectory t.tree dir c.in_ok-inode.inode = c.in_ok-inode.ensures.directory t told in
    let then = c.searched.ensures.kept ∙ told in
    let last = c.doomed.ensures.kept ∙ then in
    let entry = c.in_ok-slot.ensures.entry t then is in
    let object : IsInode t.tree x.1 j = c.in_ok-object.ensures.inode t dir x.0 name last entry in
    let directory : is_directory_at (place t.tree x.1) ≡ true = sym (kind_at t.tree x.1 j object)
    ∙ sym c.if-not-is_directory.ensures in
    let empty : has_no_entry (slots_of (place t.tree x.1)) ≡ true =
    sym (c.in_ok-is_empty.ensures.empty t (c.named.ensures.kept ∙ last) object)
    ∙ c.if-not-branch.false in
    let takes : MayTake t.tree c.args.cred dir =
    record {
      searches = c.in_ok-inode.ensures.step t told;
      writes = sym (c.in_ok-allowed.ensures t.tree dir is.own);
    } in
    remove_dir_planned t.cells t.tree c.args.cred dir name x c.args.now c.in_ok-inode.inode j _
    takes (c.in_ok-slot.ensures.step t then is) directory empty
    (c.in_ok-take.ensures.plan t name totals
    (record {
      sound = t.sound;
      directory = is;
      entry = entry;
      object = object;
      bare = empty_is_bare t.tree x.1 empty;
    }))
