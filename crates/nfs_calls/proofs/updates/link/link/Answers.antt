use Rattle.std.proofs.Common.{◌≡◌, false, sym, ◌∙◌}
use Rattle.harp_types.specs.declared.reply.Status.TheVariants.{Perm}
use Rattle.file_tree.specs.Tree.{is_directory}
use Rattle.nfs_calls.specs.TreeCells.{IsDirectory, IsInode, object_at}
use Rattle.nfs_calls.proofs.Inodes.{kind_is}
use Rattle.nfs_calls.proofs.Linkings.{IsComputed, IsLinking, link_of, link_plan}
use Rattle.nfs_calls.proofs.NewPlans.{passed}
use Rattle.nfs_calls.proofs.updates.link.link.Goals as goal

pub returns-clause-plan : goal.returns-clause-plan
returns-clause-plan g c t told totals =
    let a = c.args in
    let f = c.in_ok-target.target in
    let i = c.in_ok-inode.inode in
    let room = c.in_ok-room.room in
    let looked = c.live.ensures.kept ∙ told in
    let listed = c.searched.ensures.kept ∙ looked in
    let file : IsInode t.tree a.handle f = c.in_ok-target.ensures.inode t told in
    let is : IsDirectory t.tree a.dir i = c.in_ok-inode.ensures.directory t looked in
    let kind : is_directory (object_at t.tree a.handle).body ≡ false =
    sym (c.is_directory.ensures (object_at t.tree a.handle).body (kind_is t.tree a.handle f file))
    ∙ passed Perm _ c.in_ok-refuse.ensures in
    let free = c.in_ok-slot.ensures.slot t listed is in
    let linking : IsLinking t.tree a.handle a.dir f i a.name.now room = record {
      file = file;
      kind = kind;
      directory = is;
      opens = c.in_ok-room.ensures.room t.tree a.dir is free;
      used = rw totals at
          (c.in_ok-room.ensures.used t.tree a.dir (link_of a.name.now a.handle) is free);
    } in
    let computed : IsComputed a.dir a.handle f i a.name.now room a.now
    c.in_ok-changes.changes.items = record {
      stored = c.in_ok-name_of.field-0;
      with = c.entered.result;
      file = c.linked.result;
      directory = c.entered.ensures;
      linked_is = c.linked.ensures;
      named = c.in_ok-name_of.ensures;
      are = c.in_ok-changes.ensures;
    } in
    link_plan t a.totals a.cred a.handle a.dir f i a.name.now room a.now
    c.in_ok-changes.changes.items totals linking
    (c.in_ok-target.ensures.step t told) (c.in_ok-inode.ensures.step t looked)
    (c.in_ok-slot.ensures.step t listed is) (sym (c.in_ok-allowed.ensures t.tree a.dir is.own))
    (c.in_ok-room.ensures.step t.tree a.dir (link_of a.name.now a.handle) a.now totals is free)
    computed
