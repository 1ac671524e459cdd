use Rattle.std.proofs.Common.{[], sym, ◌∙◌}
use Rattle.harp_types.specs.declared.attr.Kind.TheVariants as kind
use Rattle.nfs_calls.specs.NewEntries.{made_inode}
use Rattle.nfs_calls.specs.TreeCells.{IsDirectory}
use Rattle.nfs_calls.proofs.Makes.{IsComputed, is_open, make_dir_plan}
use Rattle.nfs_calls.proofs.updates.make.make_dir.Goals as goal

pub returns-clause-plan : goal.returns-clause-plan
returns-clause-plan g c t told totals =
    let a = c.args in
    let room = c.in_ok-room.room in
    let listed = c.searched.ensures.kept ∙ told in
    let is : IsDirectory t.tree a.dir c.in_ok-inode.inode =
    c.in_ok-inode.ensures.directory t told in
    let free = c.in_ok-slot.ensures.slot t listed is in
    let computed : IsComputed a.dir c.in_ok-inode.inode a.name.now [] room 1
    (made_inode a.cred a.attr.now kind.Directory 2 a.dir 0 a.now) a.now a.totals
    c.made-made.result c.in_ok-changes.changes.items = record {
      stored = c.in_ok-name_of.field-0;
      with = c.entered.result;
      inode = c.made-made.ensures;
      directory = c.entered.ensures;
      named = c.in_ok-name_of.ensures;
      are = c.in_ok-changes.ensures;
    } in
    make_dir_plan t a.totals a.cred a.dir c.in_ok-inode.inode a.name.now a.attr.now room a.now
    c.made-made.result c.attr_by.result c.in_ok-changes.changes.items totals
    (is_open t.tree a.totals a.dir c.in_ok-inode.inode a.name.now 0 room totals is
    (c.in_ok-room.ensures.room t.tree a.dir is free)
    (c.in_ok-room.ensures.step t.tree a.dir a.name.now totals is free)
    (λ s. c.in_ok-room.ensures.used t.tree a.dir s is free))
    (c.in_ok-inode.ensures.step t told) (sym (c.in_ok-may_make.ensures t.tree a.dir is.own))
    (c.in_ok-slot.ensures.step t listed is) computed c.attr_by.ensures
