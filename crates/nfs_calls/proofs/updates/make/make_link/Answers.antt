use Rattle.std.proofs.Common.{length, sym, ◌∙◌}
use Rattle.harp_types.specs.declared.attr.Kind.TheVariants as kind
use Rattle.harp_types.specs.declared.reply.Status.TheVariants.{NameTooLong, Exist}
use Rattle.nfs_calls.specs.NewEntries.{made_inode}
use Rattle.nfs_calls.specs.TreeCells.{IsDirectory}
use Rattle.nfs_calls.proofs.Makes.{IsComputed, is_open}
use Rattle.nfs_calls.proofs.NewPlans.{make_link_plan, passed}
use Rattle.nfs_calls.proofs.updates.make.make_link.Goals as goal

pub returns-clause-plan : goal.returns-clause-plan
returns-clause-plan g c t told totals =
    let a = c.args in
    let i = c.in_ok-inode.inode in
    let room = c.in_ok-room.room in
    let listed = c.searched.ensures.kept ∙ told in
    let is : IsDirectory t.tree a.dir i = c.in_ok-inode.ensures.directory t told in
    let free = c.in_ok-slot.ensures.slot t listed is in
    let computed : IsComputed a.dir i a.name.now a.text.now room 0
    (made_inode a.cred a.attr.now kind.Link 1 0
    (length a.text.now) a.now) a.now a.totals c.made-made.result c.in_ok-changes.changes.items =
    record {
      stored = c.in_ok-name_of.field-0;
      with = c.entered.result;
      inode = c.made-made.ensures;
      directory = c.entered.ensures;
      named = c.in_ok-name_of.ensures;
      are = c.in_ok-changes.ensures;
    } in
    make_link_plan t a.totals a.cred a.dir i a.name.now a.text.now a.attr.now room a.now
    c.made-made.result c.in_ok-changes.changes.items totals
    (is_open t.tree a.totals a.dir i a.name.now (length a.text.now) room totals is
    (c.in_ok-room.ensures.room t.tree a.dir is free)
    (c.in_ok-room.ensures.step t.tree a.dir a.name.now totals is free)
    (λ s. c.in_ok-room.ensures.used t.tree a.dir s is free))
    (sym c.in_ok-entry_name.ensures.step) (passed NameTooLong _ c.in_ok-refuse.ensures)
    (passed Exist _ (sym (c.in_ok-slot.ensures.step t listed is)))
    (c.in_ok-inode.ensures.step t told)
    (sym (c.in_ok-may_make.ensures t.tree a.dir is.own)) computed
