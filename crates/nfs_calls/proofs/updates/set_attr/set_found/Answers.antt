use Rattle.std.proofs.Common.{refl}
use Rattle.nfs_calls.proofs.FilePlans.{IsGiven, is_set, put_behind}
use Rattle.nfs_calls.proofs.updates.set_attr.set_found.Goals as goal

pub returns-clause-set : goal.returns-clause-set
returns-clause-set g c t told totals own =
    let a = c.args in
    let i = a.inode.now in
    let used = c.in_ok-used.used in
    let is : IsGiven t.tree a.handle i a.attr.now a.totals used = record {
      own = own;
      totals_are = totals;
      file = c.in_ok-used.ensures.file;
      room = c.in_ok-used.ensures.used;
    } in
    is_set t.cells t.tree a.handle i a.attr.now a.now a.totals used _ is c.set_inode-new.ensures
    (put_behind _ _ _ _ (c.in_ok-changes.ensures.changes t.cells told) c.in_ok-put_object.ensures)
    refl
