use Rattle.std.proofs.Common.{arith, Some, sym, ap, ◌∙◌}
use Rattle.file_tree.specs.Tree.{blocks_at}
use Rattle.file_tree.proofs.Kept.{IsWithinLimits-same}
use Rattle.plain_tree.proofs.changes.set_ctime.Goals as goal

pub returns-in-Some-clause-kept : goal.returns-in-Some-clause-kept
returns-in-Some-clause-kept c =
    IsWithinLimits-same c.args.tree.now.items c.args.number c.index_mut.result.now
    (Some (record {
      mode = c.in-Some.object.mode;
      uid = c.in-Some.object.uid;
      gid = c.in-Some.object.gid;
      atime = c.in-Some.object.atime;
      mtime = c.in-Some.object.mtime;
      ctime = c.args.now;
      body = c.in-Some.object.body;
    })) c.requires.tree
    (omega (arith, c.args.tree.now.ok.0))
    (ap blocks_at (sym c.index_mut.ensures.value ∙ c.in-Some.is))
