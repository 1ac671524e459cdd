use Rattle.std.proofs.Common.{◌≡◌, get_or, arith, Some, sym, ap, ◌∙◌}
use Rattle.file_tree.specs.Tree.{blocks_at, blocks_of, size_of}
use Rattle.file_tree.proofs.Kept.{IsWithinLimits-same, SameBlocks-set}
use Rattle.plain_tree.proofs.changes.set_slot.Goals as goal
use Rattle.plain_tree.proofs.changes.set_slot.Goals.{After-set_in}

same_blocks : (c : After-set_in) → blocks_at
    (get_or c.args.tree.now.items c.args.dir c.index_mut.result.now)
    ≡ blocks_of (size_of c.set_in.new.body)
same_blocks c = ap blocks_at (sym c.index_mut.ensures.value ∙ c.in-Some.is)
    ∙ ap blocks_of (sym c.set_in.ensures.size)

pub returns-in-Some-clause-kept : goal.returns-in-Some-clause-kept
returns-in-Some-clause-kept c =
    IsWithinLimits-same c.args.tree.now.items c.args.dir c.index_mut.result.now
    (Some (record {
      mode = c.in-Some.object.mode;
      uid = c.in-Some.object.uid;
      gid = c.in-Some.object.gid;
      atime = c.in-Some.object.atime;
      mtime = c.args.now;
      ctime = c.args.now;
      body = c.set_in.new.body;
    })) c.requires.tree
    (omega (arith, c.args.tree.now.ok.0))
    (same_blocks (goal.at.returns-in-Some-clause-kept c).After-set_in)

pub returns-in-Some-clause-same : goal.returns-in-Some-clause-same
returns-in-Some-clause-same c =
    SameBlocks-set c.args.tree.now.items c.args.dir c.index_mut.result.now
    (Some (record {
      mode = c.in-Some.object.mode;
      uid = c.in-Some.object.uid;
      gid = c.in-Some.object.gid;
      atime = c.in-Some.object.atime;
      mtime = c.args.now;
      ctime = c.args.now;
      body = c.set_in.new.body;
    })) (omega (arith, c.args.tree.now.ok.0))
    (same_blocks (goal.at.returns-in-Some-clause-same c).After-set_in)
