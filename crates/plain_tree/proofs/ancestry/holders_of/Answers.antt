use Rattle.std.proofs.Common.{get_or, arith, ◌∙◌}
use Rattle.file_tree.specs.Tree.{holder_from}
use Rattle.plain_tree.proofs.HolderTable.{held_more, held_all}
use Rattle.plain_tree.proofs.ancestry.holders_of.Goals as goal

pub loop-i-preserved : goal.loop-i-preserved
loop-i-preserved c = record {
  size = c.note.ensures.size ∙ c.loop-i.invariant.size;
  held = λ n lt.
      let noted = c.note.ensures.noted n (omega (arith, lt, c.loop-i.invariant.size)) in
      held_more c.args.tree.now c.loop-i.i n (get_or c.loop-i.holders.items n 0)
      (get_or c.note.new.holders.items n 0)
      (holder_from 0 c.args.tree.now n 0) c.index-tree-i.result
      c.loop-i-test.true c.index-tree-i.is (rw c.slots_of.ensures at noted)
      (c.loop-i.invariant.held n lt);
}

pub returns : goal.returns
returns c = record {
  size = c.loop-i.invariant.size;
  at = λ n lt.
      held_all c.args.tree.now c.loop-i.i n (get_or c.loop-i.holders.items n 0)
      (holder_from 0 c.args.tree.now n 0) c.loop-i-test.false (c.loop-i.invariant.held n lt);
}
