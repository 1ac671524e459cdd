use Rattle.std.proofs.Common.{◌≡◌, ◌+◌, ◌-◌, suc, arith, refl, sym, ap, ◌∙◌}
use Rattle.file_tree.specs.Rename.{is_above}
use Rattle.inode_dirs.proofs.Below.{enough_levels}
use Rattle.inode_dirs.proofs.WayUp.{parents_then, above_here, above_next, above_ends, above_last}
use Rattle.inode_dirs.proofs.parents.is_below.Goals as goal

pub loop-init : goal.loop-init
loop-init g c = record {
  kept = refl;
  left = refl;
  count = omega arith;
  above = λ tree is d t. enough_levels 65536 tree c.args.top c.args.dir (omega arith) is d;
}

pub returns-then-at-top-clause-below : goal.returns-then-at-top-clause-below
returns-then-at-top-clause-below g c tree is d t =
    above_here (65536 - c.loop.counter) tree c.args.top c.loop.at c.if-at-top.true
    ∙ c.loop.invariant.above tree is d t

pub returns-then-parent-at-clause-below : goal.returns-then-parent-at-clause-below
returns-then-parent-at-clause-below g c tree is d t =
    let parent =
    c.in_ok-parent.ensures.parent tree (parents_then _ _ tree c.loop.invariant.kept t) in
    let own = sym parent ∙ c.if-parent-at.true in
    above_ends (65536 - c.loop.counter) tree c.args.top c.loop.at c.if-at-top.false own
    ∙ c.loop.invariant.above tree is d t

pub loop-preserved : goal.loop-preserved
loop-preserved g c = record {
  kept = c.parent_at.ensures.kept ∙ c.loop.invariant.kept;
  left = c.parent_at.ensures.left ∙ c.loop.invariant.left;
  count = omega (arith, c.parent_at.ensures.count, c.loop.invariant.count);
  above = λ tree is d t.
      let parent =
      c.in_ok-parent.ensures.parent tree (parents_then _ _ tree c.loop.invariant.kept t) in
      let left = 65536 - (c.loop.counter + 1) in
      let one_less : 65536 - c.loop.counter ≡ suc left = omega (arith, c.loop-test.true) in
      ap (is_above left tree c.args.top) parent
      ∙ above_next left (65536 - c.loop.counter) tree c.args.top c.loop.at c.if-at-top.false
      one_less
      ∙ c.loop.invariant.above tree is d t;
}

pub returns-clause-below : goal.returns-clause-below
returns-clause-below g c tree is d t =
    let none_left : 65536 - c.loop.counter ≡ 0 = omega (arith, c.loop-test.false) in
    above_last (65536 - c.loop.counter) tree c.args.top c.loop.at none_left
    ∙ c.loop.invariant.above tree is d t
