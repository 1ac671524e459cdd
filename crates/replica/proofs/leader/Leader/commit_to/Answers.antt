use Rattle.std.proofs.Common.{◌+◌, ◌∙◌, ap, arith}
use Rattle.replica.specs.Leading.{Leading}
use Rattle.replica.proofs.Committing.{goes_on}
use Rattle.node_outputs.specs.Said.{said}
use Rattle.volatile_log.specs.Log.{top}
use Rattle.replica.proofs.leader.Leader.commit_to.Goals as goal

pub commit_next-requires-clause-more : goal.commit_next-requires-clause-more
commit_next-requires-clause-more c =
    let tops = ap (λ (l : Leading). top l.log) c.loop.invariant.all.state in
    omega (arith, tops, c.loop.invariant.cp, c.loop-test.true, c.requires.top)

pub commit_next-requires-clause-opened : goal.commit_next-requires-clause-opened
commit_next-requires-clause-opened c = ap (λ (l : Leading). l.opened) c.loop.invariant.all.state
    ∙ c.requires.opened

pub loop-preserved : goal.loop-preserved
loop-preserved c = record {
  all = goes_on c.args.top c.args.self.now c.loop.self c.commit_next.new.self
      (said c.args.outs.now) (said c.loop.outs)
      (said c.commit_next.new.outs)
      (omega (arith, c.loop.invariant.cp, c.loop-test.true)) c.loop.invariant.all
      c.in_ok-commit_next.ensures;
  within = omega (arith, c.loop-test.true);
  cp = ap (λ (l : Leading). l.log.cp) c.in_ok-commit_next.ensures.state
      ∙ ap (λ n. n + 1) c.loop.invariant.cp;
}
