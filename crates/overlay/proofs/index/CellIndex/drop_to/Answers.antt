use Rattle.std.proofs.Common.{◌≡◌, ℕ, ◌-◌, subst, arith}
use Rattle.overlay.proofs.Dropping.{AreOut, all_out, none_out, one_more_out}
use Rattle.overlay.proofs.Indexing.{dropped_follows}
use Rattle.overlay.proofs.index.CellIndex.drop_to.Goals as goal

pub loop-at-init : goal.loop-at-init
loop-at-init g c =
    let base = g.L.ChangeLog.base c.args.log.now in
    let first = c.first-at.ensures in
    let before : base ≡ c.first-at.result - 1 = omega (arith, first) in
    record {
      low = omega (arith, first);
      high = λ lt. omega (arith, first, lt);
      out = λ is. subst (λ (at : ℕ). AreOut c.args.self.now at c.args.self.now) before
          (none_out c.args.self.now base (g.L.ChangeLog.records c.args.log.now) is);
    }

pub loop-at-preserved : goal.loop-at-preserved
loop-at-preserved g c =
    let low = c.loop-at.invariant.low in
    let more = c.loop-at-test.true in
    record {
      low = omega (arith, low);
      high = λ lt. omega (arith, more);
      out = λ is. one_more_out c.args.self.now c.loop-at.self c.take_back.new.self (g.L.ChangeLog.base c.args.log.now)
          c.loop-at.at (g.L.ChangeLog.records c.args.log.now) c.changes.result.now is low c.changes.ensures
          c.take_back.ensures (c.loop-at.invariant.out is);
    }

pub returns-clause-dropped : goal.returns-clause-dropped
returns-clause-dropped g c is =
    all_out c.args.self.now c.loop-at.self (g.L.ChangeLog.base c.args.log.now) c.loop-at.at c.min-to.result
    c.args.n c.last.result (g.L.ChangeLog.records c.args.log.now) is c.last.ensures c.min-to.ensures
    c.loop-at.invariant.high c.loop-at-test.false (c.loop-at.invariant.out is)

pub returns-clause-follows : goal.returns-clause-follows
returns-clause-follows g c is le =
    dropped_follows c.args.self.now c.loop-at.self (g.L.ChangeLog.base c.args.log.now) c.args.n
    (g.L.ChangeLog.records c.args.log.now)
    (all_out c.args.self.now c.loop-at.self (g.L.ChangeLog.base c.args.log.now) c.loop-at.at c.min-to.result
    c.args.n c.last.result (g.L.ChangeLog.records c.args.log.now) is c.last.ensures c.min-to.ensures
    c.loop-at.invariant.high c.loop-at-test.false (c.loop-at.invariant.out is)) is le
