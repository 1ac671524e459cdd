use Rattle.std.proofs.Common.{arith, rules, sym}
use Rattle.witness.proofs.Asked.{begins, goes_on, stops}
use Rattle.witness.specs.Serving.{record_size}
use Rattle.witness.proofs.serving.beginning.Goals as goal

pub loop-index-init : goal.loop-index-init
loop-index-init g c =
    let size = c.record_size-used.ensures in
    record {
      given = rw size.value (begins record_size
          (g.L.Holds.log c.args.log.now) c.args.first c.args.last c.args.item.now
          c.push.new.self.items c.requires.within.1 c.requires.first (search rules));
      bound = size.bound;
    }

pub returns-then-used-gt-MOST : goal.returns-then-used-gt-MOST
returns-then-used-gt-MOST g c =
    stops record_size (g.L.Holds.log c.args.log.now) c.loop-index.index c.args.last
    c.loop-index.used c.in-Some.item.now c.loop-index.given.items _
    c.loop-index.invariant.given (search rules) (sym c.in-Some.ensures.value)
    (omega (arith, c.record_size.ensures.value, c.if-used-gt-MOST.true))

pub loop-index-preserved : goal.loop-index-preserved
loop-index-preserved g c =
    let size = c.record_size.ensures.value in
    record {
      given = goes_on record_size (g.L.Holds.log c.args.log.now) c.loop-index.index c.args.last
          c.loop-index.used _ c.in-Some.item.now c.loop-index.given.items
          c.push-in-Some.new.self.items _ c.loop-index.invariant.given (search rules)
          (sym c.in-Some.ensures.value) (omega (arith, size))
          (omega (arith, c.if-used-gt-MOST.false)) (search rules);
      bound = omega (arith, c.if-used-gt-MOST.false);
    }
