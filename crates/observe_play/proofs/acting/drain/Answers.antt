use Rattle.std.proofs.Common.{◌∙◌, ◌+◌, ◌-◌, subst, arith}
use Rattle.group_trace.specs.DiskCalls.{measures_of}
use Rattle.observe_play.specs.OnTheWay.{DrainTurn, with_drain}
use Rattle.observe_play.proofs.Drains.{drain-more, drain-spent}
use Rattle.observe_play.proofs.acting.drain.Goals as goal

pub loop-preserved : goal.loop-preserved
loop-preserved g c = record {
  come = λ all rest before h.
      let f = g.W.Stage.spellings in
      let less = c.args.count - (c.loop.counter + 1) in
      let more = with_drain (measures_of f) c.args.number less c.args.server rest in
      subst (DrainTurn f all more rest before (g.K.Sink.written c.drain_once.new.sink)
      (g.W.Stage.stands c.drain_once.new.world) c.drain_once.new.watch)
      c.in-Ok-None.field-0-is
      (c.in-Ok-None.ensures.ends less all rest before
      (drain-more f all c.args.number c.args.count c.loop.counter c.args.server rest before
      (g.K.Sink.written c.loop.sink) (g.W.Stage.stands c.loop.world) c.loop.watch (omega arith)
      (c.loop.invariant.come all rest before h)));
  clocks = c.in-Ok-None.ensures.clocks ∙ c.loop.invariant.clocks;
  count = omega (arith, c.loop.invariant.count, c.in-Ok-None.ensures.count);
}

pub returns-in-Ok-Some-clause-ends : goal.returns-in-Ok-Some-clause-ends
returns-in-Ok-Some-clause-ends g c = λ all rest before h.
    let f = g.W.Stage.spellings in
    let less = c.args.count - (c.loop.counter + 1) in
    let more = with_drain (measures_of f) c.args.number less c.args.server rest in
    subst (DrainTurn f all more rest before (g.K.Sink.written c.drain_once.new.sink)
    (g.W.Stage.stands c.drain_once.new.world) c.drain_once.new.watch)
    c.in-Ok-Some.field-0-is
    (c.in-Ok-Some.ensures.ends less all rest before
    (drain-more f all c.args.number c.args.count c.loop.counter c.args.server rest before
    (g.K.Sink.written c.loop.sink) (g.W.Stage.stands c.loop.world) c.loop.watch (omega arith)
    (c.loop.invariant.come all rest before h)))

pub returns-in-Err-clause-ends : goal.returns-in-Err-clause-ends
returns-in-Err-clause-ends g c = λ all rest before h.
    let f = g.W.Stage.spellings in
    let less = c.args.count - (c.loop.counter + 1) in
    c.in-Err.ensures.ends less all rest before
    (drain-more f all c.args.number c.args.count c.loop.counter c.args.server rest before
    (g.K.Sink.written c.loop.sink) (g.W.Stage.stands c.loop.world) c.loop.watch (omega arith)
    (c.loop.invariant.come all rest before h))

pub returns-clause-ends : goal.returns-clause-ends
returns-clause-ends g c = λ all rest before h.
    drain-spent g.W.Stage.spellings all c.args.number c.args.count c.loop.counter c.args.server rest
    before (g.K.Sink.written c.loop.sink) (g.W.Stage.stands c.loop.world) c.loop.watch
    (omega arith) (c.loop.invariant.come all rest before h)
