use Rattle.std.proofs.Common.{◌∙◌, ◌+◌, ◌-◌, ap, subst, Ok, arith}
use Rattle.group_trace.specs.DiskCalls.{measures_of}
use Rattle.group_trace.specs.Pump.{most_deliveries}
use Rattle.observe_play.specs.OnTheWay.{ObservedTurn, with_deliveries}
use Rattle.observe_play.proofs.NextSteps.{pump-ends, pump-on, pump-spent}
use Rattle.observe_play.proofs.stepping.pump.Goals as goal

pub returns-in_default-clause-ends : goal.returns-in_default-clause-ends
returns-in_default-clause-ends g c = λ x all rest before h.
    pump-ends g.W.Stage.spellings all c.args.number (most_deliveries - c.loop.counter)
    c.args.among rest before (g.K.Sink.written c.loop.sink) (g.W.Stage.stands c.loop.world) x
    c.next.result (c.loop.invariant.come x all rest before h) c.next.ensures c.in_default.is

pub returns-in-Ok-Ended-clause-ends : goal.returns-in-Ok-Ended-clause-ends
returns-in-Ok-Ended-clause-ends g c = λ x all rest before h.
    let f = g.W.Stage.spellings in
    let less = with_deliveries (measures_of f) c.args.number
    (most_deliveries - (c.loop.counter + 1)) c.args.among rest in
    let here = pump-on f all c.args.number c.loop.counter c.args.among rest before
    (g.K.Sink.written c.loop.sink) (g.W.Stage.stands c.loop.world) x _ c.in-Some.packet
    (c.loop.invariant.come x all rest before h) (omega arith) c.next.ensures c.in-Some.is in
    subst (ObservedTurn f all less before (g.K.Sink.written c.deliver.new.sink)
    (g.W.Stage.stands c.deliver.new.world) x)
    c.in-Ok-Ended.field-0-is (c.in-Ok-Ended.ensures.ends x all less before here)

pub returns-in-Ok-Refused-clause-ends : goal.returns-in-Ok-Refused-clause-ends
returns-in-Ok-Refused-clause-ends g c = λ x all rest before h.
    let f = g.W.Stage.spellings in
    let less = with_deliveries (measures_of f) c.args.number
    (most_deliveries - (c.loop.counter + 1)) c.args.among rest in
    let here = pump-on f all c.args.number c.loop.counter c.args.among rest before
    (g.K.Sink.written c.loop.sink) (g.W.Stage.stands c.loop.world) x _ c.in-Some.packet
    (c.loop.invariant.come x all rest before h) (omega arith) c.next.ensures c.in-Some.is in
    subst (ObservedTurn f all less before (g.K.Sink.written c.deliver.new.sink)
    (g.W.Stage.stands c.deliver.new.world) x)
    c.in-Ok-Refused.field-0-is (c.in-Ok-Refused.ensures.ends x all less before here)

pub returns-in-Err-clause-ends : goal.returns-in-Err-clause-ends
returns-in-Err-clause-ends g c = λ x all rest before h.
    let f = g.W.Stage.spellings in
    let less = with_deliveries (measures_of f) c.args.number
    (most_deliveries - (c.loop.counter + 1)) c.args.among rest in
    let here = pump-on f all c.args.number c.loop.counter c.args.among rest before
    (g.K.Sink.written c.loop.sink) (g.W.Stage.stands c.loop.world) x _ c.in-Some.packet
    (c.loop.invariant.come x all rest before h) (omega arith) c.next.ensures c.in-Some.is in
    c.in-Err.ensures.ends x all less before here

pub loop-preserved : goal.loop-preserved
loop-preserved g c = record {
  come = λ x all rest before h.
      let f = g.W.Stage.spellings in
      let less = with_deliveries (measures_of f) c.args.number
      (most_deliveries - (c.loop.counter + 1)) c.args.among rest in
      let here = pump-on f all c.args.number c.loop.counter c.args.among rest before
      (g.K.Sink.written c.loop.sink) (g.W.Stage.stands c.loop.world) x _ c.in-Some.packet
      (c.loop.invariant.come x all rest before h) (omega arith) c.next.ensures c.in-Some.is in
      subst (ObservedTurn f all less before (g.K.Sink.written c.deliver.new.sink)
      (g.W.Stage.stands c.deliver.new.world) x)
      c.in-Ok-GoesOn.field-0-is (c.in-Ok-GoesOn.ensures.ends x all less before here);
  clocks = c.in-Ok-GoesOn.ensures.clocks (ap Ok c.in-Ok-GoesOn.field-0-is)
      ∙ c.loop.invariant.clocks;
  count = omega (arith, c.loop.invariant.count, c.in-Ok-GoesOn.ensures.count);
}

pub returns-clause-ends : goal.returns-clause-ends
returns-clause-ends g c = λ x all rest before h.
    pump-spent g.W.Stage.spellings all c.args.number c.loop.counter c.args.among rest before
    (g.K.Sink.written c.loop.sink) (g.W.Stage.stands c.loop.world) x
    (c.loop.invariant.come x all rest before h) (omega arith)
