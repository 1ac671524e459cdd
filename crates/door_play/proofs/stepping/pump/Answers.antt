use Rattle.std.proofs.Common.{◌∙◌, ◌+◌, ◌-◌, ◌++◌, arith}
use Rattle.group_trace.specs.DiskCalls.{measures_of}
use Rattle.group_trace.specs.Pump.{most_deliveries}
use Rattle.schedule_play.specs.OnTheWay.{with_pump}
use Rattle.door_play.proofs.Pumps.{pump-ends, pump-on, pump-spent}
use Rattle.door_play.proofs.stepping.pump.Goals as goal

pub returns-in_default-clause-ends : goal.returns-in_default-clause-ends
returns-in_default-clause-ends g c = λ all rest before h.
    pump-ends g.W.Stage.spellings all (most_deliveries - c.loop.counter) c.args.among rest
    (before ++ c.loop.ear.heard.items) (g.W.Stage.stands c.loop.world) c.next.result
    (c.loop.invariant.heard all rest before h) c.next.ensures c.in_default.is

pub returns-in-Err-clause-ends : goal.returns-in-Err-clause-ends
returns-in-Err-clause-ends g c = λ all rest before h.
    let f = g.W.Stage.spellings in
    let less = with_pump (measures_of f) 0 (most_deliveries - (c.loop.counter + 1)) c.args.among
    rest in
    c.in-Err.ensures.ends all less before
    (pump-on f all c.loop.counter c.args.among rest (before ++ c.loop.ear.heard.items)
    (g.W.Stage.stands c.loop.world) c.next.result c.in-Some.packet
    (c.loop.invariant.heard all rest before h) (omega arith) c.next.ensures c.in-Some.is)

pub loop-preserved : goal.loop-preserved
loop-preserved g c = record {
  heard = λ all rest before h.
      let f = g.W.Stage.spellings in
      let less = with_pump (measures_of f) 0 (most_deliveries - (c.loop.counter + 1)) c.args.among
      rest in
      c.in-Ok.ensures.ends all less before
      (pump-on f all c.loop.counter c.args.among rest (before ++ c.loop.ear.heard.items)
      (g.W.Stage.stands c.loop.world) c.next.result c.in-Some.packet
      (c.loop.invariant.heard all rest before h) (omega arith) c.next.ensures c.in-Some.is);
  clocks = c.in-Ok.ensures.clocks ∙ c.loop.invariant.clocks;
}

pub returns-clause-ends : goal.returns-clause-ends
returns-clause-ends g c = λ all rest before h.
    pump-spent g.W.Stage.spellings all c.loop.counter c.args.among rest
    (before ++ c.loop.ear.heard.items) (g.W.Stage.stands c.loop.world)
    (c.loop.invariant.heard all rest before h) (omega arith)
