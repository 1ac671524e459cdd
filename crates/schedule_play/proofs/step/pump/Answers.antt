use Rattle.std.proofs.Common.{◌≡◌, ◌∙◌, ◌+◌, ◌-◌, ◌<◌, ℕ, List, Option, Some, sym, ap, subst, Ok, arith}
use Rattle.harp_types.specs.declared.server.ServerId.{ServerId}
use Rattle.trace_types.specs.declared.step.Step.TheVariants as step
use Rattle.group_trace.specs.DiskCalls.{Spellings, measures_of}
use Rattle.group_trace.specs.DiskRun.{DiskScene, disk_run, first_disk_scene}
use Rattle.group_trace.specs.Pump.{due, most_deliveries}
use Rattle.group_trace.specs.Run.{run}
use Rattle.group_trace.specs.Scene.{Scene, first_scene}
use Rattle.schedule_play.specs.OnTheWay.{HasCome, TurnGives, with_pump}
use Rattle.schedule_play.specs.Reading.{Reading, with_step}
use Rattle.schedule_play.specs.Stage.{IsReached}
use Rattle.schedule_play.proofs.NextSteps.{pump-ends, pump-on, pump-spent}
use Rattle.schedule_play.proofs.Runs.{disk_scene, reached}
use Rattle.schedule_play.proofs.step.pump.Goals as goal

-- the packet that the world tells is due where the play has come to
told-due : (f : Spellings) (among : Option (ServerId × ServerId)) (told : Option ℕ)
    (stands : DiskScene → Type 0) (all : Reading) (rest : Scene → Reading)
    (before mid : Option (List ℕ)) → (h : HasCome f all rest before mid stands)
    → ((w : DiskScene) → IsReached f w → stands w → told ≡ due among w.scene)
    → due among (run (measures_of f) first_scene h.done) ≡ told
told-due f among told stands all rest before mid h tells =
    sym (ap (due among) (disk_scene f h.done))
    ∙ sym (tells (disk_run f first_disk_scene h.done) (reached f h.done h.taken) h.left)

-- one delivery is still to be made, and then those of a shorter pump
one-on : (f : Spellings) (all : Reading) (number made : ℕ) (among : Option (ServerId × ServerId))
    (rest : Scene → Reading) (before mid : Option (List ℕ)) (stands : DiskScene → Type 0)
    (told : Option ℕ) (n : ℕ)
    → HasCome f all (with_pump (measures_of f) number (most_deliveries - made) among rest) before
    mid stands
    → made < 1099511627776
    → ((w : DiskScene) → IsReached f w → stands w → told ≡ due among w.scene) → told ≡ Some n
    → HasCome f all
    (with_step (measures_of f) number (step.Deliver n)
    (with_pump (measures_of f) number (most_deliveries - (made + 1)) among rest)) before mid stands
one-on f all number made among rest before mid stands told n h few tells is =
    pump-on f all number made among rest before mid stands n h few
    (told-due f among told stands all _ before mid h tells ∙ is)

pub returns-in_default-clause-ends : goal.returns-in_default-clause-ends
returns-in_default-clause-ends g c = λ all rest before h.
    let f = g.W.Stage.spellings in
    let come = c.loop.invariant.come all rest before h in
    let more = with_pump (measures_of f) c.args.number (most_deliveries - c.loop.counter)
    c.args.among rest in
    pump-ends f all c.args.number (most_deliveries - c.loop.counter) c.args.among rest before
    (g.K.Sink.written c.loop.sink) (g.W.Stage.stands c.loop.world) come
    (told-due f c.args.among c.next.result (g.W.Stage.stands c.loop.world) all more before
    (g.K.Sink.written c.loop.sink) come c.next.ensures ∙ c.in_default.is)

pub returns-in-Ok-Ended-clause-ends : goal.returns-in-Ok-Ended-clause-ends
returns-in-Ok-Ended-clause-ends g c = λ all rest before h.
    let f = g.W.Stage.spellings in
    let less = with_pump (measures_of f) c.args.number (most_deliveries - (c.loop.counter + 1))
    c.args.among rest in
    let here = one-on f all c.args.number c.loop.counter c.args.among rest before
    (g.K.Sink.written c.loop.sink) (g.W.Stage.stands c.loop.world) _ c.in-Some.packet
    (c.loop.invariant.come all rest before h) (omega arith) c.next.ensures c.in-Some.is in
    subst (TurnGives f all less before (g.K.Sink.written c.deliver.new.sink)
    (g.W.Stage.stands c.deliver.new.world))
    c.in-Ok-Ended.field-0-is (c.in-Ok-Ended.ensures.ends all less before here)

pub returns-in-Ok-Refused-clause-ends : goal.returns-in-Ok-Refused-clause-ends
returns-in-Ok-Refused-clause-ends g c = λ all rest before h.
    let f = g.W.Stage.spellings in
    let less = with_pump (measures_of f) c.args.number (most_deliveries - (c.loop.counter + 1))
    c.args.among rest in
    let here = one-on f all c.args.number c.loop.counter c.args.among rest before
    (g.K.Sink.written c.loop.sink) (g.W.Stage.stands c.loop.world) _ c.in-Some.packet
    (c.loop.invariant.come all rest before h) (omega arith) c.next.ensures c.in-Some.is in
    subst (TurnGives f all less before (g.K.Sink.written c.deliver.new.sink)
    (g.W.Stage.stands c.deliver.new.world))
    c.in-Ok-Refused.field-0-is (c.in-Ok-Refused.ensures.ends all less before here)

pub returns-in-Err-clause-ends : goal.returns-in-Err-clause-ends
returns-in-Err-clause-ends g c = λ all rest before h.
    let f = g.W.Stage.spellings in
    let less = with_pump (measures_of f) c.args.number (most_deliveries - (c.loop.counter + 1))
    c.args.among rest in
    let here = one-on f all c.args.number c.loop.counter c.args.among rest before
    (g.K.Sink.written c.loop.sink) (g.W.Stage.stands c.loop.world) _ c.in-Some.packet
    (c.loop.invariant.come all rest before h) (omega arith) c.next.ensures c.in-Some.is in
    c.in-Err.ensures.ends all less before here

pub loop-preserved : goal.loop-preserved
loop-preserved g c = record {
  come = λ all rest before h.
      let f = g.W.Stage.spellings in
      let less = with_pump (measures_of f) c.args.number (most_deliveries - (c.loop.counter + 1))
      c.args.among rest in
      let here = one-on f all c.args.number c.loop.counter c.args.among rest before
      (g.K.Sink.written c.loop.sink) (g.W.Stage.stands c.loop.world) _ c.in-Some.packet
      (c.loop.invariant.come all rest before h) (omega arith) c.next.ensures c.in-Some.is in
      subst (TurnGives f all less before (g.K.Sink.written c.deliver.new.sink)
      (g.W.Stage.stands c.deliver.new.world))
      c.in-Ok-GoesOn.field-0-is (c.in-Ok-GoesOn.ensures.ends all less before here);
  clocks = c.in-Ok-GoesOn.ensures.clocks (ap Ok c.in-Ok-GoesOn.field-0-is)
      ∙ c.loop.invariant.clocks;
  count = omega (arith, c.loop.invariant.count, c.in-Ok-GoesOn.ensures.count);
}

pub returns-clause-ends : goal.returns-clause-ends
returns-clause-ends g c = λ all rest before h.
    pump-spent g.W.Stage.spellings all c.args.number c.loop.counter c.args.among rest before
    (g.K.Sink.written c.loop.sink) (g.W.Stage.stands c.loop.world)
    (c.loop.invariant.come all rest before h) (omega arith)
