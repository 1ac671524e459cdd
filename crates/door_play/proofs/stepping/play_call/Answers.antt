use Rattle.std.proofs.Common.{◌∷◌, ◌++◌, None, refl, subst, sym}
use Rattle.harp_types.specs.declared.server.ServerId.TheVariants.{Zero}
use Rattle.trace_types.specs.declared.step.Step.TheVariants as step
use Rattle.group_trace.specs.DiskCalls.{measures_of}
use Rattle.schedule_play.specs.Stage.{AreReadings}
use Rattle.door_play.specs.OnTheWay.{taken_then}
use Rattle.door_play.proofs.Pumps.{alone-read, first-read}
use Rattle.door_play.proofs.stepping.play_call.Goals as goal

pub pump-requires : goal.pump-requires
pump-requires g c = subst AreReadings (sym c.in-Ok.ensures.clocks) c.requires

pub returns-in-Err-clause-ends : goal.returns-in-Err-clause-ends
returns-in-Err-clause-ends g c = λ all others rest before h.
    let f = g.W.Stage.spellings in
    let pumped = step.Pump None ∷ others in
    c.in-Err.ensures.ends all (taken_then (measures_of f) pumped rest) before
    (alone-read f all (step.Ask Zero 0 c.args.number c.args.cred c.args.call) pumped rest
    (before ++ c.args.ear.now.heard.items) (g.W.Stage.stands c.args.world.now) refl h)

pub returns-clause-ends : goal.returns-clause-ends
returns-clause-ends g c = λ all others rest before h.
    let f = g.W.Stage.spellings in
    let m = measures_of f in
    let pumped = step.Pump None ∷ others in
    let asked = c.in-Ok.ensures.ends all (taken_then m pumped rest) before
    (alone-read f all (step.Ask Zero 0 c.args.number c.args.cred c.args.call) pumped rest
    (before ++ c.args.ear.now.heard.items) (g.W.Stage.stands c.args.world.now) refl h) in
    c.pump.ensures.ends all (taken_then m others rest) before
    (first-read f all (step.Pump None) others rest (before ++ c.take.new.ear.heard.items)
    (g.W.Stage.stands c.take.new.world) asked)
