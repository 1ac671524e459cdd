use Rattle.std.proofs.Common.{Option, subst}
use Rattle.group_trace.specs.DiskCalls.{measures_of}
use Rattle.group_trace.specs.Refusals.{refusal}
use Rattle.schedule_play.specs.declared.refusal.Refusal.{Refusal}
use Rattle.world_rules.specs.Spellings.{spellings}
use Rattle.world.specs.Steps.{IsReason}
use Rattle.world.proofs.Steps.{taken_there}
use Rattle.world.proofs.world.WorldStage.step.Goals as goal

pub returns-in-Ok-clause-ok : goal.returns-in-Ok-clause-ok
returns-in-Ok-clause-ok c w reached world =
    let s = c.args.step in
    let none = subst (λ (why : Option Refusal).
    IsReason why (refusal (measures_of spellings) w.scene s)) c.in_default.is
    (c.refusal.ensures.reason w world) in
    taken_there c.args.self.now c.take.new.self s c.take.new.lines.items c.in-Ok.ensures.taken w
    reached world none
