-- some deliveries were made, and those of a shorter pump are left
use Rattle.std.proofs.Common.{◌≡◌, ◌-◌, ◌++◌, ℕ, List}
use Rattle.harp_types.specs.declared.reply.Reply.{Reply}
use Rattle.group_trace.specs.DiskCalls.{measures_of}
use Rattle.group_trace.specs.Pump.{most_deliveries}
use Rattle.group_trace.specs.Scene.{Scene}
use Rattle.schedule_play.specs.OnTheWay.{with_pump}
use Rattle.schedule_play.specs.Reading.{Reading}
use Rattle.door_play.specs.OnTheWay.{HasHeard}
use Rattle.door_play.proofs.stepping.pump.Given as goal

abbrev pub invariant-loop : goal.invariant-loop
invariant-loop g l = record {
  heard : (all : Reading) (rest : Scene → Reading) (before : List (ℕ × Reply))
      → HasHeard g.W.Stage.spellings all
      (with_pump (measures_of g.W.Stage.spellings) 0 most_deliveries l.among rest)
      (before ++ l.fn.ear.heard.items) (g.W.Stage.stands l.fn.world)
      → HasHeard g.W.Stage.spellings all
      (with_pump (measures_of g.W.Stage.spellings) 0 (most_deliveries - l.counter) l.among rest)
      (before ++ l.ear.heard.items) (g.W.Stage.stands l.world);
  clocks : g.W.Stage.clocks l.world ≡ g.W.Stage.clocks l.fn.world;
}
