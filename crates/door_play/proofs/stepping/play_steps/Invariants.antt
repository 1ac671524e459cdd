-- some steps were taken, and the rest is left
use Rattle.std.proofs.Common.{◌≡◌, ◌++◌, ℕ, List}
use Rattle.harp_types.specs.declared.reply.Reply.{Reply}
use Rattle.group_trace.specs.DiskCalls.{measures_of}
use Rattle.group_trace.specs.Scene.{Scene}
use Rattle.schedule_play.specs.Reading.{Reading}
use Rattle.door_play.specs.OnTheWay.{AreReadable, HasHeard, clocks_behind, taken_then}
use Rattle.door_play.proofs.stepping.play_steps.Given as goal

abbrev pub invariant-loop-step : goal.invariant-loop-step
invariant-loop-step g l = record {
  heard : (all : Reading) (rest : Scene → Reading) (before : List (ℕ × Reply))
      → HasHeard g.W.Stage.spellings all
      (taken_then (measures_of g.W.Stage.spellings) l.fn.steps.items rest)
      (before ++ l.fn.ear.heard.items) (g.W.Stage.stands l.fn.world)
      → HasHeard g.W.Stage.spellings all
      (taken_then (measures_of g.W.Stage.spellings) l.step-iterator.rest.items rest)
      (before ++ l.ear.heard.items) (g.W.Stage.stands l.world);
  readable : AreReadable (g.W.Stage.clocks l.world) l.step-iterator.rest.items;
  clocks : clocks_behind (g.W.Stage.clocks l.world) l.step-iterator.rest.items
      ≡ clocks_behind (g.W.Stage.clocks l.fn.world) l.fn.steps.items;
  left : l.fn.steps.items ≡ l.yielded ++ l.step-iterator.rest.items;
}
