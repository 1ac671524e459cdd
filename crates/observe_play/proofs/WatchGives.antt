-- What an act makes of world and watch that leaves the world alone.
use Rattle.std.proofs.Common.{sym, subst, Option, Result, Ok, Err}
use Rattle.std.specs.Prelude.{IfOk}
use Rattle.group_trace.specs.DiskCalls.{Spellings, measures_of}
use Rattle.group_trace.specs.DiskRun.{DiskScene}
use Rattle.group_trace.specs.Scene.{Scene}
use Rattle.observe_play.proofs.WatchOn.{reached_updates}
use Rattle.observe_play.specs.OnTheWay.{Makes}
use Rattle.observe_play.specs.Watch.{Does, WatchValue}
use Rattle.observed_text.specs.declared.line.ObservedLine.{ObservedLine}
use Rattle.observed_text.specs.declared.step.Act.{Act}
use Rattle.record_changes.specs.Records.{AreUpdates}
use Rattle.schedule_play.specs.declared.refusal.Refusal.{Refusal}

-- what is done in each observed scene with updates is done in each one that is reached
pub does_so : (f : Spellings) (stands : DiskScene → Type 0) (x y : WatchValue) (a : Act)
    (given : Option ObservedLine) → Does x y a given → Makes f stands stands x y a given
does_so f stands x y a given does w o is reached here h = (
  does (measures_of f) o
      (subst (λ (v : Scene). AreUpdates v.group.committed) (sym is) (reached_updates f w reached))
      h,
  here,
)

pub does_all : (f : Spellings) (stands : DiskScene → Type 0) (x y : WatchValue) (a : Act)
    (r : Result (Option ObservedLine) Refusal) → IfOk r (Does x y a)
    → IfOk r (Makes f stands stands x y a)
does_all f stands x y a (Ok given) does = does_so f stands x y a given does
does_all f stands x y a (Err why) does = tt
