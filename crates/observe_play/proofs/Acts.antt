-- An act of the observer, as it was made.
use Rattle.std.proofs.Common.{◌≡◌, ℕ, true, List, ◌∷◌, sym, ap, subst, Option, Some}
use Rattle.std.specs.Prelude.{IfSome}
use Rattle.trace_types.specs.declared.line.LineFault.{LineFault}
use Rattle.group_trace.specs.DiskCalls.{Spellings, measures_of}
use Rattle.group_trace.specs.DiskRun.{DiskScene}
use Rattle.schedule_play.specs.declared.refusal.Refusal.{Refusal}
use Rattle.schedule_play.specs.Stage.{fault_of}
use Rattle.observed_text.specs.declared.line.ObservedLine.{ObservedLine}
use Rattle.observed_text.specs.declared.line.ObservedLine.TheVariants as lines
use Rattle.observed_text.specs.declared.step.Act.{Act}
use Rattle.observed_text.specs.declared.step.ObservedStep.TheVariants as observed
use Rattle.observe_laws.specs.Reading.{ObservedReading, observed_refused_at}
use Rattle.observe_laws.specs.Run.{act_refusal, is_act_elementary}
use Rattle.observe_laws.specs.Scene.{ObservedScene}
use Rattle.observe_laws.specs.Trace.{ObservedTrace}
use Rattle.observe_play.specs.OnTheWay.{HasObserved, Makes, RefusesAct, with_act}
use Rattle.observe_play.specs.Watch.{IsDone, StandsAt, WatchValue, as_lines}
use Rattle.observe_play.proofs.Runs.{disks_after, next_there, one_acted, reached_there, scene_after}
use Rattle.observe_play.proofs.Runs.{scene_there}
use Rattle.observe_play.proofs.Steps.{IsStep, step-refused}

-- the act that was made is a step of the observed run
pub acted-step : (f : Spellings) (all : ObservedReading) (rest : ObservedScene → ObservedReading)
    (before mid : Option (List ℕ)) (old new : DiskScene → Type 0) (x y : WatchValue) (a : Act)
    (given : Option ObservedLine) → (h : HasObserved f all rest before mid old x)
    → is_act_elementary a ≡ true → Makes f old new x y a given
    → IsStep f h.done (observed.Acted a) (lines.Event a ∷ as_lines given) new y
acted-step f all rest before mid old new x y a given h e makes = record {
  free = made.0.not_refused;
  plain = e;
  lines_are = ap (λ (ls : ObservedTrace). lines.Event a ∷ ls) made.0.line_is;
  left = subst new (one_acted f h.done a) made.1;
  watch = subst (λ (o : ObservedScene). StandsAt o y)
      (next_there (measures_of f) h.done (observed.Acted a)) made.0.watch;
}
  where
    made : IsDone (measures_of f) (scene_after f h.done) a given y × new (disks_after f h.done)
    made = makes (disks_after f h.done) (scene_after f h.done) (sym (scene_there f h.done))
        (reached_there f h.done h.taken) h.left h.watch

-- an act that was refused is refused in the observed run
pub acted-refused : (f : Spellings) (all : ObservedReading) (number : ℕ)
    (rest : ObservedScene → ObservedReading) (before mid : Option (List ℕ))
    (old : DiskScene → Type 0) (x : WatchValue) (a : Act) (why : Refusal) (fault : LineFault)
    → HasObserved f all (with_act (measures_of f) number a rest) before mid old x
    → RefusesAct old x a why → fault_of why ≡ Some fault
    → HasObserved f all (λ w. observed_refused_at number fault) before mid old x
acted-refused f all number rest before mid old x a why fault h refused is =
    let o = scene_after f h.done in
    let there : act_refusal o a ≡ Some fault =
    subst (λ (r : Option LineFault). IfSome r (λ y. act_refusal o a ≡ Some y)) is
    (refused (disks_after f h.done) o (sym (scene_there f h.done)) h.left h.watch) in
    step-refused f all number (observed.Acted a) rest before mid old x fault h there
