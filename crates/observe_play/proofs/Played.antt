-- A step of the schedule, as the world took it.
use Rattle.std.proofs.Common.{◌≡◌, ℕ, true, List, [], ◌∷◌, ◌++◌, sym, ap, ◌∙◌, subst, Option, Some}
use Rattle.std.proofs.Common.{None}
use Rattle.std.specs.Prelude.{IfSome, map}
use Rattle.trace_types.specs.declared.line.Line.TheVariants as line
use Rattle.trace_types.specs.declared.line.LineFault.{LineFault}
use Rattle.trace_types.specs.declared.step.Step.{Step}
use Rattle.trace_claims.specs.Trace.{Trace}
use Rattle.group_trace.specs.Refusals.{refusal}
use Rattle.group_trace.specs.Run.{is_elementary, step_lines}
use Rattle.group_trace.specs.Scene.{Scene}
use Rattle.group_trace.specs.DiskCalls.{Spellings, measures_of}
use Rattle.group_trace.specs.DiskRun.{DiskScene}
use Rattle.schedule_play.specs.declared.refusal.Refusal.{Refusal}
use Rattle.schedule_play.specs.Stage.{IsReached, IsRefused, IsTaken, fault_of}
use Rattle.schedule_play.specs.Trace.{trace_text}
use Rattle.schedule_play.proofs.Steps.{Takes, step-told}
use Rattle.observed_text.specs.declared.line.ObservedLine.TheVariants as lines
use Rattle.observed_text.specs.declared.step.ObservedStep.TheVariants as observed
use Rattle.observe_laws.specs.Reading.{ObservedReading, observed_refused_at}
use Rattle.observe_laws.specs.Scene.{ObservedScene}
use Rattle.observe_laws.specs.Trace.{observed_trace_text}
use Rattle.observe_play.specs.OnTheWay.{HasObserved, with_played}
use Rattle.observe_play.specs.Watch.{StandsAt, WatchValue}
use Rattle.observe_play.proofs.Runs.{disks_after, next_there, one_played, reached_there}
use Rattle.observe_play.proofs.Runs.{scene_after, scene_there}
use Rattle.observe_play.proofs.Steps.{IsStep, step-refused}
use Rattle.observe_play.proofs.TraceTexts.{traced_text}
use Rattle.observe_play.proofs.WatchOn.{stands_played}

-- the step that the world took is one of the observed run
pub played-step : (f : Spellings) (all : ObservedReading) (rest : ObservedScene → ObservedReading)
    (before mid : Option (List ℕ)) (old new : DiskScene → Type 0) (x : WatchValue) (s : Step)
    (ls : Trace) → (h : HasObserved f all rest before mid old x) → is_elementary s ≡ true
    → Takes f old new s ls
    → IsStep f h.done (observed.Played s) (map lines.Traced (line.Event s ∷ ls)) new x
played-step f all rest before mid old new x s ls h e takes = record {
  free = free;
  plain = e;
  lines_are = ap (map lines.Traced)
      (t.lines_are ∙ ap (λ (w : Scene). step_lines (measures_of f) w s) (scene_there f h.done));
  left = subst new (one_played f h.done s) t.left;
  watch = subst (λ (o : ObservedScene). StandsAt o x)
      (next_there (measures_of f) h.done (observed.Played s))
      (stands_played (measures_of f) h.done s x h.taken free e h.watch);
}
  where
    t : IsTaken f (disks_after f h.done) s ls new
    t = takes (disks_after f h.done) (reached_there f h.done h.taken) h.left

    free : refusal (measures_of f) (scene_after f h.done).scene s ≡ None
    free = sym (ap (λ (w : Scene). refusal (measures_of f) w s) (scene_there f h.done))
        ∙ t.not_refused

-- its text, begun with its event line
pub played-told : (s : Step) (ls : Trace) (begun : List ℕ)
    → begun ≡ trace_text (line.Event s ∷ [])
    → begun ++ trace_text ls
    ≡ observed_trace_text (map lines.Traced (line.Event s ∷ ls))
played-told s ls begun is = step-told s ls begun is ∙ sym (traced_text (line.Event s ∷ ls))

-- a step that the world refused is refused in the observed run
pub played-refused : (f : Spellings) (all : ObservedReading) (number : ℕ)
    (rest : ObservedScene → ObservedReading) (before mid : Option (List ℕ))
    (old : DiskScene → Type 0) (x : WatchValue) (s : Step) (why : Refusal) (fault : LineFault)
    → HasObserved f all (with_played (measures_of f) number s rest) before mid old x
    → ((w : DiskScene) → IsReached f w → old w → IsRefused f w s why)
    → fault_of why ≡ Some fault
    → HasObserved f all (λ w. observed_refused_at number fault) before mid old x
played-refused f all number rest before mid old x s why fault h refused is =
    let m = measures_of f in
    let w = disks_after f h.done in
    let there : refusal m w.scene s ≡ Some fault =
    subst (λ (o : Option LineFault). IfSome o (λ y. refusal m w.scene s ≡ Some y)) is
    (refused w (reached_there f h.done h.taken) h.left) in
    step-refused f all number (observed.Played s) rest before mid old x fault h
    (sym (ap (λ (v : Scene). refusal m v s) (scene_there f h.done)) ∙ there)
