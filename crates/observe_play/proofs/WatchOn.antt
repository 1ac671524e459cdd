-- The watch stands on, as the group's book grows.
use Rattle.std.proofs.Common.{◌≡◌, Bool, true, false, None, List, [], ◌∷◌, ◌++◌, refl, sym, ap}
use Rattle.std.proofs.Common.{subst, ◌∙◌, if◌then◌else◌}
use Rattle.std.specs.List.{AllByRecursion}
use Rattle.std.proofs.lemmas.List.Elements.{filter-append}
use Rattle.file_tree.specs.Book.{Entry, updates}
use Rattle.group_trace.specs.DiskCalls.{Spellings, measures_of}
use Rattle.group_trace.specs.DiskRun.{DiskScene}
use Rattle.group_rules.specs.State.{Group}
use Rattle.group_safety.specs.Laws.{Whole}
use Rattle.group_trace.specs.Refusals.{refusal}
use Rattle.group_trace.specs.Run.{AreTaken, is_elementary, next, run, run_lines}
use Rattle.group_trace.specs.Scene.{Measures, Scene, first_scene}
use Rattle.harp_types.specs.Update.{is_update}
use Rattle.observe_laws.proofs.Traced.{scene_played, taken_played}
use Rattle.observe_play.specs.Watch.{IsTrueTo, StandsAt, WatchValue}
use Rattle.observe_laws.specs.Run.{AreObserved, observed_next, observed_run, played_steps}
use Rattle.observe_laws.specs.Scene.{ObservedScene, first_observed}
use Rattle.observed_text.specs.declared.step.ObservedStep.{ObservedStep}
use Rattle.observed_text.specs.declared.step.ObservedStep.TheVariants as observed
use Rattle.observer.proofs.Growth.{books_go_on, shown_stays_true}
use Rattle.record_changes.specs.Records.{AreUpdates, history_of}
use Rattle.schedule_play.proofs.Runs.{disk_scene, run-append, run_lines-append}
use Rattle.schedule_play.proofs.TakenLaws.{taken-more}
use Rattle.schedule_play.specs.Stage.{IsReached}
use Rattle.shown.specs.declared.shown.Shown.{Shown}
use Rattle.shown.specs.Truth.{IsShownOf}
use Rattle.trace_claims.proofs.Places.{entries-append}
use Rattle.trace_claims.specs.Trace.{Trace, entries}
use Rattle.trace_laws.proofs.RightRuns.{run_right}
use Rattle.trace_laws.proofs.RunLaws.{can_follow}
use Rattle.trace_types.specs.declared.step.Step.{Step}

-- ---- with more updates

truly_longer : (es more : List Entry) (xs : List Shown)
    → AllByRecursion (IsShownOf (history_of es)) xs
    → AllByRecursion (IsShownOf (history_of (es ++ more))) xs
truly_longer es more [] h = tt
truly_longer es more (x ∷ xs) h = (shown_stays_true es more x h.0, truly_longer es more xs h.1)

true_longer : (es more : List Entry) (x : WatchValue) → IsTrueTo (history_of es) x
    → IsTrueTo (history_of (es ++ more)) x
true_longer es more x h = record {
  sound = books_go_on es more x.observer h.sound;
  truly = truly_longer es more x.shown h.truly;
}

-- ---- the updates of a run

-- those that a step enters
abbrev entered_by : Measures → List Step → Step → List Entry
entered_by m done s = updates (entries (run_lines m (run m first_scene done) (s ∷ [])))

updates-append : (xs ys : Trace)
    → updates (entries (xs ++ ys)) ≡ updates (entries xs) ++ updates (entries ys)
updates-append xs ys =
    ap updates (entries-append xs ys)
    ∙ filter-append (λ (e : Entry). is_update e.call) (entries xs) (entries ys)

updates_are : (m : Measures) (done : List Step) → AreTaken m first_scene done
    → updates (entries (run_lines m first_scene done)) ≡ (run m first_scene done).group.committed
updates_are m done t =
    let right = run_right m done (can_follow m first_scene done t) in
    ap updates right.book ∙ right.whole.books.updates

-- a step adds to them at their end
committed_more : (m : Measures) (done : List Step) (s : Step) → AreTaken m first_scene done
    → refusal m (run m first_scene done) s ≡ None → is_elementary s ≡ true
    → (run m first_scene (done ++ s ∷ [])).group.committed
    ≡ (run m first_scene done).group.committed ++ entered_by m done s
committed_more m done s t r e =
    sym (updates_are m (done ++ s ∷ []) (taken-more m first_scene done s t r e))
    ∙ ap (λ (ls : Trace). updates (entries ls)) (run_lines-append m first_scene done (s ∷ []))
    ∙ updates-append (run_lines m first_scene done)
    (run_lines m (run m first_scene done) (s ∷ []))
    ∙ ap (λ (es : List Entry). es ++ entered_by m done s) (updates_are m done t)

next_is : (m : Measures) (done : List Step) (s : Step)
    → run m first_scene (done ++ s ∷ []) ≡ next m (run m first_scene done) s
unfolding run
next_is m done s = run-append m first_scene done (s ∷ [])

all_updates : (es : List Entry) → AreUpdates (updates es)
all_updates [] = tt
all_updates (e ∷ es) = by (is_update e.call) refl (all_updates es)
  where
    by : (b : Bool) → is_update e.call ≡ b → AreUpdates (updates es)
        → AreUpdates (if b then e ∷ updates es else updates es)
    by true u h = (u, h)
    by false u h = h

-- the list of a whole group holds updates
are_updates : (g : Group Entry) → Whole g → AreUpdates g.committed
are_updates g w = subst AreUpdates w.books.updates (all_updates g.book)

-- ---- the watch stands on

-- THROUGH A STEP OF THE SCHEDULE that isn't refused, in a scene to which such steps led
pub stands_on : (m : Measures) (done : List Step) (s : Step) (o : ObservedScene) (x : WatchValue)
    → AreTaken m first_scene done → run m first_scene done ≡ o.scene
    → refusal m o.scene s ≡ None → is_elementary s ≡ true → StandsAt o x
    → StandsAt (observed_next m o (observed.Played s)) x
stands_on m done s o x t is r e h =
    let there = subst (λ (w : Scene). refusal m w s ≡ None) (sym is) r in
    let more = entered_by m done s in
    let grown : (next m o.scene s).group.committed ≡ o.scene.group.committed ++ more =
    ap (λ (w : Scene). (next m w s).group.committed) (sym is)
    ∙ ap (λ (w : Scene). w.group.committed) (sym (next_is m done s))
    ∙ committed_more m done s t there e
    ∙ ap (λ (w : Scene). w.group.committed ++ more) is in
    record {
      is_of = record { progress = h.is_of.progress; shown = h.is_of.shown };
      is_true = subst (λ (es : List Entry). IsTrueTo (history_of es) x) (sym grown)
          (true_longer o.scene.group.committed more x h.is_true);
    }

-- behind steps of both kinds
pub stands_played : (m : Measures) (done : List ObservedStep) (s : Step) (x : WatchValue)
    → AreObserved m first_observed done
    → refusal m (observed_run m first_observed done).scene s ≡ None → is_elementary s ≡ true
    → StandsAt (observed_run m first_observed done) x
    → StandsAt (observed_next m (observed_run m first_observed done) (observed.Played s)) x
stands_played m done s x t r e h =
    stands_on m (played_steps done) s (observed_run m first_observed done) x
    (taken_played m first_observed done t) (sym (scene_played m first_observed done)) r e h

-- the list of a scene that is reached holds updates
pub reached_updates : (f : Spellings) (w : DiskScene) → IsReached f w
    → AreUpdates w.scene.group.committed
reached_updates f w r =
    let m = measures_of f in
    subst (λ (v : Scene). AreUpdates v.group.committed)
    (sym (disk_scene f r.steps) ∙ ap (λ (v : DiskScene). v.scene) r.leads)
    (are_updates (run m first_scene r.steps).group (run_right m r.steps r.taken).whole)
