-- An observed run without what tells of the observer is the run of the schedule's steps.
use Rattle.std.proofs.Common.{◌≡◌, ℕ, Bool, true, false, List, [], ◌∷◌, ◌++◌, length, refl, sym, ap, subst, ◌∙◌, append_assoc, Option, Some, None, if◌then◌else◌}
use Rattle.std.specs.Prelude.{map, slice_get}
use Rattle.std.proofs.lemmas.Grind.{flat_map-append}
use Rattle.harp_types.specs.declared.call.Call.{Call}
use Rattle.harp_types.specs.declared.server.ServerId.{ServerId}
use Rattle.file_tree.specs.Book.{Entry}
use Rattle.trace_claims.specs.Trace.{Trace}
use Rattle.group_trace.specs.Run.{AreTaken, run, run_lines, step_lines}
use Rattle.group_trace.specs.Scene.{Measures, Scene}
use Rattle.observed_text.specs.declared.step.Act.{Act}
use Rattle.observed_text.specs.declared.step.Act.TheVariants as act
use Rattle.observed_text.specs.declared.step.ObservedStep.{ObservedStep}
use Rattle.observed_text.specs.declared.step.ObservedStep.TheVariants as observed
use Rattle.observed_text.specs.declared.line.ObservedLine.TheVariants as line
use Rattle.observe_laws.specs.Run.{AreObserved, acted, given_lines, is_same_top, observed_lines, observed_next, observed_run, observed_run_lines, peek_lines, played_steps, shown_in, top_line, want_lines, with_shown, with_taken}
use Rattle.observe_laws.specs.Scene.{ObservedScene, Showing}
use Rattle.observe_laws.specs.Trace.{ObservedTrace, traced, traced_by}

pub traced-append : (xs ys : ObservedTrace) → traced (xs ++ ys) ≡ traced xs ++ traced ys
traced-append xs ys = flat_map-append traced_by xs ys

pub traced_all : (ls : Trace) → traced (map line.Traced ls) ≡ ls
traced_all [] = refl
traced_all (l ∷ ls) = ap (λ (t : Trace). l ∷ t) (traced_all ls)

-- ---- lines of acts

want_untraced : (packet : ℕ) (server : ServerId) (o : Option Showing)
    → traced (want_lines packet server o) ≡ []
want_untraced packet server None = refl
want_untraced packet server (Some x) = refl

top_untraced : (same : Bool) (o : Option ℕ) → traced (if same then [] else top_line o) ≡ []
top_untraced true o = refl
top_untraced false None = refl
top_untraced false (Some top) = refl

peek_untraced : (updates : List Entry) (call : Call) (o : Option ℕ)
    → traced (peek_lines updates call o) ≡ []
peek_untraced updates call None = refl
peek_untraced updates call (Some top) = refl

pub given_untraced : (m : Measures) (w : ObservedScene) (a : Act) → traced (given_lines m w a) ≡ []
given_untraced m w act.Copy = refl
given_untraced m w (act.Want server) = want_untraced (length w.shown) server (shown_in m w server)
given_untraced m w (act.Take packet) =
    let after = (acted m w (act.Take packet)).progress.finished in
    top_untraced (is_same_top w.progress.finished after) after
given_untraced m w (act.Drain server count) = refl
given_untraced m w (act.Peek call) =
    peek_untraced w.scene.group.committed call w.progress.finished

-- ---- acts leave the scene

shown_scene : (w : ObservedScene) (o : Option Showing) → (with_shown w o).scene ≡ w.scene
shown_scene w None = refl
shown_scene w (Some x) = refl

taken_scene : (w : ObservedScene) (o : Option Showing) → (with_taken w o).scene ≡ w.scene
taken_scene w None = refl
taken_scene w (Some x) = refl

pub acted_scene : (m : Measures) (w : ObservedScene) (a : Act) → (acted m w a).scene ≡ w.scene
acted_scene m w act.Copy = refl
acted_scene m w (act.Want server) = shown_scene w (shown_in m w server)
acted_scene m w (act.Take packet) = taken_scene w (slice_get w.shown packet)
acted_scene m w (act.Drain server count) = refl
acted_scene m w (act.Peek call) = refl

-- ---- runs

pub lines_played : (m : Measures) (w : ObservedScene) (ss : List ObservedStep)
    → traced (observed_run_lines m w ss) ≡ run_lines m w.scene (played_steps ss)
unfolding observed_run_lines run_lines
lines_played m w [] = refl
lines_played m w (observed.Played s ∷ ss) =
    let after = observed_next m w (observed.Played s) in
    let now = step_lines m w.scene s in
    traced-append (map line.Traced now) (observed_run_lines m after ss)
    ∙ ap (λ (t : Trace). t ++ traced (observed_run_lines m after ss)) (traced_all now)
    ∙ ap (λ (t : Trace). now ++ t) (lines_played m after ss)
lines_played m w (observed.Acted a ∷ ss) =
    let after = acted m w a in
    traced-append (line.Event a ∷ given_lines m w a) (observed_run_lines m after ss)
    ∙ ap (λ (t : Trace). t ++ traced (observed_run_lines m after ss)) (given_untraced m w a)
    ∙ lines_played m after ss
    ∙ ap (λ (v : Scene). run_lines m v (played_steps ss)) (acted_scene m w a)

pub scene_played : (m : Measures) (w : ObservedScene) (ss : List ObservedStep)
    → (observed_run m w ss).scene ≡ run m w.scene (played_steps ss)
unfolding observed_run run
scene_played m w [] = refl
scene_played m w (observed.Played s ∷ ss) = scene_played m (observed_next m w (observed.Played s)) ss
scene_played m w (observed.Acted a ∷ ss) =
    scene_played m (acted m w a) ss
    ∙ ap (λ (v : Scene). run m v (played_steps ss)) (acted_scene m w a)

pub taken_played : (m : Measures) (w : ObservedScene) (ss : List ObservedStep)
    → AreObserved m w ss → AreTaken m w.scene (played_steps ss)
taken_played m w [] t = tt
taken_played m w (observed.Played s ∷ ss) t =
    (t.0, t.1, taken_played m (observed_next m w (observed.Played s)) ss t.2)
taken_played m w (observed.Acted a ∷ ss) t =
    subst (λ (v : Scene). AreTaken m v (played_steps ss)) (acted_scene m w a)
    (taken_played m (acted m w a) ss t.2)

-- ---- runs that go on

pub observed_run-append : (m : Measures) (w : ObservedScene) (done later : List ObservedStep)
    → observed_run m w (done ++ later) ≡ observed_run m (observed_run m w done) later
unfolding observed_run
observed_run-append m w [] later = refl
observed_run-append m w (s ∷ done) later = observed_run-append m (observed_next m w s) done later

pub observed_lines-append : (m : Measures) (w : ObservedScene) (done later : List ObservedStep)
    → observed_run_lines m w (done ++ later)
    ≡ observed_run_lines m w done ++ observed_run_lines m (observed_run m w done) later
unfolding observed_run observed_run_lines
observed_lines-append m w [] later = refl
observed_lines-append m w (s ∷ done) later =
    ap (λ (ls : ObservedTrace). observed_lines m w s ++ ls)
    (observed_lines-append m (observed_next m w s) done later)
    ∙ sym (append_assoc (observed_lines m w s) (observed_run_lines m (observed_next m w s) done)
    (observed_run_lines m (observed_run m (observed_next m w s) done) later))
