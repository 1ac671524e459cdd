-- The observed trace of every text.
use Rattle.std.proofs.Common.{◌≡◌, ℕ, List, [], ◌∷◌, ◌++◌, length, refl, sym, ap, subst, ◌∙◌, Option, Some, None}
use Rattle.std.proofs.lemmas.List.{append-nil}
use Rattle.trace_types.specs.declared.step.Step.{Step}
use Rattle.trace_types.specs.declared.line.LineFault.{LineFault}
use Rattle.trace_claims.specs.Right.{IsRight}
use Rattle.trace_claims.specs.Trace.{Ends, Trace, entries, steps}
use Rattle.trace_claims.proofs.Places.{steps-append}
use Rattle.group_trace.specs.Run.{run_lines}
use Rattle.group_trace.specs.Scene.{Measures, first_scene}
use Rattle.line_reader.specs.Lines.{lines_of}
use Rattle.trace_laws.specs.Laws.{RunIsRight}
use Rattle.trace_laws.proofs.RightRuns.{run_right}
use Rattle.trace_laws.proofs.RunLaws.{can_follow}
use Rattle.schedule_play.specs.Trace.{last_line}
use Rattle.observe_laws.specs.Peeks.{ArePeeked, IsObservedRightly, IsPeekedIn}
use Rattle.observe_laws.specs.Reading.{observed_reading}
use Rattle.observe_laws.specs.Run.{AreObserved, played_steps}
use Rattle.observe_laws.specs.Scene.{first_observed}
use Rattle.observe_laws.specs.Trace.{lines_of_reading, observed_last, observed_trace, traced}
use Rattle.observe_laws.proofs.Peeked.{all_peeked, keeps_first, led_first, observed-places}
use Rattle.observe_laws.proofs.Taken.{observed_taken}
use Rattle.observe_laws.proofs.Traced.{lines_played, taken_played, traced-append}

-- ---- the last line

ends_last : (entered : ℕ) (refused : Option (ℕ × LineFault))
    → Ends entered (last_line entered refused)
ends_last entered None = refl
ends_last entered (Some x) = tt

begins_none : (entered : ℕ) (refused : Option (ℕ × LineFault))
    → steps (last_line entered refused ∷ []) ≡ []
begins_none entered None = refl
begins_none entered (Some x) = refl

-- ---- the run of a text's steps

taken : (m : Measures) (text : List ℕ)
    → AreObserved m first_observed (observed_reading m text).steps
taken m text = observed_taken m 1 (lines_of text) first_observed

abbrev played : Measures → List ℕ → List Step
played m text = played_steps (observed_reading m text).steps

run_of : (m : Measures) (text : List ℕ) → RunIsRight m (played m text)
run_of m text =
    run_right m (played m text) (can_follow m first_scene (played m text)
    (taken_played m first_observed (observed_reading m text).steps (taken m text)))

-- what is left of the trace is that of the schedule's steps
trace_is : (m : Measures) (text : List ℕ) → traced (observed_trace m text)
    ≡ run_lines m first_scene (played m text)
    ++ last_line (length (entries (run_lines m first_scene (played m text))))
    (observed_reading m text).refused ∷ []
trace_is m text =
    let r = observed_reading m text in
    let lines = lines_played m first_observed r.steps in
    traced-append (lines_of_reading m r) (observed_last m r ∷ [])
    ∙ ap (λ (t : Trace). t ++ last_line (length (entries t)) r.refused ∷ []) lines

right : (m : Measures) (text : List ℕ) → IsRight (traced (observed_trace m text))
right m text =
    let refused = (observed_reading m text).refused in
    let n = length (entries (run_lines m first_scene (played m text))) in
    subst IsRight (sym (trace_is m text))
    ((run_of m text).right (last_line n refused) (ends_last n refused))

events : (m : Measures) (text : List ℕ)
    → steps (traced (observed_trace m text)) ≡ played m text
events m text =
    let refused = (observed_reading m text).refused in
    let lines = run_lines m first_scene (played m text) in
    let n = length (entries lines) in
    ap steps (trace_is m text) ∙ steps-append lines (last_line n refused ∷ [])
    ∙ ap (λ (ss : List Step). steps lines ++ ss) (begins_none n refused)
    ∙ append-nil (steps lines) ∙ (run_of m text).events

peeks : (m : Measures) (text : List ℕ) → ArePeeked (observed_trace m text)
peeks m text =
    let r = observed_reading m text in
    observed-places IsPeekedIn [] (lines_of_reading m r) (observed_last m r ∷ [])
    (all_peeked m first_observed [] r.steps (led_first m) keeps_first (taken m text)) (tt, tt)

pub observed_rightly : (m : Measures) (text : List ℕ) → IsObservedRightly m text
observed_rightly m text =
    record { right = right m text; events = events m text; peeks = peeks m text }
