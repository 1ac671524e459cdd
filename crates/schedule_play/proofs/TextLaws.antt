-- The trace of every text.
use Rattle.std.proofs.Common.{◌≡◌, ℕ, List, [], ◌∷◌, ◌++◌, append-nil, length, refl, ap, ◌∙◌, Option, Some, None}
use Rattle.trace_types.specs.declared.line.LineFault.{LineFault}
use Rattle.trace_claims.specs.Right.{IsRight}
use Rattle.trace_claims.specs.Trace.{AtEachPlace, AtPlacesAfter, Ends, Trace, entries, steps}
use Rattle.trace_claims.proofs.Places.{entries-append, places-append, steps-append}
use Rattle.file_tree.specs.Book.{Entry}
use Rattle.group_rules.specs.State.{Group}
use Rattle.group_trace.specs.Run.{AreTaken, CanFollow, run_lines}
use Rattle.group_trace.specs.Scene.{Measures, first_scene}
use Rattle.group_trace.specs.DiskCalls.{Spellings, measures_of}
use Rattle.line_reader.specs.Lines.{lines_of}
use Rattle.trace_laws.specs.FirstParts.{FirstPartsAreRight}
use Rattle.trace_laws.specs.Laws.{RunIsRight, StandsInGroup}
use Rattle.trace_laws.proofs.FirstParts.{first_parts_right}
use Rattle.trace_laws.proofs.RightRuns.{run_right}
use Rattle.trace_laws.proofs.RunLaws.{can_follow}
use Rattle.trace_laws.specs.DiskLaws.{DiskRunIsRight}
use Rattle.trace_laws.proofs.DiskRuns.{disk_runs_right}
use Rattle.schedule_play.specs.Reading.{reading}
use Rattle.schedule_play.specs.Trace.{group_left, last_line, last_of, trace_of}
use Rattle.schedule_play.proofs.TakenLaws.{reading_taken}

-- ---- the last line

ends_last : (entered : ℕ) (refused : Option (ℕ × LineFault))
    → Ends entered (last_line entered refused)
ends_last entered None = refl
ends_last entered (Some x) = tt

begins_none : (entered : ℕ) (refused : Option (ℕ × LineFault))
    → steps (last_line entered refused ∷ []) ≡ []
begins_none entered None = refl
begins_none entered (Some x) = refl

enters_none : (entered : ℕ) (refused : Option (ℕ × LineFault))
    → entries (last_line entered refused ∷ []) ≡ []
enters_none entered None = refl
enters_none entered (Some x) = refl

-- ---- the run of a text's steps

pub taken : (m : Measures) (text : List ℕ) → AreTaken m first_scene (reading m text).steps
taken m text = reading_taken m 1 (lines_of text) first_scene

follow : (m : Measures) (text : List ℕ) → CanFollow m first_scene (reading m text).steps
follow m text = can_follow m first_scene (reading m text).steps (taken m text)

run_of : (m : Measures) (text : List ℕ) → RunIsRight m (reading m text).steps
run_of m text = run_right m (reading m text).steps (follow m text)

pub right : (m : Measures) (text : List ℕ) → IsRight (trace_of m text)
right m text =
    let r = reading m text in
    let n = length (entries (run_lines m first_scene r.steps)) in
    (run_of m text).right (last_line n r.refused) (ends_last n r.refused)

pub events : (m : Measures) (text : List ℕ) → steps (trace_of m text) ≡ (reading m text).steps
events m text =
    let r = reading m text in
    let lines = run_lines m first_scene r.steps in
    let n = length (entries lines) in
    steps-append lines (last_of m r ∷ [])
    ∙ ap (λ ss. steps lines ++ ss) (begins_none n r.refused)
    ∙ append-nil (steps lines) ∙ (run_of m text).events

pub book : (m : Measures) (text : List ℕ) → entries (trace_of m text) ≡ (group_left m text).book
book m text =
    let r = reading m text in
    let lines = run_lines m first_scene r.steps in
    let n = length (entries lines) in
    entries-append lines (last_of m r ∷ [])
    ∙ ap (λ es. entries lines ++ es) (enters_none n r.refused)
    ∙ append-nil (entries lines) ∙ (run_of m text).book

-- an answered line stands before the last one
last_stands : (g : Group Entry) (before : Trace) (entered : ℕ) (refused : Option (ℕ × LineFault))
    → AtPlacesAfter (StandsInGroup g) before (last_line entered refused ∷ [])
last_stands g before entered None = (tt, tt)
last_stands g before entered (Some x) = (tt, tt)

pub views : (m : Measures) (text : List ℕ)
    → AtEachPlace (StandsInGroup (group_left m text)) (trace_of m text)
views m text =
    let r = reading m text in
    let lines = run_lines m first_scene r.steps in
    let g = group_left m text in
    places-append (StandsInGroup g) [] lines (last_of m r ∷ []) (run_of m text).views
    (last_stands g lines (length (entries lines)) r.refused)

pub disks : (f : Spellings) (text : List ℕ) → DiskRunIsRight f (reading (measures_of f) text).steps
disks f text = disk_runs_right f (reading (measures_of f) text).steps (follow (measures_of f) text)

pub parts : (m : Measures) (text : List ℕ) → FirstPartsAreRight m (reading m text).steps
parts m text = first_parts_right m (reading m text).steps (follow m text)
