-- Each line of the trace of a text fits.
use Rattle.std.proofs.Common.{◌≡◌, ℕ, ◌<◌, ◌≤◌, ◌^◌, List, [], ◌∷◌, length, Option, Some, None, refl, ap, arith}
use Rattle.trace_types.specs.declared.line.Line.TheVariants as line
use Rattle.trace_types.specs.declared.line.LineFault.{LineFault}
use Rattle.trace_claims.specs.Trace.{entries}
use Rattle.trace_claims.proofs.Places.{all-append}
use Rattle.file_tree.specs.Book.{Entry}
use Rattle.line_reader.specs.Lines.{lines_of}
use Rattle.group_trace.specs.Run.{run_lines}
use Rattle.group_trace.specs.Scene.{first_scene}
use Rattle.trace_laws.proofs.RightRuns.{run_right}
use Rattle.trace_laws.proofs.RunLaws.{can_follow}
use Rattle.schedule_play.specs.Reading.{reading}
use Rattle.schedule_play.specs.Trace.{last_line, last_of}
use Rattle.schedule_play.proofs.TakenLaws.{reading_taken}
use Rattle.accept_laws.specs.Laws.{LineIn}
use Rattle.accept_laws.proofs.Runs.{books_few, runs_fit}
use Rattle.accept_laws.proofs.ShortLines.{lined}
use Rattle.accept_laws.specs.TextLaws.{TracesFit}
use Rattle.accept_laws.proofs.Readings.{reading_told}

last_fits : (entered : ℕ) (o : Option (ℕ × LineFault)) → entered < 10 ^ 18
    → ((x : ℕ × LineFault) → o ≡ Some x → x.0 ≤ 50001) → LineIn (last_line entered o)
last_fits entered None l h = lined (line.End entered) tt l
last_fits entered (Some x) l h =
    let few = h x refl in
    let fits : x.0 < 10 ^ 18 = omega (arith, few) in
    lined (line.Bad x.0 x.1) tt fits

pub traces_fit : TracesFit
traces_fit m b text short =
    let r = reading m text in
    let read = reading_told m (lines_of text) 1 first_scene (omega arith) short in
    let taken = reading_taken m 1 (lines_of text) first_scene in
    let told = read.few in
    let lines = run_lines m first_scene r.steps in
    let follow = can_follow m first_scene r.steps taken in
    let book = ap (λ (es : List Entry). length es) (run_right m r.steps follow).book in
    let few = books_few m b r.steps taken read.fit (omega (arith, told)) in
    all-append LineIn lines (last_of m r ∷ [])
    (runs_fit m b r.steps taken read.fit (omega (arith, told))) (
      last_fits (length (entries lines)) r.refused (omega (arith, book, few)) read.refused,
      tt,
    )
