-- A play that has come to some place, and what its last line makes of it.
use Rattle.std.proofs.Common.{◌≡◌, ◌≢◌, ℕ, List, [], ◌∷◌, ◌++◌, append-nil, length, take, refl, sym}
use Rattle.std.proofs.Common.{ap, ◌∙◌, subst, append_assoc, Option, Some, None, inr, Result, Ok}
use Rattle.std.proofs.Common.{Err}
use Rattle.std.specs.Prelude.{IfOk, MatchResult, OnErr, OnOk}
use Rattle.std.specs.Io.KnownBytes.{Appends}
use Rattle.harp_types.specs.Streams.{GrewByPart}
use Rattle.trace_types.specs.declared.line.LineFault.{LineFault}
use Rattle.trace_types.specs.declared.line.Line.TheVariants as line
use Rattle.trace_claims.specs.Trace.{entries}
use Rattle.group_trace.specs.Scene.{Measures}
use Rattle.group_trace.specs.DiskCalls.{Spellings, measures_of}
use Rattle.group_trace.specs.DiskRun.{DiskScene}
use Rattle.schedule_play.specs.declared.exit.Stop.{Stop}
use Rattle.schedule_play.specs.declared.exit.Stop.TheVariants as stop
use Rattle.schedule_play.specs.declared.turn.Turn.{Turn}
use Rattle.schedule_play.specs.declared.turn.Turn.TheVariants as turn
use Rattle.schedule_play.specs.Trace.{last_line, trace_text}
use Rattle.schedule_play.proofs.TraceTexts.{appends-twice, grew-first, grew-second}
use Rattle.observed_text.specs.declared.line.ObservedLine.TheVariants as lines
use Rattle.observed_text.specs.declared.step.ObservedStep.{ObservedStep}
use Rattle.observe_laws.specs.Reading.{ObservedReading, observed_refused_at, then_observed}
use Rattle.observe_laws.specs.Run.{observed_run, observed_run_lines}
use Rattle.observe_laws.specs.Scene.{ObservedScene, first_observed}
use Rattle.observe_laws.specs.Trace.{ObservedTrace, observed_last, observed_trace_of}
use Rattle.observe_laws.specs.Trace.{observed_trace_text, traced}
use Rattle.observe_laws.proofs.Traced.{observed_lines-append}
use Rattle.observe_play.specs.Ends.{BreaksObserved, EndsObserved, ObservedSinkFails, StandsAfter}
use Rattle.observe_play.specs.Ends.{lines_after}
use Rattle.observe_play.specs.OnTheWay.{HasObserved, ObservedStop, ObservedTurn}
use Rattle.observe_play.specs.Watch.{WatchValue}
use Rattle.observe_play.proofs.TraceTexts.{observed_trace_text-append, traced_text}

-- ---- the trace of what is read, from where a play has come to

-- how many calls these steps enter
abbrev pub entered_by : Measures → List ObservedStep → ℕ
entered_by m ss = length (entries (traced (observed_run_lines m first_observed ss)))

-- the lines that the rest of the reading gives
abbrev pub rest_lines : Measures → List ObservedStep → ObservedReading → ObservedTrace
rest_lines m done r =
    observed_run_lines m (observed_run m first_observed done) r.steps
    ++ lines.Traced (last_line (entered_by m (done ++ r.steps)) r.refused) ∷ []

trace_of-parts : (m : Measures) (done : List ObservedStep) (r : ObservedReading)
    → observed_trace_of m (then_observed done r)
    ≡ observed_run_lines m first_observed done ++ rest_lines m done r
trace_of-parts m done r =
    let last = lines.Traced (last_line (entered_by m (done ++ r.steps)) r.refused) in
    ap (λ (ls : ObservedTrace). ls ++ last ∷ [])
    (observed_lines-append m first_observed done r.steps)
    ∙ append_assoc (observed_run_lines m first_observed done)
    (observed_run_lines m (observed_run m first_observed done) r.steps) (last ∷ [])

pub text-parts : (m : Measures) (all : ObservedReading) (done : List ObservedStep)
    (r : ObservedReading) → all ≡ then_observed done r
    → observed_trace_text (observed_trace_of m all)
    ≡ observed_trace_text (observed_run_lines m first_observed done)
    ++ observed_trace_text (rest_lines m done r)
text-parts m all done r is =
    ap (λ x. observed_trace_text (observed_trace_of m x)) is
    ∙ ap observed_trace_text (trace_of-parts m done r)
    ∙ observed_trace_text-append (observed_run_lines m first_observed done) (rest_lines m done r)

-- what is still read may be said in other words
pub comes : (f : Spellings) (all : ObservedReading) (here there : ObservedScene → ObservedReading)
    (before after : Option (List ℕ)) (stands : DiskScene → Type 0) (x : WatchValue)
    → (h : HasObserved f all here before after stands x)
    → here (observed_run (measures_of f) first_observed h.done)
    ≡ there (observed_run (measures_of f) first_observed h.done)
    → HasObserved f all there before after stands x
comes f all here there before after stands x h is = record {
  done = h.done;
  taken = h.taken;
  reading_is = h.reading_is ∙ ap (λ r. then_observed h.done r) is;
  wrote = h.wrote;
  left = h.left;
  watch = h.watch;
}

-- ---- stops

-- a first part of the trace was written
pub grew-now : (f : Spellings) (all : ObservedReading) (rest : ObservedScene → ObservedReading)
    (before mid : Option (List ℕ)) (stands : DiskScene → Type 0) (x : WatchValue)
    → HasObserved f all rest before mid stands x
    → GrewByPart before mid (observed_trace_text (observed_trace_of (measures_of f) all))
grew-now f all rest before mid stands x h =
    let m = measures_of f in
    let r = rest (observed_run m first_observed h.done) in
    subst (GrewByPart before mid) (sym (text-parts m all h.done r h.reading_is))
    (grew-first before mid (observed_trace_text (lines_after f h.done))
    (observed_trace_text (rest_lines m h.done r)) h.wrote)

-- some lines were written, and then a first part of others
pub breaks_off : (before mid after : Option (List ℕ)) (whole others : ObservedTrace)
    → Appends before mid (observed_trace_text whole)
    → GrewByPart mid after (observed_trace_text others)
    → BreaksObserved before after whole others
breaks_off before mid after whole others wrote grew = (
  grew.0,
  appends-twice before mid after (observed_trace_text whole)
      (take grew.0 (observed_trace_text others)) wrote grew.1,
)

-- a stop is told of by what it leaves
pub stop_gives : (f : Spellings) (all : ObservedReading) (before after : Option (List ℕ))
    (stands : DiskScene → Type 0) (s : Stop)
    → (s ≡ stop.SourceFailed → ⊥) → ObservedSinkFails f all before after stands
    → GrewByPart before after (observed_trace_text (observed_trace_of (measures_of f) all))
    → ObservedStop f all before after stands s
stop_gives f all before after stands stop.SourceFailed own sink memory = absurd (own refl)
stop_gives f all before after stands stop.SinkFailed own sink memory = sink
stop_gives f all before after stands stop.NoMemory own sink memory = memory

-- ---- the last line

abbrev pub ends_read : Option (ℕ × LineFault) → ObservedReading
ends_read refused = record { steps = []; refused = refused }

-- where no step is left, the last line tells the number of the calls entered
last_is : (m : Measures) (done : List ObservedStep) (refused : Option (ℕ × LineFault))
    (entered : ℕ) → entered_by m done ≡ entered
    → observed_last m (then_observed done (ends_read refused))
    ≡ lines.Traced (last_line entered refused)
last_is m done refused entered is =
    ap (λ (ss : List ObservedStep). lines.Traced (last_line (entered_by m ss) refused))
    (append-nil done)
    ∙ ap (λ (k : ℕ). lines.Traced (last_line k refused)) is

-- where no step is left, the trace is the lines of the steps taken, and the last line
whole_text : (m : Measures) (all : ObservedReading) (done : List ObservedStep)
    (refused : Option (ℕ × LineFault)) (entered : ℕ) → entered_by m done ≡ entered
    → all ≡ then_observed done (ends_read refused)
    → observed_trace_text (observed_trace_of m all)
    ≡ observed_trace_text (observed_run_lines m first_observed done)
    ++ observed_trace_text (lines.Traced (last_line entered refused) ∷ [])
whole_text m all done refused entered counted is =
    let last = lines.Traced (last_line entered refused) in
    ap (λ (x : ObservedReading). observed_trace_text (observed_trace_of m x)) is
    ∙ ap (λ (ss : List ObservedStep). observed_trace_text (observed_run_lines m first_observed ss
    ++ observed_last m (then_observed done (ends_read refused)) ∷ [])) (append-nil done)
    ∙ ap (λ l. observed_trace_text (observed_run_lines m first_observed done ++ l ∷ []))
    (last_is m done refused entered counted)
    ∙ observed_trace_text-append (observed_run_lines m first_observed done) (last ∷ [])

steps_are : (all : ObservedReading) (done : List ObservedStep)
    (refused : Option (ℕ × LineFault)) → all ≡ then_observed done (ends_read refused)
    → done ≡ all.steps
steps_are all done refused is =
    sym (ap (λ (x : ObservedReading). x.steps) is ∙ append-nil done)

pub ends-whole : (f : Spellings) (all : ObservedReading) (before mid after : Option (List ℕ))
    (stands : DiskScene → Type 0) (x : WatchValue) (refused : Option (ℕ × LineFault))
    (entered : ℕ)
    → (h : HasObserved f all (λ w. record { steps = []; refused = refused }) before mid stands x)
    → entered_by (measures_of f) h.done ≡ entered
    → Appends mid after (trace_text (last_line entered refused ∷ []))
    → EndsObserved f all before after stands
ends-whole f all before mid after stands x refused entered h counted wrote =
    let m = measures_of f in
    let last = last_line entered refused in
    record {
      wrote = subst (Appends before after)
          (sym (whole_text m all h.done refused entered counted h.reading_is))
          (appends-twice before mid after (observed_trace_text (lines_after f h.done))
          (observed_trace_text (lines.Traced last ∷ [])) h.wrote
          (subst (Appends mid after) (sym (traced_text (last ∷ []))) wrote));
      left = subst (λ ss. StandsAfter f stands ss) (steps_are all h.done refused h.reading_is)
          h.left;
    }

-- a first part of the last line was written
pub last-stopped : (f : Spellings) (all : ObservedReading) (before mid after : Option (List ℕ))
    (stands : DiskScene → Type 0) (x : WatchValue) (refused : Option (ℕ × LineFault))
    (entered : ℕ) (s : Stop)
    → (h : HasObserved f all (λ w. record { steps = []; refused = refused }) before mid stands x)
    → entered_by (measures_of f) h.done ≡ entered
    → (s ≡ stop.SourceFailed → ⊥)
    → GrewByPart mid after (trace_text (last_line entered refused ∷ []))
    → ObservedStop f all before after stands s
last-stopped f all before mid after stands x refused entered s h counted own part =
    let m = measures_of f in
    let last = lines.Traced (last_line entered refused) in
    let ss = steps_are all h.done refused h.reading_is in
    let grew : GrewByPart mid after (observed_trace_text (last ∷ [])) =
    subst (GrewByPart mid after) (sym (traced_text (last_line entered refused ∷ []))) part in
    let said : last ≡ observed_last m all =
    sym (ap (observed_last m) h.reading_is ∙ last_is m h.done refused entered counted) in
    stop_gives f all before after stands s own
    (inr (record {
      wrote = subst (λ l. BreaksObserved before after (lines_after f all.steps) (l ∷ [])) said
          (subst (λ xs. BreaksObserved before after (lines_after f xs) (last ∷ [])) ss
          (breaks_off before mid after (lines_after f h.done) (last ∷ []) h.wrote grew));
      left = subst (λ xs. StandsAfter f stands xs) ss h.left;
    }))
    (subst (GrewByPart before after)
    (sym (whole_text m all h.done refused entered counted h.reading_is))
    (grew-second before mid after (observed_trace_text (lines_after f h.done))
    (observed_trace_text (last ∷ [])) h.wrote grew))

pub refused-is : (f : Spellings) (all : ObservedReading) (before after : Option (List ℕ))
    (stands : DiskScene → Type 0) (x : WatchValue) (refused : Option (ℕ × LineFault))
    → HasObserved f all (λ w. record { steps = []; refused = refused }) before after stands x
    → all.refused ≡ refused
refused-is f all before after stands x refused h =
    ap (λ (r : ObservedReading). r.refused) h.reading_is

some_other : {A : Type 0} (x : A) (o : Option A) → o ≡ Some x → o ≢ None
some_other x o is none = let no : None ≡ Some x = sym none ∙ is in absurd cc

-- a line is refused, and the last line was written or a first part of it
pub refuses : (f : Spellings) (all : ObservedReading) (rest : ObservedScene → ObservedReading)
    (before mid after : Option (List ℕ)) (stands : DiskScene → Type 0) (x y : WatchValue)
    (number : ℕ) (fault : LineFault) (r : Result Turn Stop)
    → HasObserved f all (λ w. observed_refused_at number fault) before mid stands x
    → IfOk r (λ t. t ≡ turn.Refused)
    → OnOk r (Appends mid after (trace_text (line.Bad number fault ∷ [])))
    → OnErr r (GrewByPart mid after (trace_text (line.Bad number fault ∷ [])))
    → (r ≡ Err stop.SourceFailed → ⊥)
    → MatchResult r (ObservedTurn f all rest before after stands y)
    (ObservedStop f all before after stands)
refuses f all rest before mid after stands x y number fault (Ok t) h is wrote part own =
    let refused = Some (number, fault) in
    subst (ObservedTurn f all rest before after stands y) (sym is) (
      some_other (number, fault) all.refused (refused-is f all before mid stands x refused h),
      ends-whole f all before mid after stands x refused _ h refl wrote,
    )
refuses f all rest before mid after stands x y number fault (Err s) h is wrote part own =
    last-stopped f all before mid after stands x (Some (number, fault)) _ s h refl
    (λ e. own (ap Err e)) part
