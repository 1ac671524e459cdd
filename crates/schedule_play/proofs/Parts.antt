-- A play that has come to some place, and what the next step makes of it.
use Rattle.std.proofs.Common.{◌≡◌, ◌≢◌, ℕ, List, [], ◌∷◌, ◌++◌, append-nil, length, take, refl, sym, ap, ◌∙◌, subst, append_assoc, Option, Some, None, inr, Result, Ok, Err}
use Rattle.std.specs.Prelude.{IfOk, MatchResult, OnErr, OnOk}
use Rattle.std.specs.Io.KnownBytes.{Appends}
use Rattle.harp_types.specs.Streams.{GrewByPart}
use Rattle.trace_types.specs.declared.line.LineFault.{LineFault}
use Rattle.trace_types.specs.declared.line.Line.TheVariants as line
use Rattle.trace_types.specs.declared.step.Step.{Step}
use Rattle.trace_claims.specs.Trace.{Trace, entries}
use Rattle.group_trace.specs.Run.{run, run_lines}
use Rattle.group_trace.specs.Scene.{Measures, Scene, first_scene}
use Rattle.group_trace.specs.DiskCalls.{Spellings, measures_of}
use Rattle.group_trace.specs.DiskRun.{DiskScene, disk_run, first_disk_scene}
use Rattle.schedule_play.specs.declared.exit.Stop.{Stop}
use Rattle.schedule_play.specs.declared.exit.Stop.TheVariants as stop
use Rattle.schedule_play.specs.declared.turn.Turn.{Turn}
use Rattle.schedule_play.specs.declared.turn.Turn.TheVariants as turn
use Rattle.schedule_play.specs.Ends.{BreaksOff, EndsWhole, SinkFails}
use Rattle.schedule_play.specs.OnTheWay.{HasCome, StopGives, TurnGives}
use Rattle.schedule_play.specs.Reading.{Reading, refused_at, then_read}
use Rattle.schedule_play.specs.Trace.{last_line, last_of, trace_of_reading, trace_text}
use Rattle.schedule_play.proofs.Runs.{run_lines-append}
use Rattle.schedule_play.proofs.TraceTexts.{appends-twice, grew-first, grew-second, trace_text-append}

-- ---- the trace of what is read, from where a play has come to

-- the lines that the rest of the reading gives
abbrev pub rest_lines : Measures → List Step → Reading → Trace
rest_lines m done r =
    run_lines m (run m first_scene done) r.steps
    ++ last_line (length (entries (run_lines m first_scene (done ++ r.steps)))) r.refused ∷ []

trace_of-parts : (m : Measures) (done : List Step) (r : Reading)
    → trace_of_reading m (then_read done r) ≡ run_lines m first_scene done ++ rest_lines m done r
trace_of-parts m done r =
    let last = last_line (length (entries (run_lines m first_scene (done ++ r.steps)))) r.refused in
    ap (λ ls. ls ++ last ∷ []) (run_lines-append m first_scene done r.steps)
    ∙ append_assoc (run_lines m first_scene done) (run_lines m (run m first_scene done) r.steps)
    (last ∷ [])

pub text-parts : (m : Measures) (all : Reading) (done : List Step) (r : Reading)
    → all ≡ then_read done r
    → trace_text (trace_of_reading m all) ≡ trace_text (run_lines m first_scene done)
    ++ trace_text (rest_lines m done r)
text-parts m all done r is =
    ap (λ x. trace_text (trace_of_reading m x)) is ∙ ap trace_text (trace_of-parts m done r)
    ∙ trace_text-append (run_lines m first_scene done) (rest_lines m done r)

-- what is still read may be said in other words
pub comes : (f : Spellings) (all : Reading) (here there : Scene → Reading)
    (before after : Option (List ℕ)) (stands : DiskScene → Type 0)
    → (h : HasCome f all here before after stands)
    → here (run (measures_of f) first_scene h.done) ≡ there (run (measures_of f) first_scene h.done)
    → HasCome f all there before after stands
comes f all here there before after stands h is = record {
  done = h.done;
  taken = h.taken;
  reading_is = h.reading_is ∙ ap (λ r. then_read h.done r) is;
  wrote = h.wrote;
  left = h.left;
}

-- ---- stops

-- a first part of the trace was written
pub grew-now : (f : Spellings) (all : Reading) (rest : Scene → Reading)
    (before mid : Option (List ℕ)) (stands : DiskScene → Type 0)
    → HasCome f all rest before mid stands
    → GrewByPart before mid (trace_text (trace_of_reading (measures_of f) all))
grew-now f all rest before mid stands h =
    let m = measures_of f in
    let r = rest (run m first_scene h.done) in
    subst (GrewByPart before mid) (sym (text-parts m all h.done r h.reading_is))
    (grew-first before mid (trace_text (run_lines m first_scene h.done))
    (trace_text (rest_lines m h.done r)) h.wrote)

-- some lines were written, and then a first part of others
pub breaks_off : (before mid after : Option (List ℕ)) (whole others : Trace)
    → Appends before mid (trace_text whole)
    → GrewByPart mid after (trace_text others) → BreaksOff before after whole others
breaks_off before mid after whole others wrote grew = (
  grew.0,
  appends-twice before mid after (trace_text whole) (take grew.0 (trace_text others))
      wrote grew.1,
)

-- a stop is told of by what it leaves
pub stop_gives : (f : Spellings) (all : Reading) (before after : Option (List ℕ))
    (stands : DiskScene → Type 0) (s : Stop)
    → (s ≡ stop.SourceFailed → ⊥) → SinkFails f all before after stands
    → GrewByPart before after (trace_text (trace_of_reading (measures_of f) all))
    → StopGives f all before after stands s
stop_gives f all before after stands stop.SourceFailed own sink memory = absurd (own refl)
stop_gives f all before after stands stop.SinkFailed own sink memory = sink
stop_gives f all before after stands stop.NoMemory own sink memory = memory

-- ---- the last line

abbrev pub ends_read : Option (ℕ × LineFault) → Reading
ends_read refused = record { steps = []; refused = refused }

-- where no step is left, the last line tells the number of the lines entered
last_is : (m : Measures) (done : List Step) (refused : Option (ℕ × LineFault)) (entered : ℕ)
    → length (entries (run_lines m first_scene done)) ≡ entered
    → last_of m (then_read done (ends_read refused)) ≡ last_line entered refused
last_is m done refused entered is =
    rw (append-nil done) (ap (λ k. last_line k refused) is)

-- where no step is left, the trace is the lines of the steps taken, and the last line
whole_text : (m : Measures) (all : Reading) (done : List Step) (refused : Option (ℕ × LineFault))
    (entered : ℕ) → length (entries (run_lines m first_scene done)) ≡ entered
    → all ≡ then_read done (ends_read refused)
    → trace_text (trace_of_reading m all)
    ≡ trace_text (run_lines m first_scene done) ++ trace_text (last_line entered refused ∷ [])
whole_text m all done refused entered counted is =
    let last = last_line entered refused in
    ap (λ (x : Reading). trace_text (trace_of_reading m x)) is
    ∙ ap (λ ss. trace_text (run_lines m first_scene ss
    ++ last_of m (then_read done (ends_read refused)) ∷ [])) (append-nil done)
    ∙ ap (λ l. trace_text (run_lines m first_scene done ++ l ∷ []))
    (last_is m done refused entered counted)
    ∙ trace_text-append (run_lines m first_scene done) (last ∷ [])

steps_are : (all : Reading) (done : List Step) (refused : Option (ℕ × LineFault))
    → all ≡ then_read done (ends_read refused) → done ≡ all.steps
steps_are all done refused is = sym (ap (λ (x : Reading). x.steps) is ∙ append-nil done)

pub ends-whole : (f : Spellings) (all : Reading) (before mid after : Option (List ℕ))
    (stands : DiskScene → Type 0) (refused : Option (ℕ × LineFault)) (entered : ℕ)
    → (h : HasCome f all (λ w. record { steps = []; refused = refused }) before mid stands)
    → length (entries (run_lines (measures_of f) first_scene h.done)) ≡ entered
    → Appends mid after (trace_text (last_line entered refused ∷ []))
    → EndsWhole f all before after stands
ends-whole f all before mid after stands refused entered h counted wrote =
    let m = measures_of f in
    record {
      wrote = subst (Appends before after)
          (sym (whole_text m all h.done refused entered counted h.reading_is))
          (appends-twice before mid after (trace_text (run_lines m first_scene h.done))
          (trace_text (last_line entered refused ∷ [])) h.wrote wrote);
      left = subst (λ ss. stands (disk_run f first_disk_scene ss))
          (steps_are all h.done refused h.reading_is) h.left;
    }

-- a first part of the last line was written
pub last-stopped : (f : Spellings) (all : Reading) (before mid after : Option (List ℕ))
    (stands : DiskScene → Type 0) (refused : Option (ℕ × LineFault)) (entered : ℕ) (s : Stop)
    → (h : HasCome f all (λ w. record { steps = []; refused = refused }) before mid stands)
    → length (entries (run_lines (measures_of f) first_scene h.done)) ≡ entered
    → (s ≡ stop.SourceFailed → ⊥)
    → GrewByPart mid after (trace_text (last_line entered refused ∷ []))
    → StopGives f all before after stands s
last-stopped f all before mid after stands refused entered s h counted own grew =
    let m = measures_of f in
    let last = last_line entered refused in
    let ss = steps_are all h.done refused h.reading_is in
    let said : last_line entered refused ≡ last_of m all =
    sym (ap (last_of m) h.reading_is ∙ last_is m h.done refused entered counted) in
    stop_gives f all before after stands s own
    (inr (record {
      wrote = subst (λ l. BreaksOff before after (run_lines m first_scene all.steps) (l ∷ [])) said
          (subst (λ xs. BreaksOff before after (run_lines m first_scene xs) (last ∷ [])) ss
          (breaks_off before mid after (run_lines m first_scene h.done) (last ∷ []) h.wrote grew));
      left = subst (λ xs. stands (disk_run f first_disk_scene xs)) ss h.left;
    }))
    (subst (GrewByPart before after)
    (sym (whole_text m all h.done refused entered counted h.reading_is))
    (grew-second before mid after (trace_text (run_lines m first_scene h.done))
    (trace_text (last ∷ [])) h.wrote grew))

pub refused-is : (f : Spellings) (all : Reading) (before after : Option (List ℕ))
    (stands : DiskScene → Type 0) (refused : Option (ℕ × LineFault))
    → HasCome f all (λ w. record { steps = []; refused = refused }) before after stands
    → all.refused ≡ refused
refused-is f all before after stands refused h = ap (λ x. x.refused) h.reading_is

some_other : {A : Type 0} (x : A) (o : Option A) → o ≡ Some x → o ≢ None
some_other x o is none = let no : None ≡ Some x = sym none ∙ is in absurd cc

-- a line is refused, and the last line was written or a first part of it
pub refuses : (f : Spellings) (all : Reading) (rest : Scene → Reading)
    (before mid after : Option (List ℕ)) (stands : DiskScene → Type 0) (number : ℕ)
    (fault : LineFault) (r : Result Turn Stop)
    → HasCome f all (λ w. refused_at number fault) before mid stands
    → IfOk r (λ t. t ≡ turn.Refused)
    → OnOk r (Appends mid after (trace_text (line.Bad number fault ∷ [])))
    → OnErr r (GrewByPart mid after (trace_text (line.Bad number fault ∷ [])))
    → (r ≡ Err stop.SourceFailed → ⊥)
    → MatchResult r (TurnGives f all rest before after stands)
    (StopGives f all before after stands)
refuses f all rest before mid after stands number fault (Ok t) h is wrote part own =
    let refused = Some (number, fault) in
    subst (TurnGives f all rest before after stands) (sym is) (
      some_other (number, fault) all.refused (refused-is f all before mid stands refused h),
      ends-whole f all before mid after stands refused _ h refl wrote,
    )
refuses f all rest before mid after stands number fault (Err s) h is wrote part own =
    last-stopped f all before mid after stands (Some (number, fault)) _ s h refl
    (λ e. own (ap Err e)) part
