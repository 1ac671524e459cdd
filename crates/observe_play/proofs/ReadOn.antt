-- Lines are read on where the lines before them have led.
use Rattle.std.proofs.Common.{◌≡◌, ℕ, ◌+◌, List, [], ◌∷◌, ◌++◌, append-nil, length, refl, sym, ap, ◌∙◌, subst, arith, Option, Some, None, Result, Ok, Err}
use Rattle.trace_types.specs.declared.line.LineFault.{LineFault}
use Rattle.line_reader.specs.Lines.{lines_of}
use Rattle.group_trace.specs.Scene.{Measures}
use Rattle.group_trace.specs.DiskCalls.{Spellings, measures_of}
use Rattle.group_trace.specs.DiskRun.{DiskScene}
use Rattle.observed_text.specs.declared.step.ObservedStep.{ObservedStep}
use Rattle.observe_laws.specs.Reading.{ObservedReading, all_observed, observed_by, observed_from, observed_reading, observed_reading_of, then_observed, unless_observed_refused, with_observed, with_observed_given}
use Rattle.observe_laws.specs.Run.{observed_next, observed_out, observed_refusal, observed_run}
use Rattle.observe_laws.specs.Scene.{ObservedScene, first_observed}
use Rattle.observe_play.specs.OnTheWay.{HasObserved, ObservesOn}
use Rattle.observe_play.specs.Watch.{WatchValue}

-- what is read from a scene on
abbrev ReadFrom : Type 0
ReadFrom = ObservedScene → ObservedReading

-- first what is read here, and then the rest where its steps lead
abbrev and_then : Measures → ReadFrom → ReadFrom → ReadFrom
and_then m here rest w = then_observed (here w).steps (rest (observed_run m w (here w).steps))

-- what is read by `whole` is what is read here and then the rest, where no line here is refused
abbrev IsParted : Measures → ReadFrom → ReadFrom → ReadFrom → Type 0
IsParted m whole here rest = (w : ObservedScene) → (here w).refused ≡ None
    → whole w ≡ and_then m here rest w

steps_parted : (m : Measures) (number : ℕ) (ss : List ObservedStep) (whole here rest : ReadFrom)
    → IsParted m whole here rest
    → IsParted m (with_observed m number ss whole) (with_observed m number ss here) rest
unfolding with_observed observed_run
steps_parted m number [] whole here rest parted w none = parted w none
steps_parted m number (s ∷ ss) whole here rest parted w none =
    by (steps_parted m number ss whole here rest parted (observed_next m w s))
    (observed_refusal m w s) none
  where
    more : ObservedReading
    more = with_observed m number ss here (observed_next m w s)

    all : ObservedReading
    all = with_observed m number ss whole (observed_next m w s)

    by : (more.refused ≡ None
        → all ≡ and_then m (with_observed m number ss here) rest (observed_next m w s))
        → (o : Option LineFault)
        → (unless_observed_refused number o (then_observed (s ∷ []) more)).refused ≡ None
        → unless_observed_refused number o (then_observed (s ∷ []) all)
        ≡ then_observed (unless_observed_refused number o (then_observed (s ∷ []) more)).steps
        (rest (observed_run m w
        (unless_observed_refused number o (then_observed (s ∷ []) more)).steps))
    by later None n = ap (λ r. then_observed (s ∷ []) r) (later n)
    by later (Some fault) n = absurd cc

given_parted : (m : Measures) (number : ℕ) (given : Result (Option ObservedStep) LineFault)
    (whole here rest : ReadFrom) → IsParted m whole here rest
    → IsParted m (with_observed_given m number given whole)
    (with_observed_given m number given here) rest
given_parted m number (Ok None) whole here rest parted w none = parted w none
given_parted m number (Ok (Some s)) whole here rest parted w none =
    steps_parted m number (observed_out m w s) whole here rest parted w none
given_parted m number (Err fault) whole here rest parted w none = absurd cc

-- no line is refused, so the others are read where their steps led
reading_append : (m : Measures) (number : ℕ) (lines more : List (List ℕ))
    → IsParted m (observed_from m number (lines ++ more)) (observed_from m number lines)
    (observed_from m (number + length lines) more)
unfolding observed_from observed_run
reading_append m number [] more w none =
    let same : number + 0 ≡ number = omega arith in
    rw same refl
reading_append m number (line ∷ lines) more w none =
    let count : (number + 1) + length lines ≡ number + length (line ∷ lines) = omega arith in
    let gives = observed_by number line in
    subst (λ n. with_observed_given m number gives (observed_from m (number + 1) (lines ++ more)) w
    ≡ and_then m (with_observed_given m number gives (observed_from m (number + 1) lines))
    (observed_from m n more) w) count
    (given_parted m number gives (observed_from m (number + 1) (lines ++ more))
    (observed_from m (number + 1) lines) (observed_from m ((number + 1) + length lines) more)
    (reading_append m (number + 1) lines more) w none)

-- the steps of the lines that were read are those that were taken
pub taken-all : (f : Spellings) (read : List (List ℕ)) (before after : Option (List ℕ))
    (stands : DiskScene → Type 0) (x : WatchValue)
    → (h : HasObserved f (observed_reading_of (measures_of f) read) (λ w. all_observed) before after
    stands x)
    → ((observed_reading_of (measures_of f) read).steps ≡ h.done)
    × ((observed_reading_of (measures_of f) read).refused ≡ None)
taken-all f read before after stands x h = (
  ap (λ (r : ObservedReading). r.steps) h.reading_is ∙ append-nil h.done,
  ap (λ (r : ObservedReading). r.refused) h.reading_is,
)

-- further lines are read where the steps of those that were read have led
pub reading-more : (f : Spellings) (text : List ℕ) (number : ℕ)
    (left before after : Option (List ℕ)) (stands : DiskScene → Type 0) (x : WatchValue)
    → (h : ObservesOn f text number left before after stands x) → (more : List (List ℕ))
    → observed_reading_of (measures_of f) (h.read ++ more)
    ≡ then_observed h.come.done (observed_from (measures_of f) number more
    (observed_run (measures_of f) first_observed h.come.done))
reading-more f text number left before after stands x h more =
    let m = measures_of f in
    let all = taken-all f h.read before after stands x h.come in
    let steps = (observed_reading_of m h.read).steps in
    let rest : ℕ → List ObservedStep → ObservedReading
    = λ n ss. then_observed ss (observed_from m n more (observed_run m first_observed ss)) in
    reading_append m 1 h.read more first_observed all.1
    ∙ ap (λ n. rest n steps) (sym h.number_is)
    ∙ ap (λ ss. rest number ss) all.0

pub reads-on : (f : Spellings) (text : List ℕ) (number : ℕ) (left before after : Option (List ℕ))
    (stands : DiskScene → Type 0) (x : WatchValue)
    → (h : ObservesOn f text number left before after stands x) → (more : List (List ℕ))
    → HasObserved f (observed_reading_of (measures_of f) (h.read ++ more))
    (observed_from (measures_of f) number more) before after stands x
reads-on f text number left before after stands x h more = record {
  done = h.come.done;
  taken = h.come.taken;
  reading_is = reading-more f text number left before after stands x h more;
  wrote = h.come.wrote;
  left = h.come.left;
  watch = h.come.watch;
}

-- the lines of the text that are left are still read
pub whole-on : (f : Spellings) (text : List ℕ) (number : ℕ) (left before after : Option (List ℕ))
    (stands : DiskScene → Type 0) (x : WatchValue)
    → (h : ObservesOn f text number left before after stands x) → (ls : List (List ℕ))
    → lines_of h.rest ≡ ls
    → HasObserved f (observed_reading (measures_of f) text)
    (observed_from (measures_of f) number ls) before after stands x
whole-on f text number left before after stands x h ls are =
    let m = measures_of f in
    subst (λ xs. HasObserved f (observed_reading_of m xs) (observed_from m number ls) before after
    stands x) (sym (h.lines_are ∙ ap (λ xs. h.read ++ xs) are))
    (reads-on f text number left before after stands x h ls)
