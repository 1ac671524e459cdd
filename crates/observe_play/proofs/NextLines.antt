-- The next line of a source, as what is left of its text gives it.
use Rattle.std.proofs.Common.{◌≡◌, ℕ, ◌+◌, ◌<◌, ◌≤◌, true, false, List, [], ◌∷◌, ◌++◌, append_assoc, length, length-append, refl, sym, ap, ◌∙◌, subst, Option, Some, None, Result, Ok, Err, arith, inl, inr, Vec, Global}
use Rattle.std.specs.Prelude.{nat_lt}
use Rattle.std.proofs.lemmas.Bool.{cases_lt, ltb-true, false_from_ne_true, lt-ltb}
use Rattle.trace_types.specs.declared.line.LineFault.{LineFault}
use Rattle.trace_types.specs.declared.line.LineFault.TheVariants as fault
use Rattle.line_reader.specs.declared.reader.Next.TheVariants as next
use Rattle.line_reader.specs.Lines.{lines_of}
use Rattle.line_reader.specs.Reading.{GivesKnown, text_left}
use Rattle.group_trace.specs.DiskCalls.{Spellings, measures_of}
use Rattle.group_trace.specs.DiskRun.{DiskScene}
use Rattle.schedule_play.specs.Reading.{given_by}
use Rattle.schedule_play.proofs.NextLines as schedule
use Rattle.observed_text.specs.declared.step.ObservedStep.{ObservedStep}
use Rattle.observed_text.specs.Reading.{observed_meaning}
use Rattle.observe_laws.specs.Reading.{ObservedReading, all_observed, observed_by, observed_from, observed_or_fault, observed_reading, observed_reading_of, observed_refused_at, with_observed_given}
use Rattle.observe_laws.specs.Run.{observed_run}
use Rattle.observe_laws.specs.Scene.{ObservedScene, first_observed}
use Rattle.observe_play.specs.OnTheWay.{HasObserved, ObservesOn}
use Rattle.observe_play.specs.Watch.{WatchValue}
use Rattle.observe_play.proofs.Parts.{comes}
use Rattle.observe_play.proofs.ReadOn.{reads-on, whole-on}

-- ---- what is still read of the next line, or without one

pub next-line : (f : Spellings) (all : ObservedReading) (number : ℕ) (line : List ℕ)
    (lines : List (List ℕ)) (before mid : Option (List ℕ)) (stands : DiskScene → Type 0)
    (x : WatchValue)
    → HasObserved f all (observed_from (measures_of f) number (line ∷ lines)) before mid stands x
    → HasObserved f all (with_observed_given (measures_of f) number (observed_by number line)
    (observed_from (measures_of f) (number + 1) lines)) before mid stands x
unfolding observed_from
next-line f all number line lines before mid stands x h =
    comes f all _ _ before mid stands x h refl

pub no-line : (f : Spellings) (all : ObservedReading) (number : ℕ) (before mid : Option (List ℕ))
    (stands : DiskScene → Type 0) (x : WatchValue)
    → HasObserved f all (observed_from (measures_of f) number []) before mid stands x
    → HasObserved f all (λ w. all_observed) before mid stands x
unfolding observed_from
no-line f all number before mid stands x h = comes f all _ _ before mid stands x h refl

-- ---- what a line gave

pub gave-nothing : (f : Spellings) (all : ObservedReading) (number : ℕ)
    (given : Result (Option ObservedStep) LineFault) (rest : ObservedScene → ObservedReading)
    (before mid : Option (List ℕ)) (stands : DiskScene → Type 0) (x : WatchValue)
    → HasObserved f all (with_observed_given (measures_of f) number given rest) before mid stands x
    → given ≡ Ok None → HasObserved f all rest before mid stands x
gave-nothing f all number given rest before mid stands x h is =
    let m = measures_of f in
    comes f all (with_observed_given m number given rest) rest before mid stands x h
    (ap (λ g. with_observed_given m number g rest (observed_run m first_observed h.done)) is)

pub gave-fault : (f : Spellings) (all : ObservedReading) (number : ℕ)
    (given : Result (Option ObservedStep) LineFault) (fault : LineFault)
    (rest : ObservedScene → ObservedReading) (before mid : Option (List ℕ))
    (stands : DiskScene → Type 0) (x : WatchValue)
    → HasObserved f all (with_observed_given (measures_of f) number given rest) before mid stands x
    → given ≡ Err fault
    → HasObserved f all (λ w. observed_refused_at number fault) before mid stands x
gave-fault f all number given fault rest before mid stands x h is =
    let m = measures_of f in
    comes f all (with_observed_given m number given rest) (λ w. observed_refused_at number fault)
    before mid stands x h
    (ap (λ g. with_observed_given m number g rest (observed_run m first_observed h.done)) is)

-- ---- a line

-- a line was given, and the others are left: it is still read among all lines, and with those read
-- before it
pub record LineComes (f : Spellings) (text : List ℕ) (number : ℕ) (line : List ℕ)
    (left before after : Option (List ℕ)) (stands : DiskScene → Type 0) (x : WatchValue)
    : Type 0 where
  pub read : List (List ℕ)
  pub bytes : List ℕ
  pub rest : List ℕ
  pub left_is : left ≡ Some rest
  pub text_is : text ≡ bytes ++ rest
  pub lines_are : lines_of text ≡ (read ++ line ∷ []) ++ lines_of rest
  pub number_is : number + 1 ≡ 1 + length (read ++ line ∷ [])
  pub whole : HasObserved f (observed_reading (measures_of f) text)
      (observed_from (measures_of f) number (line ∷ lines_of rest)) before after stands x
  pub alone : HasObserved f (observed_reading_of (measures_of f) (read ++ line ∷ []))
      (observed_from (measures_of f) number (line ∷ [])) before after stands x

known : (left : Option (List ℕ)) (v : Vec ℕ Global) (text : List ℕ)
    → GivesKnown (Some text) left (next.Line v)
    → (rest : List ℕ) × (left ≡ Some rest) × (lines_of text ≡ v.items ∷ lines_of rest)
    × (taken : List ℕ) × (text ≡ taken ++ rest)
known None v text gives = absurd gives
known (Some rest) v text gives = (rest, refl, gives.0, gives.2, gives.3)

pub line-comes : (f : Spellings) (text : List ℕ) (number : ℕ)
    (old left before after : Option (List ℕ)) (stands : DiskScene → Type 0) (x : WatchValue)
    (v : Vec ℕ Global)
    → ObservesOn f text number old before after stands x → GivesKnown old left (next.Line v)
    → LineComes f text number v.items left before after stands x
line-comes f text number old left before after stands x v h gives =
    let k = known left v h.rest (subst (λ o. GivesKnown o left (next.Line v)) h.left_is gives) in
    let counted = length-append h.read (v.items ∷ []) in
    let number_is = h.number_is in
    record {
      read = h.read;
      bytes = h.bytes ++ k.3;
      rest = k.0;
      left_is = k.1;
      text_is = h.text_is ∙ ap (λ s. h.bytes ++ s) k.4 ∙ sym (append_assoc h.bytes k.3 k.0);
      lines_are = h.lines_are ∙ ap (λ ls. h.read ++ ls) k.2
          ∙ sym (append_assoc h.read (v.items ∷ []) (lines_of k.0));
      number_is = omega (arith, counted, number_is);
      whole = whole-on f text number old before after stands x h (v.items ∷ lines_of k.0) k.2;
      alone = reads-on f text number old before after stands x h (v.items ∷ []);
    }

-- ---- the end

-- at the end no line is left
none_left : (left : Option (List ℕ)) (text : List ℕ) → GivesKnown (Some text) left next.End
    → lines_of text ≡ []
unfolding lines_of
none_left None text gives = absurd gives
none_left (Some rest) text gives = rw gives.0 refl

pub end-comes : (f : Spellings) (text : List ℕ) (number : ℕ)
    (old left before after : Option (List ℕ)) (stands : DiskScene → Type 0) (x : WatchValue)
    → ObservesOn f text number old before after stands x → GivesKnown old left next.End
    → HasObserved f (observed_reading (measures_of f) text) (λ w. all_observed) before after
    stands x
end-comes f text number old left before after stands x h gives =
    no-line f (observed_reading (measures_of f) text) number before after stands x
    (whole-on f text number old before after stands x h []
    (none_left left h.rest (subst (λ o. GivesKnown o left next.End) h.left_is gives)))

-- nothing is at hand at the end, and the source has nothing left
nothing-left : (held : List ℕ) (source : Option (List ℕ)) (text : List ℕ)
    → GivesKnown (Some text) (text_left held source) next.End → source ≡ Some []
nothing-left held None text gives = absurd gives
nothing-left [] (Some rest) text gives = ap (λ s. Some s) gives.1
nothing-left (b ∷ held) (Some rest) text gives = absurd cc

pub read-out : (f : Spellings) (text : List ℕ) (number : ℕ) (held : List ℕ)
    (old source before after : Option (List ℕ)) (stands : DiskScene → Type 0) (x : WatchValue)
    → ObservesOn f text number old before after stands x
    → GivesKnown old (text_left held source) next.End → source ≡ Some []
read-out f text number held old source before after stands x h gives =
    nothing-left held source h.rest (subst (λ o. GivesKnown o (text_left held source) next.End)
    h.left_is gives)

-- ---- a line that is too long

-- it is refused
pub record LongComes (f : Spellings) (text : List ℕ) (number : ℕ) (before after : Option (List ℕ))
    (stands : DiskScene → Type 0) (x : WatchValue) : Type 0 where
  pub line : List ℕ
  pub lines : List (List ℕ)
  pub come : HasObserved f (observed_reading (measures_of f) text)
      (observed_from (measures_of f) number (line ∷ lines)) before after stands x
  pub long : 20000 < length line

long_first : (left : Option (List ℕ)) (text : List ℕ) → GivesKnown (Some text) left next.TooLong
    → (line : List ℕ) × (lines : List (List ℕ)) × (lines_of text ≡ line ∷ lines)
    × (20000 < length line)
long_first None text gives = absurd gives
long_first (Some rest) text gives = gives.1

pub long-comes : (f : Spellings) (text : List ℕ) (number : ℕ)
    (old left before after : Option (List ℕ)) (stands : DiskScene → Type 0) (x : WatchValue)
    → ObservesOn f text number old before after stands x → GivesKnown old left next.TooLong
    → LongComes f text number before after stands x
long-comes f text number old left before after stands x h gives =
    let b = long_first left h.rest (subst (λ o. GivesKnown o left next.TooLong) h.left_is gives) in
    record {
      line = b.0;
      lines = b.1;
      come = whole-on f text number old before after stands x h (b.0 ∷ b.1) b.2;
      long = b.3;
    }

-- ---- what a line gives by its number and its length

few_lines : (number : ℕ) → number ≤ 50000 → nat_lt 50000 number ≡ false
few_lines number few =
    false_from_ne_true (nat_lt 50000 number)
    (λ t. absurd (omega (arith, few, ltb-true 50000 number t)))

pub given-long : (number : ℕ) (line : List ℕ) → number ≤ 50000 → 20000 < length line
    → observed_by number line ≡ Err fault.TooLong
unfolding observed_by
given-long number line few long =
    let past : nat_lt 20000 (length line) ≡ true = lt-ltb 20000 (length line) long in
    rw (few_lines number few, past) refl

-- every line past the 50,000th is refused
pub given-past : (number : ℕ) (line : List ℕ) → 50000 < number
    → observed_by number line ≡ Err fault.TooMany
unfolding observed_by
given-past number line past =
    let many : nat_lt 50000 number ≡ true = lt-ltb 50000 number past in
    rw many refl

-- a line within the limits gives what it means
pub given-short : (number : ℕ) (line : List ℕ) → number ≤ 50000 → length line ≤ 20000
    → observed_by number line ≡ observed_or_fault (observed_meaning line)
unfolding observed_by
given-short number line few short =
    let fits : nat_lt 20000 (length line) ≡ false = false_from_ne_true (nat_lt 20000 (length line))
    (λ t. absurd (omega (arith, short, ltb-true 20000 (length line) t))) in
    rw (few_lines number few, fits) refl

same_fault : {Y : Type 0} (a b : LineFault) → ◌≡◌ {A = Result Y LineFault} (Err a) (Err b) → a ≡ b
same_fault a b is = cc

-- a line that is too long is refused for the same reason as one of a schedule
pub long-alike : (number : ℕ) (line : List ℕ) (why : LineFault) → 20000 < length line
    → given_by number line ≡ Err why → observed_by number line ≡ Err why
long-alike number line why long is = elim (cases_lt 50000 number) [
  | inl past ↦ given-past number line past
      ∙ ap Err (same_fault fault.TooMany why (sym (schedule.given-past number line past) ∙ is))
  | inr few ↦ given-long number line few long
      ∙ ap Err (same_fault fault.TooLong why (sym (schedule.given-long number line few long) ∙ is))
]
