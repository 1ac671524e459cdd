-- The next line of a source, as what is left of its text gives it.
use Rattle.std.proofs.Common.{◌≡◌, ℕ, ◌+◌, ◌<◌, ◌≤◌, true, false, List, [], ◌∷◌, ◌++◌, append_assoc, length, length-append, refl, sym, ap, ◌∙◌, subst, Option, Some, None, Err, arith, Vec, Global}
use Rattle.std.specs.Prelude.{nat_lt}
use Rattle.std.proofs.lemmas.Bool.{ltb-true, false_from_ne_true, lt-ltb}
use Rattle.trace_types.specs.declared.line.LineFault.TheVariants as fault
use Rattle.line_reader.specs.declared.reader.Next.TheVariants as next
use Rattle.line_reader.specs.Lines.{lines_of}
use Rattle.line_reader.specs.Reading.{GivesKnown, text_left}
use Rattle.schedule_text.specs.Reading.{meaning_of}
use Rattle.group_trace.specs.DiskCalls.{Spellings, measures_of}
use Rattle.group_trace.specs.DiskRun.{DiskScene}
use Rattle.schedule_play.specs.OnTheWay.{GoesOn, HasCome}
use Rattle.schedule_play.specs.Reading.{all_read, given_by, reading, reading_from, reading_of, step_or_fault}
use Rattle.schedule_play.proofs.NextSteps.{no-line}
use Rattle.schedule_play.proofs.ReadOn.{reads-on, whole-on}

-- ---- a line

-- a line was given, and the others are left: it is still read among all lines, and with those read
-- before it
pub record LineComes (f : Spellings) (text : List ℕ) (number : ℕ) (line : List ℕ)
    (left before after : Option (List ℕ))
    (stands : DiskScene → Type 0) : Type 0 where
  pub read : List (List ℕ)
  pub bytes : List ℕ
  pub rest : List ℕ
  pub left_is : left ≡ Some rest
  pub text_is : text ≡ bytes ++ rest
  pub lines_are : lines_of text ≡ (read ++ line ∷ []) ++ lines_of rest
  pub number_is : number + 1 ≡ 1 + length (read ++ line ∷ [])
  pub whole : HasCome f (reading (measures_of f) text) (reading_from (measures_of f) number (line ∷ lines_of rest)) before after stands
  pub alone : HasCome f (reading_of (measures_of f) (read ++ line ∷ [])) (reading_from (measures_of f) number (line ∷ [])) before
      after stands

known : (left : Option (List ℕ)) (v : Vec ℕ Global) (text : List ℕ)
    → GivesKnown (Some text) left (next.Line v)
    → (rest : List ℕ) × (left ≡ Some rest) × (lines_of text ≡ v.items ∷ lines_of rest)
    × (taken : List ℕ) × (text ≡ taken ++ rest)
known None v text gives = absurd gives
known (Some rest) v text gives = (rest, refl, gives.0, gives.2, gives.3)

pub line-comes : (f : Spellings) (text : List ℕ) (number : ℕ) (old left before after : Option (List ℕ))
    (stands : DiskScene → Type 0)
    (v : Vec ℕ Global)
    → GoesOn f text number old before after stands → GivesKnown old left (next.Line v)
    → LineComes f text number v.items left before after stands
line-comes f text number old left before after stands v h gives =
    let k = known left v h.rest (subst (λ o. GivesKnown o left (next.Line v)) h.left_is gives) in
    let counted = length-append h.read (v.items ∷ []) in
    let number_is = h.number_is in
    record {
      read = h.read;
      bytes = h.bytes ++ k.3;
      rest = k.0;
      left_is = k.1;
      text_is = h.text_is ∙ ap (λ s. h.bytes ++ s) k.4 ∙ sym (append_assoc h.bytes k.3 k.0);
      lines_are = h.lines_are ∙ ap (λ ls. h.read ++ ls) k.2
          ∙ sym (append_assoc h.read (v.items ∷ []) (lines_of k.0));
      number_is = omega (arith, counted, number_is);
      whole = whole-on f text number old before after stands h (v.items ∷ lines_of k.0) k.2;
      alone = reads-on f text number old before after stands h (v.items ∷ []);
    }

-- at the end no line is left
none_left : (left : Option (List ℕ)) (text : List ℕ) → GivesKnown (Some text) left next.End
    → lines_of text ≡ []
unfolding lines_of
none_left None text gives = absurd gives
none_left (Some rest) text gives = rw gives.0 refl

pub end-comes : (f : Spellings) (text : List ℕ) (number : ℕ) (old left before after : Option (List ℕ))
    (stands : DiskScene → Type 0)
    → GoesOn f text number old before after stands
    → GivesKnown old left next.End → HasCome f (reading (measures_of f) text) (λ w. all_read) before after stands
end-comes f text number old left before after stands h gives =
    no-line f (reading (measures_of f) text) number before after stands
    (whole-on f text number old before after stands h []
    (none_left left h.rest (subst (λ o. GivesKnown o left next.End) h.left_is gives)))

-- nothing is at hand at the end, and the source has nothing left
nothing-left : (held : List ℕ) (source : Option (List ℕ)) (text : List ℕ)
    → GivesKnown (Some text) (text_left held source) next.End → source ≡ Some []
nothing-left held None text gives = absurd gives
nothing-left [] (Some rest) text gives = ap (λ s. Some s) gives.1
nothing-left (b ∷ held) (Some rest) text gives = absurd cc

pub read-out : (f : Spellings) (text : List ℕ) (number : ℕ) (held : List ℕ) (old source before after : Option
    (List ℕ))
    (stands : DiskScene → Type 0) → GoesOn f text number old before after stands
    → GivesKnown old (text_left held source) next.End → source ≡ Some []
read-out f text number held old source before after stands h gives =
    nothing-left held source h.rest (subst (λ o. GivesKnown o (text_left held source) next.End)
    h.left_is gives)

-- a line that is too long is refused
pub record LongComes (f : Spellings) (text : List ℕ) (number : ℕ) (before after : Option (List ℕ))
    (stands : DiskScene → Type 0) : Type 0 where
  pub line : List ℕ
  pub lines : List (List ℕ)
  pub come : HasCome f (reading (measures_of f) text) (reading_from (measures_of f) number (line ∷ lines)) before after stands
  pub long : 20000 < length line

long_first : (left : Option (List ℕ)) (text : List ℕ) → GivesKnown (Some text) left next.TooLong
    → (line : List ℕ) × (lines : List (List ℕ)) × (lines_of text ≡ line ∷ lines)
    × (20000 < length line)
long_first None text gives = absurd gives
long_first (Some rest) text gives = gives.1

pub long-comes : (f : Spellings) (text : List ℕ) (number : ℕ) (old left before after : Option (List ℕ))
    (stands : DiskScene → Type 0)
    → GoesOn f text number old before after stands
    → GivesKnown old left next.TooLong → LongComes f text number before after stands
long-comes f text number old left before after stands h gives =
    let b = long_first left h.rest (subst (λ o. GivesKnown o left next.TooLong) h.left_is gives) in
    record {
      line = b.0;
      lines = b.1;
      come = whole-on f text number old before after stands h (b.0 ∷ b.1) b.2;
      long = b.3;
    }

pub given-long : (number : ℕ) (line : List ℕ) → number ≤ 50000 → 20000 < length line
    → given_by number line ≡ Err fault.TooLong
unfolding given_by
given-long number line few long =
    let within : nat_lt 50000 number ≡ false = false_from_ne_true (nat_lt 50000 number)
    (λ t. absurd (omega (arith, ltb-true 50000 number t))) in
    let past : nat_lt 20000 (length line) ≡ true = lt-ltb 20000 (length line) long in
    rw (within, past) refl

-- every line past the 50,000th is refused
pub given-past : (number : ℕ) (line : List ℕ) → 50000 < number
    → given_by number line ≡ Err fault.TooMany
unfolding given_by
given-past number line past = let many : nat_lt 50000 number
    ≡ true = lt-ltb 50000 number past in rw many refl

-- a line within the limits gives what it means
pub given-short : (number : ℕ) (line : List ℕ) → number ≤ 50000 → length line ≤ 20000
    → given_by number line ≡ step_or_fault (meaning_of line)
unfolding given_by
given-short number line few short =
    let known : nat_lt 50000 number ≡ false = false_from_ne_true (nat_lt 50000 number)
    (λ t. absurd (omega (arith, ltb-true 50000 number t))) in
    let fits : nat_lt 20000 (length line) ≡ false = false_from_ne_true (nat_lt 20000 (length line))
    (λ t. absurd (omega (arith, ltb-true 20000 (length line) t))) in
    rw (known, fits) refl
