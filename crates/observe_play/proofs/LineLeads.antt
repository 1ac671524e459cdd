-- What a line leads to.
use Rattle.std.proofs.Common.{◌≡◌, ℕ, ◌+◌, List, [], ◌∷◌, ◌++◌, refl, sym, ap, ◌∙◌, subst, Option, Some, None, Result, Ok, Err}
use Rattle.std.specs.Prelude.{IfOk, MatchResult}
use Rattle.std.specs.Io.KnownBytes.{Appends, Keeps}
use Rattle.harp_types.specs.Streams.{GrewByPart}
use Rattle.line_reader.specs.Lines.{Feedless, lines_of}
use Rattle.line_reader.specs.Reading.{text_left}
use Rattle.group_trace.specs.DiskCalls.{Spellings, measures_of}
use Rattle.group_trace.specs.DiskRun.{DiskScene}
use Rattle.schedule_play.specs.declared.exit.Stop.{Stop}
use Rattle.schedule_play.specs.declared.exit.Stop.TheVariants as stop
use Rattle.schedule_play.specs.declared.turn.Turn.{Turn}
use Rattle.schedule_play.specs.declared.turn.Turn.TheVariants as turn
use Rattle.schedule_play.specs.Exit.{exit_of}
use Rattle.observe_laws.specs.Reading.{ObservedReading, observed_from, observed_reading, observed_reading_of}
use Rattle.observe_laws.specs.Run.{observed_run}
use Rattle.observe_laws.specs.Scene.{ObservedScene, first_observed}
use Rattle.observe_laws.specs.Trace.{observed_trace, observed_trace_text}
use Rattle.observe_play.specs.Ends.{EndsObserved, ObserveEnds, ObservedSourceFails, StandsAfter, lines_after}
use Rattle.observe_play.specs.OnTheWay.{ObservedLineGives, ObservedStop, ObservedTurn, ObservesOn}
use Rattle.observe_play.specs.Watch.{WatchValue}
use Rattle.observe_play.proofs.NextLines.{LineComes, no-line}
use Rattle.observe_play.proofs.Parts.{grew-now}
use Rattle.observe_play.proofs.ReadOn.{reading-more, taken-all, whole-on}

pub stopped : (f : Spellings) (text : List ℕ) (source before after : Option (List ℕ))
    (stands : DiskScene → Type 0) (s : Stop)
    → ObservedStop f (observed_reading (measures_of f) text) before after stands s
    → ObserveEnds f text source before after stands (exit_of s)
stopped f text source before after stands stop.SourceFailed gives = absurd gives
stopped f text source before after stands stop.SinkFailed gives = gives
stopped f text source before after stands stop.NoMemory gives = gives

-- what was found of a line among all lines, and with those before it
pub turn-line : (f : Spellings) (text : List ℕ) (n : ℕ) (l : List ℕ)
    (source left before mid after : Option (List ℕ)) (old new : DiskScene → Type 0)
    (x y : WatchValue) (c : LineComes f text n l left before mid old x)
    (r : Result Turn Stop)
    → MatchResult r
    (ObservedTurn f (observed_reading (measures_of f) text)
    (observed_from (measures_of f) (n + 1) (lines_of c.rest)) before after new y)
    (ObservedStop f (observed_reading (measures_of f) text) before after new)
    → MatchResult r
    (ObservedTurn f (observed_reading_of (measures_of f) (c.read ++ l ∷ []))
    (observed_from (measures_of f) (n + 1) []) before after new y)
    (ObservedStop f (observed_reading_of (measures_of f) (c.read ++ l ∷ [])) before after new)
    → MatchResult r (ObservedLineGives f text n source left before after new y)
    (λ s. ObserveEnds f text source before after new (exit_of s))
turn-line f text n l source left before mid after old new x y c (Ok turn.GoesOn) whole alone =
    record {
      read = c.read ++ l ∷ [];
      bytes = c.bytes;
      rest = c.rest;
      left_is = c.left_is;
      text_is = c.text_is;
      lines_are = c.lines_are;
      number_is = c.number_is;
      come = no-line f (observed_reading_of (measures_of f) (c.read ++ l ∷ [])) (n + 1) before
          after new y alone;
    }
turn-line f text n l source left before mid after old new x y c (Ok turn.Ended) whole alone =
    absurd whole
turn-line f text n l source left before mid after old new x y c (Ok turn.Refused) whole alone =
    whole
turn-line f text n l source left before mid after old new x y c (Err s) whole alone =
    stopped f text source before after new s whole

-- a last line was written, whatever is left
pub turn-last : (f : Spellings) (text : List ℕ) (number : ℕ)
    (rest : ObservedScene → ObservedReading) (source left before after : Option (List ℕ))
    (stands : DiskScene → Type 0) (x : WatchValue) (r : Result Turn Stop)
    → MatchResult r
    (ObservedTurn f (observed_reading (measures_of f) text) rest before after stands x)
    (ObservedStop f (observed_reading (measures_of f) text) before after stands)
    → IfOk r (λ t. t ≡ turn.Refused)
    → MatchResult r (ObservedLineGives f text number source left before after stands x)
    (λ s. ObserveEnds f text source before after stands (exit_of s))
turn-last f text number rest source left before after stands x (Ok turn.GoesOn) gives last =
    absurd cc
turn-last f text number rest source left before after stands x (Ok turn.Ended) gives last =
    absurd gives
turn-last f text number rest source left before after stands x (Ok turn.Refused) gives last = gives
turn-last f text number rest source left before after stands x (Err s) gives last =
    stopped f text source before after stands s gives

-- the last line at the end of the input was written
pub turn-ended : (f : Spellings) (text : List ℕ) (number : ℕ)
    (source left before after : Option (List ℕ)) (stands : DiskScene → Type 0) (x : WatchValue)
    (r : Result Turn Stop) → source ≡ Some []
    → MatchResult r (λ t. ((observed_reading (measures_of f) text).refused ≡ None)
    × EndsObserved f (observed_reading (measures_of f) text) before after stands)
    (ObservedStop f (observed_reading (measures_of f) text) before after stands)
    → IfOk r (λ t. t ≡ turn.Ended)
    → MatchResult r (ObservedLineGives f text number source left before after stands x)
    (λ s. ObserveEnds f text source before after stands (exit_of s))
turn-ended f text number source left before after stands x (Ok turn.GoesOn) out gives last =
    absurd cc
turn-ended f text number source left before after stands x (Ok turn.Ended) out gives last =
    (out, gives.0, gives.1)
turn-ended f text number source left before after stands x (Ok turn.Refused) out gives last =
    absurd cc
turn-ended f text number source left before after stands x (Err s) out gives last =
    stopped f text source before after stands s gives

-- ---- a source that gives no line

pub grew : (f : Spellings) (text : List ℕ) (number : ℕ) (old before after : Option (List ℕ))
    (stands : DiskScene → Type 0) (x : WatchValue)
    → ObservesOn f text number old before after stands x
    → GrewByPart before after (observed_trace_text (observed_trace (measures_of f) text))
grew f text number old before after stands x h =
    grew-now f (observed_reading (measures_of f) text) _ before after stands x
    (whole-on f text number old before after stands x h (lines_of h.rest) refl)

-- what is at hand and what the source has left is the text that was left
still-left : (held : List ℕ) (source : Option (List ℕ)) (text : List ℕ)
    → Keeps (Some text) (text_left held source)
    → (rest : List ℕ) × (source ≡ Some rest) × (held ++ rest ≡ text)
still-left held None text kept = absurd kept
still-left held (Some rest) text kept = (rest, refl, kept)

pub source-fails : (f : Spellings) (text : List ℕ) (number : ℕ) (held : List ℕ)
    (old source before after : Option (List ℕ)) (stands : DiskScene → Type 0) (x : WatchValue)
    → ObservesOn f text number old before after stands x → Keeps old (text_left held source)
    → Feedless held → ObservedSourceFails f text source before after stands
source-fails f text number held old source before after stands x h kept feedless =
    let m = measures_of f in
    let k = still-left held source h.rest (subst (λ o. Keeps o (text_left held source)) h.left_is
    kept) in
    let all = taken-all f h.read before after stands x h.come in
    let later = (observed_from m number (lines_of h.rest)
    (observed_run m first_observed h.come.done)).steps in
    record {
      read = h.read;
      bytes = h.bytes;
      begun = held;
      rest = k.0;
      source_left = k.1;
      text_is = h.text_is ∙ ap (λ t. h.bytes ++ t) (sym k.2);
      lines_are = h.lines_are ∙ ap (λ t. h.read ++ lines_of t) (sym k.2);
      none_ended = feedless;
      none_refused = all.1;
      wrote = subst (λ ss. Appends before after (observed_trace_text (lines_after f ss)))
          (sym all.0) h.come.wrote;
      left = subst (StandsAfter f stands) (sym all.0) h.come.left;
      later = later;
      parts = ap (λ ls. (observed_reading_of m ls).steps) h.lines_are
          ∙ ap (λ (r : ObservedReading). r.steps)
          (reading-more f text number old before after stands x h (lines_of h.rest))
          ∙ ap (λ ss. ss ++ later) (sym all.0);
    }
