-- What a line leads to.
use Rattle.std.proofs.Common.{◌≡◌, ℕ, ◌+◌, List, [], ◌∷◌, ◌++◌, refl, sym, ap, ◌∙◌, subst, Option, Some, None, Result, Ok, Err}
use Rattle.std.specs.Prelude.{IfOk, MatchResult}
use Rattle.std.specs.Io.KnownBytes.{Appends, Keeps}
use Rattle.harp_types.specs.Streams.{GrewByPart}
use Rattle.line_reader.specs.Lines.{Feedless, lines_of}
use Rattle.line_reader.specs.Reading.{text_left}
use Rattle.group_trace.specs.Run.{run, run_lines}
use Rattle.group_trace.specs.Scene.{Scene, first_scene}
use Rattle.group_trace.specs.DiskCalls.{Spellings, measures_of}
use Rattle.group_trace.specs.DiskRun.{DiskScene, disk_run, first_disk_scene}
use Rattle.schedule_play.specs.declared.exit.Stop.{Stop}
use Rattle.schedule_play.specs.declared.exit.Stop.TheVariants as stop
use Rattle.schedule_play.specs.declared.turn.Turn.{Turn}
use Rattle.schedule_play.specs.declared.turn.Turn.TheVariants as turn
use Rattle.schedule_play.specs.Ends.{PlayEnds, SourceFails}
use Rattle.schedule_play.specs.Exit.{exit_of}
use Rattle.schedule_play.specs.OnTheWay.{GoesOn, LineGives, StopGives, TurnGives}
use Rattle.schedule_play.specs.Reading.{Reading, reading, reading_from, reading_of}
use Rattle.schedule_play.specs.Trace.{trace_of, trace_text}
use Rattle.schedule_play.proofs.NextLines.{LineComes}
use Rattle.schedule_play.proofs.NextSteps.{no-line}
use Rattle.schedule_play.proofs.Parts.{grew-now}
use Rattle.schedule_play.proofs.ReadOn.{reading-more, taken-all, whole-on}

pub stopped : (f : Spellings) (text : List ℕ) (source before after : Option (List ℕ)) (stands : DiskScene → Type 0)
    (s : Stop)
    → StopGives f (reading (measures_of f) text) before after stands s
    → PlayEnds f text source before after stands (exit_of s)
stopped f text source before after stands stop.SourceFailed gives = absurd gives
stopped f text source before after stands stop.SinkFailed gives = gives
stopped f text source before after stands stop.NoMemory gives = gives

-- What was found of a line among all lines, and with those before it
pub turn-line : (f : Spellings) (text : List ℕ) (number : ℕ) (line : List ℕ) (source left before mid after : Option
    (List ℕ))
    (stands new : DiskScene → Type 0) (c : LineComes f text number line left before mid stands)
    (r : Result Turn Stop)
    → MatchResult r (TurnGives f (reading (measures_of f) text) (reading_from (measures_of f) (number + 1) (lines_of c.rest)) before
    after new)
    (StopGives f (reading (measures_of f) text) before after new)
    → MatchResult r (TurnGives f (reading_of (measures_of f) (c.read ++ line ∷ [])) (reading_from (measures_of f) (number + 1) [])
    before after new)
    (StopGives f (reading_of (measures_of f) (c.read ++ line ∷ [])) before after new)
    → MatchResult r (LineGives f text number source left before after new)
    (λ s. PlayEnds f text source before after new (exit_of s))
turn-line f text number line source left before mid after stands new c (Ok turn.GoesOn) whole alone =
    record {
      read = c.read ++ line ∷ [];
      bytes = c.bytes;
      rest = c.rest;
      left_is = c.left_is;
      text_is = c.text_is;
      lines_are = c.lines_are;
      number_is = c.number_is;
      come = no-line f (reading_of (measures_of f) (c.read ++ line ∷ [])) (number + 1) before after new alone;
    }
turn-line f text number line source left before mid after stands new c (Ok turn.Ended) whole alone =
    absurd whole
turn-line f text number line source left before mid after stands new c (Ok turn.Refused) whole alone =
    whole
turn-line f text number line source left before mid after stands new c (Err s) whole alone =
    stopped f text source before after new s whole

-- a last line was written, whatever is left
pub turn-last : (f : Spellings) (text : List ℕ) (number : ℕ) (rest : Scene
    → Reading) (source left before after : Option (List ℕ))
    (stands : DiskScene → Type 0) (r : Result Turn Stop)
    → MatchResult r (TurnGives f (reading (measures_of f) text) rest before after stands)
    (StopGives f (reading (measures_of f) text) before after stands)
    → IfOk r (λ t. t ≡ turn.Refused)
    → MatchResult r (LineGives f text number source left before after stands)
    (λ s. PlayEnds f text source before after stands (exit_of s))
turn-last f text number rest source left before after stands (Ok turn.GoesOn) gives last = absurd cc
turn-last f text number rest source left before after stands (Ok turn.Ended) gives last = absurd gives
turn-last f text number rest source left before after stands (Ok turn.Refused) gives last = gives
turn-last f text number rest source left before after stands (Err s) gives last =
    stopped f text source before after stands s gives

-- ---- a source that gives no line

pub grew : (f : Spellings) (text : List ℕ) (number : ℕ) (old before after : Option (List ℕ)) (stands : DiskScene → Type 0)
    → GoesOn f text number old before after stands
    → GrewByPart before after (trace_text (trace_of (measures_of f) text))
grew f text number old before after stands h =
    grew-now f (reading (measures_of f) text) _ before after stands (whole-on f text number old before after stands h
    (lines_of h.rest) refl)

-- what is at hand and what the source has left is the text that was left
still-left : (held : List ℕ) (source : Option (List ℕ)) (text : List ℕ)
    → Keeps (Some text) (text_left held source)
    → (rest : List ℕ) × (source ≡ Some rest) × (held ++ rest ≡ text)
still-left held None text kept = absurd kept
still-left held (Some rest) text kept = (rest, refl, kept)

pub source-fails : (f : Spellings) (text : List ℕ) (number : ℕ) (held : List ℕ) (old source before after : Option
    (List ℕ))
    (stands : DiskScene → Type 0) → GoesOn f text number old before after stands
    → Keeps old (text_left held source)
    → Feedless held → SourceFails f text source before after stands
source-fails f text number held old source before after stands h kept feedless =
    let k = still-left held source h.rest (subst (λ o. Keeps o (text_left held source)) h.left_is
    kept) in
    let all = taken-all f h.read before after stands h.come in
    let later = (reading_from (measures_of f) number (lines_of h.rest) (run (measures_of f) first_scene h.come.done)).steps in
    record {
      read = h.read;
      bytes = h.bytes;
      begun = held;
      rest = k.0;
      source_left = k.1;
      text_is = h.text_is ∙ ap (λ t. h.bytes ++ t) (sym k.2);
      lines_are = h.lines_are ∙ ap (λ t. h.read ++ lines_of t) (sym k.2);
      none_ended = feedless;
      none_refused = all.1;
      wrote = subst (λ ss. Appends before after (trace_text (run_lines (measures_of f) first_scene ss)))
          (sym all.0) h.come.wrote;
      left = subst (λ ss. stands (disk_run f first_disk_scene ss)) (sym all.0) h.come.left;
      later = later;
      parts = ap (λ ls. (reading_of (measures_of f) ls).steps) h.lines_are
          ∙ ap (λ (r : Reading). r.steps) (reading-more f text number old before after stands h
          (lines_of h.rest))
          ∙ ap (λ ss. ss ++ later) (sym all.0);
    }
