-- Where the play of an observed schedule stands on its way through what is read.
use Rattle.std.specs.Prelude.{◌≡◌, ◌≢◌, ℕ, ◌+◌, List, [], ◌∷◌, ◌++◌, length, map, Option, Some}
use Rattle.std.specs.Prelude.{MatchResult, None, Result, IfSome}
use Rattle.std.specs.Io.KnownBytes.{Appends}
use Rattle.harp_types.specs.Streams.{GrewByPart}
use Rattle.harp_types.specs.declared.server.ServerId.{ServerId}
use Rattle.line_reader.specs.Lines.{lines_of}
use Rattle.trace_types.specs.declared.step.Step.{Step}
use Rattle.group_trace.specs.Pump.{deliveries}
use Rattle.group_trace.specs.Scene.{Measures}
use Rattle.group_trace.specs.DiskCalls.{Spellings, measures_of}
use Rattle.group_trace.specs.DiskRun.{DiskScene}
use Rattle.schedule_play.specs.Stage.{IsReached, fault_of}
use Rattle.schedule_play.specs.declared.exit.Exit.TheVariants as exit
use Rattle.schedule_play.specs.declared.exit.Stop.{Stop}
use Rattle.schedule_play.specs.declared.exit.Stop.TheVariants as stop
use Rattle.schedule_play.specs.declared.refusal.Refusal.{Refusal}
use Rattle.schedule_play.specs.declared.turn.Turn.{Turn}
use Rattle.schedule_play.specs.declared.turn.Turn.TheVariants as turn
use Rattle.observed_text.specs.declared.line.ObservedLine.{ObservedLine}
use Rattle.observed_text.specs.declared.step.Act.{Act}
use Rattle.observed_text.specs.declared.step.ObservedStep.{ObservedStep}
use Rattle.observed_text.specs.declared.step.ObservedStep.TheVariants as observed
use Rattle.observe_laws.specs.Reading.{ObservedReading, all_observed, observed_reading_of}
use Rattle.observe_laws.specs.Reading.{then_observed, with_observed}
use Rattle.observe_laws.specs.Run.{AreObserved, act_refusal, drained, observed_run}
use Rattle.observe_laws.specs.Scene.{ObservedScene, first_observed}
use Rattle.observe_laws.specs.Trace.{observed_trace_of, observed_trace_text}
use Rattle.observe_play.specs.Ends.{EndsObserved, ObserveEnds, ObservedSinkFails, StandsAfter}
use Rattle.observe_play.specs.Ends.{lines_after}
use Rattle.observe_play.specs.Watch.{IsDone, StandsAt, WatchValue}

-- A play has taken some steps of all that is read and written their lines, and this is what is
-- still read where they led. The observer is the one of there
pub record HasObserved (f : Spellings) (all : ObservedReading)
    (rest : ObservedScene → ObservedReading) (before after : Option (List ℕ))
    (stands : DiskScene → Type 0) (x : WatchValue) : Type 0 where
  pub done : List ObservedStep
  pub taken : AreObserved (measures_of f) first_observed done
  pub reading_is : all
      ≡ then_observed done (rest (observed_run (measures_of f) first_observed done))
  pub wrote : Appends before after (observed_trace_text (lines_after f done))
  pub left : StandsAfter f stands done
  pub watch : StandsAt (observed_run (measures_of f) first_observed done) x

-- ---- what is still read of a line

-- a step of a schedule, and no pump
abbrev pub with_played : Measures → ℕ → Step → (ObservedScene → ObservedReading)
    → ObservedScene → ObservedReading
with_played m number s rest w = with_observed m number (observed.Played s ∷ []) rest w

-- at most so many deliveries of the pump of the line with this number are still to come
abbrev pub with_deliveries : Measures → ℕ → ℕ → Option (ServerId × ServerId)
    → (ObservedScene → ObservedReading) → ObservedScene → ObservedReading
with_deliveries m number most among rest w =
    with_observed m number (map observed.Played (deliveries m most among w.scene)) rest w

-- an act, and no drain
abbrev pub with_act : Measures → ℕ → Act → (ObservedScene → ObservedReading) → ObservedScene
    → ObservedReading
with_act m number a rest w = with_observed m number (observed.Acted a ∷ []) rest w

-- at most so many wants and takes of the drain of the line with this number are still to come
abbrev pub with_drain : Measures → ℕ → ℕ → ServerId → (ObservedScene → ObservedReading)
    → ObservedScene → ObservedReading
with_drain m number most server rest w =
    with_observed m number (map observed.Acted (drained m most server w)) rest w

-- ---- what a line leads to

-- after a turn the play has come to the rest, or a line is refused; no step ends the input
abbrev pub ObservedTurn : Spellings → ObservedReading → (ObservedScene → ObservedReading)
    → Option (List ℕ) → Option (List ℕ) → (DiskScene → Type 0) → WatchValue → Turn → Type 0
ObservedTurn f all rest before after stands x turn.GoesOn =
    HasObserved f all rest before after stands x
ObservedTurn f all rest before after stands x turn.Ended = ⊥
ObservedTurn f all rest before after stands x turn.Refused =
    (all.refused ≢ None) × EndsObserved f all before after stands

-- what stands after a stop that isn't the source's
abbrev pub ObservedStop : Spellings → ObservedReading → Option (List ℕ) → Option (List ℕ)
    → (DiskScene → Type 0) → Stop → Type 0
ObservedStop f all before after stands stop.SourceFailed = ⊥
ObservedStop f all before after stands stop.SinkFailed =
    ObservedSinkFails f all before after stands
ObservedStop f all before after stands stop.NoMemory =
    GrewByPart before after (observed_trace_text (observed_trace_of (measures_of f) all))

-- where a play had come to what is still read, these are its turn and its stop
abbrev pub LeadsOn : Spellings
    → ((ObservedScene → ObservedReading) → ObservedScene → ObservedReading)
    → (old new : DiskScene → Type 0) → (sink_old sink_new : Option (List ℕ))
    → (watch_old watch_new : WatchValue) → Result Turn Stop → Type 0
LeadsOn f first old new sink_old sink_new watch_old watch_new result =
    (all : ObservedReading) (rest : ObservedScene → ObservedReading) (before : Option (List ℕ))
    → HasObserved f all (first rest) before sink_old old watch_old
    → MatchResult result (ObservedTurn f all rest before sink_new new watch_new)
    (ObservedStop f all before sink_new new)

-- where one want of a drain leads: to what more is read of it, if something was shown and taken,
-- or with a turn past the drain
abbrev pub DrainTurn : Spellings → ObservedReading → (more rest : ObservedScene → ObservedReading)
    → Option (List ℕ) → Option (List ℕ) → (DiskScene → Type 0) → WatchValue → Option Turn → Type 0
DrainTurn f all more rest before after stands x None =
    HasObserved f all more before after stands x
DrainTurn f all more rest before after stands x (Some turn) =
    ObservedTurn f all rest before after stands x turn

-- ---- an act

-- in each scene that is reached, at which world and observer stand, an act is done, and the world
-- stands there still
abbrev pub Makes : Spellings → (old new : DiskScene → Type 0) → (watch_old watch_new : WatchValue)
    → Act → Option ObservedLine → Type 0
Makes f old new watch_old watch_new a given =
    (w : DiskScene) (o : ObservedScene) → o.scene ≡ w.scene → IsReached f w → old w
    → StandsAt o watch_old → IsDone (measures_of f) o a given watch_new × new w

-- an act is refused in an observed scene for just this reason, if it isn't want of memory
abbrev pub RefusesAct : (old : DiskScene → Type 0) → WatchValue → Act → Refusal → Type 0
RefusesAct old watch_old a why =
    (w : DiskScene) (o : ObservedScene) → o.scene ≡ w.scene → old w
    → StandsAt o watch_old → IfSome (fault_of why) (λ fault. act_refusal o a ≡ Some fault)

-- ---- the lines of a source

-- the text is the bytes of some lines that were read and what is left; no line that was read is
-- refused, and the play has taken their steps
pub record ObservesOn (f : Spellings) (text : List ℕ) (number : ℕ)
    (left before after : Option (List ℕ)) (stands : DiskScene → Type 0) (x : WatchValue)
    : Type 0 where
  pub read : List (List ℕ)
  pub bytes : List ℕ
  pub rest : List ℕ
  pub left_is : left ≡ Some rest
  pub text_is : text ≡ bytes ++ rest
  pub lines_are : lines_of text ≡ read ++ lines_of rest
  pub number_is : number ≡ 1 + length read
  pub come : HasObserved f (observed_reading_of (measures_of f) read) (λ w. all_observed) before
      after stands x

-- what the line with this number leads to
abbrev pub ObservedLineGives : Spellings → List ℕ → ℕ → Option (List ℕ) → Option (List ℕ)
    → Option (List ℕ) → Option (List ℕ) → (DiskScene → Type 0) → WatchValue → Turn → Type 0
ObservedLineGives f text number source left before after stands x turn.GoesOn =
    ObservesOn f text (number + 1) left before after stands x
ObservedLineGives f text number source left before after stands x turn.Ended =
    ObserveEnds f text source before after stands exit.Done
ObservedLineGives f text number source left before after stands x turn.Refused =
    ObserveEnds f text source before after stands exit.RefusedLine
