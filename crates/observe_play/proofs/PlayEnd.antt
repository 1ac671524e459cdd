-- The exit of a play that is observed.
use Rattle.std.proofs.Common.{◌≡◌, ◌≢◌, ℕ, List, refl, sym, ap, subst, Option, Some, None, Result, Ok, Err, inl, inr}
use Rattle.std.specs.Prelude.{◌⊎◌, MatchResult}
use Rattle.trace_types.specs.declared.line.LineFault.{LineFault}
use Rattle.group_trace.specs.DiskCalls.{Spellings, measures_of}
use Rattle.group_trace.specs.DiskRun.{DiskScene}
use Rattle.schedule_play.specs.declared.exit.Exit.{Exit}
use Rattle.schedule_play.specs.declared.exit.Exit.TheVariants as exit
use Rattle.schedule_play.specs.declared.exit.Stop.{Stop}
use Rattle.schedule_play.specs.Exit.{exit_of, whole_exit}
use Rattle.schedule_play.proofs.PlayEnd.{IsAfter}
use Rattle.observe_laws.specs.Reading.{observed_reading}
use Rattle.observe_play.specs.Ends.{ObserveEnds}

-- what holds of an exit
pub ends-after : (f : Spellings) (text : List ℕ) (source before after : Option (List ℕ))
    (stands : DiskScene → Type 0) (r : Result Exit Stop) (e : Exit) → IsAfter r e
    → MatchResult r (ObserveEnds f text source before after stands)
    (λ s. ObserveEnds f text source before after stands (exit_of s))
    → ObserveEnds f text source before after stands e
ends-after f text source before after stands (Ok x) e is ends =
    subst (ObserveEnds f text source before after stands) (sym is) ends
ends-after f text source before after stands (Err s) e is ends =
    subst (ObserveEnds f text source before after stands) (sym is) ends

refused_some : (refused : Option (ℕ × LineFault)) → refused ≢ None
    → exit.RefusedLine ≡ whole_exit refused
refused_some None some = absurd (some refl)
refused_some (Some x) some = refl

-- without a fault the whole trace was written, or memory ran out
pub completes : (f : Spellings) (text : List ℕ) (source before after : Option (List ℕ))
    (stands : DiskScene → Type 0) (e : Exit) → ObserveEnds f text source before after stands e
    → (e ≡ exit.SourceFailed → ⊥) → (e ≡ exit.SinkFailed → ⊥)
    → (e ≡ whole_exit (observed_reading (measures_of f) text).refused) ⊎ (e ≡ exit.NoMemory)
completes f text source before after stands exit.Done ends a b = inl (sym (ap whole_exit ends.1))
completes f text source before after stands exit.RefusedLine ends a b =
    inl (refused_some (observed_reading (measures_of f) text).refused ends.0)
completes f text source before after stands exit.SourceFailed ends a b = absurd (a refl)
completes f text source before after stands exit.SinkFailed ends a b = absurd (b refl)
completes f text source before after stands exit.NoMemory ends a b = inr refl
