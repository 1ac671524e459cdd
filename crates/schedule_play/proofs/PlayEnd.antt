-- The exit of a play.
use Rattle.std.proofs.Common.{◌≡◌, ◌≢◌, ℕ, List, refl, sym, ap, ◌∙◌, subst, Option, Some, None, Result, Ok, Err, inl, inr}
use Rattle.std.specs.Prelude.{◌⊎◌, IfOk, MatchResult}
use Rattle.trace_types.specs.declared.line.LineFault.{LineFault}
use Rattle.group_trace.specs.DiskCalls.{Spellings, measures_of}
use Rattle.group_trace.specs.DiskRun.{DiskScene}
use Rattle.schedule_play.specs.declared.exit.Exit.{Exit}
use Rattle.schedule_play.specs.declared.exit.Exit.TheVariants as exit
use Rattle.schedule_play.specs.declared.exit.Stop.{Stop}
use Rattle.schedule_play.specs.declared.exit.Stop.TheVariants as stop
use Rattle.schedule_play.specs.Ends.{PlayEnds}
use Rattle.schedule_play.specs.Exit.{exit_of, whole_exit}
use Rattle.schedule_play.specs.Reading.{reading}

-- the exit after what came
abbrev pub IsAfter : Result Exit Stop → Exit → Type 0
IsAfter r e = MatchResult r (λ x. e ≡ x) (λ s. e ≡ exit_of s)

-- what holds of an exit
pub ends-after : (f : Spellings) (text : List ℕ) (source before after : Option (List ℕ))
    (stands : DiskScene → Type 0) (r : Result Exit Stop) (e : Exit) → IsAfter r e
    → MatchResult r (PlayEnds f text source before after stands)
    (λ s. PlayEnds f text source before after stands (exit_of s))
    → PlayEnds f text source before after stands e
ends-after f text source before after stands (Ok x) e is ends =
    subst (PlayEnds f text source before after stands) (sym is) ends
ends-after f text source before after stands (Err s) e is ends =
    subst (PlayEnds f text source before after stands) (sym is) ends

-- a play that isn't stopped ends whole
abbrev pub EndsWithALine : Result Exit Stop → Type 0
EndsWithALine r = IfOk r (λ x. (x ≡ exit.Done) ⊎ (x ≡ exit.RefusedLine))

done_or_refused : (x y : Exit) → (x ≡ exit.Done) ⊎ (x ≡ exit.RefusedLine) → y ≢ exit.Done
    → y ≢ exit.RefusedLine → x ≢ y
done_or_refused x y (inl done) a b same = a (sym same ∙ done)
done_or_refused x y (inr refused) a b same = b (sym same ∙ refused)

pub source-caused : (X : Type 0) (r : Result Exit Stop) (e : Exit) → IsAfter r e → EndsWithALine r
    → (r ≡ Err stop.SourceFailed → X) → e ≡ exit.SourceFailed → X
source-caused X (Ok x) e is whole caused failed =
    absurd (done_or_refused x exit.SourceFailed whole (λ z. absurd cc) (λ z. absurd cc)
    (sym is ∙ failed))
source-caused X (Err stop.SourceFailed) e is whole caused failed = caused refl
source-caused X (Err stop.SinkFailed) e is whole caused failed = absurd cc
source-caused X (Err stop.NoMemory) e is whole caused failed = absurd cc

pub sink-caused : (X : Type 0) (r : Result Exit Stop) (e : Exit) → IsAfter r e → EndsWithALine r
    → (r ≡ Err stop.SinkFailed → X) → e ≡ exit.SinkFailed → X
sink-caused X (Ok x) e is whole caused failed =
    absurd (done_or_refused x exit.SinkFailed whole (λ z. absurd cc) (λ z. absurd cc)
    (sym is ∙ failed))
sink-caused X (Err stop.SourceFailed) e is whole caused failed = absurd cc
sink-caused X (Err stop.SinkFailed) e is whole caused failed = caused refl
sink-caused X (Err stop.NoMemory) e is whole caused failed = absurd cc

-- ---- completeness

refused_some : (refused : Option (ℕ × LineFault)) → refused ≢ None
    → exit.RefusedLine ≡ whole_exit refused
refused_some None some = absurd (some refl)
refused_some (Some x) some = refl

-- without a fault the whole trace was written, or memory ran out
pub completes : (f : Spellings) (text : List ℕ) (source before after : Option (List ℕ))
    (stands : DiskScene → Type 0) (e : Exit) → PlayEnds f text source before after stands e
    → (e ≡ exit.SourceFailed → ⊥) → (e ≡ exit.SinkFailed → ⊥)
    → (e ≡ whole_exit (reading (measures_of f) text).refused) ⊎ (e ≡ exit.NoMemory)
completes f text source before after stands exit.Done ends a b = inl (sym (ap whole_exit ends.1))
completes f text source before after stands exit.RefusedLine ends a b =
    inl (refused_some (reading (measures_of f) text).refused ends.0)
completes f text source before after stands exit.SourceFailed ends a b = absurd (a refl)
completes f text source before after stands exit.SinkFailed ends a b = absurd (b refl)
completes f text source before after stands exit.NoMemory ends a b = inr refl
