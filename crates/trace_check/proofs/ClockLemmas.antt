-- What is kept of clocks, as a trace grows.
use Rattle.std.proofs.Common.{◌≡◌, ℕ, ◌+◌, ◌≤◌, Bool, true, false, ◌∷◌, ◌++◌, [], Option, Some, None, refl, sym, ap, ◌∙◌, arith}
use Rattle.std.specs.Prelude.{min}
use Rattle.std.specs.Bool.{if◌then◌else◌}
use Rattle.std.proofs.lemmas.List.Sums.{fold_push}
use Rattle.harp_types.specs.Trio.{value_of, with_value}
use Rattle.harp_types.specs.declared.server.ServerId.{ServerId}
use Rattle.trace_types.specs.declared.step.Step.TheVariants as step
use Rattle.trace_types.specs.declared.line.Line.{Line}
use Rattle.trace_types.specs.declared.line.Line.TheVariants as line
use Rattle.trace_claims.specs.Trace.{Trace}
use Rattle.harp_types.specs.Server.{same_server}
use Rattle.trace_claims.specs.Servers.{clock_after, clock_next}
use Rattle.trace_check.specs.Readings.{clock_told}
use Rattle.trace_check.specs.ClocksRead.{last_moment, AreClocksOf}
use Rattle.trace_check.specs.declared.clocks.Clocks.{Clocks}
use Rattle.trace_check.specs.declared.readings.ClockTold.{ClockTold}
use Rattle.trace_check.specs.declared.readings.ClockTold.TheVariants as clock
use Rattle.trace_check.proofs.ServerLemmas.{value_with}

abbrev told_clock : ServerId → ℕ → Option ClockTold → ℕ
told_clock s before None = before
told_clock s before (Some (clock.Set server reading)) = if same_server server s then reading else
    before
told_clock s before (Some (clock.Advanced millis)) = before + millis

next_by_told : (s : ServerId) (before : ℕ) (l : Line)
    → clock_next s before l ≡ told_clock s before (clock_told l)
next_by_told s before (line.Event (step.Clock server reading)) = refl
next_by_told s before (line.Event (step.Advance millis)) = refl
next_by_told s before l = refl

clock_push : (t : Trace) (l : Line) (s : ServerId) → clock_after (t ++ l ∷ []) s
    ≡ told_clock s (clock_after t s) (clock_told l)
clock_push t l s = fold_push (clock_next s) 0 t l ∙ next_by_told s (clock_after t s) l

set_min : (b : Bool) (x y m r : ℕ) → r ≡ x → x ≡ min x m → (if b then x else min y m)
    ≡ min (if b then r else y) m
set_min true x y m r e h = h ∙ ap (λ n. min n m) (sym e)
set_min false x y m r e h = refl

pub sets_clock : (old new : Clocks) (before : Trace) (l : Line) (server : ServerId) (reading : ℕ)
    → AreClocksOf old before → clock_told l ≡ Some (clock.Set server reading)
    → reading ≤ last_moment → new ≡ record { readings = with_value old.readings server reading }
    → AreClocksOf new (before ++ l ∷ [])
sets_clock old new before l server reading a told le is s =
    ap (λ (t : Clocks). value_of t.readings s) is
    ∙ value_with old.readings server s reading
    ∙ ap (λ (n : ℕ). if same_server server s then reading else n) (a s)
    ∙ set_min (same_server server s) reading (clock_after before s) last_moment reading refl
    (omega (arith, le))
    ∙ sym (ap (λ n. min n last_moment) (clock_push before l s
    ∙ ap (told_clock s (clock_after before s)) told))
