-- Where a line may stand in a trace.
use Rattle.std.specs.Prelude.{◌≡◌, ℕ, Bool, true, false, ◌||◌, [], fold, length}
use Rattle.trace_types.specs.declared.line.Line.{Line}
use Rattle.trace_types.specs.declared.line.Line.TheVariants as line
use Rattle.trace_claims.specs.Trace.{Trace, entries, is_last}
use Rattle.trace_check.specs.Readings.{begins_step}

-- the last of these lines may be last alone
abbrev pub has_ended : Trace → Bool
has_ended before = fold (λ ended l. is_last l) false before

-- A line may come next: none stands behind the last one, the first begins a step or is the last,
-- and an `end` tells how many were entered
pub record CanFollow (before : Trace) (l : Line) : Type 0 where
  pub goes_on : has_ended before ≡ false
  pub begins : before ≡ [] → (begins_step l || is_last l) ≡ true
  pub counts : (k : ℕ) → l ≡ line.End k → k ≡ length (entries before)
