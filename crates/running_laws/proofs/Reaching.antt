-- How far the clocks of a run are set before an event at a reading, where `top` is the highest
-- before it: first all of them together, then each that is below; numbers alone.
use Rattle.std.proofs.Common.{ℕ, ◌+◌, ◌-◌, ◌≤◌, max, arith}

-- each clock will be here at least
abbrev pub reach : ℕ → ℕ → ℕ
reach top now = max top now - 50

-- how far all are set
abbrev pub ahead : ℕ → ℕ → ℕ
ahead top now = reach top now - top

-- what a clock reads then
abbrev pub raised_by : ℕ → ℕ → ℕ → ℕ
raised_by top now c = max (c + ahead top now) (reach top now)

-- none passes a reading that may come next
pub raised_below : (top now c next : ℕ) → c ≤ top → c ≤ next → top ≤ next + 50
    → now ≤ next + 50 → raised_by top now c ≤ next
raised_below top now c next a b d e = omega (arith, a, b, d, e)

pub raised_high : (top now c : ℕ) → c ≤ top → raised_by top now c ≤ max top now
raised_high top now c a = omega (arith, a)

pub raised_low : (top now c : ℕ) → max top now ≤ raised_by top now c + 50
raised_low top now c = omega arith

-- the clocks are near while they are set
abbrev pub first_floor : ℕ → ℕ → ℕ
first_floor top now = (top - 50) + ahead top now

pub floor_low : (top now c : ℕ) → top ≤ c + 50 → first_floor top now ≤ c + ahead top now
floor_low top now c a = omega (arith, a)

pub floor_high : (top now c : ℕ) → c ≤ top → c + ahead top now ≤ first_floor top now + 50
floor_high top now c a = omega (arith, a)

pub floor_reach : (top now : ℕ) → reach top now ≤ first_floor top now + 50
floor_reach top now = omega arith

pub reach_below : (top now : ℕ) → top ≤ now + 50 → reach top now ≤ now
reach_below top now a = omega (arith, a)

pub top_reach : (top now : ℕ) → max top now ≤ reach top now + 50
top_reach top now = omega arith

pub max_high : (c a b : ℕ) → c ≤ b → a ≤ b → max c a ≤ b
max_high c a b e f = omega (arith, e, f)
