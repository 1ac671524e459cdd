-- What is seen of a group that is played.
use Rattle.std.specs.Prelude.{ℕ, Bool}

-- its world, the number of its next call, how often it failed, and whether its view is open and it
-- answered all calls so far
pub record Playing (W : Type 0) : Type 0 where
  pub world : W
  pub next : ℕ
  pub faults : ℕ
  pub is_open : Bool
