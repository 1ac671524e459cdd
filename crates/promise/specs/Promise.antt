-- Promises, in milliseconds.
use Rattle.std.specs.Prelude.{ℕ, ◌≤◌}

-- how long promises may last
abbrev pub IsDelta : ℕ → Type 0
IsDelta d = (500 ≤ d) × (d ≤ 100000)

-- up to when a server's promises may run, and how long those of its boot last
pub record HorizonValue : Type 0 where
  pub until : ℕ
  pub delta : ℕ
