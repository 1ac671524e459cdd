-- Numbers that are drawn, one after another.
use Rattle.std.specs.Prelude.{ℕ, ◌+◌, ◌*◌, ◌/◌, ◌%◌, ◌^◌}
use Rattle.sweep.specs.declared.draws.Draws.{Draws}

-- a value that was drawn, and where the draws are then
abbrev pub Drawn : Type 0 → Type 0
Drawn A = A × Draws

-- draws a value
abbrev pub Drawing : Type 0 → Type 0
Drawing A = Draws → Drawn A

infixl 10 ◌>>=◌
abbrev pub ◌>>=◌ : {A B : Type 0} → Drawing A → (A → Drawing B) → Drawing B
◌>>=◌ draw rest = λ draws. let (x, draws) = draw draws in rest x draws

-- without a further draw
abbrev pub gives : {A : Type 0} → A → Drawing A
gives x = λ draws. (x, draws)

abbrev pub multiplier : ℕ
multiplier = 6364136223846793005

abbrev pub increment : ℕ
increment = 1442695040888963407

-- the state of a linear congruential generator after this one
unfoldable pub next_state : ℕ → ℕ
next_state state = (state * multiplier + increment) % 2 ^ 64

-- a number below this one, of the upper 31 bits of the next state
unfoldable pub below : ℕ → Drawing ℕ
below bound = λ draws.
    let state = next_state draws.state in (state / 2 ^ 33 % bound, record { state = state })
