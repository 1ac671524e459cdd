-- Where a client begins to number its calls.
use Rattle.std.specs.Prelude.{ℕ, ◌+◌, ◌*◌, ◌%◌, ◌^◌}

-- the number of the first call, by a reading of the clock
abbrev pub first_number : ℕ → ℕ
first_number reading = reading % (2 ^ 43) * 2 ^ 20 + 1
