-- What sets the clocks and the length of promises.
use Rattle.std.specs.Prelude.{ℕ, ◌+◌, if◌then◌else◌}
use Rattle.group_rules.specs.Limits.{delta_tests}
use Rattle.group_rules.specs.Places.{all_of}
use Rattle.harp_types.specs.declared.trio.Trio.{Trio as Each}

-- all clocks, so much later
abbrev pub later : Each ℕ → ℕ → Each ℕ
later clocks millis = record {
  zero = clocks.zero + millis;
  one = clocks.one + millis;
  two = clocks.two + millis;
}

-- the length of promises that is set, where it is one; else the one before stays
abbrev pub delta_after : ℕ → ℕ → ℕ
delta_after old millis = if all_of (delta_tests millis) then millis else old
