-- The time that a call happens at.
use Rattle.std.specs.Prelude.{ℕ, ◌-◌, ◌/◌, ◌%◌, ◌*◌, min}
use Rattle.harp_types.specs.Limits.{field_left}
use Rattle.harp_types.specs.declared.attr.Time.{Time}

-- the time of a stamp in milliseconds; its seconds stay below the value that leaves a time as it is
abbrev pub time_of : ℕ → Time
time_of stamp =
    record { seconds = min (stamp / 1000) (field_left - 1); micros = stamp % 1000 * 1000 }
