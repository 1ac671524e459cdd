-- What is kept of clocks.
use Rattle.std.specs.Prelude.{◌≡◌, ℕ, ◌+◌, ◌-◌, ◌^◌, min}
use Rattle.harp_types.specs.Trio.{value_of}
use Rattle.harp_types.specs.declared.server.ServerId.{ServerId}
use Rattle.trace_claims.specs.Trace.{Trace}
use Rattle.trace_claims.specs.Servers.{clock_after}
use Rattle.trace_check.specs.declared.clocks.Clocks.{Clocks}

-- 2^64 - 1
abbrev pub last_moment : ℕ
last_moment = 2 ^ 64 - 1

-- the clocks are those after these lines, where they are within 64 bits
abbrev pub AreClocksOf : Clocks → Trace → Type 0
AreClocksOf clocks trace = (s : ServerId) → value_of clocks.readings s
    ≡ min (clock_after trace s) last_moment

-- all clocks go on
abbrev pub IsAdvanced : ℕ → Clocks → Clocks → Type 0
IsAdvanced millis old new = (s : ServerId) → value_of new.readings s
    ≡ min (value_of old.readings s + millis) last_moment
