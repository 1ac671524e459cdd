-- What the packets together hold true of their fields.
use Rattle.std.specs.Prelude.{◌≡◌, ℕ, ◌-◌, ◌^◌, List, Option, min}
use Rattle.harp_types.specs.declared.server.ServerId.{ServerId}
use Rattle.harp_types.specs.declared.trio.Trio.{Trio}
use Rattle.harp_types.specs.Trio.{value_of, with_value}
use Rattle.world_lines.specs.Due.{first_from, goes}
use Rattle.world_lines.specs.Posted.{Posted, bytes_sent}

-- one number for each sender and target
abbrev pub Ways : Type 0
Ways = Trio (Trio (Option ℕ))

abbrev pub way : Ways → ServerId → ServerId → Option ℕ
way due from to = value_of (value_of due from) to

abbrev pub with_way : Ways → ServerId → ServerId → Option ℕ → Ways
with_way due from to n = with_value due from (with_value (value_of due from) to n)

-- the most that a count of bytes tells
abbrev pub most_counted : ℕ
most_counted = 2 ^ 64 - 1

-- these are the numbers of the first packets that are due, from one server to another
abbrev pub AreFirst : List Posted → Ways → Type 0
AreFirst ps due = (from to : ServerId) → way due from to ≡ first_from (goes from to) 0 ps

-- the bytes of packets, and the first that are due
pub record AreCounted (ps : List Posted) (bytes : ℕ) (due : Ways) : Type 0 where
  pub counted : bytes ≡ min (bytes_sent ps) most_counted
  pub first : AreFirst ps due
