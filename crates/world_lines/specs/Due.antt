-- Which packet a pump delivers next.
use Rattle.std.specs.Prelude.{ℕ, suc, Bool, true, not, ◌&&◌, ◌||◌, List, [], ◌∷◌, Option, None}
use Rattle.std.specs.Prelude.{Some, min, if◌then◌else◌}
use Rattle.harp_types.specs.declared.server.ServerId.{ServerId}
use Rattle.harp_types.specs.declared.trio.Trio.{Trio}
use Rattle.group_rules.specs.Names.{place_of}
use Rattle.group_rules.specs.Places.{same}
use Rattle.world_lines.specs.Posted.{Posted}

-- a packet goes from one server to another
abbrev pub goes : ServerId → ServerId → Posted → Bool
goes from to p = same (place_of from) (place_of p.packet.from)
    && same (place_of to) (place_of p.packet.to)

-- it goes between two servers, either way; or any
abbrev pub is_among : Option (ServerId × ServerId) → Posted → Bool
is_among None p = true
is_among (Some pair) p = goes pair.0 pair.1 p || goes pair.1 pair.0 p

-- the number of the first of these that was never delivered, where they are counted from n on
unfoldable pub first_from : (Posted → Bool) → ℕ → List Posted → Option ℕ
first_from is_one n [] = None
first_from is_one n (p ∷ ps) =
    if is_one p && not p.delivered then Some n else first_from is_one (suc n) ps

-- the lowest number of a packet among two servers, or of any, that was never delivered
abbrev pub first_due : Option (ServerId × ServerId) → List Posted → Option ℕ
first_due among ps = first_from (is_among among) 0 ps

-- the lower of two numbers, where there are any
abbrev pub lower : Option ℕ → Option ℕ → Option ℕ
lower None o = o
lower (Some m) None = Some m
lower (Some m) (Some n) = Some (min m n)

-- the lowest of three
abbrev pub lowest : Trio (Option ℕ) → Option ℕ
lowest three = lower three.zero (lower three.one three.two)
