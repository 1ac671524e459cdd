-- The readings of clocks.
use Rattle.std.specs.Prelude.{◌≡◌, ◌≢◌, ℕ, Bool, true, ◌&&◌, nat_le, nat_lt, ◌^◌, List, [], ◌∷◌, ◌++◌, drop, Option, Some, None}
use Rattle.harp_types.specs.declared.server.ServerId.{ServerId}
use Rattle.node_link.specs.declared.clock.Reading.{Reading}

-- what a clock tells after a reading: that reading comes last, or it tells none any more; a clock
-- that tells none never tells again
abbrev pub MayTell : Reading → Option (List Reading) → Option (List Reading) → Type 0
MayTell reading told None = Unit {0}
MayTell reading None (Some new) = ⊥
MayTell reading (Some old) (Some new) = new ≡ old ++ reading ∷ []

-- it tells that reading too, where it tells any
abbrev pub with_reading : Reading → Option (List Reading) → Option (List Reading)
with_reading reading None = None
with_reading reading (Some told) = Some (told ++ reading ∷ [])

-- these readings never fall and are below 2^62, and the first isn't below a least one
abbrev pub rises_from : ℕ → List ℕ → Bool
rises_from least [] = true
rises_from least (x ∷ xs) = nat_le least x && nat_lt x (2 ^ 62) && rises_from x xs

-- ---- a clock that gives the readings of a list

-- the readings ahead, and the last one given, 0 where none was
pub record Coming : Type 0 where
  pub ahead : List ℕ
  pub last : ℕ

-- these, and the readings told
pub record Ticking : Type 0 where
  pub ahead : List ℕ
  pub last : ℕ
  pub told : Option (List Reading)

-- the next reading: the first one ahead, and the last one behind the end of the list
abbrev pub next_reading : ℕ → List ℕ → ℕ
next_reading last [] = last
next_reading last (x ∷ xs) = x

-- A READING of such a clock at a place: the next one; and within the list it is told
pub record Ticks (place : ServerId) (millis : ℕ) (old new : Ticking) : Type 0 where
  pub is_next : millis ≡ next_reading old.last old.ahead
  pub ahead : new.ahead ≡ drop 1 old.ahead
  pub last : new.last ≡ millis
  pub told : old.ahead ≢ []
      → new.told ≡ with_reading (record { place = place; millis = millis }) old.told
