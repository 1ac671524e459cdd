-- What connections tell: who came and left, and the bytes that came and went.
use Rattle.std.specs.Prelude.{ℕ, Bool, true, false, List, ◌∷◌, take, Option, Some, None}
use Rattle.door_seats.specs.declared.connections.Given.{Given}
use Rattle.door_seats.specs.declared.connections.Given.TheVariants as given
use Rattle.door_seats.specs.declared.connections.Taken.{Taken}
use Rattle.door_seats.specs.declared.connections.Taken.TheVariants as taken

-- what happened at a seat's connection: it came; bytes came over it; its other side sends no more;
-- it took bytes; it takes no more; it was ended
pub data Sign : Type 0 where
  Arrived : ℕ → Sign
  Came : ℕ → List ℕ → Sign
  Over : ℕ → Sign
  Went : ℕ → List ℕ → Sign
  Broke : ℕ → Sign
  Left : ℕ → Sign

-- what was told, the latest first; where nothing is told, nothing more is
abbrev pub Signs : Type 0
Signs = Option (List Sign)

abbrev pub with_sign : Sign → Signs → Signs
with_sign x None = None
with_sign x (Some xs) = Some (x ∷ xs)

-- behind a look for a connection that waits
abbrev pub accepted : ℕ → Bool → Signs → Signs
accepted n true signs = with_sign (Arrived n) signs
accepted n false signs = signs

-- behind a look for bytes
abbrev pub taken_at : ℕ → Taken → Signs → Signs
taken_at n (taken.Bytes bytes) signs = with_sign (Came n bytes) signs
taken_at n taken.Nothing signs = signs
taken_at n taken.Over signs = with_sign (Over n) signs

-- behind an attempt to hand it these bytes
abbrev pub given_at : ℕ → List ℕ → Given → Signs → Signs
given_at n bytes (given.Some count) signs = with_sign (Went n (take count bytes)) signs
given_at n bytes given.Over signs = with_sign (Broke n) signs
