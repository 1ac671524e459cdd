-- What a reader of records gives of bytes that came.
use Rattle.std.specs.Prelude.{◌≡◌, ◌+◌, ◌≤◌, ℕ, List, drop, length, take}
use Rattle.rpc_door.specs.Marks.{Ends, Large, Long, Part, Short, Whole, front, piece_at}
use Rattle.door_seats.specs.declared.framing.Front.{Front}
use Rattle.door_seats.specs.declared.framing.Front.TheVariants as seen
use Rattle.door_seats.specs.declared.framing.Piece.{Piece}
use Rattle.door_seats.specs.declared.framing.Piece.TheVariants as piece

-- it gives what stands at their front
abbrev pub IsFront : List ℕ → Front → Type 0
IsFront bytes (seen.Whole request taken) = front bytes ≡ Whole request (drop taken bytes)
IsFront bytes seen.Short = front bytes ≡ Short
IsFront bytes seen.Large = front bytes ≡ Large

-- and of a fragment that may have so many bytes
abbrev pub IsPiece : ℕ → List ℕ → Piece → Type 0
IsPiece room bytes (piece.Part is_last size) =
    (size ≤ room) × (4 + size ≤ length bytes)
    × (piece_at room bytes ≡ Part is_last (take size (drop 4 bytes)) (drop size (drop 4 bytes)))
IsPiece room bytes piece.Ends = piece_at room bytes ≡ Ends
IsPiece room bytes piece.Long = piece_at room bytes ≡ Long
