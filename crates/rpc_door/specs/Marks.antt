-- RECORD MARKING (RFC 1057, section 10): a record is sent as fragments, each behind a mark of four
-- bytes, and the bytes of a stream are records, one after the other.
use Rattle.std.specs.Prelude.{◌≡◌, ◌≢◌, ◌⊎◌, ℕ, zero, suc, ◌+◌, ◌-◌, ◌%◌, ◌≤◌, Bool, true, false, List, [], ◌∷◌, ◌++◌, length, take, drop, nat_le, nat_lt, if◌then◌else◌}
use Rattle.std.specs.Int.{w32, from_be_bytes}
use Rattle.std.specs.List.{flat_map}
use Rattle.harp_base.specs.Fields.{u32_bytes}

-- ---- records as they are sent

-- a fragment: whether it is its record's last one, and its bytes
pub record Fragment : Type 0 where
  pub is_last : Bool
  pub bytes : List ℕ

-- the highest bit of a mark
abbrev pub last_bit : Bool → ℕ
last_bit true = 2147483648
last_bit false = 0

-- a fragment as it is sent: its mark is its length, with the highest bit set in the last one
abbrev pub fragment_bytes : Fragment → List ℕ
fragment_bytes f = u32_bytes (last_bit f.is_last + length f.bytes) ++ f.bytes

-- the last one is marked so, and no other
abbrev pub AreOneRecord : List Fragment → Type 0
AreOneRecord [] = ⊥
AreOneRecord (f ∷ []) = f.is_last ≡ true
AreOneRecord (f ∷ g ∷ fs) = (f.is_last ≡ false) × AreOneRecord (g ∷ fs)

-- A RECORD IS SENT so: in at most 1000 fragments, with at most 20,000 bytes
pub record IsSentAs (record_ sent : List ℕ) : Type 0 where
  pub fragments : List Fragment
  pub one : AreOneRecord fragments
  pub few : length fragments ≤ 1000
  pub short : length record_ ≤ 20000
  pub record_is : record_ ≡ flat_map (λ f. f.bytes) fragments
  pub sent_is : sent ≡ flat_map fragment_bytes fragments

-- ---- reading

-- what stands at the front of bytes, of which a fragment may have so many: a fragment and what is
-- behind it; or the bytes end within it; or it has more
pub data Piece : Type 0 where
  Part : Bool → List ℕ → List ℕ → Piece
  Ends : Piece
  Long : Piece

-- a fragment with this mark, behind the mark
abbrev pub piece_with : ℕ → ℕ → List ℕ → Piece
piece_with room mark rest =
    if nat_lt room (mark % 2147483648) then Long
    else (if nat_lt (length rest) (mark % 2147483648) then Ends
    else Part (nat_le 2147483648 mark) (take (mark % 2147483648) rest)
    (drop (mark % 2147483648) rest))

abbrev pub piece_at : ℕ → List ℕ → Piece
piece_at room bytes =
    if nat_lt (length bytes) 4 then Ends
    else piece_with room (from_be_bytes w32 (take 4 bytes)) (drop 4 bytes)

-- WHAT STANDS AT THE FRONT of bytes: a record and what is behind it; or they end within one; or it
-- has more than 20,000 bytes or 1000 fragments, which the mark of a fragment tells
pub data Front : Type 0 where
  Whole : List ℕ → List ℕ → Front
  Short : Front
  Large : Front

-- behind earlier fragments of the same record
abbrev pub behind : List ℕ → Front → Front
behind before (Whole record_ rest) = Whole (before ++ record_) rest
behind before Short = Short
behind before Large = Large

-- so many fragments and bytes may still come
unfoldable pub front_of : ℕ → ℕ → List ℕ → Front
front_of zero room bytes = if nat_lt (length bytes) 4 then Short else Large
front_of (suc n) room bytes = elim (piece_at room bytes) [
  | Part is_last part rest ↦ elim is_last [
    | true ↦ Whole part rest
    | false ↦ behind part (front_of n (room - length part) rest)
  ]
  | Ends ↦ Short
  | Long ↦ Large
]

abbrev pub front : List ℕ → Front
front bytes = front_of 1000 20000 bytes

-- there are bytes, and no record is at their front
abbrev pub IsBroken : List ℕ → Type 0
IsBroken bytes = (bytes ≢ []) × ((front bytes ≡ Short) ⊎ (front bytes ≡ Large))
