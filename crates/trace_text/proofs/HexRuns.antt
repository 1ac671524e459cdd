-- Bytes in hexadecimal digits, up to whatever is no such digit: what is spelled so is read.
use Rattle.std.proofs.Common.{◌≡◌, ℕ, zero, suc, ◌+◌, ◌*◌, ◌/◌, ◌%◌, ◌<◌, inl, inr, Bool, true, false, cond, eqb, ltb, ◌&&◌, List, [], ◌∷◌, ◌++◌, length, get_or, drop, Option, Some, None, Ok, Err, refl, ap, ◌∙◌, arith}
use Rattle.std.specs.Prelude.{◌==◌, nat_lt, slice_index, is_some}
use Rattle.std.proofs.lemmas.Bool.{cases_lt, eqb-true, eq-eqb, ne_eqb, and_parts}
use Rattle.hex.specs.Hex.{encode_lower, encode_with, lower_digits}
use Rattle.schedule_text.specs.declared.fault.TextFault.TheVariants.{Grammar}
use Rattle.text_spelling.specs.Text.{hex_text}
use Rattle.text_spelling.specs.Fits.{AreBytes}
use Rattle.schedule_text.specs.Fields.{Read, hex_value, pair_of, pair_at, pairs_from, is_odd_at, hex_at}
use Rattle.schedule_text.proofs.Names.{digit, digit_above}
use Rattle.schedule_text.proofs.Pairs.{pairs_more, pairs_done}
use Rattle.schedule_text.proofs.Places.{head_at, drop_past, read_of}

-- ---- digits

-- the digit of a value
abbrev glyph : ℕ → ℕ
glyph v = cond (ltb v 10) (48 + v) (87 + v)

abbrev same_at : ℕ → Bool
same_at v = slice_index lower_digits v == glyph v

abbrev all_same : ℕ → Bool
all_same zero = true
all_same (suc n) = same_at n && all_same n

all_same-at : (n v : ℕ) → all_same n ≡ true → v < n → same_at v ≡ true
all_same-at zero v h lt = absurd (omega arith)
all_same-at (suc n) v h lt =
    let parts = and_parts (same_at n) (all_same n) h in
    elim (cases_lt v n) [
      | inl below ↦ all_same-at n v parts.1 below
      | inr top ↦ let e : v ≡ n = omega arith in rw e parts.0
    ]

digit_is : (v : ℕ) → v < 16 → digit v ≡ glyph v
digit_is v lt = eqb-true (digit v) (glyph v) (all_same-at 16 v refl lt)

value_glyph : (v : ℕ) → v < 16 → hex_value (glyph v) ≡ Some v
value_glyph v lt = grind (arith)

value_again : (v : ℕ) → v < 16 → hex_value (digit v) ≡ Some v
value_again v lt = ap hex_value (digit_is v lt) ∙ value_glyph v lt

-- ---- pairs

-- no digit stands first
abbrev pub StopsHex : List ℕ → Type 0
StopsHex rest = hex_value (get_or rest 0 0) ≡ None

no_pair : (line : List ℕ) (at : ℕ) (rest : List ℕ) → StopsHex rest → drop at line ≡ rest
    → pair_at line at ≡ None
no_pair line at rest stops e =
    ap (λ o. pair_of o (hex_value (get_or line (at + 1) 0)))
    (ap hex_value (head_at line at rest e) ∙ stops)

pair_again : (line : List ℕ) (at b : ℕ) (rest : List ℕ) → b < 256 → drop at line ≡ digit (b / 16)
    ∷ digit (b % 16) ∷ rest → pair_at line at ≡ Some b
pair_again line at b rest lt e =
    let behind : drop (at + 1) line ≡ digit (b % 16) ∷ rest =
    drop_past line at (digit (b / 16) ∷ []) (digit (b % 16) ∷ rest) e in
    let high : hex_value (get_or line at 0) ≡ Some (b / 16) =
    ap hex_value (head_at line at (digit (b / 16) ∷ digit (b % 16) ∷ rest) e)
    ∙ value_again (b / 16) (omega arith) in
    let low : hex_value (get_or line (at + 1) 0) ≡ Some (b % 16) =
    ap hex_value (head_at line (at + 1) (digit (b % 16) ∷ rest) behind)
    ∙ value_again (b % 16) (omega arith) in
    let whole : 16 * (b / 16) + b % 16 ≡ b = omega arith in
    (λ i. pair_of (high i) (low i)) ∙ ap Some whole

pairs_again : (bytes : List ℕ) (room : ℕ) (line : List ℕ) (at : ℕ) (rest : List ℕ)
    → AreBytes room bytes → StopsHex rest → drop at line ≡ encode_lower bytes ++ rest
    → pairs_from room line at ≡ (bytes, at + length (encode_lower bytes))
unfolding pairs_from encode_with
pairs_again [] zero line at rest are stops e =
    ap (λ n. pair_read [] n) {x = at} {y = at + 0} (omega arith)
  where
    pair_read : List ℕ → ℕ → List ℕ × ℕ
    pair_read bytes n = (bytes, n)
pairs_again [] (suc room) line at rest are stops e =
    pairs_done (suc room) room line at (omega arith) (no_pair line at rest stops e)
    ∙ ap (λ n. pair_read [] n) {x = at} {y = at + 0} (omega arith)
  where
    pair_read : List ℕ → ℕ → List ℕ × ℕ
    pair_read bytes n = (bytes, n)
pairs_again (b ∷ bytes) zero line at rest are stops e = absurd (omega (arith, are.few))
pairs_again (b ∷ bytes) (suc room) line at rest are stops e =
    let behind : drop (at + 2) line ≡ encode_lower bytes ++ rest =
    drop_past line at (digit (b / 16) ∷ digit (b % 16) ∷ []) (encode_lower bytes ++ rest) e in
    let fewer : AreBytes room bytes =
    record { few = omega (arith, are.few); fit = λ i. are.fit (suc i) } in
    let more = pairs_again bytes room line (at + 2) rest fewer stops behind in
    let len : at + 2 + length (encode_lower bytes) ≡ at + length (encode_lower (b ∷ bytes)) =
    omega arith in
    pairs_more (suc room) room line at b (omega arith)
    (pair_again line at b (encode_lower bytes ++ rest) (are.fit 0) e)
    ∙ ap (λ (x : List ℕ × ℕ). pair_read (b ∷ x.0) x.1) more
    ∙ ap (pair_read (b ∷ bytes)) len
  where
    pair_read : List ℕ → ℕ → List ℕ × ℕ
    pair_read bytes n = (bytes, n)

-- ---- a field

pub name_again : (most : ℕ) (line : List ℕ) (at : ℕ) (bytes rest : List ℕ) → AreBytes most bytes
    → StopsHex rest → drop at line ≡ hex_text bytes ++ rest
    → hex_at most line at ≡ Ok (bytes, at + length (hex_text bytes))
unfolding hex_at hex_text encode_with
name_again most line at [] rest are stops e =
    let read = pairs_from most line at in
    let dash : eqb (get_or line at 0) 45 ≡ true = eq-eqb _ 45 (head_at line at (45 ∷ rest) e) in
    ap (λ (b : Bool). cond b (read_of [] (at + 1))
    (cond (is_odd_at most line read) (Err (Grammar (read.1 + 1)))
    (cond (eqb read.1 at) (Err (Grammar at)) (Ok read)))) dash
name_again most line at (b ∷ bytes) rest are stops e =
    let text = encode_lower (b ∷ bytes) in
    let read = pairs_from most line at in
    let end = at + length text in
    let all : read ≡ (b ∷ bytes, end) = pairs_again (b ∷ bytes) most line at rest are stops e in
    let lt : b < 256 = are.fit 0 in
    let above = digit_above (b / 16) (omega arith) in
    let first = head_at line at (digit (b / 16) ∷ digit (b % 16) ∷ (encode_lower bytes ++ rest))
    e in
    let no_dash : eqb (get_or line at 0) 45 ≡ false =
    ne_eqb _ 45 (λ z. omega (arith, first, above, z)) in
    let behind : drop end line ≡ rest = drop_past line at text rest e in
    let even : is_odd_at most line (b ∷ bytes, end) ≡ false =
    ap (λ (o : Option ℕ). nat_lt (length (b ∷ bytes)) most && is_some o)
    (ap hex_value (head_at line end rest behind) ∙ stops)
    ∙ and_no (nat_lt (length (b ∷ bytes)) most) in
    let moved : eqb end at ≡ false = ne_eqb end at (λ z. omega (arith, z)) in
    ap (λ (c : Bool). cond c (read_of [] (at + 1))
    (cond (is_odd_at most line read) (Err (Grammar (read.1 + 1)))
    (cond (eqb read.1 at) (Err (Grammar at)) (Ok read)))) no_dash
    ∙ ap (λ (x : List ℕ × ℕ). name_of x (is_odd_at most line x) (eqb x.1 at)) all
    ∙ (λ i. name_of (b ∷ bytes, end) (even i) (moved i))
  where
    and_no : (c : Bool) → (c && false) ≡ false
    and_no true = refl
    and_no false = refl

    name_of : List ℕ × ℕ → Bool → Bool → Read (List ℕ)
    name_of x odd same = cond odd (Err (Grammar (x.1 + 1))) (cond same (Err (Grammar at)) (Ok x))
