-- Bytes in hexadecimal digits: what is read is spelled so, and what is spelled so is read.
use Rattle.std.proofs.Common.{◌≡◌, ℕ, zero, suc, ◌+◌, ◌*◌, ◌/◌, ◌%◌, ◌<◌, inl, inr, Bool, true, false, cond, eqb, ltb, ◌&&◌, List, [], ◌∷◌, ◌++◌, length, get_or, drop, Option, Some, None, Result, Ok, Err, refl, sym, ap, subst, ◌∙◌, arith}
use Rattle.std.specs.Prelude.{◌==◌, nat_lt, slice_index, is_some}
use Rattle.std.proofs.lemmas.Bool.{cases_lt, eqb-true, eqb-false, eq-eqb, ne_eqb, and_parts}
use Rattle.hex.specs.Hex.{encode_lower, encode_with, lower_digits}
use Rattle.schedule_text.specs.declared.fault.TextFault.{TextFault}
use Rattle.schedule_text.specs.declared.fault.TextFault.TheVariants.{Grammar}
use Rattle.text_spelling.specs.Text.{hex_text}
use Rattle.text_spelling.specs.Fits.{AreBytes}
use Rattle.schedule_text.specs.Fields.{EndsWord, Read, hex_value, pair_of, pair_at, pairs_from, is_odd_at, hex_at}
use Rattle.schedule_text.proofs.Pairs.{pairs_more, pairs_done}
use Rattle.schedule_text.proofs.Places.{Spells, Spells-then, Spells-byte, IsField, head_at, drop_past, chosen, ok_is, read_of}

-- ---- digits

-- the digit of a value
abbrev glyph : ℕ → ℕ
glyph v = cond (ltb v 10) (48 + v) (87 + v)

abbrev same_at : ℕ → Bool
same_at v = slice_index lower_digits v == glyph v

abbrev all_same : ℕ → Bool
all_same zero = true
all_same (suc n) = same_at n && all_same n

all_same-at : (n v : ℕ) → all_same n ≡ true → v < n → same_at v ≡ true
all_same-at zero v h lt = absurd (omega arith)
all_same-at (suc n) v h lt =
    let parts = and_parts (same_at n) (all_same n) h in
    elim (cases_lt v n) [
      | inl below ↦ all_same-at n v parts.1 below
      | inr top ↦ let e : v ≡ n = omega arith in rw e parts.0
    ]

abbrev pub digit : ℕ → ℕ
digit v = get_or lower_digits v 0

digit_is : (v : ℕ) → v < 16 → digit v ≡ glyph v
digit_is v lt = eqb-true (digit v) (glyph v) (all_same-at 16 v refl lt)

value_takes : (b v : ℕ) → hex_value b ≡ Some v → (v < 16) × (b ≡ glyph v)
value_takes b v e = (grind (arith), grind (arith))

value_glyph : (v : ℕ) → v < 16 → hex_value (glyph v) ≡ Some v
value_glyph v lt = grind (arith)

value_again : (v : ℕ) → v < 16 → hex_value (digit v) ≡ Some v
value_again v lt = ap hex_value (digit_is v lt) ∙ value_glyph v lt

digit_here : (b v : ℕ) → hex_value b ≡ Some v → (v < 16) × (b ≡ digit v)
digit_here b v e = let t = value_takes b v e in (t.0, t.1 ∙ sym (digit_is v t.0))

pub digit_above : (v : ℕ) → v < 16 → 45 < digit v
digit_above v lt = subst (λ d. 45 < d) (sym (digit_is v lt)) (grind (arith))

-- ---- pairs

pair_takes : (o p : Option ℕ) (b c v : ℕ) → hex_value b ≡ o → hex_value c ≡ p → pair_of o p ≡ Some v
    → (v < 256) × (b ≡ digit (v / 16)) × (c ≡ digit (v % 16))
pair_takes None p b c v first second e = absurd cc
pair_takes (Some high) None b c v first second e = absurd cc
pair_takes (Some high) (Some low) b c v first second e =
    let h = digit_here b high first in
    let l = digit_here c low second in
    let is : 16 * high + low ≡ v = some_is (16 * high + low) v e in
    let top : high ≡ v / 16 = omega (arith, l.0, is) in
    let bottom : low ≡ v % 16 = omega (arith, l.0, is) in
    (omega (arith, h.0, l.0, is), h.1 ∙ ap digit top, l.1 ∙ ap digit bottom)
  where
    some_is : (x y : ℕ) → Some x ≡ Some y → x ≡ y
    some_is x y e = cc

bytes-nil : (most : ℕ) → AreBytes most []
bytes-nil most = record { few = omega arith; fit = λ i. omega arith }

bytes-cons : (most b : ℕ) (bytes : List ℕ) → b < 256 → AreBytes most bytes
    → AreBytes (suc most) (b ∷ bytes)
bytes-cons most b bytes lt are = record { few = omega (arith, are.few); fit = fit }
  where
    fit : (i : ℕ) → get_or (b ∷ bytes) i 0 < 256
    fit zero = lt
    fit (suc i) = are.fit i

-- what reading pairs gives
abbrev PairsRead : ℕ → List ℕ → ℕ → List ℕ × ℕ → Type 0
PairsRead room line at x = Spells line at (encode_lower x.0) x.1 × AreBytes room x.0

spells_nothing : (line : List ℕ) (at : ℕ) → Spells line at [] at
spells_nothing line at = record { parts = refl; length_is = omega arith }

pairs_takes : (room : ℕ) (line : List ℕ) (at : ℕ) → PairsRead room line at (pairs_from room line at)
unfolding pairs_from encode_with
pairs_takes zero line at = (spells_nothing line at, bytes-nil 0)
pairs_takes (suc room) line at = by (pair_at line at) refl (pairs_takes room line (at + 2))
  where
    by : (o : Option ℕ) → pair_at line at ≡ o
        → PairsRead room line (at + 2) (pairs_from room line (at + 2))
        → PairsRead (suc room) line at
        (elim o [
          | None ↦ ([], at)
          | Some b ↦ (b ∷ (pairs_from room line (at + 2)).0, (pairs_from room line (at + 2)).1)
        ])
    by None e more = (spells_nothing line at, bytes-nil (suc room))
    by (Some b) e more =
        let t = pair_takes (hex_value (get_or line at 0)) (hex_value (get_or line (at + 1) 0))
        (get_or line at 0) (get_or line (at + 1) 0) b refl refl e in
        let x = pairs_from room line (at + 2) in
        let high : Spells line at (digit (b / 16) ∷ []) (at + 1) =
        Spells-byte line at (digit (b / 16)) t.1
        (omega (arith, digit_above (b / 16) (omega (arith, t.0)))) in
        let low : Spells line (at + 1) (digit (b % 16) ∷ []) (at + 1 + 1) =
        Spells-byte line (at + 1) (digit (b % 16)) t.2
        (omega (arith, digit_above (b % 16) (omega arith))) in
        let next : at + 1 + 1 ≡ at + 2 = omega arith in
        let both : Spells line at (digit (b / 16) ∷ digit (b % 16) ∷ []) (at + 2) =
        subst (λ n. Spells line at (digit (b / 16) ∷ digit (b % 16) ∷ []) n) next
        (Spells-then line at (digit (b / 16) ∷ []) (at + 1) (digit (b % 16) ∷ []) (at + 1 + 1)
        high low) in (
          Spells-then line at (digit (b / 16) ∷ digit (b % 16) ∷ []) (at + 2) (encode_lower x.0) x.1
              both more.0,
          bytes-cons room b x.0 t.0 more.1,
        )

-- no digit stands where a word ends
no_digit : (rest : List ℕ) → EndsWord rest → hex_value (get_or rest 0 0) ≡ None
no_digit [] ends = refl
no_digit (b ∷ rest) ends = ap hex_value ends

no_pair : (line : List ℕ) (at : ℕ) (rest : List ℕ) → EndsWord rest → drop at line ≡ rest
    → pair_at line at ≡ None
no_pair line at rest ends e =
    ap (λ o. pair_of o (hex_value (get_or line (at + 1) 0)))
    (ap hex_value (head_at line at rest e) ∙ no_digit rest ends)

pair_again : (line : List ℕ) (at b : ℕ) (rest : List ℕ) → b < 256 → drop at line ≡ digit (b / 16)
    ∷ digit (b % 16) ∷ rest → pair_at line at ≡ Some b
pair_again line at b rest lt e =
    let behind : drop (at + 1) line ≡ digit (b % 16) ∷ rest =
    drop_past line at (digit (b / 16) ∷ []) (digit (b % 16) ∷ rest) e in
    let high : hex_value (get_or line at 0) ≡ Some (b / 16) =
    ap hex_value (head_at line at (digit (b / 16) ∷ digit (b % 16) ∷ rest) e)
    ∙ value_again (b / 16) (omega arith) in
    let low : hex_value (get_or line (at + 1) 0) ≡ Some (b % 16) =
    ap hex_value (head_at line (at + 1) (digit (b % 16) ∷ rest) behind)
    ∙ value_again (b % 16) (omega arith) in
    let whole : 16 * (b / 16) + b % 16 ≡ b = omega arith in
    (λ i. pair_of (high i) (low i)) ∙ ap Some whole

pairs_again : (bytes : List ℕ) (room : ℕ) (line : List ℕ) (at : ℕ) (rest : List ℕ)
    → AreBytes room bytes → EndsWord rest → drop at line ≡ encode_lower bytes ++ rest
    → pairs_from room line at ≡ (bytes, at + length (encode_lower bytes))
unfolding pairs_from encode_with
pairs_again [] zero line at rest are ends e =
    ap (λ n. pair_read [] n) {x = at} {y = at + 0} (omega arith)
  where
    pair_read : List ℕ → ℕ → List ℕ × ℕ
    pair_read bytes n = (bytes, n)
pairs_again [] (suc room) line at rest are ends e =
    pairs_done (suc room) room line at (omega arith) (no_pair line at rest ends e)
    ∙ ap (λ n. pair_read [] n) {x = at} {y = at + 0} (omega arith)
  where
    pair_read : List ℕ → ℕ → List ℕ × ℕ
    pair_read bytes n = (bytes, n)
pairs_again (b ∷ bytes) zero line at rest are ends e = absurd (omega (arith, are.few))
pairs_again (b ∷ bytes) (suc room) line at rest are ends e =
    let behind : drop (at + 2) line ≡ encode_lower bytes ++ rest =
    drop_past line at (digit (b / 16) ∷ digit (b % 16) ∷ []) (encode_lower bytes ++ rest) e in
    let fewer : AreBytes room bytes =
    record { few = omega (arith, are.few); fit = λ i. are.fit (suc i) } in
    let more = pairs_again bytes room line (at + 2) rest fewer ends behind in
    let len : at + 2 + length (encode_lower bytes) ≡ at + length (encode_lower (b ∷ bytes)) =
    omega arith in
    pairs_more (suc room) room line at b (omega arith)
    (pair_again line at b (encode_lower bytes ++ rest) (are.fit 0) e)
    ∙ ap (λ (x : List ℕ × ℕ). pair_read (b ∷ x.0) x.1) more
    ∙ ap (pair_read (b ∷ bytes)) len
  where
    pair_read : List ℕ → ℕ → List ℕ × ℕ
    pair_read bytes n = (bytes, n)

-- ---- a field

nonempty : (line : List ℕ) (at : ℕ) (bytes : List ℕ) (next : ℕ)
    → Spells line at (encode_lower bytes) next → (next ≡ at → ⊥)
    → hex_text bytes ≡ encode_lower bytes
unfolding hex_text encode_with
nonempty line at [] next s moved = absurd (moved (omega (arith, s.length_is)))
nonempty line at (b ∷ bytes) next s moved = refl

dash_spelled : (line : List ℕ) (at : ℕ) → Spells line at (45 ∷ []) (at + 1)
    → Spells line at (hex_text []) (at + 1)
unfolding hex_text
dash_spelled line at s = s

refused : {A : Type 0} (b : Bool) (d : TextFault) (x : Result A TextFault) (y : A)
    → cond b (Err d) x ≡ Ok y → (b ≡ false) × (x ≡ Ok y)
refused true d x y e = absurd cc
refused false d x y e = (refl, e)

name_takes : (most : ℕ) (line : List ℕ) (at : ℕ) (x : List ℕ × ℕ) → hex_at most line at ≡ Ok x
    → Spells line at (hex_text x.0) x.1 × AreBytes most x.0
unfolding hex_at
name_takes most line at x e =
    let read = pairs_from most line at in
    let t = pairs_takes most line at in
    elim (chosen (eqb (get_or line at 0) 45) (read_of [] (at + 1))
    (cond (is_odd_at most line read) (Err (Grammar (read.1 + 1)))
    (cond (eqb read.1 at) (Err (Grammar at)) (Ok read))) (Ok x) e) [
      | inl dash ↦
          subst (λ (z : List ℕ × ℕ). Spells line at (hex_text z.0) z.1 × AreBytes most z.0)
          (ok_is ([], at + 1) x dash.1) (
            dash_spelled line at (Spells-byte line at 45 (eqb-true _ 45 dash.0) (omega arith)),
            bytes-nil most,
          )
      | inr other ↦
          let even = refused (is_odd_at most line read) (Grammar (read.1 + 1))
          (cond (eqb read.1 at) (Err (Grammar at)) (Ok read)) x other.1 in
          let some = refused (eqb read.1 at) (Grammar at) (Ok read) x even.1 in
          let text = nonempty line at read.0 read.1 t.0 (eqb-false read.1 at some.0) in
          subst (λ (z : List ℕ × ℕ). Spells line at (hex_text z.0) z.1 × AreBytes most z.0)
          (ok_is read x some.1)
          (subst (λ (l : List ℕ). Spells line at l read.1) (sym text) t.0, t.1)
    ]

name_again : (most : ℕ) (line : List ℕ) (at : ℕ) (bytes rest : List ℕ) → AreBytes most bytes
    → EndsWord rest → drop at line ≡ hex_text bytes ++ rest
    → hex_at most line at ≡ Ok (bytes, at + length (hex_text bytes))
unfolding hex_at hex_text encode_with
name_again most line at [] rest are ends e =
    let read = pairs_from most line at in
    let dash : eqb (get_or line at 0) 45 ≡ true = eq-eqb _ 45 (head_at line at (45 ∷ rest) e) in
    ap (λ (b : Bool). cond b (read_of [] (at + 1))
    (cond (is_odd_at most line read) (Err (Grammar (read.1 + 1)))
    (cond (eqb read.1 at) (Err (Grammar at)) (Ok read)))) dash
name_again most line at (b ∷ bytes) rest are ends e =
    let text = encode_lower (b ∷ bytes) in
    let read = pairs_from most line at in
    let end = at + length text in
    let all : read ≡ (b ∷ bytes, end) = pairs_again (b ∷ bytes) most line at rest are ends e in
    let lt : b < 256 = are.fit 0 in
    let above = digit_above (b / 16) (omega arith) in
    let first = head_at line at (digit (b / 16) ∷ digit (b % 16) ∷ (encode_lower bytes ++ rest))
    e in
    let no_dash : eqb (get_or line at 0) 45 ≡ false =
    ne_eqb _ 45 (λ z. omega (arith, first, above, z)) in
    let behind : drop end line ≡ rest = drop_past line at text rest e in
    let even : is_odd_at most line (b ∷ bytes, end) ≡ false =
    ap (λ (o : Option ℕ). nat_lt (length (b ∷ bytes)) most && is_some o)
    (ap hex_value (head_at line end rest behind) ∙ no_digit rest ends)
    ∙ and_no (nat_lt (length (b ∷ bytes)) most) in
    let moved : eqb end at ≡ false = ne_eqb end at (λ z. omega (arith, z)) in
    ap (λ (c : Bool). cond c (read_of [] (at + 1))
    (cond (is_odd_at most line read) (Err (Grammar (read.1 + 1)))
    (cond (eqb read.1 at) (Err (Grammar at)) (Ok read)))) no_dash
    ∙ ap (λ (x : List ℕ × ℕ). name_of x (is_odd_at most line x) (eqb x.1 at)) all
    ∙ (λ i. name_of (b ∷ bytes, end) (even i) (moved i))
  where
    and_no : (c : Bool) → (c && false) ≡ false
    and_no true = refl
    and_no false = refl

    name_of : List ℕ × ℕ → Bool → Bool → Read (List ℕ)
    name_of x odd same = cond odd (Err (Grammar (x.1 + 1))) (cond same (Err (Grammar at)) (Ok x))

pub name_field : (most : ℕ) → IsField (hex_at most) hex_text (AreBytes most)
name_field most = record { takes = name_takes most; again = name_again most }
