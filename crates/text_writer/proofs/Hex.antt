-- The sixteen digits: what arithmetic gives is what the table has.
use Rattle.std.proofs.Common.{◌≡◌, ◌<◌, ℕ, zero, suc, ◌+◌, ◌/◌, ◌%◌, List, [], ◌∷◌, ◌++◌, length, take, drop, Bool, true, false, true≢false, cond, ltb, ◌&&◌, inl, inr, refl, sym, ap, ◌∙◌, append_assoc, arith}
use Rattle.std.proofs.lemmas.List.{take-append-drop, append-nil}
use Rattle.std.specs.Prelude.{◌==◌, slice_index}
use Rattle.std.proofs.lemmas.Bool.{cases_lt, eqb-true, and_parts}
use Rattle.hex.specs.Hex.{encode_lower, encode_with, lower_digits}
use Rattle.text_spelling.specs.Text.{hex_text}

abbrev glyph : ℕ → ℕ
glyph v = cond (ltb v 10) (48 + v) (87 + v)

abbrev same_at : ℕ → Bool
same_at v = glyph v == slice_index lower_digits v

abbrev all_same : ℕ → Bool
all_same zero = true
all_same (suc n) = same_at n && all_same n

all_same-at : (n v : ℕ) → all_same n ≡ true → v < n → same_at v ≡ true
all_same-at zero v h lt = absurd (omega arith)
all_same-at (suc n) v h lt =
    let parts = and_parts (same_at n) (all_same n) h in
    elim (cases_lt v n) [
      | inl below ↦ all_same-at n v parts.1 below
      | inr top ↦ let e : v ≡ n = omega arith in rw e parts.0
    ]

pub glyph_at : (v : ℕ) → v < 16 → glyph v ≡ slice_index lower_digits v
glyph_at v lt = eqb-true (glyph v) (slice_index lower_digits v) (all_same-at 16 v refl lt)

-- ---- the digits of bytes in groups

encode-append : (xs ys : List ℕ) → encode_lower (xs ++ ys) ≡ encode_lower xs ++ encode_lower ys
unfolding encode_with
encode-append [] ys = refl
encode-append (x ∷ xs) ys =
    ap (λ s. slice_index lower_digits (x / 16) ∷ slice_index lower_digits (x % 16) ∷ s)
    (encode-append xs ys)

-- the digits of a group go from what is left to what was written
pub one_group : (before after rest group behind all : List ℕ) (n : ℕ) → group ≡ take n rest
    → behind ≡ drop n rest → after ≡ before ++ encode_lower group
    → before ++ encode_lower rest ≡ all → after ++ encode_lower behind ≡ all
one_group before after rest group behind all n front back wrote h =
    let parts : group ++ behind ≡ rest =
    ap (λ s. s ++ behind) front ∙ ap (λ s. take n rest ++ s) back ∙ take-append-drop n rest in
    ap (λ s. s ++ encode_lower behind) wrote
    ∙ append_assoc before (encode_lower group) (encode_lower behind)
    ∙ ap (λ s. before ++ s) (sym (encode-append group behind))
    ∙ ap (λ s. before ++ encode_lower s) parts ∙ h

-- no byte is left
pub all_groups : (after rest all : List ℕ) → length rest < 1 → after ++ encode_lower rest ≡ all
    → after ≡ all
unfolding encode_with
all_groups after [] all none h = sym (append-nil after) ∙ h
all_groups after (x ∷ rest) all none h = absurd (omega (arith, none))

pub hex-some : (bytes : List ℕ) → (length bytes == 0) ≡ false → hex_text bytes ≡ encode_lower bytes
unfolding hex_text
hex-some [] some = absurd (true≢false some)
hex-some (x ∷ bytes) some = refl
