-- One turn of reading bits.
use Rattle.std.proofs.Common.{◌≡◌, ℕ, zero, suc, ◌+◌, ◌≤◌, inl, inr, Bool, List, [], ◌∷◌, ◌++◌, length, get_or, Option, Some, None, sym, ap, ◌∙◌, append_assoc, arith}
use Rattle.std.proofs.lemmas.Bool.{cases_lt}
use Rattle.std.proofs.lemmas.List.{append-nil, get_or_past}
use Rattle.schedule_text.specs.Reading.{bit_of, bits_from}

-- what a turn gives
turn : ℕ → List ℕ → ℕ → Option Bool → List Bool × ℕ
turn next line at o =
    elim o [
      | None ↦ ([], at)
      | Some bit ↦
          (bit ∷ (bits_from next line (at + 1)).0, (bits_from next line (at + 1)).1)
    ]

bits_turn : (room next : ℕ) (line : List ℕ) (at : ℕ) (o : Option Bool) → room ≡ next + 1
    → bit_of (get_or line at 0) ≡ o → bits_from room line at ≡ turn next line at o
unfolding bits_from turn
bits_turn room next line at o e is =
    ap (λ n. bits_from n line at) {x = room} {y = suc next} (omega arith)
    ∙ ap (turn next line at) is

pub bits_more : (room next : ℕ) (line : List ℕ) (at : ℕ) (bit : Bool) → room ≡ next + 1
    → bit_of (get_or line at 0) ≡ Some bit
    → bits_from room line
    at ≡ (bit ∷ (bits_from next line (at + 1)).0, (bits_from next line (at + 1)).1)
unfolding turn
bits_more room next line at bit e is = bits_turn room next line at (Some bit) e is

pub bits_done : (room next : ℕ) (line : List ℕ) (at : ℕ) → room ≡ next + 1
    → bit_of (get_or line at 0) ≡ None → bits_from room line at ≡ ([], at)
unfolding turn
bits_done room next line at e is = bits_turn room next line at None e is

abbrev read : List Bool → ℕ → List Bool × ℕ
read bits at = (bits, at)

-- what was read when no bit is left
pub bits_end : (items : List Bool) (place : ℕ) (rest whole : List Bool × ℕ) → rest ≡ ([], place)
    → items ++ rest.0 ≡ whole.0 → rest.1 ≡ whole.1 → read items place ≡ whole
bits_end items place rest whole e bits end =
    let all : items ≡ whole.0 =
    sym (append-nil items) ∙ ap (λ (x : List Bool × ℕ). items ++ x.0) (sym e) ∙ bits in
    let at : place ≡ whole.1 = ap (λ (x : List Bool × ℕ). x.1) (sym e) ∙ end in
    λ i. read (all i) (at i)

-- one more bit in front of the rest
pub bits_next : (items pushed : List Bool) (b : Bool) (rest next whole : List Bool × ℕ)
    → rest ≡ (b ∷ next.0, next.1) → pushed ≡ items ++ b ∷ [] → items ++ rest.0 ≡ whole.0 → pushed
    ++ next.0 ≡ whole.0
bits_next items pushed b rest next whole e more bits =
    ap (λ (l : List Bool). l ++ next.0) more ∙ append_assoc items (b ∷ []) next.0
    ∙ ap (λ (x : List Bool × ℕ). items ++ x.0) (sym e) ∙ bits

pub bits_none : (room : ℕ) (line : List ℕ) (at : ℕ) → room ≡ 0
    → bits_from room line at ≡ ([], at)
unfolding bits_from
bits_none room line at e = ap (λ n. bits_from n line at) {x = room} {y = zero} e

-- a bit stands in the line
pub bit_inside : (line : List ℕ) (at : ℕ) (bit : Bool) → bit_of (get_or line at 0) ≡ Some bit
    → at + 1 ≤ length line
bit_inside line at bit e =
    elim (cases_lt at (length line)) [
      | inl lt ↦ omega (arith, lt)
      | inr le ↦ absurd (no_bit bit (ap bit_of (sym (get_or_past line at 0 le)) ∙ e))
    ]
  where
    no_bit : (b : Bool) → bit_of 0 ≡ Some b → ⊥
    no_bit b e = cc
