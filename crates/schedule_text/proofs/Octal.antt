-- The octal digits of a number, one at a time.
use Rattle.std.proofs.Common.{◌≡◌, ℕ, zero, suc, ◌+◌, ◌/◌, ◌%◌, ◌^◌, ◌<◌, ◌≤◌, inl, inr, Bool, false, cond, List, [], ◌∷◌, ◌++◌, refl, sym, ap, ◌∙◌, append_assoc, arith}
use Rattle.std.proofs.lemmas.Bool.{cases_lt, eq-eqb, ne_eqb, lt-ltb}
use Rattle.std.specs.Fmt.{digit_glyph, digits_onto, digits}

abbrev spell : ℕ → ℕ → List ℕ → List ℕ
spell k n acc = digits_onto k 8 false n acc

abbrev last_glyph : ℕ → ℕ
last_glyph n = digit_glyph false (n % 8)

glyph_is : (d : ℕ) → d < 8 → digit_glyph false d ≡ 48 + d
glyph_is d lt = ap (λ (b : Bool). cond b (48 + d) (87 + d)) (lt-ltb d 10 (omega arith))

spell_last : (k n : ℕ) (acc : List ℕ) → n < 8 → spell (suc k) n acc ≡ last_glyph n ∷ acc
spell_last k n acc h =
    ap (λ t. cond t (last_glyph n ∷ acc) (spell k (n / 8) (last_glyph n ∷ acc)))
    (eq-eqb (n / 8) 0 (omega arith))

spell_next : (k n : ℕ) (acc : List ℕ) → 8 ≤ n
    → spell (suc k) n acc ≡ spell k (n / 8) (last_glyph n ∷ acc)
spell_next k n acc h =
    ap (λ t. cond t (last_glyph n ∷ acc) (spell k (n / 8) (last_glyph n ∷ acc)))
    (ne_eqb (n / 8) 0 (λ e. omega arith))

spell-append : (k n : ℕ) (acc : List ℕ) → spell k n acc ≡ spell k n [] ++ acc
spell-append zero n acc = refl
spell-append (suc k) n acc =
    elim (cases_lt n 8) [
      | inl l ↦ spell_last k n acc l ∙ ap (λ x. x ++ acc) (sym (spell_last k n [] l))
      | inr l ↦ spell_next k n acc l ∙ spell-append k (n / 8) (last_glyph n ∷ acc)
          ∙ sym (append_assoc (spell k (n / 8) []) (last_glyph n ∷ []) acc)
          ∙ ap (λ x. x ++ acc)
          (sym (spell_next k n [] l ∙ spell-append k (n / 8) (last_glyph n ∷ [])))
    ]

-- the digit limit does not matter once it is large enough
spell_enough : (j k n : ℕ) (acc : List ℕ) → n < 8 ^ suc j → n < 8 ^ suc k
    → spell (suc j) n acc ≡ spell (suc k) n acc
spell_enough zero k n acc p q =
    spell_last zero n acc (omega arith) ∙ sym (spell_last k n acc (omega arith))
spell_enough (suc j) zero n acc p q =
    spell_last (suc j) n acc (omega arith) ∙ sym (spell_last zero n acc (omega arith))
spell_enough (suc j) (suc k) n acc p q =
    elim (cases_lt n 8) [
      | inl l ↦ spell_last (suc j) n acc l ∙ sym (spell_last (suc k) n acc l)
      | inr l ↦ spell_next (suc j) n acc l
          ∙ spell_enough j k (n / 8) (last_glyph n ∷ acc) (omega arith) (omega arith)
          ∙ sym (spell_next (suc k) n acc l)
    ]

pub octal_digit : (d : ℕ) → d < 8 → digits 8 false d ≡ (48 + d) ∷ []
unfolding digits
octal_digit d lt =
    let same : d % 8 ≡ d = omega arith in
    spell_last 63 d [] lt ∙ ap (λ x. x ∷ []) (ap (digit_glyph false) same ∙ glyph_is d lt)

pub octal_step : (n : ℕ) → 8 ≤ n → n < 2 ^ 64 → digits 8 false n ≡ digits 8 false (n / 8)
    ++ (48 + n % 8) ∷ []
unfolding digits
octal_step n h small =
    spell_next 63 n [] h
    ∙ spell_enough 62 63 (n / 8) (last_glyph n ∷ []) (omega arith) (omega arith)
    ∙ spell-append 64 (n / 8) (last_glyph n ∷ [])
    ∙ ap (λ x. digits_onto 64 8 false (n / 8) [] ++ x ∷ []) (glyph_is (n % 8) (omega arith))
