-- The octal digits of a number: the last one stands behind those of an eighth of it.
use Rattle.std.proofs.Common.{◌≡◌, ◌<◌, ◌≤◌, ℕ, zero, suc, ◌+◌, ◌/◌, ◌%◌, ◌^◌, ◌*◌, Bool, true, false, cond, eqb, List, [], ◌∷◌, ◌++◌, refl, sym, ap, ◌∙◌, subst, arith, append_assoc, lt-ltb, eqb-true}
use Rattle.std.specs.Fmt.{digit_glyph, digits_onto, digits}
use Rattle.std.proofs.lemmas.Bool.{eqb-false}
use Rattle.std.proofs.lemmas.Nat.{pow-add, div_below}
use Rattle.text_spelling.specs.Text.{octal}

-- the digits before others
abbrev onto : ℕ → ℕ → List ℕ → List ℕ
onto k n acc = digits_onto k 8 false n acc

abbrev last : ℕ → ℕ
last n = digit_glyph false (n % 8)

-- what is behind stays behind
front : (k n : ℕ) (acc : List ℕ) → onto k n acc ≡ onto k n [] ++ acc
front zero n acc = refl
front (suc k) n acc = by (front k (n / 8)) (eqb (n / 8) 0)
  where
    by : ((more : List ℕ) → onto k (n / 8) more ≡ onto k (n / 8) [] ++ more) → (b : Bool) → cond b (last n ∷ acc) (onto k (n / 8) (last n ∷ acc))
        ≡ cond b (last n ∷ []) (onto k (n / 8) (last n ∷ [])) ++ acc
    by less true = refl
    by less false = less (last n ∷ acc)
        ∙ sym (append_assoc (onto k (n / 8) []) (last n ∷ []) acc)
        ∙ ap (λ (x : List ℕ). x ++ acc) (sym (less (last n ∷ [])))

-- so many digits suffice
same : (k n : ℕ) (acc : List ℕ) → n < 8 ^ (k + 1) → onto (suc k) n acc ≡ onto (suc (suc k)) n acc
same zero n acc small = by (eqb (n / 8) 0) refl
  where
    by : (b : Bool) → eqb (n / 8) 0 ≡ b → cond b (last n ∷ acc) (onto 0 (n / 8) (last n ∷ acc))
        ≡ cond b (last n ∷ acc) (onto 1 (n / 8) (last n ∷ acc))
    by true e = refl
    by false e = absurd (eqb-false (n / 8) 0 e (omega (arith, small)))
same (suc k) n acc small = by (same k (n / 8) (last n ∷ acc)) (eqb (n / 8) 0)
  where
    less : n < 8 ^ (k + 1) * 8
    less = subst (λ (m : ℕ). n < m) (ap (λ (j : ℕ). 8 ^ j) {x = suc k + 1} {y = (k + 1) + 1}
        (omega arith) ∙ pow-add 8 (k + 1) 1) small

    by : (n / 8 < 8 ^ (k + 1) → onto (suc k) (n / 8) (last n ∷ acc)
        ≡ onto (suc (suc k)) (n / 8) (last n ∷ acc)) → (b : Bool) → cond b (last n ∷ acc) (onto (suc k) (n / 8) (last n ∷ acc))
        ≡ cond b (last n ∷ acc) (onto (suc (suc k)) (n / 8) (last n ∷ acc))
    by deeper true = refl
    by deeper false = deeper (div_below n 8 (8 ^ (k + 1)) (omega arith) less)

glyph : (d : ℕ) → d < 8 → digit_glyph false d ≡ 48 + d
glyph d small = ap (λ (b : Bool). cond b (48 + d) (cond false (55 + d) (87 + d)))
    (lt-ltb d 10 (omega (arith, small)))

pub octal_digit : (n : ℕ) → n < 8 → octal n ≡ (48 + n) ∷ []
unfolding octal digits
octal_digit n small = by (eqb (n / 8) 0) refl
  where
    by : (b : Bool) → eqb (n / 8) 0 ≡ b → cond b (last n ∷ []) (onto 63 (n / 8) (last n ∷ []))
        ≡ (48 + n) ∷ []
    by true e = ap (λ (d : ℕ). d ∷ []) {x = digit_glyph false (n % 8)} {y = 48 + n} (glyph (n % 8) (omega arith) ∙ omega (arith, small))
    by false e = absurd (eqb-false (n / 8) 0 e (omega (arith, small)))

pub octal_step : (n : ℕ) → 8 ≤ n → n < 2 ^ 32 → octal n ≡ octal (n / 8) ++ (48 + n % 8) ∷ []
unfolding octal digits
octal_step n large small = by (eqb (n / 8) 0) refl
  where
    by : (b : Bool) → eqb (n / 8) 0 ≡ b → cond b (last n ∷ []) (onto 63 (n / 8) (last n ∷ []))
        ≡ onto 64 (n / 8) [] ++ (48 + n % 8) ∷ []
    by true e = absurd (omega (arith, large, eqb-true (n / 8) 0 e))
    by false e = front 63 (n / 8) (last n ∷ [])
        ∙ ap (λ (x : List ℕ). x ++ last n ∷ []) (same 62 (n / 8) [] (omega (arith, small)))
        ∙ ap (λ (d : ℕ). onto 64 (n / 8) [] ++ d ∷ []) (glyph (n % 8) (omega arith))
