-- Bytes that are placed at an offset, in place.
use Rattle.std.proofs.Common.{◌≡◌, ℕ, zero, suc, ◌+◌, ◌-◌, ◌≤◌, max, List, [], ◌∷◌, ◌++◌, length, take, drop, replicate, refl, sym, ap, ◌∙◌, arith, inl, inr, append_assoc}
use Rattle.std.proofs.lemmas.Bool.{cases_lt}
use Rattle.std.proofs.lemmas.List.{append-nil, length-append, length-replicate, take_all, take_at, take-append-le, replicate-append-replicate}
use Rattle.file_tree.specs.Outcome.{resized, written}

drop_nil : (n : ℕ) → drop {A = ℕ} n [] ≡ []
drop_nil zero = refl
drop_nil (suc n) = refl

drop_past : (n : ℕ) (bytes : List ℕ) → length bytes ≤ n → drop n bytes ≡ []
drop_past n [] le = drop_nil n
drop_past zero (x ∷ xs) le = absurd (omega arith)
drop_past (suc n) (x ∷ xs) le = drop_past n xs (omega (arith, le))

-- at the end
pub written_end : (old : List ℕ) (offset : ℕ) (bytes : List ℕ) → offset ≡ length old
    → written old offset bytes ≡ old ++ bytes
written_end old offset bytes e =
    let front : take offset old ≡ old = take_all offset old (omega (arith, e)) in
    let none : offset - length old ≡ 0 = omega (arith, e) in
    let rest : drop (offset + length bytes) old ≡ [] =
    drop_past (offset + length bytes) old (omega (arith, e)) in
    rw (front, none, rest) (append-nil ((old ++ []) ++ bytes)
    ∙ ap (λ (xs : List ℕ). xs ++ bytes) (append-nil old))

-- in bytes that were extended with zeros
front_is : (old : List ℕ) (offset end : ℕ) → offset ≤ end → length old ≤ end
    → take offset (old ++ replicate (end - length old) 0) ≡ resized old offset
front_is old offset end le most = elim (cases_lt offset (length old)) [
  | inl lt ↦
      let none : offset - length old ≡ 0 = omega (arith, lt) in
      rw none (take-append-le offset old (replicate (end - length old) 0) (omega (arith, lt))
      ∙ sym (append-nil (take offset old)))
  | inr past ↦
      let whole : take offset old ≡ old = take_all offset old past in
      let split : end - length old ≡ (offset - length old) + (end - offset) =
      omega (arith, past, le) in
      rw (
        whole,
        split,
        sym (replicate-append-replicate {A = ℕ} (offset - length old) (end - offset) 0),
        sym (append_assoc old (replicate (offset - length old) 0) (replicate (end - offset) 0)),
      ) (take_at (old ++ replicate (offset - length old) 0) (replicate (end - offset) 0) offset
      (length-append old (replicate (offset - length old) 0)
      ∙ omega (arith, past, length-replicate {A = ℕ} (offset - length old) 0)))
]

rest_is : (old : List ℕ) (after end : ℕ) → after ≤ end → length old ≤ end
    → end ≡ max (length old) after
    → drop after (old ++ replicate (end - length old) 0) ≡ drop after old
rest_is old after end le most e = elim (cases_lt (length old) after) [
  | inl lt ↦
      rw (
        drop_past after old (omega (arith, lt)),
        drop_past after (old ++ replicate (end - length old) 0)
            (omega (
              arith,
              e,
              lt,
              length-append old (replicate (end - length old) 0),
              length-replicate {A = ℕ} (end - length old) 0,
            )),
      ) refl
  | inr past ↦
      let none : end - length old ≡ 0 = omega (arith, e, past) in
      rw none (ap (λ (xs : List ℕ). drop after xs) (append-nil old))
]

pub written_over : (old grown : List ℕ) (offset : ℕ) (bytes : List ℕ) (end : ℕ)
    → end ≡ max (length old) (offset + length bytes)
    → grown ≡ take end old ++ replicate (end - length old) 0
    → written old offset bytes ≡ take offset grown ++ bytes ++ drop (offset + length bytes) grown
written_over old grown offset bytes end e g =
    let most : length old ≤ end = omega (arith, e) in
    let after : offset + length bytes ≤ end = omega (arith, e) in
    let whole : grown ≡ old ++ replicate (end - length old) 0 =
    g ∙ ap (λ (xs : List ℕ). xs ++ replicate (end - length old) 0) (take_all end old most) in
    rw (
      whole,
      front_is old offset end (omega (arith, after)) most,
      rest_is old (offset + length bytes) end after most e,
    ) refl

pub ruleset writes = (written_end, written_over)
