-- The bytes at hand.
use Rattle.std.proofs.Common.{◌≡◌, ℕ, ◌-◌, ◌<◌, ◌≤◌, suc, List, [], ◌∷◌, length, take, drop, get_or, refl, arith, drop-cons}
use Rattle.std.specs.Prelude.{slice_range}
use Rattle.std.specs.Prelude.{◌+◌, Option, Some, None, slice_index, unwrap_or}
use Rattle.std.proofs.Common.{zero, ap, sym, ◌∙◌, ne_eqb, eq-eqb}
use Rattle.std.proofs.lemmas.List.{drop-take, drop-drop}
use Rattle.memchr.specs.Find.{IsFirstByte, is_byte}
use Rattle.line_reader.specs.Lines.{Feedless}
use native.Mathlib.Numerals.{unary_clauses}

-- the element at the front of a range
pub front : (bytes : List ℕ) (at end d : ℕ) → at < end → end ≤ length bytes → (rest : List ℕ) × (slice_range bytes at end ≡ get_or bytes at d ∷ rest)
front bytes at end d below within =
    let within_at : at < length bytes = omega arith in
    let count : end - at ≡ suc (end - at - 1) = omega arith in
    (take (end - at - 1) (drop (suc at) bytes), rw (drop-cons bytes at d, count) (simp unary_clauses refl))

-- an empty range
pub nothing : (bytes : List ℕ) (at end : ℕ) → end ≤ at → slice_range bytes at end ≡ []
nothing bytes at end past = let none : end - at ≡ 0 = omega arith in rw none refl

-- the first bytes, where none of them is a line feed
feedless_take : (held : List ℕ) (n : ℕ) → ((k : ℕ) → k < n → k < length held → slice_index held k ≡ 10 → ⊥) → Feedless (take n held)
feedless_take [] zero h = tt
feedless_take [] (suc n) h = tt
feedless_take (b ∷ held) zero h = tt
feedless_take (b ∷ held) (suc n) h = (
  ne_eqb b 10 (λ e. h 0 (omega arith) (omega arith) e),
  feedless_take held n (λ k below within is. h (suc k) (omega (arith, below)) (omega (arith, within)) is),
)

-- the bytes before the first line feed, or some first ones of them
pub plain_front : (held : List ℕ) (found : Option ℕ) (n : ℕ) → IsFirstByte (is_byte 10) held found → n ≤ unwrap_or found (length held)
    → Feedless (take n held)
plain_front held None n nowhere few =
    feedless_take held n (λ k below within is. nowhere k (omega arith) within (eq-eqb _ 10 is))
plain_front held (Some at) n first few =
    feedless_take held n (λ k below within is. first.0.before k (omega arith) (omega (arith, below, few)) (eq-eqb _ 10 is))

-- a range of which some first elements are left out
pub taken : (bytes : List ℕ) (at end count : ℕ) → count ≤ end - at → slice_range bytes (at + count) end ≡ drop count (slice_range bytes at end)
taken bytes at end count few =
    ap (λ (xs : List ℕ). take (end - (at + count)) xs) (sym (drop-drop count at bytes))
    ∙ sym (drop-take count (end - (at + count)) (drop at bytes))
    ∙ ap (λ (m : ℕ). drop count (take m (drop at bytes))) {x = count + (end - (at + count))} {y = end - at} (omega (arith, few))
