-- Records that follow each other.
use Rattle.std.proofs.Common.{◌≡◌, ℕ, zero, suc, ◌+◌, ◌<◌, List, [], ◌∷◌, ◌++◌, length, take, drop, get_or, Option, Some, None, Bor, refl, ap, subst, ◌∙◌, arith}
use Rattle.std.specs.Prelude.{IfSome, IsSome, ◌↔◌}
use Rattle.event_record.specs.declared.record.RecordFields.{RecordFields as Record}
use Rattle.volatile_log.specs.Log.{AreNumberedAfter, AreNumberedFrom}

-- one more record with the next index
pub numbered_more : (n : ℕ) (rs : List Record) (r : Record) → AreNumberedAfter n rs
    → r.index ≡ n + length rs + 1 → AreNumberedAfter n (rs ++ r ∷ [])
numbered_more n [] r h next = (omega (arith, next), tt)
numbered_more n (x ∷ rs) r h next = (h.0, numbered_more (n + 1) rs r h.1 (omega (arith, next)))

-- the record of a place has the place's index
numbered_at : (n : ℕ) (rs : List Record) (i : ℕ) (r : Record) → AreNumberedAfter n rs
    → i < length rs → r ≡ get_or rs i r → r.index ≡ n + i + 1
numbered_at n [] i r h within is = absurd (omega (arith, within))
numbered_at n (x ∷ rs) zero r h within is = omega (arith, h.0, ap (λ (y : Record). y.index) is)
numbered_at n (x ∷ rs) (suc i) r h within is =
    omega (arith, numbered_at (n + 1) rs i r h.1 (omega (arith, within)) is)

-- the same of a record that is lent
pub lent_at : (n : ℕ) (rs : List Record) (i index : ℕ) (r : Option (Bor Record))
    → AreNumberedAfter n rs → IsSome r ↔ (i < length rs)
    → IfSome r (λ x. x.now ≡ get_or rs i x.now) → n + i + 1 ≡ index
    → IfSome r (λ x. x.now.index ≡ index)
lent_at n rs i index None h within is at = tt
lent_at n rs i index (Some r) h within is at = numbered_at n rs i r.now h (within.0 refl) is ∙ at

-- ---- records that were dropped, cut off, pulled and put together

-- the same numbers, said otherwise
pub renumbered : (m n : ℕ) (rs : List Record) → m ≡ n → AreNumberedAfter m rs → AreNumberedAfter n rs
renumbered m n rs same h = subst (λ k. AreNumberedAfter k rs) same h

pub numbered_drop : (n k : ℕ) (rs : List Record) → AreNumberedAfter n rs → AreNumberedAfter (n + k) (drop k rs)
numbered_drop n zero rs h = renumbered n (n + 0) rs (omega arith) h
numbered_drop n (suc k) [] h = tt
numbered_drop n (suc k) (x ∷ rs) h = renumbered (n + 1 + k) (n + suc k) (drop k rs) (omega arith) (numbered_drop (n + 1) k rs h.1)

pub numbered_take : (n k : ℕ) (rs : List Record) → AreNumberedAfter n rs → AreNumberedAfter n (take k rs)
numbered_take n zero rs h = tt
numbered_take n (suc k) [] h = tt
numbered_take n (suc k) (x ∷ rs) h = (h.0, numbered_take (n + 1) k rs h.1)

pub numbered_append : (n : ℕ) (xs ys : List Record) → AreNumberedAfter n xs → AreNumberedAfter (n + length xs) ys → AreNumberedAfter n (xs ++ ys)
numbered_append n [] ys h more = renumbered (n + 0) n ys (omega arith) more
numbered_append n (x ∷ xs) ys h more = (h.0, numbered_append (n + 1) xs ys h.1 (renumbered (n + suc (length xs)) (n + 1 + length xs) ys (omega arith) more))

-- a staging list's records, the first with the index n + 1
pub staged_after : (m n : ℕ) (rs : List Record) → m ≡ n + 1 → AreNumberedFrom m rs → AreNumberedAfter n rs
staged_after m n [] first h = tt
staged_after m n (x ∷ rs) first h = (h.0 ∙ first, staged_after (m + 1) (n + 1) rs (ap (λ k. k + 1) first) h.1)

pub staged_more : (n : ℕ) (rs : List Record) (r : Record) → AreNumberedFrom n rs → r.index ≡ n + length rs → AreNumberedFrom n (rs ++ r ∷ [])
staged_more n [] r h next = (omega (arith, next), tt)
staged_more n (x ∷ rs) r h next = (h.0, staged_more (n + 1) rs r h.1 (omega (arith, next)))
