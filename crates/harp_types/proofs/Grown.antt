-- What several reads or writes do together.
use Rattle.std.proofs.Common.{◌≡◌, ℕ, ◌+◌, ◌-◌, ◌≤◌, List, [], ◌∷◌, ◌++◌, length, take, drop, refl, sym, ◌∙◌, subst, arith, take-append-drop, take-add}
use Rattle.std.specs.Prelude.{Option}
use Rattle.std.proofs.lemmas.List.{take_rest, drop-drop}
use Rattle.std.specs.Io.KnownBytes.{Appends}
use Rattle.std.proofs.KnownBytes.{Appends-trans}

-- a first part grows by a part of the rest, as a slice gives it
pub Appends-more : (a b c : Option (List ℕ)) (bytes : List ℕ) (at n : ℕ)
    → Appends a b (take at bytes) → Appends b c (take n (take (length bytes - at) (drop at bytes)))
    → Appends a c (take (at + n) bytes)
Appends-more a b c bytes at n p q =
    subst (Appends a c) (sym (take-add at n bytes)) (Appends-trans a b c _ _ p (rw take_rest at q))

pub nothing_left : (xs : List ℕ) → length xs ≤ 0 → xs ≡ []
nothing_left [] e = refl
nothing_left (x ∷ xs) e = absurd (omega arith)

-- the front of what is left was copied, and the rest is left
pub left_after : (bytes into : List ℕ) (at n : ℕ)
    → take n into ≡ take n (take (length bytes - at) (drop at bytes))
    → drop at bytes ≡ take n into ++ drop (at + n) bytes
left_after bytes into at n e = sym (take-append-drop n (drop at bytes))
    ∙ rw (e, take_rest, drop-drop) refl
