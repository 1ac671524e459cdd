-- What holds of each element of a list.
use Rattle.std.proofs.Common.{◌≡◌, ℕ, zero, suc, ◌+◌, ◌<◌, List, [], ◌∷◌, ◌++◌, take, drop, length, Some, slice_get, refl, sym, ◌∙◌, subst}
use Rattle.std.proofs.lemmas.Option.{slice_get_within}
use Rattle.group_safety.specs.Words.{Each, Part}

pub each_append : {X : Type 0} (P : X → Type 0) (xs ys : List X) → Each P xs → Each P ys
    → Each P (xs ++ ys)
each_append P [] ys h k = k
each_append P (x ∷ xs) ys h k = (h.0, each_append P xs ys h.1 k)

pub each_take : {X : Type 0} (P : X → Type 0) (n : ℕ) (xs : List X) → Each P xs
    → Each P (take n xs)
each_take P zero xs h = tt
each_take P (suc n) [] h = tt
each_take P (suc n) (x ∷ xs) h = (h.0, each_take P n xs h.1)

pub each_drop : {X : Type 0} (P : X → Type 0) (n : ℕ) (xs : List X) → Each P xs
    → Each P (drop n xs)
each_drop P zero xs h = h
each_drop P (suc n) [] h = tt
each_drop P (suc n) (x ∷ xs) h = each_drop P n xs h.1

pub each_here : {X : Type 0} (P : X → Type 0) (xs : List X) (k : ℕ) (x : X)
    → slice_get xs k ≡ Some x → Each P xs → P x
each_here P [] k x e h = absurd cc
each_here P (y ∷ ys) zero x e h = let z : y ≡ x = cc in subst P z h.0
each_here P (y ∷ ys) (suc k) x e h = each_here P ys k x e h.1

-- of each place
pub each_from : {X : Type 0} (P : X → Type 0) (xs : List X)
    → ((k : ℕ) (x : X) → slice_get xs k ≡ Some x → P x) → Each P xs
each_from P [] f = tt
each_from P (x ∷ xs) f = (f 0 x refl, each_from P xs (λ k y e. f (suc k) y e))

-- a part of a list
pub each_part : {X : Type 0} (P : X → Type 0) (base : ℕ) (items xs : List X)
    → Part base items xs → Each P xs → Each P items
each_part P base items xs part h =
    each_from P items (λ k x e. each_here P xs (base + k) x
    (sym (part k (slice_get_within items k x e)) ∙ e) h)
