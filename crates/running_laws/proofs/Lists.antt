-- Lists: what stands in them, and where.
use Rattle.std.proofs.Common.{◌≡◌, ℕ, zero, suc, List, [], ◌∷◌, ◌++◌, length, flat_map, Contains, Some, refl, arith, slice_get, ⊎_elim}
use Rattle.std.proofs.lemmas.List.Elements.{Contains-append_cases}

-- what holds of all that each makes holds of all that they make together
pub in_flat_map : {X Y : Type 0} (P : Y → Type 0) (f : X → List Y)
    → ((x : X) (y : Y) → Contains (f x) y → P y) → (xs : List X) (y : Y)
    → Contains (flat_map f xs) y → P y
in_flat_map P f each [] y h = absurd (omega (arith, h.1))
in_flat_map P f each (x ∷ xs) y h = ⊎_elim (each x y) (in_flat_map P f each xs y)
    (Contains-append_cases (f x) (flat_map f xs) y h)

-- it stands where it stood with more behind
pub stays_there : {X : Type 0} (xs ys : List X) (n : ℕ) (x : X) → slice_get xs n ≡ Some x
    → slice_get (xs ++ ys) n ≡ Some x
stays_there [] ys n x e = absurd cc
stays_there (y ∷ xs) ys zero x e = e
stays_there (y ∷ xs) ys (suc n) x e = stays_there xs ys n x e

pub stands_behind : {X : Type 0} (xs ys : List X) (x : X)
    → slice_get (xs ++ (x ∷ ys)) (length xs) ≡ Some x
stands_behind [] ys x = refl
stands_behind (y ∷ xs) ys x = stands_behind xs ys x
