-- What happens one after the other, and then more.
use Rattle.std.proofs.Common.{List, [], ◌∷◌, ◌++◌, inl, inr, refl, subst}
use Rattle.node_loop.specs.Chain.{Chain, Stops}

pub chain-append : {A S : Type 0} (R : A → S → S → Type 0) (xs ys : List A) (a b c : S)
    → Chain R xs a b → Chain R ys b c → Chain R (xs ++ ys) a c
chain-append R [] ys a b c e h = subst (λ x. Chain R ys x c) e h
chain-append R (x ∷ xs) ys a b c g h = (g.0, g.1, chain-append R xs ys g.0 b c g.2 h)

pub chain-push : {A S : Type 0} (R : A → S → S → Type 0) (xs : List A) (x : A) (a b c : S)
    → Chain R xs a b → R x b c → Chain R (xs ++ x ∷ []) a c
chain-push R xs x a b c g h = chain-append R xs (x ∷ []) a b c g (c, h, refl)

-- they stopped already
pub stops-front : {A S T : Type 0} (R : A → S → S → Type 0) (P : A → S → T → Type 0)
    (xs ys : List A) (a : S) (left : T) → Stops R P xs a left → Stops R P (xs ++ ys) a left
stops-front R P [] ys a left h = absurd h
stops-front R P (x ∷ xs) ys a left (inl h) = inl h
stops-front R P (x ∷ xs) ys a left (inr h) =
    inr (h.0, h.1, stops-front R P xs ys h.0 left h.2)

-- they stop behind the first ones
pub stops-behind : {A S T : Type 0} (R : A → S → S → Type 0) (P : A → S → T → Type 0)
    (xs ys : List A) (a b : S) (left : T) → Chain R xs a b → Stops R P ys b left
    → Stops R P (xs ++ ys) a left
stops-behind R P [] ys a b left e h = subst (λ x. Stops R P ys x left) e h
stops-behind R P (x ∷ xs) ys a b left g h =
    inr (g.0, g.1, stops-behind R P xs ys g.0 b left g.2 h)
