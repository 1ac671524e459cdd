-- Things that happen one after the other, each from where the one before led.
use Rattle.std.specs.Prelude.{◌≡◌, ◌⊎◌, List, [], ◌∷◌}

-- one after the other, from a to c
abbrev pub Chain : {A S : Type 0} → (A → S → S → Type 0) → List A → S → S → Type 0
Chain R [] a c = c ≡ a
Chain {S = S} R (x ∷ xs) a c = (b : S) × R x a b × Chain R xs b c

-- a front of them, from a on, and then a part of the next one, which leaves this
abbrev pub Stops : {A S T : Type 0} → (A → S → S → Type 0) → (A → S → T → Type 0) → List A → S → T
    → Type 0
Stops R P [] a left = ⊥
Stops {S = S} R P (x ∷ xs) a left =
    P x a left ⊎ ((b : S) × R x a b × Stops R P xs b left)
