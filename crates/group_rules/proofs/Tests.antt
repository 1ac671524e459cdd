-- What tests say, and what holds of a choice by a test.
use Rattle.std.proofs.Common.{◌≡◌, ℕ, ◌<◌, ◌≤◌, ◌⊎◌, ◌&&◌, ◌||◌, not, List, [], ◌∷◌, Bool, true, false, refl, sym, inl, inr, arith, true≢false, nat_lt, nat_le, ◌==◌, if◌then◌else◌}
use Rattle.std.specs.Prelude.{⊤}
use Rattle.std.proofs.lemmas.Bool.Decides.{nat_tests}
use Rattle.group_rules.specs.Places.{all_of}

-- a choice by a test
pub by_if : {A : Type 0} (P : A → Type 0) (b : Bool) (x y : A) → (b ≡ true → P x)
    → (b ≡ false → P y) → P (if b then x else y)
by_if P true x y t f = t refl
by_if P false x y t f = f refl

pub if_is : {A : Type 0} (b : Bool) (x y : A) → b ≡ true → (if b then x else y) ≡ x
if_is true x y e = refl
if_is false x y e = cc

pub if_not : {A : Type 0} (b : Bool) (x y : A) → b ≡ false → (if b then x else y) ≡ y
if_not true x y e = cc
if_not false x y e = refl

-- the tests one by one
abbrev pub Each' : List Bool → Type 0
Each' [] = ⊤
Each' (b ∷ bs) = (b ≡ true) × Each' bs

pub each_of : (bs : List Bool) → all_of bs ≡ true → Each' bs
unfolding all_of
each_of [] e = tt
each_of (true ∷ bs) e = (refl, each_of bs e)
each_of (false ∷ bs) e = absurd (true≢false (sym e))

pub all_true : (bs : List Bool) → Each' bs → all_of bs ≡ true
unfolding all_of
all_true [] e = refl
all_true (true ∷ bs) e = all_true bs e.1
all_true (false ∷ bs) e = absurd (true≢false (sym e.0))

pub left : (a b : Bool) → (a && b) ≡ true → a ≡ true
left true b e = refl
left false b e = e

pub right : (a b : Bool) → (a && b) ≡ true → b ≡ true
right true b e = e
right false b e = absurd (true≢false (sym e))

pub one_of : (a b : Bool) → (a || b) ≡ true → (a ≡ true) ⊎ (b ≡ true)
one_of true b e = inl refl
one_of false b e = inr e

pub neither : (a b : Bool) → (a || b) ≡ false → (a ≡ false) × (b ≡ false)
neither true b e = cc
neither false b e = (refl, e)

pub not_false : (a : Bool) → not a ≡ false → a ≡ true
not_false true e = refl
not_false false e = cc

pub is_le : (a b : ℕ) → nat_le a b ≡ true → a ≤ b
is_le a b e = grind (arith, nat_tests)

pub not_le : (a b : ℕ) → nat_le a b ≡ false → b < a
not_le a b e = grind (arith, nat_tests)

pub le_is : (a b : ℕ) → a ≤ b → nat_le a b ≡ true
le_is a b e = grind (arith, nat_tests)

pub is_lt : (a b : ℕ) → nat_lt a b ≡ true → a < b
is_lt a b e = grind (arith, nat_tests)

pub not_lt : (a b : ℕ) → nat_lt a b ≡ false → b ≤ a
not_lt a b e = grind (arith, nat_tests)

pub lt_is : (a b : ℕ) → a < b → nat_lt a b ≡ true
lt_is a b e = grind (arith, nat_tests)

pub is_eq' : (a b : ℕ) → (a == b) ≡ true → a ≡ b
is_eq' a b e = grind (arith, nat_tests)

pub eq_is : (a b : ℕ) → a ≡ b → (a == b) ≡ true
eq_is a b e = grind (arith, nat_tests)

-- neither equal nor below
pub above : (a b : ℕ) → (a == b) ≡ false → nat_lt a b ≡ false → b < a
above a b e f = grind (arith, nat_tests)
