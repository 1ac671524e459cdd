-- Loops that go over a list and add to what was made.
use Rattle.std.proofs.Common.{◌≡◌, ℕ, zero, suc, arith, ◌+◌, ◌-◌, ◌<◌, ◌≤◌, List, [], ◌∷◌, ◌++◌}
use Rattle.std.proofs.Common.{append_assoc, append-nil, length, drop, get_or, refl, sym, ap, ◌∙◌}
use Rattle.std.proofs.Common.{subst}
use Rattle.std.specs.Prelude.{slice_range}
use Rattle.std.specs.Vec.Iter.{drain_items, drain_steps}
use Rattle.std.proofs.lemmas.Iterator.{YieldsList}
use Rattle.std.proofs.lemmas.Iterator.Consumers.{YieldsList-from_shown}
use Rattle.std.proofs.lemmas.List.{at_drop_more, at_drop_all, take_all}

-- What the elements make from a count on, one after the other; `next` is the count behind one
pub record Makes (X L : Type 0) : Type 0 where
  pub all : ℕ → List X → List L
  pub one : ℕ → X → List L
  pub next : ℕ → X → ℕ

pub record IsMade {X L : Type 0} (m : Makes X L) : Type 0 where
  pub first : (n : ℕ) (x : X) (xs : List X) → m.all n (x ∷ xs) ≡ m.one n x ++ m.all (m.next n x) xs
  pub none : (n : ℕ) → m.all n [] ≡ []

-- what is left makes what its first element makes, and then the rest
pub split : {X L : Type 0} (m : Makes X L) → IsMade m
    → (n : ℕ) (xs : List X) (i : ℕ) (x : X) → i < length xs → x ≡ get_or xs i x
    → m.all n (drop i xs) ≡ m.one n x ++ m.all (m.next n x) (drop (i + 1) xs)
split m h n xs i x below is = at_drop_more (m.all n) xs i x below
    ∙ ap (λ y. m.all n (y ∷ drop (i + 1) xs)) (sym is) ∙ h.first n x (drop (i + 1) xs)

-- what an element makes goes from what is left to what was made
pub moved : {X L : Type 0} (m : Makes X L) → IsMade m
    → (made : List L) (n : ℕ) (xs : List X) (i : ℕ) (x : X) (whole : List L) → i < length xs
    → x ≡ get_or xs i x
    → made ++ m.all n (drop i xs) ≡ whole → (made ++ m.one n x)
    ++ m.all (m.next n x) (drop (i + 1) xs) ≡ whole
moved m h made n xs i x whole below is e =
    append_assoc made (m.one n x) (m.all (m.next n x) (drop (i + 1) xs))
    ∙ ap (λ ys. made ++ ys) (sym (split m h n xs i x below is)) ∙ e

-- at the end all was made
pub ended : {X L : Type 0} (m : Makes X L) → IsMade m
    → (made : List L) (n : ℕ) (xs : List X) (i : ℕ) (whole : List L) → length xs ≤ i
    → made ++ m.all n (drop i xs) ≡ whole → made ≡ whole
ended m h made n xs i whole past e = sym (append-nil made)
    ∙ ap (λ ys. made ++ ys) (sym (at_drop_all (m.all n) xs i past ∙ h.none n)) ∙ e

-- an element within is the same by any default
same_within : {X : Type 0} (xs : List X) (i : ℕ) (d e : X) → i < length xs
    → get_or xs i d ≡ get_or xs i e
same_within [] i d e h = absurd (omega (arith, h))
same_within (x ∷ xs) zero d e h = refl
same_within (x ∷ xs) (suc i) d e h = same_within xs i d e (omega (arith, h))

pub get_again : {X : Type 0} (xs : List X) (i : ℕ) (d : X) → i < length xs
    → get_or xs i d ≡ get_or xs i (get_or xs i d)
get_again xs i d h = same_within xs i d (get_or xs i d) h

-- ---- loops that take the elements

-- the count behind some elements
unfoldable pub reached : {X L : Type 0} (m : Makes X L) → ℕ → List X → ℕ
reached m n [] = n
reached m n (x ∷ xs) = reached m (m.next n x) xs

pub reached_more : {X L : Type 0} (m : Makes X L) (n : ℕ) (xs : List X) (x : X)
    → reached m n (xs ++ x ∷ []) ≡ m.next (reached m n xs) x
unfolding reached
reached_more m n [] x = refl
reached_more m n (y ∷ xs) x = reached_more m (m.next n y) xs x

-- one element more makes more behind what was made
pub made_more : {X L : Type 0} (m : Makes X L) → IsMade m → (n : ℕ) (xs : List X) (x : X)
    → m.all n (xs ++ x ∷ []) ≡ m.all n xs ++ m.one (reached m n xs) x
unfolding reached
made_more m h n [] x =
    h.first n x [] ∙ ap (λ ys. m.one n x ++ ys) (h.none (m.next n x))
    ∙ append-nil (m.one n x) ∙ sym (ap (λ ys. ys ++ m.one n x) (h.none n))
made_more m h n (y ∷ xs) x =
    h.first n y (xs ++ x ∷ [])
    ∙ ap (λ ys. m.one n y ++ ys) (made_more m h (m.next n y) xs x)
    ∙ sym (append_assoc (m.one n y) (m.all (m.next n y) xs) (m.one (reached m (m.next n y) xs) x))
    ∙ sym (ap (λ ys. ys ++ m.one (reached m (m.next n y) xs) x) (h.first n y xs))

-- what was made is what the elements so far make, and one more is taken
pub grown : {X L : Type 0} (m : Makes X L) → IsMade m → (first made : List L) (n k : ℕ)
    (xs : List X) (x : X) → made ≡ first ++ m.all n xs → k ≡ reached m n xs
    → made ++ m.one k x ≡ first ++ m.all n (xs ++ x ∷ [])
grown m h first made n k xs x e is =
    ap (λ ys. ys ++ m.one k x) e
    ∙ append_assoc first (m.all n xs) (m.one k x)
    ∙ ap (λ j. first ++ (m.all n xs ++ m.one j x)) is
    ∙ ap (λ ys. first ++ ys) (sym (made_more m h n xs x))

-- nothing was made yet
pub begun : {X L : Type 0} (m : Makes X L) → IsMade m → (first : List L) (n : ℕ)
    → first ≡ first ++ m.all n []
begun m h first n = sym (ap (λ ys. first ++ ys) (h.none n) ∙ append-nil first)

-- ---- loops that drain a vector

-- all of a vector is drained
pub whole_range : {X : Type 0} (xs : List X) (n : ℕ) → n ≡ length xs → slice_range xs 0 n ≡ xs
whole_range xs n is = take_all (n - 0) xs (omega (arith, is))

-- what is drained comes in its order
pub drained : {X Z : Type 0} {s : _} (xs : List X) → drain_items {X = X} {Z = Z} s ≡ xs
    → YieldsList (drain_steps {X = X} {Z = Z}) (λ y. y) s xs
drained {X} {Z} {s} xs is =
    subst (λ (ys : List X). YieldsList (drain_steps {X = X} {Z = Z}) (λ y. y) s ys) is
    (YieldsList-from_shown (drain_steps {X = X} {Z = Z}) (λ y. y) drain_items
    (λ a b h. ap length h.0) (λ a x b h. h.0) s)
