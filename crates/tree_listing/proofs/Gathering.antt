-- What the numbers below one give, one after the other.
use Rattle.std.proofs.Common.{◌≡◌, ℕ, ◌+◌, List, [], ◌∷◌, ◌++◌, map, refl, sym, ap, ◌∙◌, arith}
use Rattle.std.specs.List.{flat_map, range_with_len}
use Rattle.std.proofs.lemmas.List.{append-nil}
use Rattle.std.proofs.lemmas.List.Concat.{flat_map-append}
use Rattle.std.proofs.lemmas.List.Folds.{flat_map-map}
use Rattle.std.proofs.lemmas.List.FromFn.{map-range_with_len_more}
use Rattle.tree_listing.specs.Listing.{of_each_below}

pub of_none : {X : Type 0} (f : ℕ → List X) → of_each_below 0 f ≡ []
unfolding of_each_below
of_none f = refl

-- the next number gives what comes next
pub of_one_more : {X : Type 0} (f : ℕ → List X) (n : ℕ)
    → of_each_below (n + 1) f ≡ of_each_below n f ++ f n
unfolding of_each_below
of_one_more {X} f n =
    sym (flat_map-map f (λ (i : ℕ). i) (range_with_len 0 (n + 1)))
    ∙ ap (flat_map f) (map-range_with_len_more (λ (i : ℕ). i) 0 n n (omega arith))
    ∙ flat_map-append f (map (λ (i : ℕ). i) (range_with_len 0 n)) (n ∷ [])
    ∙ ap (λ (xs : List X). xs ++ (f n ++ []))
    (flat_map-map f (λ (i : ℕ). i) (range_with_len 0 n))
    ∙ ap (λ (xs : List X). flat_map f (range_with_len 0 n) ++ xs) (append-nil (f n))

-- so a list that has them grows by it
pub grown_by : {X : Type 0} (f : ℕ → List X) (n : ℕ) (old new more : List X)
    → old ≡ of_each_below n f → more ≡ f n → new ≡ old ++ more → new ≡ of_each_below (n + 1) f
grown_by {X} f n old new more is next grown =
    grown ∙ ap (λ (xs : List X). xs ++ more) is
    ∙ ap (λ (xs : List X). of_each_below n f ++ xs) next ∙ sym (of_one_more f n)

pub whole_at : {X : Type 0} (f : ℕ → List X) (n end : ℕ) (all : List X) → n ≡ end
    → all ≡ of_each_below n f → all ≡ of_each_below end f
whole_at f n end all e is = is ∙ ap (λ (k : ℕ). of_each_below k f) e
