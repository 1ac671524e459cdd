-- What holds of each element of a list, taken one after the other.
use Rattle.std.proofs.Common.{◌≡◌, ◌⊎◌, [], ◌∷◌, List, inl, inr, sym, subst, arith}
use Rattle.std.specs.Prelude.{Contains}
use Rattle.std.proofs.lemmas.List.Elements.{Contains-append_cases, Contains-push_cases}

-- each element of a list is among those that are left, or is done
abbrev pub Covered : {A : Type 0} → (A → Type 0) → List A → List A → Type 0
Covered {A} Done all left = (x : A) → Contains all x → Contains left x ⊎ Done x

none_in : {A : Type 0} (x : A) → Contains [] x → ⊥
none_in x h = omega (arith, h.1)

module _ {A : Type 0} where
  pub covered_first : (Done : A → Type 0) (all left : List A) → left ≡ all
      → Covered Done all left
  covered_first Done all left e x h = inl (subst (λ (l : List A). Contains l x) (sym e) h)

  first_is : (Done : A → Type 0) (y x : A) → Done y → Contains [] x ⊎ (y ≡ x) → Done x
  first_is Done y x done (inl none) = absurd (none_in x none)
  first_is Done y x done (inr e) = subst Done e done

  either : (Done : A → Type 0) (rest : List A) (y x : A) → Done y
      → Contains (y ∷ []) x ⊎ Contains rest x → Contains rest x ⊎ Done x
  either Done rest y x done (inl h) = inr (first_is Done y x done (Contains-push_cases [] y x h))
  either Done rest y x done (inr h) = inl h

  next_is : (Done Now : A → Type 0) (left rest : List A) (y x : A)
      → left ≡ y ∷ rest → (Done x → Now x) → Now y → Contains left x ⊎ Done x
      → Contains rest x ⊎ Now x
  next_is Done Now left rest y x e more now (inl there) =
      either Now rest y x now
      (Contains-append_cases (y ∷ []) rest x (subst (λ (l : List A). Contains l x) e there))
  next_is Done Now left rest y x e more now (inr done) = inr (more done)

  pub covered_next : (Done Now : A → Type 0) (all left rest : List A) (y : A)
      → left ≡ y ∷ rest → ((x : A) → Done x → Now x) → Now y → Covered Done all left
      → Covered Now all rest
  covered_next Done Now all left rest y e more now covered x h =
      next_is Done Now left rest y x e (more x) now (covered x h)

  end_is : (Done : A → Type 0) (left : List A) (x : A) → left ≡ [] → Contains left x ⊎ Done x
      → Done x
  end_is Done left x e (inl there) =
      absurd (none_in x (subst (λ (l : List A). Contains l x) e there))
  end_is Done left x e (inr done) = done

  pub covered_all : (Done : A → Type 0) (all left : List A) → left ≡ []
      → Covered Done all left → (x : A) → Contains all x → Done x
  covered_all Done all left e covered x h = end_is Done left x e (covered x h)
