-- The objects of a picture by their numbers.
use Rattle.std.proofs.Common.{◌≡◌, ℕ, suc, ◌+◌, ◌<◌, ◌≤◌, ◌==◌, true, false, List, [], ◌∷◌, length}
use Rattle.std.proofs.Common.{get_or, sum_by, Option, Some, None, refl, sym, ap, subst, ◌∙◌, arith}
use Rattle.std.proofs.Common.{inl, inr}
use Rattle.std.specs.List.{AllByRecursion}
use Rattle.std.proofs.lemmas.Bool.{cases_eq, cases_order, eq-eqb, ne_eqb}
use Rattle.std.proofs.lemmas.List.Sums.{sum_by-cons}
use Rattle.audit.specs.declared.picture.Portrait.{Portrait}
use Rattle.audit.specs.Pictures.{AreInOrder, IsPortrait}
use Rattle.audit.specs.Flaws.{portrait_at}

-- ---- look-ups

pub at_head : (x : Portrait) (xs : List Portrait) (n : ℕ) → x.number ≡ n
    → portrait_at (x ∷ xs) n ≡ Some x
unfolding portrait_at
at_head x xs n e = let t : (x.number == n) ≡ true = eq-eqb x.number n e in rw t refl

pub behind_head : (x : Portrait) (xs : List Portrait) (n : ℕ) → (x.number ≡ n → ⊥)
    → portrait_at (x ∷ xs) n ≡ portrait_at xs n
unfolding portrait_at
behind_head x xs n ne = let t : (x.number == n) ≡ false = ne_eqb x.number n ne in rw t refl

pub none_below : (from next : ℕ) (xs : List Portrait) (n : ℕ) → AreInOrder from next xs
    → n < from → portrait_at xs n ≡ None
unfolding portrait_at
none_below from next [] n h lt = refl
none_below from next (x ∷ xs) n h lt =
    behind_head x xs n (λ e. omega (arith, e, h.0, lt))
    ∙ none_below (x.number + 1) next xs n h.3 (omega (arith, h.0, lt))

pub none_past : (from next : ℕ) (xs : List Portrait) (n : ℕ) → AreInOrder from next xs
    → next ≤ n → portrait_at xs n ≡ None
unfolding portrait_at
none_past from next [] n h le = refl
none_past from next (x ∷ xs) n h le =
    behind_head x xs n (λ e. omega (arith, e, h.1, le))
    ∙ none_past (x.number + 1) next xs n h.3 le

pub found_number : (xs : List Portrait) (n : ℕ) (x : Portrait) → portrait_at xs n ≡ Some x
    → x.number ≡ n
unfolding portrait_at
found_number [] n x h = absurd cc
found_number (y ∷ xs) n x h = elim (cases_eq y.number n) [
  | inl e ↦ let same : y ≡ x = cc (h, at_head y xs n e) in ap (λ (z : Portrait). z.number) (sym same) ∙ e
  | inr ne ↦ found_number xs n x (sym (behind_head y xs n ne) ∙ h)
]

pub found_from : (from next : ℕ) (xs : List Portrait) (n : ℕ) (x : Portrait)
    → AreInOrder from next xs → portrait_at xs n ≡ Some x → from ≤ n
found_from from next xs n x h e = elim (cases_order n from) [
  | inl same ↦ omega (arith, same)
  | inr apart ↦ elim apart [
    | inl lt ↦ let none = none_below from next xs n h lt in absurd cc
    | inr gt ↦ omega (arith, gt)
  ]
]

pub found_shape : (from next : ℕ) (xs : List Portrait) (n : ℕ) (x : Portrait)
    → AreInOrder from next xs → portrait_at xs n ≡ Some x → IsPortrait x
unfolding portrait_at
found_shape from next [] n x h e = absurd cc
found_shape from next (y ∷ xs) n x h e = elim (cases_eq y.number n) [
  | inl same ↦ let is : y ≡ x = cc (e, at_head y xs n same) in subst IsPortrait is h.2
  | inr ne ↦ found_shape (y.number + 1) next xs n x h.3 (sym (behind_head y xs n ne) ∙ e)
]

-- a look-up behind the first object
pub further : (x y : Portrait) (from next : ℕ) (xs : List Portrait) (n : ℕ)
    → AreInOrder (x.number + 1) next xs → portrait_at xs n ≡ Some y
    → portrait_at (x ∷ xs) n ≡ Some y
further x y from next xs n h e =
    behind_head x xs n
    (λ same. omega (arith, same, found_from (x.number + 1) next xs n y h e)) ∙ e

-- what holds of each object that is found holds of each object
pub each_found : (P : Portrait → Type 0) (from next : ℕ) (xs : List Portrait)
    → AreInOrder from next xs → ((n : ℕ) (x : Portrait) → portrait_at xs n ≡ Some x → P x)
    → AllByRecursion P xs
each_found P from next [] h all = tt
each_found P from next (x ∷ xs) h all = (
  all x.number x (at_head x xs x.number refl),
  each_found P (x.number + 1) next xs h.3
      (λ n y e. all n y (further x y from next xs n h.3 e)),
)

pub found_each : (P : Portrait → Type 0) (xs : List Portrait) (n : ℕ) (x : Portrait)
    → AllByRecursion P xs → portrait_at xs n ≡ Some x → P x
unfolding portrait_at
found_each P [] n x all e = absurd cc
found_each P (y ∷ xs) n x all e = elim (cases_eq y.number n) [
  | inl same ↦ let is : y ≡ x = cc (e, at_head y xs n same) in subst P is all.0
  | inr ne ↦ found_each P xs n x all.1 (sym (behind_head y xs n ne) ∙ e)
]

-- ---- two lists of objects with the same look-ups are the same

pub same_objects : (from next : ℕ) (xs ys : List Portrait) → AreInOrder from next xs
    → AreInOrder from next ys → ((n : ℕ) → portrait_at xs n ≡ portrait_at ys n) → xs ≡ ys
unfolding portrait_at
same_objects from next [] [] h k same = refl
same_objects from next [] (y ∷ ys) h k same =
    let there = same y.number ∙ at_head y ys y.number refl in absurd cc
same_objects from next (x ∷ xs) [] h k same =
    let there = sym (same x.number) ∙ at_head x xs x.number refl in absurd cc
same_objects from next (x ∷ xs) (y ∷ ys) h k same = elim (cases_order x.number y.number) [
  | inl e ↦
      let heads : x ≡ y =
      cc (same x.number, at_head x xs x.number refl, at_head y ys x.number (sym e)) in
      let order : AreInOrder (x.number + 1) next ys =
      subst (λ (n : ℕ). AreInOrder (n + 1) next ys) (sym e) k.3 in
      let rest : xs ≡ ys = same_objects (x.number + 1) next xs ys h.3 order
      (λ n. elim (cases_eq x.number n) [
        | inl at ↦ none_below (x.number + 1) next xs n h.3 (omega (arith, at))
            ∙ sym (none_below (x.number + 1) next ys n order (omega (arith, at)))
        | inr ne ↦ sym (behind_head x xs n ne) ∙ same n
            ∙ behind_head y ys n (λ at. ne (e ∙ at))
      ]) in
      ap (λ (z : Portrait). z ∷ xs) heads ∙ ap (λ (zs : List Portrait). y ∷ zs) rest
  | inr apart ↦ elim apart [
    | inl lt ↦
        let none : portrait_at (y ∷ ys) x.number ≡ None =
        none_below y.number next (y ∷ ys) x.number (omega arith, k.1, k.2, k.3) lt in
        let some = at_head x xs x.number refl in
        let both = same x.number in absurd cc
    | inr gt ↦
        let none : portrait_at (x ∷ xs) y.number ≡ None =
        none_below x.number next (x ∷ xs) y.number (omega arith, h.1, h.2, h.3) gt in
        let some = at_head y ys y.number refl in
        let both = same y.number in absurd cc
  ]
]

-- ---- sums

abbrev pub shown_by : (Portrait → ℕ) → Option Portrait → ℕ
shown_by f None = 0
shown_by f (Some x) = f x

-- a sum over objects is one over things by number, where each is what its object gives
pub sums : {T : Type 0} (f : Portrait → ℕ) (g : T → ℕ) (from next : ℕ) (xs : List Portrait)
    (ts : List T) (d : T) → AreInOrder from next xs → next ≡ from + length ts
    → ((i n : ℕ) → n ≡ from + i → i < length ts
    → shown_by f (portrait_at xs n) ≡ g (get_or ts i d))
    → sum_by f xs ≡ sum_by g ts
unfolding portrait_at
sums f g from next [] [] d h long each = refl
sums f g from next (x ∷ xs) [] d h long each = absurd (omega (arith, h.0, h.1, long))
sums f g from next [] (t ∷ ts) d h long each =
    let here : 0 ≡ g t = each 0 from (omega arith) (omega arith) in
    let rest : 0 ≡ sum_by g ts =
    sums f g (from + 1) next [] ts d tt (omega (arith, long))
    (λ i n e lt. each (suc i) n (omega (arith, e)) (omega (arith, lt))) in
    omega (arith, here, rest, sum_by-cons g t ts)
sums f g from next (x ∷ xs) (t ∷ ts) d h long each = elim (cases_eq x.number from) [
  | inl e ↦
      let here : f x ≡ g t =
      sym (ap (shown_by f) (at_head x xs from e)) ∙ each 0 from (omega arith) (omega arith) in
      let rest : sum_by f xs ≡ sum_by g ts =
      sums f g (from + 1) next xs ts d
      (subst (λ (n : ℕ). AreInOrder (n + 1) next xs) e h.3) (omega (arith, long))
      (λ i n at lt. ap (shown_by f) (sym (behind_head x xs n (λ b. omega (arith, at, b, e))))
      ∙ each (suc i) n (omega (arith, at)) (omega (arith, lt))) in
      omega (arith, here, rest, sum_by-cons g t ts, sum_by-cons f x xs)
  | inr ne ↦
      let here : 0 ≡ g t =
      sym (ap (shown_by f) (none_below x.number next (x ∷ xs) from
      (omega arith, h.1, h.2, h.3) (omega (arith, ne, h.0))))
      ∙ each 0 from (omega arith) (omega arith) in
      let rest : sum_by f (x ∷ xs) ≡ sum_by g ts =
      sums f g (from + 1) next (x ∷ xs) ts d
      (omega (arith, ne, h.0), h.1, h.2, h.3) (omega (arith, long))
      (λ i n at lt. each (suc i) n (omega (arith, at)) (omega (arith, lt))) in
      omega (arith, here, rest, sum_by-cons g t ts)
]
