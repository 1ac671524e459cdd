-- Ways up by stored parents: as many steps as there are objects are enough.
use Rattle.std.proofs.Common.{◌≡◌, ℕ, zero, suc, ◌+◌, ◌≤◌, ◌==◌, ◌&&◌, not, Bool, true, false, List}
use Rattle.std.proofs.Common.{[], ◌∷◌, length, Option, Some, None, refl, sym, ap, subst, ◌∙◌, arith}
use Rattle.std.proofs.Common.{inl, inr}
use Rattle.std.specs.Prelude.{count_by}
use Rattle.std.proofs.lemmas.Bool.{and_from, and_parts, both_ways, cases_Bool, cases_eq, eq-eqb}
use Rattle.std.proofs.lemmas.Bool.{eqb-true, ne_eqb, false_from_ne_true, true_from_ne_false}
use Rattle.std.proofs.lemmas.List.Sums.{count_by-le-length}
use Rattle.audit.specs.declared.picture.Portrait.{Portrait}
use Rattle.audit.specs.Flaws.{above, ancestor, parent_shown, portrait_at}
use Rattle.audit.proofs.Lookups.{behind_head, found_number}
use Rattle.audit.proofs.Names.{counted, weight}

-- the root is reached within so many steps
abbrev pub reaches : ℕ → List Portrait → ℕ → Bool
reaches steps objects n = ancestor steps objects n == 1

-- ---- the root stays, and from number 0 nothing is reached

above_root : (objects : List Portrait) → above objects 1 ≡ 1
above_root objects = refl

pub root_stays : (steps : ℕ) (objects : List Portrait) → ancestor steps objects 1 ≡ 1
unfolding ancestor
root_stays zero objects = refl
root_stays (suc steps) objects = root_stays steps objects

pub nothing_stays : (steps : ℕ) (objects : List Portrait) → portrait_at objects 0 ≡ None
    → ancestor steps objects 0 ≡ 0
unfolding ancestor
nothing_stays zero objects none = refl
nothing_stays (suc steps) objects none =
    let up : above objects 0 ≡ 0 = ap parent_shown none in
    ap (ancestor steps objects) up ∙ nothing_stays steps objects none

pub further_up : (a b : ℕ) (objects : List Portrait) (n : ℕ)
    → ancestor (a + b) objects n ≡ ancestor b objects (ancestor a objects n)
unfolding ancestor
further_up zero b objects n =
    let e : zero + b ≡ b = omega arith in ap (λ (k : ℕ). ancestor k objects n) e
further_up (suc a) b objects n =
    let e : suc a + b ≡ suc (a + b) = omega arith in
    ap (λ (k : ℕ). ancestor k objects n) e ∙ further_up a b objects (above objects n)

-- ---- one step more

reaches_more : (steps : ℕ) (objects : List Portrait) (n : ℕ) → ancestor steps objects n ≡ 1
    → ancestor (suc steps) objects n ≡ 1
reaches_more steps objects n h =
    let e : steps + 1 ≡ suc steps = omega arith in
    ap (λ (k : ℕ). ancestor k objects n) (sym e) ∙ further_up steps 1 objects n
    ∙ ap (ancestor 1 objects) h ∙ root_stays 1 objects

pub reaches_far : (steps more : ℕ) (objects : List Portrait) (n : ℕ)
    → ancestor steps objects n ≡ 1 → ancestor (steps + more) objects n ≡ 1
reaches_far steps more objects n h =
    further_up steps more objects n ∙ ap (ancestor more objects) h ∙ root_stays more objects

-- ---- the objects that reach the root within so many steps, the root itself left aside

is_near : ℕ → List Portrait → Portrait → Bool
is_near steps objects x = not (x.number == 1) && reaches steps objects x.number

near : ℕ → List Portrait → List Portrait → ℕ
near steps objects xs = count_by (is_near steps objects) xs

weight_kept : (a b : Bool) → (a ≡ true → b ≡ true) → weight a ≤ weight b
weight_kept true true h = omega arith
weight_kept true false h = let e = h refl in absurd cc
weight_kept false true h = omega arith
weight_kept false false h = omega arith

near_kept : (steps : ℕ) (objects : List Portrait) (x : Portrait)
    → is_near steps objects x ≡ true → is_near (suc steps) objects x ≡ true
unfolding is_near
near_kept steps objects x h =
    let parts = and_parts (not (x.number == 1)) (reaches steps objects x.number) h in
    and_from (not (x.number == 1)) (reaches (suc steps) objects x.number) parts.0
    (eq-eqb (ancestor (suc steps) objects x.number) 1
    (reaches_more steps objects x.number (eqb-true (ancestor steps objects x.number) 1 parts.1)))

grows : (steps : ℕ) (objects xs : List Portrait)
    → near steps objects xs ≤ near (suc steps) objects xs
unfolding near
grows steps objects [] = omega arith
grows steps objects (x ∷ xs) =
    omega (
      arith,
      grows steps objects xs,
      weight_kept (is_near steps objects x) (is_near (suc steps) objects x)
          (near_kept steps objects x),
      counted (is_near steps objects) x xs,
      counted (is_near (suc steps) objects) x xs,
    )

-- one of the objects reaches the root at just this step
grows_by_one : (steps : ℕ) (objects xs : List Portrait) (n : ℕ) (x : Portrait)
    → portrait_at xs n ≡ Some x → x.number ≡ n → (n ≡ 1 → ⊥)
    → reaches steps objects n ≡ false → reaches (suc steps) objects n ≡ true
    → near steps objects xs + 1 ≤ near (suc steps) objects xs
unfolding near is_near portrait_at
grows_by_one steps objects [] n x e named other miss hit = absurd cc
grows_by_one steps objects (y ∷ xs) n x e named other miss hit =
    let old = counted (is_near steps objects) y xs in
    let new = counted (is_near (suc steps) objects) y xs in
    elim (cases_eq y.number n) [
      | inl same ↦
          let apart : (y.number == 1) ≡ false = ne_eqb y.number 1 (λ at. other (sym same ∙ at)) in
          let before : is_near steps objects y ≡ false =
          rw (apart, same) miss in
          let after : is_near (suc steps) objects y ≡ true = rw (apart, same) hit in
          let zero : weight (is_near steps objects y) ≡ 0 = rw before refl in
          let one : weight (is_near (suc steps) objects y) ≡ 1 = rw after refl in
          omega (arith, old, new, zero, one, grows steps objects xs)
      | inr ne ↦
          omega (
            arith,
            old,
            new,
            weight_kept (is_near steps objects y) (is_near (suc steps) objects y)
                (near_kept steps objects y),
            grows_by_one steps objects xs n x (sym (behind_head y xs n ne) ∙ e) named other miss
                hit,
          )
    ]

-- ---- as many steps as there are objects

-- where the root is reached, but not within so many steps, something reaches it at the next one
at_level : (most levels : ℕ) (objects : List Portrait) (n : ℕ)
    → reaches most objects n ≡ true → reaches levels objects n ≡ false
    → (m : ℕ) × (reaches levels objects m ≡ false) × (reaches (suc levels) objects m ≡ true)
unfolding ancestor
at_level zero levels objects n hit miss =
    let here : n ≡ 1 = eqb-true n 1 hit in
    let there : reaches levels objects n ≡ true =
    rw here (eq-eqb (ancestor levels objects 1) 1 (root_stays levels objects)) in
    absurd (both_ways (reaches levels objects n) miss there)
at_level (suc most) levels objects n hit miss =
    elim (cases_Bool (reaches (suc levels) objects n)) [
      | inl e ↦ (n, miss, e)
      | inr e ↦ at_level most levels objects (above objects n) hit e
    ]

-- and that is an object
some_portrait : (levels : ℕ) (objects : List Portrait) (m : ℕ) (found : Option Portrait)
    → portrait_at objects m ≡ found → portrait_at objects 0 ≡ None → (m ≡ 1 → ⊥)
    → reaches (suc levels) objects m ≡ true → (x : Portrait) × (portrait_at objects m ≡ Some x)
unfolding ancestor
some_portrait levels objects m None e none other hit =
    let apart : (m == 1) ≡ false = ne_eqb m 1 other in
    let up : above objects m ≡ 0 = rw apart (ap parent_shown e) in
    let at : ancestor levels objects (above objects m) ≡ 0 =
    ap (ancestor levels objects) up ∙ nothing_stays levels objects none in
    let one : ancestor levels objects (above objects m) ≡ 1 =
    eqb-true (ancestor levels objects (above objects m)) 1 hit in
    absurd (omega (arith, at, one))
some_portrait levels objects m (Some x) e none other hit = (x, e)

one_more_near : (most levels : ℕ) (objects : List Portrait) (n : ℕ)
    → portrait_at objects 0 ≡ None → reaches most objects n ≡ true
    → reaches levels objects n ≡ false
    → near levels objects objects + 1 ≤ near (suc levels) objects objects
one_more_near most levels objects n none hit miss =
    let r = at_level most levels objects n hit miss in
    let other : r.0 ≡ 1 → ⊥ = λ e.
    both_ways (reaches levels objects r.0) r.1
    (subst (λ (k : ℕ). reaches levels objects k ≡ true) (sym e)
    (eq-eqb (ancestor levels objects 1) 1 (root_stays levels objects))) in
    let x = some_portrait levels objects r.0 (portrait_at objects r.0) refl none other r.2 in
    grows_by_one levels objects objects r.0 x.0 x.1 (found_number objects r.0 x.0 x.1) other r.1 r.2

deep : (levels most : ℕ) (objects : List Portrait) (n : ℕ) → portrait_at objects 0 ≡ None
    → reaches most objects n ≡ true → reaches levels objects n ≡ false
    → levels + 1 ≤ near (suc levels) objects objects
deep zero most objects n none hit miss =
    omega (arith, one_more_near most 0 objects n none hit miss)
deep (suc levels) most objects n none hit miss =
    let before : reaches levels objects n ≡ false =
    false_from_ne_true (reaches levels objects n) (λ t.
    both_ways (reaches (suc levels) objects n) miss
    (eq-eqb (ancestor (suc levels) objects n) 1
    (reaches_more levels objects n (eqb-true (ancestor levels objects n) 1 t)))) in
    omega (
      arith,
      deep levels most objects n none hit before,
      one_more_near most (suc levels) objects n none hit miss,
    )

near-le : (steps : ℕ) (objects : List Portrait) → near steps objects objects ≤ length objects
unfolding near
near-le steps objects = count_by-le-length (is_near steps objects) objects

-- what reaches the root at all reaches it within as many steps as there are objects
pub enough : (most : ℕ) (objects : List Portrait) (n : ℕ) → portrait_at objects 0 ≡ None
    → ancestor most objects n ≡ 1 → ancestor (length objects) objects n ≡ 1
enough most objects n none hit =
    eqb-true (ancestor (length objects) objects n) 1
    (true_from_ne_false (reaches (length objects) objects n) (λ miss. omega (
      arith,
      deep (length objects) most objects n none (eq-eqb (ancestor most objects n) 1 hit) miss,
      near-le (suc (length objects)) objects,
    )))
