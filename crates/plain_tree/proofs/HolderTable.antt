-- A table of holders that is filled slot by slot.
use Rattle.std.proofs.Common.{◌≡◌, ℕ, ◌+◌, ◌<◌, ◌≤◌, ◌==◌, Bool, true, false, cond, List, length, get_or, set, drop, Option, refl, sym, ap, ◌∙◌, arith, inl, inr}
use Rattle.std.proofs.lemmas.Bool.{cases_eq, eq-eqb, ne_eqb}
use Rattle.std.proofs.lemmas.List.{get_or-set_same, get_or-set_other, at_drop_more, at_drop_all}
use Rattle.file_tree.specs.declared.object.Object.{Object}
use Rattle.file_tree.specs.Tree.{Tree, slots_of, names_in, names_at, holder_from}

-- a number that is set is read there, and the others as before
pub get_or-noted : (xs : List ℕ) (i y n : ℕ) → n < length xs
    → get_or (set xs i y) n 0 ≡ cond (i == n) y (get_or xs n 0)
get_or-noted xs i y n lt = elim (cases_eq n i) [
  | inl e ↦
      let t = eq-eqb i n (sym e) in
      rw t (ap (λ (k : ℕ). get_or (set xs i y) k 0) e
      ∙ get_or-set_same xs i y 0 (omega (arith, lt, e)))
  | inr ne ↦ let t = ne_eqb i n (λ e. ne (sym e)) in rw t (get_or-set_other xs i n y 0 ne)
]

turn : (b : Bool) (names x y : ℕ) → cond b y (cond (names == 0) x y)
    ≡ cond (names + cond b 1 0 == 0) x y
turn true names x y = let t : (names + 1 == 0) ≡ false =
    ne_eqb (names + 1) 0 (λ e. omega (arith, e)) in rw t refl
turn false names x y = let t : names + 0 ≡ names = omega arith in rw t refl

-- one more object is noted
pub held_more : (tree : Tree) (i n found now whole : ℕ) (o : Option Object) → i < length tree
    → o ≡ get_or tree i o
    → now ≡ cond (names_in n (slots_of o) == 0) found i
    → holder_from i (drop i tree) n found ≡ whole
    → holder_from (i + 1) (drop (i + 1) tree) n now ≡ whole
unfolding holder_from
held_more tree i n found now whole o lt is e h =
    let step : holder_from i (drop i tree) n found
    ≡ holder_from (i + 1) (drop (i + 1) tree) n (cond (names_at n o == 0) found i) =
    at_drop_more (λ (os : Tree). holder_from i os n found) tree i o lt
    ∙ ap (λ (p : Option Object). holder_from (i + 1) (drop (i + 1) tree) n
    (cond (names_at n p == 0) found i)) (sym is) in
    rw e (sym step ∙ h)

pub held_all : (tree : Tree) (i n found whole : ℕ) → length tree ≤ i
    → holder_from i (drop i tree) n found ≡ whole → found ≡ whole
unfolding holder_from
held_all tree i n found whole le h =
    sym (at_drop_all (λ (os : Tree). holder_from i os n found) tree i le) ∙ h

pub ruleset notes = (get_or-noted)
