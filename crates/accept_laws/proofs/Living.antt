-- A sound tree has few objects: each but the root has an entry, and entries take room.
use Rattle.std.proofs.Common.{◌≡◌, ℕ, zero, suc, ◌+◌, ◌*◌, ◌≤◌, ◌==◌, cond, List, [], ◌∷◌, length, get_or, sum_by, Option, Some, None, sym, ap, ◌∙◌, subst, arith, inl, inr}
use Rattle.std.proofs.lemmas.Bool.{cases_Bool, eqb-true}
use Rattle.std.proofs.lemmas.List.Sums.{sum_by-cons}
use Rattle.trace_claims.specs.Listing.{living}
use Rattle.file_tree.specs.declared.object.Body.{Body}
use Rattle.file_tree.specs.declared.object.Body.TheVariants as body
use Rattle.file_tree.specs.declared.object.Object.{Object}
use Rattle.file_tree.specs.declared.object.Slot.{Slot}
use Rattle.file_tree.specs.Sound.{HasEntries, IsNamed, IsSound}
use Rattle.file_tree.proofs.Bounds.{slots_fit}
use Rattle.file_tree.specs.Tree.{Slots, Tree, blocks_at, names_at, names_in, names_it, names_of, place, slots_of, used_blocks}

-- ---- sums over the numbers below one

unfoldable sum_to : (ℕ → ℕ) → ℕ → ℕ
sum_to f zero = 0
sum_to f (suc n) = sum_to f n + f n

sum_both : (f g h : ℕ → ℕ) → ((k : ℕ) → f k ≤ g k + h k) → (n : ℕ)
    → sum_to f n ≤ sum_to g n + sum_to h n
unfolding sum_to
sum_both f g h le zero = omega arith
sum_both f g h le (suc n) =
    let rest = sum_both f g h le n in
    let one = le n in
    omega (arith, rest, one)

sum_none : (f : ℕ → ℕ) → ((k : ℕ) → f k ≤ 0) → (n : ℕ) → sum_to f n ≤ 0
unfolding sum_to
sum_none f le zero = omega arith
sum_none f le (suc n) =
    let rest = sum_none f le n in
    let one = le n in
    omega (arith, rest, one)

-- a number is one of them once
abbrev is_it : ℕ → ℕ → ℕ
is_it x k = cond (x == k) 1 0

sum_before : (x n : ℕ) → n ≤ x → sum_to (is_it x) n ≤ 0
unfolding sum_to
sum_before x zero l = omega arith
sum_before x (suc n) l =
    let rest = sum_before x n (omega (arith, l)) in
    elim (cases_Bool (x == n)) [
      | inl t ↦ let same = eqb-true x n t in absurd (omega (arith, same, l))
      | inr f ↦ rw f (omega (arith, rest))
    ]

sum_once : (x n : ℕ) → sum_to (is_it x) n ≤ 1
unfolding sum_to
sum_once x zero = omega arith
sum_once x (suc n) =
    let rest = sum_once x n in
    elim (cases_Bool (x == n)) [
      | inl t ↦
          let same = eqb-true x n t in
          let none = sum_before x n (omega (arith, same)) in
          rw t (omega (arith, none))
      | inr f ↦ rw f (omega (arith, rest))
    ]

-- ---- entries

slot_once : (s : Option Slot) (n : ℕ) → sum_to (λ k. cond (names_it k s) 1 0) n ≤ 1
slot_once None n =
    let none = sum_none (λ k. cond (names_it k None) 1 0) (λ k. omega arith) n in
    omega (arith, none)
slot_once (Some s) n = sum_once s.number n

slots_once : (slots : Slots) (n : ℕ) → sum_to (λ k. names_in k slots) n ≤ length slots
slots_once [] n = sum_none (λ k. names_in k []) (λ k. omega arith) n
slots_once (s ∷ slots) n =
    let first = slot_once s n in
    let rest = slots_once slots n in
    let all = sum_both (λ k. names_in k (s ∷ slots)) (λ k. cond (names_it k s) 1 0)
    (λ k. names_in k slots)
    (λ k. let is = sum_by-cons (λ x. cond (names_it k x) 1 0) s slots in omega (arith, is)) n in
    omega (arith, first, rest, all)

object_slots : (o : Option Object) → length (slots_of o) ≤ 16 * blocks_at o
object_slots None = omega arith
object_slots (Some o) = let fit = slots_fit o.body in omega (arith, fit)

objects_once : (os : List (Option Object)) (n : ℕ)
    → sum_to (λ k. sum_by (names_at k) os) n ≤ 16 * sum_by blocks_at os
objects_once [] n = sum_none (λ k. sum_by (names_at k) []) (λ k. omega arith) n
objects_once (o ∷ os) n =
    let first = slots_once (slots_of o) n in
    let room = object_slots o in
    let rest = objects_once os n in
    let blocks = sum_by-cons blocks_at o os in
    let all = sum_both (λ k. sum_by (names_at k) (o ∷ os)) (λ k. names_at k o)
    (λ k. sum_by (names_at k) os)
    (λ k. let is = sum_by-cons (names_at k) o os in omega (arith, is)) n in
    omega (arith, first, room, rest, blocks, all)

-- ---- objects

-- the entries that name a number, and one more for the root
holders : Tree → ℕ → ℕ
holders tree k = names_of tree k + is_it 1 k

is_held : (tree : Tree) (k : ℕ) (o : Object) → IsSound tree → place tree k ≡ Some o
    → 1 ≤ holders tree k
unfolding holders
is_held tree k o is at =
    by o.body (subst (λ (x : Option Object). IsNamed k x (names_of tree k)) at (is.entries k))
  where
    by : (b : Body) → HasEntries k b (names_of tree k) → 1 ≤ names_of tree k + is_it 1 k
    by (body.Directory slots) h =
        elim (cases_Bool (k == 1)) [
          | inl t ↦
              let root = sym (eqb-true k 1 t) in
              subst (λ (x : ℕ). 1 ≤ names_of tree k + is_it 1 x) root (omega arith)
          | inr f ↦ let one = rw f at h in omega (arith, one)
        ]
    by (body.Regular bytes) h = omega (arith, h)
    by (body.Link text) h = omega (arith, h)

-- living objects, from number i on
living_held : (tree : Tree) (os : List (Option Object)) (i : ℕ) → IsSound tree
    → ((k : ℕ) → get_or os k None ≡ place tree (i + k))
    → living os + sum_to (holders tree) i ≤ sum_to (holders tree) (i + length os)
unfolding living sum_to
living_held tree [] i is at =
    let same : i ≡ i + 0 = omega arith in
    subst (λ (n : ℕ). 0 + sum_to (holders tree) i ≤ sum_to (holders tree) n) same (omega arith)
living_held tree (o ∷ os) i is at =
    let next : suc i + length os ≡ i + suc (length os) = omega arith in
    let rest = living_held tree os (suc i) is (λ k.
    let same : i + suc k ≡ suc i + k = omega arith in at (suc k) ∙ ap (place tree) same) in
    subst (λ (n : ℕ). living (o ∷ os) + sum_to (holders tree) i ≤ sum_to (holders tree) n) next
    (by o (at 0) rest)
  where
    by : (o : Option Object) → o ≡ place tree (i + 0)
        → living os + sum_to (holders tree) (suc i) ≤ sum_to (holders tree) (suc i + length os)
        → living (o ∷ os) + sum_to (holders tree) i ≤ sum_to (holders tree) (suc i + length os)
    by None at' rest = omega (arith, rest)
    by (Some x) at' rest =
        let here : i + 0 ≡ i = omega arith in
        let held = is_held tree i x is (sym (at' ∙ ap (place tree) here)) in
        omega (arith, rest, held)

-- A SOUND TREE has few objects
pub living_few : (tree : Tree) → IsSound tree → living tree ≤ 1 + 16 * used_blocks tree
unfolding sum_to holders names_of used_blocks
living_few tree is =
    let all = living_held tree tree 0 is (λ k.
    let same : k ≡ 0 + k = omega arith in ap (place tree) same) in
    let one = sum_once 1 (0 + length tree) in
    let named = objects_once tree (0 + length tree) in
    let both = sum_both (holders tree) (names_of tree) (is_it 1) (λ k. omega arith)
    (0 + length tree) in
    omega (arith, all, one, named, both)
