-- The objects of a picture beside those of a tree: the same directories with the same entries, and
-- objects of the same sizes.
use Rattle.std.proofs.Common.{◌≡◌, ℕ, suc, true, false, List, [], ◌∷◌, length, sum_by, Option, Some}
use Rattle.std.proofs.Common.{None, refl, sym, ap, subst, ◌∙◌, arith, inl, inr}
use Rattle.std.proofs.lemmas.Bool.{cases_Bool}
use Rattle.std.proofs.lemmas.List.Sums.{sum_by-cons}
use Rattle.file_tree.specs.declared.object.Body.{Body}
use Rattle.file_tree.specs.declared.object.Body.TheVariants.{Regular, Directory, Link}
use Rattle.file_tree.specs.declared.object.Object.{Object}
use Rattle.file_tree.specs.Tree.{Tree, place, slots_within, names_in, names_at}
use Rattle.file_tree.specs.Tree.{names_of as entries_of, is_directory as is_directory_body}
use Rattle.file_tree.specs.Tree.{is_directory_at, blocks_of, blocks_at, size_of, used_blocks}
use Rattle.file_tree.specs.Tries.{is_some}
use Rattle.audit.specs.declared.picture.Portrait.{Portrait}
use Rattle.audit.specs.Pictures.{AreInOrder, attributes}
use Rattle.audit.specs.Flaws.{portrait_at, is_directory, is_directory_shown, slots_in, names_by}
use Rattle.audit.specs.Flaws.{names_shown, names_of, blocks_by, blocks_in}
use Rattle.audit.proofs.Lookups.{none_below, shown_by, sums}

pub record AreAlikeObjects (x : Portrait) (o : Object) : Type 0 where
  pub kind : is_directory x ≡ is_directory_body o.body
  pub slots : is_directory x ≡ true → slots_in x ≡ slots_within o.body
  pub size : (attributes x.object).size ≡ size_of o.body

abbrev pub AreAlikeAt : Option Portrait → Option Object → Type 0
AreAlikeAt None None = Unit {0}
AreAlikeAt None (Some o) = ⊥
AreAlikeAt (Some x) None = ⊥
AreAlikeAt (Some x) (Some o) = AreAlikeObjects x o

abbrev pub AreAlike : List Portrait → Tree → Type 0
AreAlike objects tree = (n : ℕ) → AreAlikeAt (portrait_at objects n) (place tree n)

-- ---- one object

no_slots : (b : Body) → is_directory_body b ≡ false → slots_within b ≡ []
no_slots (Directory slots) d = absurd cc
no_slots (Regular bytes) d = refl
no_slots (Link text) d = refl

names_alike : (x : Portrait) (o : Object) (n : ℕ) → AreAlikeObjects x o
    → names_by n x ≡ names_in n (slots_within o.body)
names_alike x o n h = elim (cases_Bool (is_directory x)) [
  | inl d ↦ rw d (ap (names_in n) (h.slots d))
  | inr d ↦ rw d (sym (ap (names_in n) (no_slots o.body (sym h.kind ∙ d))))
]

pub shown_alike : (x : Option Portrait) (o : Option Object) (n : ℕ) → AreAlikeAt x o
    → names_shown n x ≡ names_at n o
shown_alike None None n h = refl
shown_alike None (Some o) n h = absurd h
shown_alike (Some x) None n h = absurd h
shown_alike (Some x) (Some o) n h = names_alike x o n h

pub directories_alike : (x : Option Portrait) (o : Option Object) → AreAlikeAt x o
    → is_directory_shown x ≡ is_directory_at o
directories_alike None None h = refl
directories_alike None (Some o) h = absurd h
directories_alike (Some x) None h = absurd h
directories_alike (Some x) (Some o) h = h.kind

pub live_alike : (x : Option Portrait) (o : Option Object) → AreAlikeAt x o → is_some x ≡ is_some o
live_alike None None h = refl
live_alike None (Some o) h = absurd h
live_alike (Some x) None h = absurd h
live_alike (Some x) (Some o) h = refl

blocks_alike : (x : Option Portrait) (o : Option Object) → AreAlikeAt x o
    → shown_by blocks_by x ≡ blocks_at o
blocks_alike None None h = refl
blocks_alike None (Some o) h = absurd h
blocks_alike (Some x) None h = absurd h
blocks_alike (Some x) (Some o) h = ap blocks_of h.size

-- ---- all objects

shown_is : (n : ℕ) (x : Option Portrait) → shown_by (names_by n) x ≡ names_shown n x
shown_is n None = refl
shown_is n (Some x) = refl

-- the objects stand from number 1 on, and number 0 is free
sums_alike : (f : Portrait → ℕ) (g : Option Object → ℕ) (next : ℕ) (objects : List Portrait)
    (tree : Tree) → AreInOrder 1 next objects → next ≡ length tree
    → ((n : ℕ) → shown_by f (portrait_at objects n) ≡ g (place tree n))
    → sum_by f objects ≡ sum_by g tree
sums_alike f g next [] [] h long each = refl
sums_alike f g next (x ∷ objects) [] h long each = absurd (omega (arith, h.1, long))
sums_alike f g next objects (o ∷ tree) h long each =
    let none : portrait_at objects 0 ≡ None = none_below 1 next objects 0 h (omega arith) in
    let zero : 0 ≡ g o = sym (ap (shown_by f) none) ∙ each 0 in
    let rest : sum_by f objects ≡ sum_by g tree =
    sums f g 1 next objects tree None h (omega (arith, long))
    (λ i n e lt.
    let s : n ≡ suc i = omega (arith, e) in
    subst (λ (k : ℕ). shown_by f (portrait_at objects n) ≡ g (place (o ∷ tree) k)) s (each n))
    in
    omega (arith, zero, rest, sum_by-cons g o tree)

pub names_are : (next : ℕ) (objects : List Portrait) (tree : Tree) (n : ℕ)
    → AreInOrder 1 next objects → next ≡ length tree → AreAlike objects tree
    → names_of objects n ≡ entries_of tree n
unfolding names_of entries_of
names_are next objects tree n h long alike =
    sums_alike (names_by n) (names_at n) next objects tree h long
    (λ k. shown_is n (portrait_at objects k)
    ∙ shown_alike (portrait_at objects k) (place tree k) n (alike k))

pub blocks_are : (next : ℕ) (objects : List Portrait) (tree : Tree) → AreInOrder 1 next objects
    → next ≡ length tree → AreAlike objects tree → blocks_in objects ≡ used_blocks tree
unfolding blocks_in used_blocks
blocks_are next objects tree h long alike =
    sums_alike blocks_by blocks_at next objects tree h long
    (λ k. blocks_alike (portrait_at objects k) (place tree k) (alike k))
