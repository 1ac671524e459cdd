-- The object with a slot that names a number.
use Rattle.std.proofs.Common.{◌≡◌, ℕ, zero, suc, ◌+◌, ◌<◌, ◌≤◌, ◌==◌, true, false, List, [], ◌∷◌, length, get_or, sum_by, Option, Some, None, refl, ◌∙◌, arith, inl, inr}
use Rattle.std.proofs.lemmas.Bool.{cases_lt, ne_eqb, cond_both}
use Rattle.std.proofs.lemmas.List.{get_or_past}
use Rattle.std.proofs.lemmas.List.Sums.{sum_by-cons, get_or-le-sum_by}
use Rattle.file_tree.specs.declared.object.Body.{Body}
use Rattle.file_tree.specs.declared.object.Body.TheVariants.{Regular, Directory, Link}
use Rattle.file_tree.specs.declared.object.Object.{Object}
use Rattle.file_tree.specs.Tree.{Tree, place, slots_within, names_in, names_at, names_of, is_directory, is_directory_at, holder_from, parent_of}
use Rattle.file_tree.specs.Sound.{HasEntries, IsNamed}

-- a directory has a slot that names an object
abbrev pub Holds : Tree → ℕ → ℕ → Type 0
Holds tree dir number = 1 ≤ names_at number (place tree dir)

abbrev pub IsDirectory : Tree → ℕ → Type 0
IsDirectory tree number = is_directory_at (place tree number) ≡ true

within_directory : (b : Body) (number : ℕ) → 1 ≤ names_in number (slots_within b)
    → is_directory b ≡ true
within_directory (Directory slots) number h = refl
within_directory (Regular bytes) number h = absurd (omega arith)
within_directory (Link text) number h = absurd (omega arith)

at_directory : (x : Option Object) (number : ℕ) → 1 ≤ names_at number x → is_directory_at x ≡ true
at_directory None number h = absurd (omega arith)
at_directory (Some o) number h = within_directory o.body number h

-- only a directory holds an entry
pub holder_is_directory : (tree : Tree) (dir number : ℕ) → Holds tree dir number
    → IsDirectory tree dir
holder_is_directory tree dir number h = at_directory (place tree dir) number h

pub holder_within : (tree : Tree) (dir number : ℕ) → Holds tree dir number → dir < length tree
holder_within tree dir number h = elim (cases_lt dir (length tree)) [
  | inl lt ↦ lt
  | inr le ↦ let none = get_or_past tree dir None le in let nothing = rw none at h in
      absurd (omega (arith, nothing))
]

some_term : {X : Type 0} (f : X → ℕ) (xs : List X) (d : X) → 1 ≤ sum_by f xs
    → (j : ℕ) × (j < length xs) × (1 ≤ f (get_or xs j d))
some_term f [] d h = absurd (omega arith)
some_term f (x ∷ xs) d h = elim (cases_lt 0 (f x)) [
  | inl lt ↦ (0, omega arith, omega arith)
  | inr le ↦ let r = some_term f xs d (omega (arith, sum_by-cons f x xs)) in
      (suc r.0, omega (arith, r.1), r.2)
]

-- an object that is named is named by some directory
pub some_holder : (tree : Tree) (number : ℕ) → 1 ≤ names_of tree number
    → (dir : ℕ) × Holds tree dir number
unfolding names_of
some_holder tree number h = let r = some_term (names_at number) tree None h in (r.0, r.2)

holder_kept : (i : ℕ) (os : Tree) (number found : ℕ) → sum_by (names_at number) os ≡ 0
    → holder_from i os number found ≡ found
unfolding holder_from
holder_kept i [] number found h = refl
holder_kept i (o ∷ os) number found h =
    let z : names_at number o ≡ 0 = omega (arith, h, sum_by-cons (names_at number) o os) in
    rw z (holder_kept (i + 1) os number found
    (omega (arith, h, sum_by-cons (names_at number) o os)))

holder_at : (i : ℕ) (os : Tree) (number found j : ℕ) → j < length os
    → 1 ≤ names_at number (get_or os j None) → sum_by (names_at number) os ≤ 1
    → holder_from i os number found ≡ i + j
unfolding holder_from
holder_at i [] number found j lt h one = absurd (omega arith)
holder_at i (o ∷ os) number found zero lt h one =
    let t : (names_at number o == 0) ≡ false =
    ne_eqb (names_at number o) 0 (λ e. omega (arith, e, h)) in
    rw t (holder_kept (i + 1) os number i
    (omega (arith, h, one, sum_by-cons (names_at number) o os)) ∙ omega arith)
holder_at i (o ∷ os) number found (suc j) lt h one =
    let z : names_at number o ≡ 0 =
    omega (
      arith,
      h,
      one,
      sum_by-cons (names_at number) o os,
      get_or-le-sum_by (names_at number) os j None (omega (arith, lt)),
    ) in
    rw z (holder_at (i + 1) os number found j (omega (arith, lt)) h
    (omega (arith, one, sum_by-cons (names_at number) o os)) ∙ omega arith)

holder_from-lt : (i : ℕ) (os : Tree) (number found most : ℕ) → found < most → i + length os ≤ most
    → holder_from i os number found < most
unfolding holder_from
holder_from-lt i [] number found most lt le = lt
holder_from-lt i (o ∷ os) number found most lt le =
    holder_from-lt (i + 1) os number _ most
    (cond_both (names_at number o == 0) found i (λ (x : ℕ). x < most) (λ e. lt)
    (λ e. omega (arith, le))) (omega (arith, le))

pub parent_of-lt : (tree : Tree) (number : ℕ) → 1 < length tree
    → parent_of tree number < length tree
unfolding parent_of
parent_of-lt tree number lt =
    cond_both (is_directory_at (place tree number)) _ 0 (λ (x : ℕ). x < length tree)
    (λ e. cond_both (number == 1) 1 _ (λ (x : ℕ). x < length tree) (λ e. lt)
    (λ e. holder_from-lt 0 tree number 0 (length tree) (omega (arith, lt)) (omega arith)))
    (λ e. omega (arith, lt))

entries_within : (number : ℕ) (b : Body) (entries : ℕ) → is_directory b ≡ true → (number ≡ 1 → ⊥)
    → HasEntries number b entries → entries ≡ 1
entries_within number (Directory slots) entries d ne h = let t : (number == 1) ≡ false =
    ne_eqb number 1 ne in rw t at h
entries_within number (Regular bytes) entries d ne h = absurd cc
entries_within number (Link text) entries d ne h = absurd cc

entries_at : (number : ℕ) (x : Option Object) (entries : ℕ) → is_directory_at x ≡ true
    → (number ≡ 1 → ⊥) → IsNamed number x entries → entries ≡ 1
entries_at number None entries d ne h = absurd cc
entries_at number (Some o) entries d ne h = entries_within number o.body entries d ne h

-- each object has as many entries as it must have
abbrev pub AreNamed : Tree → Type 0
AreNamed tree = (number : ℕ) → IsNamed number (place tree number) (names_of tree number)

pub directory_once : (tree : Tree) (number : ℕ) → AreNamed tree → IsDirectory tree number
    → (number ≡ 1 → ⊥) → names_of tree number ≡ 1
directory_once tree number named d ne =
    entries_at number (place tree number) (names_of tree number) d ne (named number)

-- the holder of a directory is its parent
pub parent_is : (tree : Tree) (dir number : ℕ) → AreNamed tree → IsDirectory tree number
    → (number ≡ 1 → ⊥) → Holds tree dir number → parent_of tree number ≡ dir
unfolding parent_of names_of
parent_is tree dir number named d ne h =
    let once = directory_once tree number named d ne in
    let t : (number == 1) ≡ false = ne_eqb number 1 ne in
    rw (d, t) (holder_at 0 tree number 0 dir (holder_within tree dir number h) h
    (omega (arith, once)) ∙ omega arith)

-- the parent of a directory holds it
pub parent_holds : (tree : Tree) (number : ℕ) → AreNamed tree → IsDirectory tree number
    → (number ≡ 1 → ⊥) → Holds tree (parent_of tree number) number
parent_holds tree number named d ne =
    let r = some_holder tree number (omega (arith, directory_once tree number named d ne)) in
    rw (parent_is tree r.0 number named d ne r.1) r.1

pub parent_of_root : (tree : Tree) → IsDirectory tree 1 → parent_of tree 1 ≡ 1
unfolding parent_of
parent_of_root tree d = rw d refl
