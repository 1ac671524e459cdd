-- Going up from a directory to the root.
use Rattle.std.proofs.Common.{◌≡◌, ℕ, zero, suc, ◌+◌, ◌<◌, ◌≤◌, ◌==◌, Bool, true, false, cond, length, ◌⊎◌, refl, sym, arith, inl, inr}
use Rattle.std.proofs.lemmas.Bool.{cases_eq, cases_Bool, eq-eqb, eqb-true, cond_both, or_cases, or_left, or_right, or_parts, both_ways, false_from_ne_true, true_from_ne_false}
use Rattle.file_tree.specs.Tree.{Tree, parent_of}
use Rattle.file_tree.specs.Rename.{is_above}
use Rattle.file_tree.proofs.Holders.{Holds, IsDirectory, AreNamed, holder_is_directory, parent_of-lt, parent_is, parent_holds}

-- the root is reached through holders
pub data Climbs (tree : Tree) : ℕ → Type 0 where
  at_root : (number : ℕ) → number ≡ 1 → Climbs tree number
  up : (dir number : ℕ) → Holds tree dir number → Climbs tree dir → Climbs tree number

-- what climbs reaches the root by its parents
reaches : (tree : Tree) (number : ℕ) → AreNamed tree → IsDirectory tree number → Climbs tree number
    → (levels : ℕ) × (is_above levels tree 1 number ≡ true)
unfolding is_above
reaches tree number named d (at_root n e) = (0, eq-eqb n 1 e)
reaches tree number named d (up dir n h c) = elim (cases_eq n 1) [
  | inl e ↦ (0, eq-eqb n 1 e)
  | inr ne ↦
      let r = reaches tree dir named (holder_is_directory tree dir n h) c in
      (suc r.0, or_right (n == 1) _ (rw (parent_is tree dir n named d ne h) r.1))
]

-- ---- as many levels as objects are enough: on each level below the number of levels stands an object

count : ℕ → (ℕ → Bool) → ℕ
count zero p = 0
count (suc n) p = cond (p n) 1 0 + count n p

count-le : (n : ℕ) (p : ℕ → Bool) → count n p ≤ n
unfolding count
count-le zero p = omega arith
count-le (suc n) p =
    omega (
      arith,
      count-le n p,
      cond_both (p n) 1 0 (λ (x : ℕ). x ≤ 1) (λ e. omega arith)
          (λ e. omega arith),
    )

one_more : (p q : Bool) → (p ≡ true → q ≡ true) → cond p 1 0 ≤ cond q 1 0
one_more true true h = omega arith
one_more true false h = let e = h refl in absurd cc
one_more false q h = omega arith

count_kept : (n : ℕ) (p q : ℕ → Bool) → ((m : ℕ) → p m ≡ true → q m ≡ true) → count n p ≤ count n q
unfolding count
count_kept zero p q h = omega arith
count_kept (suc n) p q h = omega (arith, one_more (p n) (q n) (h n), count_kept n p q h)

count_more : (n : ℕ) (p q : ℕ → Bool) → ((m : ℕ) → p m ≡ true → q m ≡ true) → (m : ℕ) → m < n
    → p m ≡ false → q m ≡ true → count n p + 1 ≤ count n q
unfolding count
count_more zero p q h m lt miss hit = absurd (omega arith)
count_more (suc n) p q h m lt miss hit = elim (cases_eq m n) [
  | inl e ↦
      let miss_here : p n ≡ false = rw (sym e) miss in
      let hit_here : q n ≡ true = rw (sym e) hit in
      rw (miss_here, hit_here) (omega (arith, count_kept n p q h))
  | inr ne ↦
      omega (
        arith,
        one_more (p n) (q n) (h n),
        count_more n p q h m (omega (arith, lt, ne)) miss hit,
      )
]

above_more : (levels : ℕ) (tree : Tree) (m : ℕ) → is_above levels tree 1 m ≡ true
    → is_above (suc levels) tree 1 m ≡ true
unfolding is_above
above_more zero tree m h = or_left (m == 1) _ h
above_more (suc levels) tree m h = elim (or_cases (m == 1) _ h) [
  | inl e ↦ or_left (m == 1) _ e
  | inr e ↦ or_right (m == 1) _ (above_more levels tree (parent_of tree m) e)
]

above_less : (levels : ℕ) (tree : Tree) (m : ℕ) → is_above (suc levels) tree 1 m ≡ false
    → is_above levels tree 1 m ≡ false
above_less levels tree m h = false_from_ne_true _ (λ e. both_ways _ h (above_more levels tree m e))

off_root : (levels : ℕ) (tree : Tree) (top m : ℕ) → is_above levels tree top m ≡ false
    → (m == top) ≡ false
unfolding is_above
off_root zero tree top m h = h
off_root (suc levels) tree top m h = (or_parts (m == top) _ h).0

-- where the root is reached, but not within so many levels, some object stands exactly one level
-- further
at_level : (most levels : ℕ) (tree : Tree) (m : ℕ) → 1 < length tree → m < length tree
    → is_above most tree 1 m ≡ true → is_above levels tree 1 m ≡ false
    → (x : ℕ) × (x < length tree) × (is_above levels tree 1 x ≡ false)
    × (is_above (suc levels) tree 1 x ≡ true)
unfolding is_above
at_level zero levels tree m two lt hit miss =
    absurd (both_ways _ (off_root levels tree 1 m miss) hit)
at_level (suc most) levels tree m two lt hit miss =
    elim (cases_Bool (is_above (suc levels) tree 1 m)) [
      | inl e ↦ (m, lt, miss, e)
      | inr e ↦
          let parts = or_parts (m == 1) _ e in
          elim (or_cases (m == 1) _ hit) [
            | inl root ↦ absurd (both_ways _ parts.0 root)
            | inr further ↦
                at_level most levels tree (parent_of tree m) two
                (parent_of-lt tree m two) further parts.1
          ]
    ]

root_itself : (tree : Tree) → is_above 0 tree 1 1 ≡ true
unfolding is_above
root_itself tree = refl

deep : (levels most : ℕ) (tree : Tree) (m : ℕ) → 1 < length tree → m < length tree
    → is_above most tree 1 m ≡ true → is_above levels tree 1 m ≡ false
    → levels + 1 ≤ count (length tree) (λ x. is_above levels tree 1 x)
deep zero most tree m two lt hit miss =
    omega (
      arith,
      count_more (length tree) (λ x. false) (λ x. is_above 0 tree 1 x)
          (λ k e. absurd cc) 1 two refl (root_itself tree),
    )
deep (suc levels) most tree m two lt hit miss =
    let before = above_less levels tree m miss in
    let r = at_level most levels tree m two lt hit before in
    omega (
      arith,
      deep levels most tree m two lt hit before,
      count_more (length tree) (λ x. is_above levels tree 1 x) (λ x. is_above (suc levels) tree 1 x)
          (λ k e. above_more levels tree k e) r.0 r.1 r.2 r.3,
    )

enough : (most : ℕ) (tree : Tree) (m : ℕ) → 1 < length tree → m < length tree
    → is_above most tree 1 m ≡ true → is_above (length tree) tree 1 m ≡ true
enough most tree m two lt hit =
    true_from_ne_false _ (λ miss. omega (
      arith,
      deep (length tree) most tree m two lt hit miss,
      count-le (length tree) (λ x. is_above (length tree) tree 1 x),
    ))

-- what climbs reaches the root within as many levels as there are objects
pub climbs_reach : (tree : Tree) (number : ℕ) → AreNamed tree → 1 < length tree
    → number < length tree → IsDirectory tree number → Climbs tree number
    → is_above (length tree) tree 1 number ≡ true
climbs_reach tree number named two lt d c = let r = reaches tree number named d c in
    enough r.0 tree number two lt r.1

-- ---- climbing in a changed tree

-- a turn at each directory on the way up, which says Q of it and of the rest of the way
abbrev pub Turn : Tree → Tree → (ℕ → ℕ → Type 0) → Type 0
Turn old new Q =
    (levels number : ℕ) → IsDirectory old number → (number ≡ 1 → ⊥)
    → Holds old (parent_of old number) number → Q (suc levels) number
    → Climbs new number ⊎ (Holds new (parent_of old number) number
    × Q levels (parent_of old number))

pub climbs_on : (old new : Tree) (Q : ℕ → ℕ → Type 0) → AreNamed old → Turn old new Q
    → (levels number : ℕ) → is_above levels old 1 number ≡ true → IsDirectory old number
    → Q levels number → Climbs new number
unfolding is_above
climbs_on old new Q named turn zero number h d q = at_root number (eqb-true number 1 h)
climbs_on old new Q named turn (suc levels) number h d q = elim (cases_eq number 1) [
  | inl e ↦ at_root number e
  | inr ne ↦
      let held = parent_holds old number named d ne in
      elim (turn levels number d ne held q) [
        | inl c ↦ c
        | inr on ↦
            elim (or_cases (number == 1) _ h) [
              | inl root ↦ absurd (ne (eqb-true number 1 root))
              | inr further ↦
                  up (parent_of old number) number on.0
                  (climbs_on old new Q named turn levels (parent_of old number) further
                  (holder_is_directory old (parent_of old number) number held) on.1)
            ]
      ]
]
