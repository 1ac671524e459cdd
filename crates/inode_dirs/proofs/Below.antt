-- In a sound tree the way up from a directory meets each directory that it is below.
use Rattle.std.proofs.Common.{◌≡◌, ℕ, zero, suc, ◌≤◌, ◌==◌, Bool, true, false, length, refl, sym, ◌⊎◌, ap, ◌∙◌, subst}
use Rattle.std.proofs.Common.{inl, inr, eq-eqb}
use Rattle.std.proofs.Common.{eqb-true}
use Rattle.std.proofs.lemmas.Bool.{or_cases, or_left, or_right}
use Rattle.file_tree.specs.Tree.{Tree, place, is_directory_at, parent_of}
use Rattle.file_tree.specs.Rename.{is_above}
use Rattle.file_tree.specs.Sound.{IsSound}
use Rattle.file_tree.proofs.Holders.{parent_of_root}
use Rattle.inode_dirs.specs.Parents.{ancestor, IsBelow}
use Rattle.inode_dirs.specs.Laws.{AboveIsBelow}
use Rattle.inode_dirs.proofs.Levels.{root_met}

below : (levels : ℕ) (tree : Tree) (top dir : ℕ) → is_above levels tree top dir ≡ true
    → IsBelow tree dir top
unfolding is_above ancestor
below zero tree top dir h = (0, eqb-true dir top h)
below (suc levels) tree top dir h = elim (or_cases (dir == top) _ h) [
  | inl e ↦ (0, eqb-true dir top e)
  | inr e ↦ let b = below levels tree top (parent_of tree dir) e in (suc b.0, b.1)
]

above : (levels : ℕ) (tree : Tree) (top dir : ℕ) → ancestor levels tree dir ≡ top
    → is_above levels tree top dir ≡ true
unfolding is_above ancestor
above zero tree top dir e = eq-eqb dir top e
above (suc levels) tree top dir e =
    or_right (dir == top) _ (above levels tree top (parent_of tree dir) e)

-- above the root there is only the root
root_alone : (levels : ℕ) (tree : Tree) (top : ℕ) → is_directory_at (place tree 1) ≡ true
    → is_above levels tree top 1 ≡ true → (1 == top) ≡ true
unfolding is_above
root_alone zero tree top root h = h
root_alone (suc levels) tree top root h = elim (or_cases (1 == top) _ h) [
  | inl e ↦ e
  | inr e ↦
      root_alone levels tree top root
      (subst (λ (n : ℕ). is_above levels tree top n ≡ true) (parent_of_root tree root) e)
]

-- a directory that is met stands here, or is met on the next level
next_level : (most : ℕ) (tree : Tree) (top dir : ℕ) → is_above most tree top dir ≡ true
    → ((dir == top) ≡ true) ⊎ ((n : ℕ) × (is_above n tree top (parent_of tree dir) ≡ true))
unfolding is_above
next_level zero tree top dir h = inl h
next_level (suc most) tree top dir h =
    elim (or_cases (dir == top) _ h) [ inl e ↦ inl e | inr e ↦ inr (most, e) ]

-- where the root is met within so many levels, each other directory is
met : (levels most : ℕ) (tree : Tree) (top dir : ℕ) → is_directory_at (place tree 1) ≡ true
    → is_above levels tree 1 dir ≡ true → is_above most tree top dir ≡ true
    → is_above levels tree top dir ≡ true
unfolding is_above
met zero most tree top dir root reach h =
    let at : dir ≡ 1 = eqb-true dir 1 reach in
    let here =
    root_alone most tree top root (subst (λ (n : ℕ). is_above most tree top n ≡ true) at h) in
    ap (λ (n : ℕ). n == top) at ∙ here
met (suc levels) most tree top dir root reach h = elim (or_cases (dir == 1) _ reach) [
  | inl e ↦
      let at : dir ≡ 1 = eqb-true dir 1 e in
      let here =
      root_alone most tree top root (subst (λ (n : ℕ). is_above most tree top n ≡ true) at h) in
      or_left (dir == top) _ (ap (λ (n : ℕ). n == top) at ∙ here)
  | inr further ↦ elim (next_level most tree top dir h) [
    | inl e ↦ or_left (dir == top) _ e
    | inr up ↦
        or_right (dir == top) _ (met levels up.0 tree top (parent_of tree dir) root further up.1)
  ]
]

pub above_is_below : AboveIsBelow
above_is_below tree top dir is d = (
  below (length tree) tree top dir,
  λ b. met (length tree) b.0 tree top dir is.root (is.reaches dir d) (above b.0 tree top dir b.1),
)

same_test : (a b : Bool) → (a ≡ true → b ≡ true) → (b ≡ true → a ≡ true) → a ≡ b
same_test true b h k = sym (h refl)
same_test false true h k = k refl
same_test false false h k = refl

-- as many levels as there can be blocks are enough too
pub enough_levels : (levels : ℕ) (tree : Tree) (top dir : ℕ) → 65536 ≤ levels → IsSound tree
    → is_directory_at (place tree dir) ≡ true
    → is_above levels tree top dir ≡ is_above (length tree) tree top dir
enough_levels levels tree top dir enough is d =
    same_test (is_above levels tree top dir) (is_above (length tree) tree top dir)
    (met (length tree) levels tree top dir is.root (is.reaches dir d))
    (met levels (length tree) tree top dir is.root (root_met levels tree dir enough is d))
