-- In a sound tree the root stands within as many levels as there are blocks: each directory above
-- another one holds an entry, so it has a block of its own.
use Rattle.std.proofs.Common.{◌≡◌, ℕ, zero, suc, ◌+◌, ◌*◌, ◌<◌, ◌≤◌, ◌==◌, Bool, true, false, cond, length, take}
use Rattle.std.proofs.Common.{sum_by, Option, Some, None, refl, sym, ap, arith, take_all, inl, inr}
use Rattle.std.proofs.lemmas.Bool.{cases_eq, cases_lt, cases_Bool, cond_both, or_cases, or_left, or_right, or_parts}
use Rattle.std.proofs.lemmas.Bool.{both_ways}
use Rattle.std.proofs.lemmas.Bool.{false_from_ne_true, true_from_ne_false, eqb-false, eqb-true}
use Rattle.std.proofs.lemmas.List.{get_or_past}
use Rattle.std.proofs.lemmas.List.Sums.{sum_by_more}
use Rattle.file_tree.specs.declared.object.Body.{Body}
use Rattle.file_tree.specs.declared.object.Body.TheVariants.{Regular, Directory, Link}
use Rattle.file_tree.specs.declared.object.Object.{Object}
use Rattle.file_tree.specs.Tree.{Tree, place, slots_within, size_of, blocks_of, names_in, names_at, blocks_at}
use Rattle.file_tree.specs.Tree.{used_blocks, is_directory_at, parent_of}
use Rattle.file_tree.specs.Rename.{is_above}
use Rattle.file_tree.specs.Sound.{IsSound}
use Rattle.file_tree.proofs.Bounds.{names_in-le}
use Rattle.file_tree.proofs.Holders.{IsDirectory, AreNamed, Holds, holder_is_directory, holder_within, parent_holds}

-- ---- the weight of the numbers below one that pass a test

weight : ℕ → (ℕ → Bool) → (ℕ → ℕ) → ℕ
weight zero p w = 0
weight (suc n) p w = cond (p n) (w n) 0 + weight n p w

more_or_same : (p q : Bool) (w : ℕ) → (p ≡ true → q ≡ true) → cond p w 0 ≤ cond q w 0
more_or_same true true w h = omega arith
more_or_same true false w h = let e = h refl in absurd cc
more_or_same false q w h = omega arith

weight_kept : (n : ℕ) (p q : ℕ → Bool) (w : ℕ → ℕ) → ((m : ℕ) → p m ≡ true → q m ≡ true)
    → weight n p w ≤ weight n q w
unfolding weight
weight_kept zero p q w h = omega arith
weight_kept (suc n) p q w h =
    omega (arith, more_or_same (p n) (q n) (w n) (h n), weight_kept n p q w h)

weight_more : (n : ℕ) (p q : ℕ → Bool) (w : ℕ → ℕ) → ((m : ℕ) → p m ≡ true → q m ≡ true) → (m : ℕ)
    → m < n
    → p m ≡ false → q m ≡ true → 1 ≤ w m → weight n p w + 1 ≤ weight n q w
unfolding weight
weight_more zero p q w h m lt miss hit some = absurd (omega arith)
weight_more (suc n) p q w h m lt miss hit some = elim (cases_eq m n) [
  | inl e ↦
      let miss_here : p n ≡ false = rw (sym e) miss in
      let hit_here : q n ≡ true = rw (sym e) hit in
      let some_here : 1 ≤ w n = rw (sym e) some in
      rw (miss_here, hit_here) (omega (arith, some_here, weight_kept n p q w h))
  | inr ne ↦
      let rest = weight_more n p q w h m (omega (arith, lt, ne)) miss hit some in
      omega (arith, more_or_same (p n) (q n) (w n) (h n), rest)
]

-- the blocks of an object
abbrev pub block_weight : Tree → ℕ → ℕ
block_weight tree x = blocks_at (place tree x)

weight-le : (n : ℕ) (p : ℕ → Bool) (tree : Tree) → n ≤ length tree
    → weight n p (block_weight tree) ≤ sum_by blocks_at (take n tree)
unfolding weight
weight-le zero p tree le = omega arith
weight-le (suc n) p tree le =
    let one =
    cond_both (p n) (block_weight tree n) 0 (λ (x : ℕ). x ≤ block_weight tree n)
    (λ e. omega arith) (λ e. omega arith) in
    let next : suc n ≡ n + 1 = omega arith in
    let taken = ap (λ (k : ℕ). sum_by blocks_at (take k tree)) next in
    let more = sum_by_more blocks_at tree n None (omega (arith, le)) in
    omega (arith, one, taken, more, weight-le n p tree (omega (arith, le)))

names_within-le : (number : ℕ) (b : Body)
    → names_in number (slots_within b) ≤ 16 * blocks_of (size_of b)
names_within-le number (Directory slots) = omega (arith, names_in-le number slots)
names_within-le number (Regular bytes) = omega arith
names_within-le number (Link text) = omega arith

-- an object with an entry has a block
some_block : (x : Option Object) (number : ℕ) → 1 ≤ names_at number x → 1 ≤ blocks_at x
some_block None number h = absurd (omega arith)
some_block (Some o) number h = omega (arith, h, names_within-le number o.body)

-- ---- levels

above_more : (levels : ℕ) (tree : Tree) (m : ℕ) → is_above levels tree 1 m ≡ true
    → is_above (suc levels) tree 1 m ≡ true
unfolding is_above
above_more zero tree m h = or_left (m == 1) _ h
above_more (suc levels) tree m h = elim (or_cases (m == 1) _ h) [
  | inl e ↦ or_left (m == 1) _ e
  | inr e ↦ or_right (m == 1) _ (above_more levels tree (parent_of tree m) e)
]

above_less : (levels : ℕ) (tree : Tree) (m : ℕ) → is_above (suc levels) tree 1 m ≡ false
    → is_above levels tree 1 m ≡ false
above_less levels tree m h = false_from_ne_true _ (λ e. both_ways _ h (above_more levels tree m e))

-- the parent of a directory other than the root
record IsParent (tree : Tree) (m : ℕ) : Type 0 where
  within : parent_of tree m < length tree
  directory : IsDirectory tree (parent_of tree m)
  block : 1 ≤ block_weight tree (parent_of tree m)

parent_facts : (tree : Tree) (m : ℕ) → AreNamed tree → IsDirectory tree m → (m ≡ 1 → ⊥)
    → IsParent tree m
parent_facts tree m named d ne =
    let held : Holds tree (parent_of tree m) m = parent_holds tree m named d ne in
    record {
      within = holder_within tree (parent_of tree m) m held;
      directory = holder_is_directory tree (parent_of tree m) m held;
      block = some_block (place tree (parent_of tree m)) m held;
    }

-- where the root is above another directory, it has a block
root_block : (most : ℕ) (tree : Tree) (m : ℕ) → AreNamed tree → IsDirectory tree m → (m ≡ 1 → ⊥)
    → is_above most tree 1 m ≡ true → 1 ≤ block_weight tree 1
unfolding is_above
root_block zero tree m named d ne hit = absurd (ne (eqb-true m 1 hit))
root_block (suc most) tree m named d ne hit = elim (or_cases (m == 1) _ hit) [
  | inl e ↦ absurd (ne (eqb-true m 1 e))
  | inr further ↦
      let parent = parent_facts tree m named d ne in
      elim (cases_eq (parent_of tree m) 1) [
        | inl e ↦ rw e at parent.block
        | inr other ↦ root_block most tree (parent_of tree m) named parent.directory other further
      ]
]

-- an object exactly one level further, with a block
record IsAtLevel (tree : Tree) (levels x : ℕ) : Type 0 where
  within : x < length tree
  miss : is_above levels tree 1 x ≡ false
  hit : is_above (suc levels) tree 1 x ≡ true
  block : 1 ≤ block_weight tree x

at_level : (most levels : ℕ) (tree : Tree) (m : ℕ) → AreNamed tree → IsDirectory tree m
    → is_above most tree 1 m ≡ true
    → is_above (suc levels) tree 1 m ≡ false → (x : ℕ) × IsAtLevel tree levels x
unfolding is_above
at_level zero levels tree m named d hit miss =
    absurd (both_ways _ (or_parts (m == 1) _ miss).0 hit)
at_level (suc most) levels tree m named d hit miss =
    let parts = or_parts (m == 1) _ miss in
    let parent = parent_facts tree m named d (eqb-false m 1 parts.0) in
    elim (or_cases (m == 1) _ hit) [
      | inl root ↦ absurd (both_ways _ parts.0 root)
      | inr further ↦ elim (cases_Bool (is_above (suc levels) tree 1 (parent_of tree m))) [
        | inl e ↦ (
          parent_of tree m,
          record
              { within = parent.within; miss = parts.1; hit = e; block = parent.block },
        )
        | inr e ↦ at_level most levels tree (parent_of tree m) named parent.directory further e
      ]
    ]

root_itself : (tree : Tree) → is_above 0 tree 1 1 ≡ true
unfolding is_above
root_itself tree = refl

not_root : (tree : Tree) (m : ℕ) → is_above 0 tree 1 m ≡ false → m ≡ 1 → ⊥
unfolding is_above
not_root tree m miss = eqb-false m 1 miss

-- what isn't met within so many levels has more blocks above it
deep : (levels most : ℕ) (tree : Tree) (m : ℕ) → AreNamed tree → 1 < length tree
    → IsDirectory tree m
    → is_above most tree 1 m ≡ true → is_above levels tree 1 m ≡ false
    → levels + 1 ≤ weight (length tree) (λ x. is_above levels tree 1 x) (block_weight tree)
deep zero most tree m named two d hit miss =
    let root = root_block most tree m named d (not_root tree m miss) hit in
    let more =
    weight_more (length tree) (λ x. false) (λ x. is_above 0 tree 1 x) (block_weight tree)
    (λ k e. absurd cc)
    1 two refl (root_itself tree) root in
    omega (arith, more)
deep (suc levels) most tree m named two d hit miss =
    let r = at_level most levels tree m named d hit miss in
    let before = deep levels most tree m named two d hit (above_less levels tree m miss) in
    let more =
    weight_more (length tree) (λ x. is_above levels tree 1 x) (λ x. is_above (suc levels) tree 1 x)
    (block_weight tree) (λ k e. above_more levels tree k e) r.0 r.1.within r.1.miss r.1.hit
    r.1.block in
    omega (arith, before, more)

root_within : (tree : Tree) → is_directory_at (place tree 1) ≡ true → 1 < length tree
root_within tree d = elim (cases_lt 1 (length tree)) [
  | inl lt ↦ lt
  | inr le ↦ let none = get_or_past tree 1 None le in let e = rw none at d in absurd cc
]

all_taken : (tree : Tree) → sum_by blocks_at (take (length tree) tree) ≡ sum_by blocks_at tree
all_taken tree = ap (sum_by blocks_at) (take_all (length tree) tree (omega arith))

-- so the root is met within as many levels as there can be blocks
pub root_met : (levels : ℕ) (tree : Tree) (m : ℕ) → 65536 ≤ levels → IsSound tree
    → is_directory_at (place tree m) ≡ true
    → is_above levels tree 1 m ≡ true
unfolding used_blocks
root_met levels tree m enough is d =
    let two : 1 < length tree = root_within tree is.root in
    true_from_ne_false _ (λ miss. omega (
      arith,
      enough,
      is.limits.room,
      deep levels (length tree) tree m is.entries two d (is.reaches m d) miss,
      weight-le (length tree) (λ x. is_above levels tree 1 x) tree (omega arith),
      all_taken tree,
    ))
