-- The blocks of the disk that are cut, which a list of cells has.
use Rattle.std.proofs.Common.{◌≡◌, ℕ, ◌<◌, ◌≤◌, Bool, true, false, cond, [], ◌∷◌, List, Option, Some, None, inl, inr, ◌⊎◌, refl, ap, subst, ◌∙◌, arith, ◌==◌}
use Rattle.std.specs.Prelude.{Contains, filter}
use Rattle.std.specs.BTreeMap.Range.{range_contains}
use Rattle.std.specs.Cmp.{ranks}
use Rattle.std.specs.Ordering.{MatchOrdering, is_le, is_lt, nat_cmp, ordering_then}
use Rattle.std.specs.declared.cmp.Ordering.{Ordering}
use Rattle.std.specs.declared.cmp.Ordering.TheVariants.{Less, Equal, Greater}
use Rattle.std.specs.declared.ops.Bound.TheVariants.{Included}
use Rattle.std.proofs.lemmas.Bool.{and_from, and_parts, eqb-true, leb-true}
use Rattle.std.proofs.lemmas.List.Elements.{Contains-append_cases, Contains-append_left, Contains-append_right, Contains-push, Contains-push_cases}
use Rattle.std.proofs.lemmas.Map.Views.{Contains-from_any, Contains-from_lookup, exact_unsigned_eq}
use Rattle.harp_cells.specs.declared.cell.Cell.{Cell}
use Rattle.harp_cells.specs.declared.cell.Cell.TheVariants.{Meta, Object, Block, Slot, Client, Saved}
use Rattle.store_folder.specs.Unsynced.{Pending, cut_of, is_cut, is_from, is_stored, is_touched}
use Rattle.store_folder.proofs.BlockLaws.{Blocks, is_pair, pair_cmp}

-- the cells have this block of an object, unless it was put or erased
abbrev pub HasBlock : Pending → ℕ → List Cell → ℕ × ℕ → Type 0
HasBlock p object cells k =
    is_touched p.touched (Block object k.1) ≡ false → Contains cells (Block object k.1)

-- the cells have the blocks of an object from the cut on
abbrev pub HasCut : Pending → List Cell → ℕ × ℕ → Type 0
HasCut p cells cut = (block : ℕ) → cut.1 ≤ block
    → is_stored p.blocks (Block cut.0 block) ≡ true
    → is_touched p.touched (Block cut.0 block) ≡ false → Contains cells (Block cut.0 block)

-- ---- a block that is told is in the range

same_pair : (x y : ℕ × ℕ) → is_pair x y ≡ true → x ≡ y
same_pair (a, b) (c, d) h =
    let both = and_parts (a == c) (b == d) h in
    ap (λ (n : ℕ). (n, b)) (eqb-true a c both.0) ∙ ap (λ (n : ℕ). (c, n)) (eqb-true b d both.1)

pub stored_in : (blocks : Blocks) (object block : ℕ) → is_stored blocks (Block object block) ≡ true
    → Contains blocks (object, block)
unfolding is_stored
stored_in blocks object block h = Contains-from_any same_pair (object, block) blocks h

first_kept : (b : Bool) (y : ℕ × ℕ) (rest : Blocks) → b ≡ true
    → Contains (cond b (y ∷ rest) rest) y
first_kept true y rest e = Contains-append_left (y ∷ []) rest y (Contains-push [] y)
first_kept false y rest e = absurd cc

rest_kept : (b : Bool) (x y : ℕ × ℕ) (rest : Blocks) → Contains rest x
    → Contains (cond b (y ∷ rest) rest) x
rest_kept true x y rest h = Contains-append_right (y ∷ []) rest x h
rest_kept false x y rest h = h

first_same : (x y : ℕ × ℕ) → Contains [] x ⊎ (y ≡ x) → y ≡ x
first_same x y (inl h) = absurd (omega (arith, h.1))
first_same x y (inr e) = e

first_passes : (test : ℕ × ℕ → Bool) (y : ℕ × ℕ) (blocks : Blocks) (x : ℕ × ℕ) → test x ≡ true
    → (Contains blocks x → Contains (filter test blocks) x)
    → Contains (y ∷ []) x ⊎ Contains blocks x
    → Contains (filter test (y ∷ blocks)) x
first_passes test y blocks x pass rest (inl h) =
    let e = first_same x y (Contains-push_cases [] y x h) in
    subst (λ (z : ℕ × ℕ). Contains (filter test (y ∷ blocks)) z) e
    (first_kept (test y) y (filter test blocks) (ap test e ∙ pass))
first_passes test y blocks x pass rest (inr h) =
    rest_kept (test y) x y (filter test blocks) (rest h)

-- what passes a test stays
passes_in : (test : ℕ × ℕ → Bool) (blocks : Blocks) (x : ℕ × ℕ) → test x ≡ true
    → Contains blocks x → Contains (filter test blocks) x
passes_in test [] x pass h = absurd (omega (arith, h.1))
passes_in test (y ∷ blocks) x pass h =
    first_passes test y blocks x pass (passes_in test blocks x pass)
    (Contains-append_cases (y ∷ []) blocks x h)

not_after : (object first block : ℕ) (r s : Ordering)
    → MatchOrdering r (object < object) (object ≡ object) (object < object)
    → MatchOrdering s (first < block) (first ≡ block) (block < first) → first ≤ block
    → is_le (ordering_then r s) ≡ true
not_after object first block Less s a b h = absurd (omega (arith, a))
not_after object first block Greater s a b h = absurd (omega (arith, a))
not_after object first block Equal Less a b h = refl
not_after object first block Equal Equal a b h = refl
not_after object first block Equal Greater a b h = absurd (omega (arith, b, h))

not_below : (object most block : ℕ) (r s : Ordering)
    → MatchOrdering r (object < object) (object ≡ object) (object < object)
    → MatchOrdering s (most < block) (most ≡ block) (block < most) → block ≤ most
    → is_lt (ordering_then r s) ≡ false
not_below object most block Less s a b h = absurd (omega (arith, a))
not_below object most block Greater s a b h = absurd (omega (arith, a))
not_below object most block Equal Less a b h = absurd (omega (arith, b, h))
not_below object most block Equal Equal a b h = refl
not_below object most block Equal Greater a b h = refl

in_bounds : (object first most block : ℕ) → first ≤ block → block ≤ most
    → range_contains pair_cmp (Included (object, first)) (Included (object, most)) (object, block)
    ≡ true
in_bounds object first most block from upto =
    and_from (is_le (pair_cmp (object, first) (object, block))) _
    (not_after object first block (nat_cmp object object) (nat_cmp first block)
    (ranks object object) (ranks first block) from)
    (rw (not_below object most block (nat_cmp object object) (nat_cmp most block)
    (ranks object object) (ranks most block) upto) refl)

-- this pair is among those between two
abbrev pub Among : Blocks → ℕ × ℕ → ℕ × ℕ → ℕ × ℕ → Type 0
Among blocks low high x =
    Contains (filter (range_contains pair_cmp (Included low) (Included high)) blocks) x

-- a block that is told stands in the range of its object from a first one on
pub block_in : (blocks : Blocks) (object first most block : ℕ) → first ≤ block → block ≤ most
    → is_stored blocks (Block object block) ≡ true
    → Among blocks (object, first) (object, most) (object, block)
block_in blocks object first most block from upto there =
    passes_in (range_contains pair_cmp (Included (object, first)) (Included (object, most))) blocks
    (object, block) (in_bounds object first most block from upto)
    (stored_in blocks object block there)

-- ---- a cell that is cut has a cut

abbrev pub Cut : List (ℕ × ℕ) → Cell → Type 0
Cut cuts c = (object : ℕ) × (first : ℕ) × (block : ℕ) × (c ≡ Block object block)
    × Contains cuts (object, first) × (first ≤ block)

cut_by : (cuts : List (ℕ × ℕ)) (object block : ℕ) (o : Option ℕ) → cut_of cuts object ≡ o
    → is_from o block ≡ true → Cut cuts (Block object block)
cut_by cuts object block None e h = absurd cc
cut_by cuts object block (Some first) e h = (
  object,
  first,
  block,
  refl,
  Contains-from_lookup exact_unsigned_eq object first cuts e,
  leb-true first block h,
)

pub cut_in : (cuts : List (ℕ × ℕ)) (c : Cell) → is_cut cuts c ≡ true → Cut cuts c
unfolding is_cut
cut_in cuts Meta h = absurd cc
cut_in cuts (Object object) h = absurd cc
cut_in cuts (Block object block) h = cut_by cuts object block (cut_of cuts object) refl h
cut_in cuts (Slot object slot) h = absurd cc
cut_in cuts (Client client) h = absurd cc
cut_in cuts (Saved place) h = absurd cc
