-- What changes make of the cells of blocks.
use Rattle.std.proofs.Common.{get_or, subst, ◌≡◌, ℕ, ◌+◌, ◌<◌, ◌≤◌, zero, suc, Bool, true, false, List, map, Option, Some, None, refl, sym, ap, ◌∙◌, arith, inl, inr, ◌==◌, ◌&&◌}
use Rattle.std.specs.Bool.{if◌then◌else◌}
use Rattle.std.specs.Prelude.{nat_le, fold}
use Rattle.std.specs.List.{range_with_len}
use Rattle.std.proofs.lemmas.Bool.{eq-eqb, ne_eqb, eqb-false, le-leb, lt-leb, cases_eq}
use Rattle.harp_cells.specs.declared.cell.Cell.{Cell}
use Rattle.harp_cells.specs.declared.cell.Cell.TheVariants as cell
use Rattle.harp_cells.specs.declared.value.Value.{Value}
use Rattle.harp_cells.specs.declared.value.Value.TheVariants as value
use Rattle.harp_cells.specs.declared.change.Change.{Change}
use Rattle.harp_cells.specs.declared.change.Change.TheVariants as change
use Rattle.harp_cells.specs.Effect.{is_cell, is_block_from, changed}
use Rattle.inode_blocks.specs.Holds.{stored, IsBlock}
use Rattle.inode_blocks.specs.Changes.{is_block_of, put}

and_both : (a b : Bool) → a ≡ true → true && a && b ≡ b
and_both true b h = refl
and_both false b h = let wrong = h in absurd cc

same_block : (object a b : ℕ) → is_cell (cell.Block object a) (cell.Block object b) ≡ (a == b)
unfolding is_cell
same_block object a b = and_both (object == object) (a == b) (eq-eqb object object refl)

from_block : (object first b : ℕ) → is_block_from object first (cell.Block object b)
    ≡ nat_le first b
unfolding is_block_from
from_block object first b = and_both (object == object) (nat_le first b) (eq-eqb object object refl)

-- ---- one change

pub put_here : (object b : ℕ) (bytes : List ℕ) (h : Option Value)
    → changed (cell.Block object b) h (put object b bytes) ≡ Some (value.Block bytes)
put_here object b bytes h =
    ap (λ (t : Bool). if◌then◌else◌ {A = Option Value} t (Some (value.Block bytes)) h)
    (same_block object b b ∙ eq-eqb b b refl)

pub put_elsewhere : (object a b : ℕ) (bytes : List ℕ) (h : Option Value) → (a ≡ b → ⊥)
    → changed (cell.Block object b) h (put object a bytes) ≡ h
put_elsewhere object a b bytes h other =
    ap (λ (t : Bool). if◌then◌else◌ {A = Option Value} t (Some (value.Block bytes)) h)
    (same_block object a b ∙ ne_eqb a b other)

pub erased_from : (object first b : ℕ) (h : Option Value) → first ≤ b
    → changed (cell.Block object b) h (change.EraseFrom object first) ≡ None
erased_from object first b h from =
    ap (λ (t : Bool). if◌then◌else◌ {A = Option Value} t None h)
    (from_block object first b ∙ le-leb first b from)

pub erased_before : (object first b : ℕ) (h : Option Value) → b < first
    → changed (cell.Block object b) h (change.EraseFrom object first) ≡ h
erased_before object first b h before =
    ap (λ (t : Bool). if◌then◌else◌ {A = Option Value} t None h)
    (from_block object first b ∙ lt-leb first b before)

-- ---- cells that are no block of the object

apart_keys : (object o a b : ℕ) → (o == object) ≡ false → true && (object == o) && (a == b) ≡ false
apart_keys object o a b h = ap (λ (t : Bool). true && t && (a == b))
    (ne_eqb object o (λ e. eqb-false o object h (sym e)))

-- a cell that is no block of the object
apart : (object a : ℕ) (c : Cell) → is_block_of object c ≡ false
    → is_cell (cell.Block object a) c ≡ false
unfolding is_cell
apart object a cell.Meta h = refl
apart object a (cell.Object o) h = refl
apart object a (cell.Block o b) h = apart_keys object o a b h
apart object a (cell.Slot o s) h = refl
apart object a (cell.Client n) h = refl
apart object a (cell.Saved p) h = refl

apart_from : (object first : ℕ) (c : Cell) → is_block_of object c ≡ false
    → is_block_from object first c ≡ false
unfolding is_block_from
apart_from object first cell.Meta h = refl
apart_from object first (cell.Object o) h = refl
apart_from object first (cell.Block o b) h = ap (λ (t : Bool). true && t && nat_le first b) h
apart_from object first (cell.Slot o s) h = refl
apart_from object first (cell.Client n) h = refl
apart_from object first (cell.Saved p) h = refl

pub put_apart : (object a : ℕ) (bytes : List ℕ) (c : Cell) (h : Option Value)
    → is_block_of object c ≡ false
    → changed c h (put object a bytes) ≡ h
put_apart object a bytes c h beside = ap
    (λ (t : Bool). if◌then◌else◌ {A = Option Value} t (Some (value.Block bytes)) h)
    (apart object a c beside)

pub erased_apart : (object first : ℕ) (c : Cell) (h : Option Value) → is_block_of object c ≡ false
    → changed c h (change.EraseFrom object first) ≡ h
erased_apart object first c h beside = ap (λ (t : Bool). if◌then◌else◌ {A = Option Value} t None h)
    (apart_from object first c beside)

-- ---- a Put of each block of a range

abbrev pub puts_over : ℕ → (ℕ → List ℕ) → List ℕ → List Change
puts_over object bytes blocks = map (λ b. put object b (bytes b)) blocks

go_on : (c : Cell) (h k : Option Value) (rest : List Change) → h ≡ k
    → fold (changed c) h rest ≡ fold (changed c) k rest
go_on c h k rest e = ap (λ (v : Option Value). fold (changed c) v rest) e

pub puts_before : (object : ℕ) (bytes : ℕ → List ℕ) (b : ℕ) (h : Option Value) (a n : ℕ) → b < a
    → fold (changed (cell.Block object b)) h (puts_over object bytes (range_with_len a n)) ≡ h
puts_before object bytes b h a zero before = refl
puts_before object bytes b h a (suc n) before =
    go_on (cell.Block object b) _ h (puts_over object bytes (range_with_len (a + 1) n))
    (put_elsewhere object a b (bytes a) h (λ e. omega arith))
    ∙ puts_before object bytes b h (a + 1) n (omega arith)

pub puts_behind : (object : ℕ) (bytes : ℕ → List ℕ) (b : ℕ) (h : Option Value) (a n : ℕ) → a + n ≤ b
    → fold (changed (cell.Block object b)) h (puts_over object bytes (range_with_len a n)) ≡ h
puts_behind object bytes b h a zero behind = refl
puts_behind object bytes b h a (suc n) behind =
    go_on (cell.Block object b) _ h (puts_over object bytes (range_with_len (a + 1) n))
    (put_elsewhere object a b (bytes a) h (λ e. omega arith))
    ∙ puts_behind object bytes b h (a + 1) n (omega arith)

pub puts_at : (object : ℕ) (bytes : ℕ → List ℕ) (b : ℕ) (h : Option Value) (a n : ℕ) → a ≤ b
    → b < a + n
    → fold (changed (cell.Block object b)) h (puts_over object bytes (range_with_len a n)) ≡ Some
    (value.Block (bytes b))
puts_at object bytes b h a zero from to = absurd (omega arith)
puts_at object bytes b h a (suc n) from to = elim (cases_eq a b) [
  | inl here ↦
      go_on (cell.Block object b) _ _ (puts_over object bytes (range_with_len (a + 1) n))
      (ap (λ (k : ℕ). changed (cell.Block object b) h (put object k (bytes k))) here
      ∙ put_here object b (bytes b) h)
      ∙ puts_before object bytes b (Some (value.Block (bytes b))) (a + 1) n (omega arith)
  | inr other ↦
      go_on (cell.Block object b) _ h (puts_over object bytes (range_with_len (a + 1) n))
      (put_elsewhere object a b (bytes a) h other)
      ∙ puts_at object bytes b h (a + 1) n (omega (arith, other)) (omega arith)
]

pub puts_apart : (object : ℕ) (bytes : ℕ → List ℕ) (c : Cell) (h : Option Value) (a n : ℕ)
    → is_block_of object c ≡ false
    → fold (changed c) h (puts_over object bytes (range_with_len a n)) ≡ h
puts_apart object bytes c h a zero beside = refl
puts_apart object bytes c h a (suc n) beside =
    go_on c _ h (puts_over object bytes (range_with_len (a + 1) n))
    (put_apart object a (bytes a) c h beside)
    ∙ puts_apart object bytes c h (a + 1) n beside

-- ---- one block of a file

-- a cell of a block holds its bytes of a file
pub record HoldsBlock (v : Option Value) (bytes : List ℕ) (start : ℕ) : Type 0 where
  pub kind : IsBlock v
  pub byte : (at : ℕ) → at < 4096 → get_or (stored v) at 0 ≡ get_or bytes (start + at) 0

pub holds_along : (v w : Option Value) (bytes : List ℕ) (start : ℕ) → v ≡ w
    → HoldsBlock w bytes start
    → HoldsBlock v bytes start
holds_along v w bytes start e h = subst (λ (u : Option Value). HoldsBlock u bytes start) (sym e) h
