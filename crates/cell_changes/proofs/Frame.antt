-- What an update leaves alone.
use Rattle.std.proofs.Common.{◌≡◌, ℕ, ◌*◌, ◌≤◌, ◌==◌, ◌&&◌, Bool, true, false, List, [], ◌∷◌, length, Option, Some, None, refl, sym, ap, ◌∙◌, subst, arith}
use Rattle.std.specs.Bool.{if◌then◌else◌}
use Rattle.std.specs.Prelude.{fold, nat_le}
use Rattle.std.specs.List.{list_any}
use Rattle.std.proofs.lemmas.Bool.{or_parts, eqb-true, ne_eqb, eqb-false, eq-eqb, both_ways, false_from_ne_true}
use Rattle.file_tree.specs.Tree.{Tree, Slots, place, slots_of, slots_within, names_in, names_at, links_of, used_blocks, is_directory_at}
use Rattle.file_tree.specs.declared.object.Object.{Object}
use Rattle.file_tree.specs.declared.object.Body.{Body}
use Rattle.file_tree.specs.declared.object.Body.TheVariants as body
use Rattle.harp_cells.specs.declared.cell.Cell.{Cell}
use Rattle.harp_cells.specs.declared.cell.Cell.TheVariants as cell
use Rattle.harp_cells.specs.declared.value.Inode.{Inode}
use Rattle.harp_cells.specs.declared.value.Value.{Value}
use Rattle.harp_cells.specs.declared.value.Value.TheVariants as value
use Rattle.harp_cells.specs.declared.change.Change.{Change}
use Rattle.harp_cells.specs.declared.change.Change.TheVariants as change
use Rattle.harp_cells.specs.Effect.{Cells, after, changed, is_cell, is_block_from}
use Rattle.harp_cells.specs.CellsOfTree.{StandForTree, StandForSame, object_value, inode_of, content_of, block_of, block_value, is_regular_at, stands_for}
use Rattle.harp_cells.proofs.CellLemmas.{is_cell_true}
use Rattle.inode_dirs.specs.Slots.{HoldsSlots}
use Rattle.inode_dirs.proofs.TreeCells.{trees_hold_slots, held_slots_stand}
use Rattle.cell_changes.specs.Stands.{AllStand, IsUnmoved, StandsAt, changes_cell_of, is_cell_of}
use Rattle.cell_changes.proofs.Links.{NameSameKinds, links_kept, names_alike, parent_kept}

-- ---- changes of other cells

pub other_cell : (number : ℕ) (d c : Cell) → is_cell_of number d ≡ false
    → is_cell_of number c ≡ true
    → is_cell d c ≡ false
other_cell number d c other of = false_from_ne_true (is_cell d c) (λ e.
    both_ways (is_cell_of number c) (ap (is_cell_of number) (sym (is_cell_true d c e)) ∙ other) of)

apart_from : (a b object : ℕ) (rest : Bool) → (a == b) ≡ false → (object == b) ≡ true
    → true && (object == a) && rest ≡ false
apart_from a b object rest other of =
    let ne : (object == a) ≡ false =
    ne_eqb object a (λ e. eqb-false a b other (sym e ∙ eqb-true object b of)) in
    ap (λ (t : Bool). true && t && rest) ne

other_block : (number object first : ℕ) (c : Cell) → (object == number) ≡ false
    → is_cell_of number c ≡ true
    → is_block_from object first c ≡ false
unfolding is_block_from
other_block number object first cell.Meta other of = refl
other_block number object first (cell.Object o) other of = refl
other_block number object first (cell.Block o b) other of =
    apart_from object number o (nat_le first b) other of
other_block number object first (cell.Slot o s) other of = refl
other_block number object first (cell.Client n) other of = refl
other_block number object first (cell.Saved p) other of = refl

one_change : (number : ℕ) (x : Change) (c : Cell) (held : Option Value)
    → changes_cell_of number x ≡ false
    → is_cell_of number c ≡ true
    → changed c held x ≡ held
one_change number (change.Put d v) c held other of =
    ap (λ (t : Bool). if◌then◌else◌ {A = Option Value} t (Some v) held)
    (other_cell number d c other of)
one_change number (change.Erase d) c held other of =
    ap (λ (t : Bool). if◌then◌else◌ {A = Option Value} t None held) (other_cell number d c other of)
one_change number (change.EraseFrom object first) c held other of =
    ap (λ (t : Bool). if◌then◌else◌ {A = Option Value} t None held)
    (other_block number object first c other of)

all_changes : (changes : List Change) (number : ℕ) (c : Cell) (held : Option Value)
    → list_any (changes_cell_of number) changes ≡ false
    → is_cell_of number c ≡ true → fold (changed c) held changes ≡ held
all_changes [] number c held other of = refl
all_changes (x ∷ changes) number c held other of =
    let parts =
    or_parts (changes_cell_of number x) (list_any (changes_cell_of number) changes) other in
    ap (λ (v : Option Value). fold (changed c) v changes) (one_change number x c held parts.0 of)
    ∙ all_changes changes number c held parts.1 of

-- ---- what is unmoved

same_kinds : (old new : Tree) (number : ℕ) (o : Object) (slots : Slots) → IsUnmoved old new number
    → place old number ≡ Some o
    → o.body ≡ body.Directory slots → NameSameKinds old new slots
same_kinds old new number o slots unmoved at is k h =
    let names : names_at k (place old number) ≡ names_in k slots =
    ap (names_at k) at ∙ ap (λ (b : Body). names_in k (slots_within b)) is in
    unmoved.names k (omega (arith, h, names))

unmoved_links : (old new : Tree) (number : ℕ) (o : Object) (b : Body) → IsUnmoved old new number
    → place old number ≡ Some o → o.body ≡ b
    → links_of new number b ≡ links_of old number b
unfolding links_of
unmoved_links old new number o (body.Directory slots) unmoved at is =
    links_kept old new number slots (same_kinds old new number o slots unmoved at is)
unmoved_links old new number o (body.Regular bytes) unmoved at is =
    names_alike old new number unmoved.named
unmoved_links old new number o (body.Link text) unmoved at is =
    names_alike old new number unmoved.named

-- an unmoved object has the attributes that it had
pub unmoved_inode : (old new : Tree) (number : ℕ) (o : Object) → IsUnmoved old new number
    → place old number ≡ Some o
    → inode_of new number o ≡ inode_of old number o
unmoved_inode old new number o unmoved at =
    let links : links_of new number o.body ≡ links_of old number o.body =
    unmoved_links old new number o o.body unmoved at refl in
    let parent = parent_kept old new number (ap is_directory_at unmoved.stays) unmoved.named in
    rw (links, parent) refl

unmoved_value : (old new : Tree) (number : ℕ) (x : Option Object) → IsUnmoved old new number
    → place old number ≡ x
    → object_value new number x ≡ object_value old number x
unmoved_value old new number None unmoved at = refl
unmoved_value old new number (Some o) unmoved at = ap (λ (i : Inode). Some (value.Object i))
    (unmoved_inode old new number o unmoved at)

-- ---- what stands

-- a number's cells stand where they are as in cells that stand
pub stands_by : (cells later : Cells) (tree : Tree) (number : ℕ)
    → ((c : Cell) → is_cell_of number c ≡ true → later c ≡ cells c)
    → StandsAt cells tree number → StandsAt later tree number
stands_by cells later tree number same stand = record {
  object = ap (stands_for tree (cell.Object number))
      (same (cell.Object number) (eq-eqb number number refl))
      ∙ stand.object;
  block = λ block. ap (stands_for tree (cell.Block number block))
      (same (cell.Block number block) (eq-eqb number number refl)) ∙ stand.block block;
  ends = λ block past. same (cell.Block number block) (eq-eqb number number refl)
      ∙ stand.ends block past;
  slot = λ slot. same (cell.Slot number slot) (eq-eqb number number refl) ∙ stand.slot slot;
}

-- what stands for a tree stands at each number
pub each_stands : (cells : Cells) (tree : Tree) (stamp : ℕ) → StandForTree cells tree stamp
    → AllStand cells tree
each_stands cells tree stamp stand number = record {
  object = stand.object number;
  block = stand.block number;
  ends = λ block past. stand.ends number block past;
  slot = trees_hold_slots cells tree stamp number stand;
}

object_alike : (old new : Tree) (number : ℕ) (v : Option Value)
    → stands_for new (cell.Object number) v ≡ stands_for old (cell.Object number) v
object_alike old new number None = refl
object_alike old new number (Some v) = refl

block_alike : (old new : Tree) (number block : ℕ) (v : Option Value)
    → is_regular_at (place new number) ≡ is_regular_at (place old number)
    → stands_for new (cell.Block number block) v ≡ stands_for old (cell.Block number block) v
block_alike old new number block None e = rw e refl
block_alike old new number block (Some v) e = rw e refl

-- blocks that stand still do where a number keeps its content
pub blocks_kept : (cells : Cells) (old new : Tree) (number : ℕ)
    → content_of (place new number) ≡ content_of
    (place old number)
    → is_regular_at (place new number) ≡ is_regular_at (place old number)
    → StandsAt cells old number → (block : ℕ)
    → StandForSame new (cell.Block number block) (cells (cell.Block number block))
    (block_value (block_of (content_of (place new number)) block))
blocks_kept cells old new number content kind stand block =
    let v = block_value (block_of (content_of (place old number)) block) in
    block_alike old new number block (cells (cell.Block number block)) kind
    ∙ stand.block block
    ∙ sym (block_alike old new number block v kind)
    ∙ ap (λ (xs : List ℕ). stands_for new (cell.Block number block)
    (block_value (block_of xs block))) (sym content)

-- what stands at an unmoved number stands in the new tree too
pub unmoved_still : (cells : Cells) (old new : Tree) (number : ℕ) → IsUnmoved old new number
    → StandsAt cells old number → StandsAt cells new number
unmoved_still cells old new number unmoved stand =
    let value_same : object_value new number (place new number)
    ≡ object_value old number (place old number) =
    ap (object_value new number) unmoved.stays
    ∙ unmoved_value old new number (place old number) unmoved refl in
    record {
      object =
          object_alike old new number (cells (cell.Object number))
          ∙ stand.object
          ∙ sym (object_alike old new number (object_value old number (place old number)))
          ∙ ap (stands_for new (cell.Object number)) (sym value_same);
      block = blocks_kept cells old new number (ap content_of unmoved.stays)
          (ap is_regular_at unmoved.stays) stand;
      ends = λ block past. stand.ends block
          (subst (λ (xs : List ℕ). length xs ≤ 4096 * block) (ap content_of unmoved.stays) past);
      slot = λ slot. subst (λ (x : Option Object). HoldsSlots cells number (slots_of x))
          (sym unmoved.stays) stand.slot slot;
    }

-- cells that stand at each number, with the totals, stand for the tree
pub all_stand : (cells : Cells) (tree : Tree) (stamp : ℕ) → AllStand cells tree
    → cells cell.Meta ≡ Some (value.Meta (length tree) (used_blocks tree) stamp)
    → StandForTree cells tree stamp
all_stand cells tree stamp each meta = record {
  meta = ap (stands_for tree cell.Meta) meta;
  object = λ object. (each object).object;
  block = λ object block. (each object).block block;
  ends = λ object block past. (each object).ends block past;
  slot = λ object slot. held_slots_stand cells tree object slot (each object).slot;
}
