-- Changes that cover what a move alters lead to cells that stand for the tree after it.
use Rattle.std.proofs.Common.{◌≡◌, ℕ, ◌*◌, ◌≤◌, ◌==◌, ◌&&◌, ◌⊎◌, Bool, true, false, List, [], ◌∷◌, length, get_or}
use Rattle.std.proofs.Common.{Option, Some, None, refl, sym, ap, ◌∙◌, subst, arith, inl, inr}
use Rattle.std.specs.Bool.{if◌then◌else◌}
use Rattle.std.specs.Prelude.{nat_le}
use Rattle.std.specs.List.{All}
use Rattle.std.proofs.lemmas.Bool.{cases_eq, cond_both, or_parts, and_parts, and_from, eqb-true, eq-eqb, le-leb}
use Rattle.std.proofs.lemmas.Bool.{both_ways}
use Rattle.std.proofs.lemmas.List.Elements.{All-nil, All-cons, All-append}
use Rattle.file_tree.specs.declared.object.Object.{Object}
use Rattle.file_tree.specs.Tree.{Tree, place, slots_of}
use Rattle.harp_cells.specs.declared.cell.Cell.{Cell}
use Rattle.harp_cells.specs.declared.cell.Cell.TheVariants as cell
use Rattle.harp_cells.specs.declared.value.Inode.{Inode}
use Rattle.harp_cells.specs.declared.value.Value.{Value}
use Rattle.harp_cells.specs.declared.value.Value.TheVariants as value
use Rattle.harp_cells.specs.declared.change.Change.{Change}
use Rattle.harp_cells.specs.declared.change.Change.TheVariants as change
use Rattle.harp_cells.specs.Effect.{Cells, is_block_from, after}
use Rattle.harp_cells.specs.CellsOfTree.{StandForTree, stands_for, object_value, content_of, block_of, block_value}
use Rattle.harp_cells.specs.CellsOfTree.{slot_value, is_regular_at}
use Rattle.harp_cells.proofs.TreeLaws.{dead_are_absent}
use Rattle.inode_dirs.proofs.TreeCells.{trees_hold_slots}
use Rattle.cell_changes.specs.Table.{no_updates, set_by, content_size, erases, loses, slot_pair, dir_pair}
use Rattle.cell_changes.specs.Stands.{AllStand, IsUnmoved}
use Rattle.cell_changes.proofs.Frame.{unmoved_inode}
use Rattle.cell_changes.proofs.RightCells.{IsRight, IsBy, Spares, all_stand_after, by_set, spared_both, first_other}
use Rattle.cell_changes.proofs.RightCells.{pair_other}
use Rattle.cell_changes.proofs.MovedEntries.{Move, IsAside, IsOtherSlot, AreAlike, MovesTo, unmoved}

-- ---- cells that stand already

object_in : (s t : Tree) (n : ℕ) (v : Option Value)
    → stands_for s (cell.Object n) v ≡ stands_for t (cell.Object n) v
object_in s t n None = refl
object_in s t n (Some v) = refl

same_object : (old new : Tree) (n : ℕ) (x : Option Object) → IsUnmoved old new n → place old n ≡ x
    → object_value new n (place new n) ≡ object_value old n (place old n)
same_object old new n None is at = ap (object_value new n) (is.stays ∙ at)
    ∙ sym (ap (object_value old n) at)
same_object old new n (Some o) is at =
    ap (object_value new n) (is.stays ∙ at)
    ∙ ap (λ (i : Inode). Some (value.Object i)) (unmoved_inode old new n o is at)
    ∙ sym (ap (object_value old n) at)

right_object : (cells : Cells) (old new : Tree) (stamp n : ℕ) → StandForTree cells old stamp
    → IsUnmoved old new n
    → IsRight new (cell.Object n) (cells (cell.Object n))
right_object cells old new stamp n stand is =
    object_in new old n (cells (cell.Object n))
    ∙ stand.object n
    ∙ ap (stands_for old (cell.Object n)) (sym (same_object old new n (place old n) is refl))
    ∙ object_in old new n (object_value new n (place new n))

right_slot : (cells : Cells) (old new : Tree) (stamp n s : ℕ) → StandForTree cells old stamp
    → get_or (slots_of (place new n)) s None ≡ get_or (slots_of (place old n)) s None
    → IsRight new (cell.Slot n s) (cells (cell.Slot n s))
right_slot cells old new stamp n s stand same = trees_hold_slots cells old stamp n stand s
    ∙ ap slot_value (sym same)

block_in : (s t : Tree) (n b : ℕ) (v : Option Value)
    → is_regular_at (place s n) ≡ is_regular_at (place t n)
    → stands_for s (cell.Block n b) v ≡ stands_for t (cell.Block n b) v
block_in s t n b None e = rw e refl
block_in s t n b (Some v) e = rw e refl

right_block : (cells : Cells) (old new : Tree) (stamp n b : ℕ) → StandForTree cells old stamp
    → AreAlike (place old n) (place new n) → IsRight new (cell.Block n b) (cells (cell.Block n b))
right_block cells old new stamp n b stand alike = (
  block_in new old n b (cells (cell.Block n b)) alike.regular
      ∙ stand.block n b
      ∙ ap (λ (bytes : List ℕ). stands_for old (cell.Block n b) (block_value (block_of bytes b)))
      (sym alike.content)
      ∙ block_in old new n b (block_value (block_of (content_of (place new n)) b))
      (sym alike.regular),
  λ past. stand.ends n b (subst (λ (bytes : List ℕ). length bytes ≤ 4096 * b) alike.content past),
)

right_gone : (new : Tree) (n b : ℕ) → place new n ≡ None → IsRight new (cell.Block n b) None
right_gone new n b gone = (
  ap (stands_for new (cell.Block n b))
      (sym (dead_are_absent new 0 no_updates n b gone).1),
  λ past. refl,
)

-- no block is there where the old content was empty
right_none : (cells : Cells) (old new : Tree) (stamp n b : ℕ) → StandForTree cells old stamp
    → length (content_of (place old n)) ≡ 0 → place new n ≡ None
    → IsRight new (cell.Block n b) (cells (cell.Block n b))
right_none cells old new stamp n b stand empty gone =
    let none : cells (cell.Block n b) ≡ None = stand.ends n b (omega (arith, empty)) in
    subst (IsRight new (cell.Block n b)) (sym none) (right_gone new n b gone)

-- ---- what changes cover

-- a cell that a move leaves: neither of the slots, nor the attributes of one of the objects
pub record IsLeft (m : Move) (c : Cell) : Type 0 where
  pub slot : cell.Slot m.dir m.slot ≡ c → ⊥
  pub to_slot : cell.Slot m.to_dir m.to_slot ≡ c → ⊥
  pub dir : cell.Object m.dir ≡ c → ⊥
  pub to_dir : cell.Object m.to_dir ≡ c → ⊥
  pub moved : cell.Object m.moved ≡ c → ⊥
  pub target : cell.Object m.target ≡ c → ⊥

left_aside : (m : Move) (n : ℕ) → IsLeft m (cell.Object n) → IsAside m n
left_aside m n is = record {
  dir = λ e. is.dir (ap cell.Object (sym e));
  to_dir = λ e. is.to_dir (ap cell.Object (sym e));
  moved = λ e. is.moved (ap cell.Object (sym e));
  target = λ e. is.target (ap cell.Object (sym e));
}

same_slot : (n s dir slot : ℕ) → n ≡ dir → s ≡ slot → cell.Slot dir slot ≡ cell.Slot n s
same_slot n s dir slot e f = ap (λ (k : ℕ). cell.Slot k slot) (sym e) ∙ ap (cell.Slot n) (sym f)

left_slot : (m : Move) (n s : ℕ) → IsLeft m (cell.Slot n s) → IsOtherSlot m n s
left_slot m n s is = record {
  from = λ e f. is.slot (same_slot n s m.dir m.slot e f);
  to = λ e f. is.to_slot (same_slot n s m.to_dir m.to_slot e f);
}

-- changes set what a move alters
pub record Covers (m : Move) (new : Tree) (changes : List Change) : Type 0 where
  pub by : All (IsBy new) changes
  pub others : (c : Cell) → Spares c changes → IsLeft m c

-- the target's content stays, or the target is gone, and with it its blocks, unless it had none
pub record IsCleared (m : Move) (old new : Tree) (changes : List Change) : Type 0 where
  pub gone : place new m.target ≡ None
  pub blocks : (b : ℕ) → Spares (cell.Block m.target b) changes
      → length (content_of (place old m.target)) ≡ 0

abbrev pub Ends : Move → Tree → Tree → List Change → Type 0
Ends m old new changes =
    AreAlike (place old m.target) (place new m.target) ⊎ IsCleared m old new changes

right_target : (cells : Cells) (old new : Tree) (stamp b : ℕ) (m : Move) (changes : List Change)
    → StandForTree cells old stamp → Ends m old new changes → Spares (cell.Block m.target b) changes
    → IsRight new (cell.Block m.target b) (cells (cell.Block m.target b))
right_target cells old new stamp b m changes stand (inl alike) spares =
    right_block cells old new stamp m.target b stand alike
right_target cells old new stamp b m changes stand (inr cleared) spares =
    right_none cells old new stamp m.target b stand (cleared.blocks b spares) cleared.gone

right_spared : (cells : Cells) (old new : Tree) (stamp : ℕ) (m : Move) (changes : List Change)
    → StandForTree cells old stamp → MovesTo m old new → Covers m new changes
    → Ends m old new changes
    → (c : Cell) → Spares c changes → IsRight new c (cells c)
right_spared cells old new stamp m changes stand moves covers ends (cell.Object n) spares =
    let aside = left_aside m n (covers.others (cell.Object n) spares) in
    right_object cells old new stamp n stand (unmoved m old new moves n aside)
right_spared cells old new stamp m changes stand moves covers ends (cell.Slot n s) spares =
    let other = left_slot m n s (covers.others (cell.Slot n s) spares) in
    right_slot cells old new stamp n s stand (moves.alters.slot n s other)
right_spared cells old new stamp m changes stand moves covers ends (cell.Block n b) spares =
    elim (cases_eq n m.target) [
      | inl e ↦
          let spared : Spares (cell.Block m.target b) changes =
          subst (λ (k : ℕ). Spares (cell.Block k b) changes) e spares in
          subst (λ (k : ℕ). IsRight new (cell.Block k b) (cells (cell.Block k b))) (sym e)
          (right_target cells old new stamp b m changes stand ends spared)
      | inr ne ↦ right_block cells old new stamp n b stand (moves.alike n ne)
    ]
right_spared cells old new stamp m changes stand moves covers ends cell.Meta spares = tt
right_spared cells old new stamp m changes stand moves covers ends (cell.Client client) spares = tt
right_spared cells old new stamp m changes stand moves covers ends (cell.Saved at) spares = tt

pub move_leads : (cells : Cells) (old new : Tree) (stamp : ℕ) (m : Move) (changes : List Change)
    → StandForTree cells old stamp → MovesTo m old new → Covers m new changes
    → Ends m old new changes
    → AllStand (after changes cells) new
move_leads cells old new stamp m changes stand moves covers ends =
    all_stand_after cells new changes covers.by
    (right_spared cells old new stamp m changes stand moves covers ends)

-- ---- an object that lost an entry

erased : (new : Tree) (number : ℕ) → place new number ≡ None → (c : Cell) (held : Option Value)
    → is_block_from number 0 c ≡ true
    → IsRight new c None
unfolding is_block_from
erased new number gone cell.Meta held sets = tt
erased new number gone (cell.Object n) held sets = absurd cc
erased new number gone (cell.Block n b) held sets =
    let same = eqb-true n number (and_parts (n == number) (nat_le 0 b) sets).0 in
    right_gone new n b (ap (place new) same ∙ gone)
erased new number gone (cell.Slot n s) held sets = absurd cc
erased new number gone (cell.Client client) held sets = tt
erased new number gone (cell.Saved at) held sets = tt

by_erase : (new : Tree) (number : ℕ) → place new number ≡ None
    → IsBy new (change.EraseFrom number 0)
by_erase new number gone c held sets =
    subst (IsRight new c) (sym (rw sets refl)) (erased new number gone c held sets)

by_erases : (old new : Tree) (number : ℕ) → place new number ≡ None
    → All (IsBy new) (erases old number)
by_erases old new number gone =
    cond_both (content_size old number == 0) [] (change.EraseFrom number 0 ∷ []) (All (IsBy new))
    (λ e. All-nil (IsBy new))
    (λ e. All-cons (IsBy new) (change.EraseFrom number 0) [] (by_erase new number gone)
    (All-nil (IsBy new)))

-- what goes with an object
abbrev goes_with : Tree → ℕ → Option Object → List Change
goes_with old number None = erases old number
goes_with old number (Some o) = []

by_going : (old new : Tree) (number : ℕ) (x : Option Object) → place new number ≡ x → All (IsBy new)
    (goes_with old number x)
by_going old new number None at = by_erases old new number at
by_going old new number (Some o) at = All-nil (IsBy new)

pub by_loss : (old new : Tree) (number : ℕ) → All (IsBy new) (loses old new number)
unfolding loses
by_loss old new number =
    All-append (IsBy new) (goes_with old number (place new number))
    (set_by new (cell.Object number ∷ []))
    (by_going old new number (place new number) refl) (by_set new (cell.Object number ∷ []))

pub loss_sets : (old new : Tree) (number : ℕ) (c : Cell) → Spares c (loses old new number)
    → cell.Object number ≡ c → ⊥
unfolding loses
loss_sets old new number c spares =
    first_other new c (cell.Object number) []
    (spared_both c (goes_with old number (place new number))
    (set_by new (cell.Object number ∷ [])) spares).1

spared_erasure : (empty : Bool) (number b : ℕ)
    → Spares (cell.Block number b) (if empty then [] else change.EraseFrom number 0 ∷ [])
    → empty ≡ true
unfolding is_block_from
spared_erasure true number b spares = refl
spared_erasure false number b spares =
    let erased : ((number == number) && nat_le 0 b) ≡ true =
    and_from (number == number) (nat_le 0 b) (eq-eqb number number refl)
    (le-leb 0 b (omega arith)) in
    absurd (both_ways _ (or_parts _ false spares).0 erased)

spared_block : (old : Tree) (number b : ℕ) → Spares (cell.Block number b) (erases old number)
    → content_size old number ≡ 0
spared_block old number b spares =
    eqb-true (content_size old number) 0
    (spared_erasure (content_size old number == 0) number b spares)

spared_going : (old : Tree) (number b : ℕ) (x : Option Object) → x ≡ None
    → Spares (cell.Block number b)
    (goes_with old number x)
    → content_size old number ≡ 0
spared_going old number b None gone spares = spared_block old number b spares
spared_going old number b (Some o) gone spares = absurd cc

loss_clears : (old new : Tree) (number b : ℕ) → place new number ≡ None
    → Spares (cell.Block number b) (loses old new number) → content_size old number ≡ 0
unfolding loses
loss_clears old new number b gone spares =
    let goes = goes_with old number (place new number) in
    spared_going old number b (place new number) gone
    (spared_both (cell.Block number b) goes (set_by new (cell.Object number ∷ [])) spares).0

-- where a move has the loss among its changes, the target's blocks are erased
pub loss_ends : (m : Move) (old new : Tree) (changes : List Change) → MovesTo m old new
    → ((c : Cell) → Spares c changes → Spares c (loses old new m.target)) → Ends m old new changes
loss_ends m old new changes moves among = elim moves.target [
  | inl alike ↦ inl alike
  | inr gone ↦ inr (record {
    gone = gone.none;
    blocks = λ b spares. loss_clears old new m.target b gone.none
        (among (cell.Block m.target b) spares);
  })
]

-- ---- pairs of cells that may be one

pub spared_slots : (tree : Tree) (c : Cell) (dir i to_dir j : ℕ)
    → Spares c (set_by tree (slot_pair dir i to_dir j))
    → (cell.Slot dir i ≡ c → ⊥) × (cell.Slot to_dir j ≡ c → ⊥)
spared_slots tree c dir i to_dir j spares =
    pair_other tree c ((dir == to_dir) && (i == j)) (cell.Slot to_dir j) (cell.Slot dir i)
    (cell.Slot to_dir j)
    (λ t.
    let parts = and_parts (dir == to_dir) (i == j) t in
    ap (λ (n : ℕ). cell.Slot n i) (eqb-true dir to_dir parts.0)
    ∙ ap (cell.Slot to_dir) (eqb-true i j parts.1))
    (λ t. refl) spares

pub spared_dirs : (tree : Tree) (c : Cell) (dir to_dir : ℕ)
    → Spares c (set_by tree (dir_pair dir to_dir))
    → (cell.Object dir ≡ c → ⊥) × (cell.Object to_dir ≡ c → ⊥)
spared_dirs tree c dir to_dir spares =
    pair_other tree c (dir == to_dir) (cell.Object dir) (cell.Object dir) (cell.Object to_dir)
    (λ t. refl) (λ t. ap cell.Object (sym (eqb-true dir to_dir t))) spares
