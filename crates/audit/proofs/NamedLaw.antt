-- Of cells that stand for a tree, those that their picture names stand for the whole tree.
use Rattle.std.proofs.Common.{◌≡◌, ℕ, ◌*◌, ◌<◌, ◌≤◌, ◌==◌, Bool, true, false}
use Rattle.std.proofs.Common.{List, [], ◌∷◌, length, take, drop, get_or, Option, Some, None, refl}
use Rattle.std.proofs.Common.{sym, ap, subst, ◌∙◌, arith, inl, inr}
use Rattle.std.specs.Prelude.{nat_lt, if◌then◌else◌}
use Rattle.std.proofs.lemmas.Bool.{cases_lt, cases_eq, eq-eqb, lt-ltb, and_from, le-ltb}
use Rattle.std.proofs.lemmas.List.{drop_all, get_or_past}
use Rattle.file_tree.specs.declared.object.Body.{Body}
use Rattle.file_tree.specs.declared.object.Body.TheVariants as body
use Rattle.file_tree.specs.declared.object.Object.{Object}
use Rattle.file_tree.specs.declared.object.Slot.{Slot}
use Rattle.file_tree.specs.Sound.{IsSound, IsSoundBody, IsSoundObject}
use Rattle.file_tree.specs.Tries.{is_some}
use Rattle.file_tree.specs.Tree.{Tree, blocks_of, place, slots_of, used_blocks}
use Rattle.harp_cells.specs.declared.cell.Cell.{Cell}
use Rattle.harp_cells.specs.declared.cell.Cell.TheVariants as cell
use Rattle.harp_cells.specs.declared.value.Value.{Value}
use Rattle.harp_cells.specs.declared.value.Value.TheVariants as value
use Rattle.harp_cells.specs.CellsOfTree.{StandForSame, StandForTree, block_of, block_value}
use Rattle.harp_cells.specs.CellsOfTree.{cell_of_tree, content_of, full_value, is_in_file}
use Rattle.harp_cells.specs.CellsOfTree.{object_value, slot_value, stands_for}
use Rattle.harp_cells.specs.Effect.{Cells, key}
use Rattle.audit.specs.declared.picture.Portrait.{Portrait}
use Rattle.audit.specs.Flaws.{portrait_at}
use Rattle.audit.specs.Named.{has_block, has_slot, kind_of_value, named_cells, names}
use Rattle.audit.specs.Named.{own_value}
use Rattle.audit.specs.Pictures.{picture_of, portraits_below}
use Rattle.audit.specs.Sound.{StandForNamed, is_block_of, is_block_of_body, is_named}
use Rattle.audit.proofs.Back.{shown_by_cells}
use Rattle.audit.proofs.Gathered.{totals_are}
use Rattle.audit.proofs.Whole.{portrait_of}

-- ---- what a cell shows

cell_shown : (objects : List Portrait) (cells : Cells) (c : Cell) → names objects c ≡ true
    → own_value c (cells c) ≡ cells c → named_cells objects cells c ≡ cells c
cell_shown objects cells c named own =
    ap (λ (b : Bool). if b then own_value c (cells c) else None) named ∙ own

cell_hidden : (objects : List Portrait) (cells : Cells) (c : Cell) → names objects c ≡ false
    → named_cells objects cells c ≡ None
cell_hidden objects cells c named =
    ap (λ (b : Bool). if b then own_value c (cells c) else None) named

-- ---- kinds

full_kind : (v : Value) → kind_of_value (full_value v) ≡ kind_of_value v
full_kind (value.Meta next used stamp) = refl
full_kind (value.Object i) = refl
full_kind (value.Unformed i) = refl
full_kind (value.Block bytes) = refl
full_kind (value.Slot object name) = refl
full_kind (value.Client number index reply) = refl
full_kind (value.Saved bytes) = refl
full_kind (value.SavedCred bytes) = refl

shown_kind : (b : Bool) (v : Value) → kind_of_value (if b then full_value v else v) ≡ kind_of_value v
shown_kind true v = full_kind v
shown_kind false v = refl

-- what the cell of a tree stands for is of its own kind
abbrev IsOwnKind : Tree → Cell → Option Value → Type 0
IsOwnKind tree c w = (x : Value) → stands_for tree c w ≡ Some x
    → (kind_of_value x == (key c).0) ≡ true

inner : (x y : Value) → Some x ≡ Some y → x ≡ y
inner x y h = cc

own_same : (tree : Tree) (c : Cell) (v w : Option Value) → IsOwnKind tree c w
    → StandForSame tree c v w → own_value c v ≡ v
own_same tree c None w own same = refl
own_same tree c (Some v) w own same =
    let x : Value = if is_in_file tree c then full_value v else v in
    let kind : (kind_of_value v == (key c).0) ≡ true =
    ap (λ (k : ℕ). k == (key c).0) (sym (shown_kind (is_in_file tree c) v)) ∙ own x (sym same) in
    ap (λ (b : Bool). if b then Some v else None) kind

meta_kind : (tree : Tree) (next used stamp : ℕ)
    → IsOwnKind tree cell.Meta (Some (value.Meta next used stamp))
meta_kind tree next used stamp x h =
    ap (λ (w : Value). kind_of_value w == 1) (sym (inner (value.Meta next used stamp) x h))

object_kind : (tree : Tree) (n : ℕ) (o : Object)
    → IsOwnKind tree (cell.Object n) (object_value tree n (Some o))
object_kind tree n o x h =
    ap (λ (w : Value). kind_of_value w == 2) (sym (inner _ x h))

slot_kind : (tree : Tree) (n i : ℕ) (s : Option Slot)
    → IsOwnKind tree (cell.Slot n i) (slot_value s)
slot_kind tree n i None x h = absurd cc
slot_kind tree n i (Some s) x h =
    ap (λ (w : Value). kind_of_value w == 4) (sym (inner (value.Slot s.number s.name) x h))

absent_block : (b : Bool) (x y : Value) → (if b then Some y else None) ≡ Some x
    → kind_of_value y ≡ 3 → (kind_of_value x == 3) ≡ true
absent_block true x y h k =
    ap (λ (w : Value). kind_of_value w == 3) (sym (inner y x h)) ∙ eq-eqb (kind_of_value y) 3 k
absent_block false x y h k = absurd cc

block_kind : (tree : Tree) (n i : ℕ) (bytes : List ℕ)
    → IsOwnKind tree (cell.Block n i) (block_value bytes)
block_kind tree n i [] x h = absent_block (is_in_file tree (cell.Block n i)) x _ h refl
block_kind tree n i (b ∷ bytes) x h =
    let v : Value = value.Block (b ∷ bytes) in
    let is : (if is_in_file tree (cell.Block n i) then full_value v else v) ≡ x =
    inner _ x h in
    ap (λ (w : Value). kind_of_value w == 3) (sym is)
    ∙ eq-eqb _ 3 (shown_kind (is_in_file tree (cell.Block n i)) v)

-- ---- what the objects name

named_object : (tree : Tree) (n : ℕ) (o : Object) → place tree n ≡ Some o → place tree 0 ≡ None
    → is_named tree (cell.Object n) ≡ true
named_object tree n o e nothing = elim (cases_lt n (length tree)) [
  | inl lt ↦ elim (cases_eq n 0) [
    | inl zero_is ↦
        let none : place tree n ≡ None = ap (place tree) zero_is ∙ nothing in absurd cc
    | inr ne ↦
        and_from (nat_lt 0 n) (nat_lt n (length tree)) (lt-ltb 0 n (omega (arith, ne)))
        (lt-ltb n (length tree) lt)
  ]
  | inr past ↦ let none : place tree n ≡ None = get_or_past tree n None past in absurd cc
]

slot_is : (tree : Tree) (n i : ℕ) (o : Option Object)
    → has_slot i (portrait_of tree n o) ≡ nat_lt i (length (slots_of o))
slot_is tree n i None = sym (le-ltb i 0 (omega arith))
slot_is tree n i (Some o) = refl

block_of_body : (tree : Tree) (n i : ℕ) (o : Object) (b : Body) → o.body ≡ b
    → has_block i (portrait_of tree n (Some o)) ≡ nat_lt (i * 4096) (length (content_of (Some o)))
block_of_body tree n i o (body.Regular bytes) e = rw e refl
block_of_body tree n i o (body.Directory slots) e =
    rw e (sym (le-ltb (i * 4096) 0 (omega arith)))
block_of_body tree n i o (body.Link text) e = rw e refl

block_is : (tree : Tree) (n i : ℕ) (o : Option Object)
    → has_block i (portrait_of tree n o) ≡ nat_lt (i * 4096) (length (content_of o))
block_is tree n i None = sym (le-ltb (i * 4096) 0 (omega arith))
block_is tree n i (Some o) = block_of_body tree n i o o.body refl

-- a block with bytes is one of the object's
has_bytes : (i : ℕ) (b : Body) → IsSoundBody b
    → i * 4096 < length {A = ℕ} (elim b [
      | body.Regular bytes ↦ bytes
      | body.Directory slots ↦ []
      | body.Link text ↦ text
    ])
    → is_block_of_body i b ≡ true
has_bytes i (body.Regular bytes) sound lt =
    lt-ltb i (blocks_of (length bytes)) (omega (arith, lt))
has_bytes i (body.Directory slots) sound lt = absurd (omega (arith, lt))
has_bytes i (body.Link text) sound lt = eq-eqb i 0 (omega (arith, lt, sound))

named_block : (i : ℕ) (o : Option Object) → IsSoundObject o → i * 4096 < length (content_of o)
    → is_block_of i o ≡ true
named_block i None sound lt = absurd (omega (arith, lt))
named_block i (Some o) sound lt = has_bytes i o.body sound.1 lt

no_bytes : (bytes : List ℕ) (i : ℕ) → length bytes ≤ i * 4096 → block_of bytes i ≡ []
no_bytes bytes i le =
    let none : drop (4096 * i) bytes ≡ [] = drop_all (4096 * i) bytes (omega (arith, le)) in
    ap (take 4096) none

-- ---- the law

module _ (cells : Cells) (tree : Tree) (stamp : ℕ) (stand : StandForNamed cells tree stamp)
    (sound : IsSound tree) where
  abbrev objects : List Portrait
  objects = (picture_of cells).objects

  shown : (n : ℕ) → portrait_at objects n ≡ portrait_of tree n (place tree n)
  shown n =
      ap (λ (t : ℕ × ℕ). portrait_at (portraits_below cells t.0) n)
      (totals_are cells tree stamp stand)
      ∙ shown_by_cells cells tree stamp stand sound n

  -- a cell of the tree shows what it holds
  same_shown : (c : Cell) → is_named tree c ≡ true → names objects c ≡ true
      → IsOwnKind tree c (cell_of_tree tree stamp (λ client. None) c)
      → StandForSame tree c (named_cells objects cells c)
      (cell_of_tree tree stamp (λ client. None) c)
  same_shown c named shows own =
      let w = cell_of_tree tree stamp (λ client. None) c in
      subst (λ (v : Option Value). StandForSame tree c v w)
      (sym (cell_shown objects cells c shows (own_same tree c (cells c) w own (stand c named))))
      (stand c named)

  -- one that the tree lacks is absent
  same_hidden : (c : Cell) → names objects c ≡ false
      → cell_of_tree tree stamp (λ client. None) c ≡ None
      → StandForSame tree c (named_cells objects cells c)
      (cell_of_tree tree stamp (λ client. None) c)
  same_hidden c hides none =
      ap (stands_for tree c) (cell_hidden objects cells c hides ∙ sym none)

  shows_object : (n : ℕ) (o : Option Object) → place tree n ≡ o
      → StandForSame tree (cell.Object n) (named_cells objects cells (cell.Object n))
      (object_value tree n (place tree n))
  shows_object n None e =
      same_hidden (cell.Object n)
      (ap is_some (shown n ∙ ap (portrait_of tree n) e)) (ap (object_value tree n) e)
  shows_object n (Some o) e =
      same_shown (cell.Object n) (named_object tree n o e sound.nothing_at_0)
      (ap is_some (shown n ∙ ap (portrait_of tree n) e))
      (subst (λ (p : Option Object). IsOwnKind tree (cell.Object n) (object_value tree n p)) (sym e)
      (object_kind tree n o))

  names_block : (n i : ℕ) → names objects (cell.Block n i)
      ≡ nat_lt (i * 4096) (length (content_of (place tree n)))
  names_block n i = ap (has_block i) (shown n) ∙ block_is tree n i (place tree n)

  hides_block : (n i : ℕ) → length (content_of (place tree n)) ≤ i * 4096
      → names objects (cell.Block n i) ≡ false
  hides_block n i le = names_block n i ∙ le-ltb (i * 4096) (length (content_of (place tree n))) le

  shows_block : (n i : ℕ)
      → StandForSame tree (cell.Block n i) (named_cells objects cells (cell.Block n i))
      (block_value (block_of (content_of (place tree n)) i))
  shows_block n i = elim (cases_lt (i * 4096) (length (content_of (place tree n)))) [
    | inl lt ↦
        same_shown (cell.Block n i) (named_block i (place tree n) (sound.objects n) lt)
        (names_block n i ∙ lt-ltb (i * 4096) (length (content_of (place tree n))) lt)
        (block_kind tree n i (block_of (content_of (place tree n)) i))
    | inr le ↦
        same_hidden (cell.Block n i) (hides_block n i le)
        (ap block_value (no_bytes (content_of (place tree n)) i le))
  ]

  names_slot : (n i : ℕ) → names objects (cell.Slot n i)
      ≡ nat_lt i (length (slots_of (place tree n)))
  names_slot n i = ap (has_slot i) (shown n) ∙ slot_is tree n i (place tree n)

  shows_slot : (n i : ℕ)
      → StandForSame tree (cell.Slot n i) (named_cells objects cells (cell.Slot n i))
      (slot_value (get_or (slots_of (place tree n)) i None))
  shows_slot n i = elim (cases_lt i (length (slots_of (place tree n)))) [
    | inl lt ↦
        let named = lt-ltb i (length (slots_of (place tree n))) lt in
        same_shown (cell.Slot n i) named (names_slot n i ∙ named)
        (slot_kind tree n i (get_or (slots_of (place tree n)) i None))
    | inr le ↦
        same_hidden (cell.Slot n i)
        (names_slot n i ∙ le-ltb i (length (slots_of (place tree n))) le)
        (ap slot_value (get_or_past (slots_of (place tree n)) i None le))
  ]

  pub named_cells_stand : StandForTree (named_cells objects cells) tree stamp
  named_cells_stand = record {
    meta = same_shown cell.Meta refl refl (meta_kind tree (length tree) (used_blocks tree) stamp);
    object = λ n. shows_object n (place tree n) refl;
    block = shows_block;
    ends = λ n i le.
        cell_hidden objects cells (cell.Block n i) (hides_block n i (omega (arith, le)));
    slot = shows_slot;
  }

pub named_law : (cells : Cells) (tree : Tree) (stamp : ℕ) → StandForNamed cells tree stamp
    → IsSound tree → StandForTree (named_cells (picture_of cells).objects cells) tree stamp
named_law cells tree stamp stand sound = named_cells_stand cells tree stamp stand sound
