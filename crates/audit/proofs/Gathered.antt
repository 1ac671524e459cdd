-- The objects in the picture of cells, by number, and what they are where the cells stand for a tree.
use Rattle.std.proofs.Common.{◌≡◌, ℕ, zero, suc, ◌+◌, ◌<◌, ◌≤◌, ◌==◌, ◌&&◌, true, false, List, []}
use Rattle.std.proofs.Common.{◌∷◌, ◌++◌, length, map, get_or, Option, Some, None, refl, sym, ap}
use Rattle.std.proofs.Common.{subst, ◌∙◌, arith, inl, inr}
use Rattle.std.specs.List.{AllByRecursion, flat_map, range_with_len}
use Rattle.std.specs.Option.{option_map}
use Rattle.std.specs.Prelude.{nat_lt, if◌then◌else◌}
use Rattle.std.proofs.lemmas.Bool.{and_from, both_ways, cases_eq, eq-eqb, lt-ltb, ne_eqb}
use Rattle.std.proofs.lemmas.List.{get_or-map, length-map, take_all}
use Rattle.std.proofs.lemmas.List.FromFn.{fill_by_all, length-map-range_with_len}
use Rattle.file_tree.specs.declared.object.Body.{Body}
use Rattle.file_tree.specs.declared.object.Body.TheVariants as body
use Rattle.file_tree.specs.declared.object.Object.{Object}
use Rattle.file_tree.specs.declared.object.Slot.{Slot}
use Rattle.file_tree.specs.Sound.{IsSound, IsSoundBody, IsSoundObject}
use Rattle.file_tree.specs.Tree.{Tree, Slots, is_directory_at, kind_of, place, slots_of}
use Rattle.file_tree.specs.Tree.{slots_within, used_blocks}
use Rattle.harp_cells.specs.declared.cell.Cell.TheVariants as cell
use Rattle.harp_cells.specs.declared.value.Inode.{Inode}
use Rattle.harp_cells.specs.declared.value.Value.{Value}
use Rattle.harp_cells.specs.declared.value.Value.TheVariants as value
use Rattle.harp_cells.specs.CellsOfTree.{block_of, block_value, content_of, first_root, inode_of}
use Rattle.harp_cells.specs.CellsOfTree.{is_regular_at, object_value, slot_value, stands_for}
use Rattle.harp_cells.specs.Effect.{Cells}
use Rattle.audit.specs.declared.picture.Portrait.{Portrait}
use Rattle.audit.specs.Pictures.{AreInOrder, IsObjectValue, IsPortrait, IsSlot, absent_object}
use Rattle.audit.specs.Pictures.{attributes, bytes_read, is_link_kind, object_of_value, object_read}
use Rattle.audit.specs.Pictures.{portrait_by, portrait_of_some, portraits_at, slot_read}
use Rattle.audit.specs.Pictures.{totals_of_value, totals_read}
use Rattle.audit.specs.Flaws.{portrait_at}
use Rattle.audit.specs.Sound.{StandForNamed, is_block_of, is_block_of_body}
use Rattle.audit.proofs.Bodies.{text_length}
use Rattle.audit.proofs.Lookups.{at_head, behind_head, none_below}
use Rattle.audit.proofs.Whole.{portrait_of, portrait_of_object, portrait_same}

-- ---- shape

pub slot_again : (v : Option Value) → slot_read (slot_read v) ≡ slot_read v
slot_again None = refl
slot_again (Some (value.Slot object name)) = refl
slot_again (Some (value.Meta next used stamp)) = refl
slot_again (Some (value.Object i)) = refl
slot_again (Some (value.Unformed i)) = refl
slot_again (Some (value.Block bytes)) = refl
slot_again (Some (value.Client number index reply)) = refl
slot_again (Some (value.Saved bytes)) = refl
slot_again (Some (value.SavedCred bytes)) = refl

all_slots : (f : ℕ → Option Value) (at : List ℕ)
    → AllByRecursion IsSlot (map (λ i. slot_read (f i)) at)
all_slots f [] = tt
all_slots f (i ∷ at) = (slot_again (f i), all_slots f at)

first_object : (number : ℕ) (w : Value) → absent_object number ≡ Some w → IsObjectValue w
first_object number w h = elim (cases_eq number 1) [
  | inl e ↦
      let t : (number == 1) ≡ true = eq-eqb number 1 e in
      let is : Some first_root ≡ Some w = rw t at h in
      let same : first_root ≡ w = cc in
      subst IsObjectValue same tt
  | inr ne ↦
      let t : (number == 1) ≡ false = ne_eqb number 1 ne in
      let is : None ≡ Some w = rw t at h in absurd cc
]

object_value_read : (number : ℕ) (v : Value) (w : Value) → object_of_value number v ≡ Some w
    → IsObjectValue w
object_value_read number (value.Object i) w h =
    let same : value.Object i ≡ w = cc in subst IsObjectValue same tt
object_value_read number (value.Unformed i) w h =
    let same : value.Unformed i ≡ w = cc in subst IsObjectValue same tt
object_value_read number (value.Meta next used stamp) w h = first_object number w h
object_value_read number (value.Block bytes) w h = first_object number w h
object_value_read number (value.Slot object name) w h = first_object number w h
object_value_read number (value.Client n index reply) w h = first_object number w h
object_value_read number (value.Saved bytes) w h = first_object number w h
object_value_read number (value.SavedCred bytes) w h = first_object number w h

pub is_object : (number : ℕ) (v : Option Value) (w : Value) → object_read number v ≡ Some w
    → IsObjectValue w
is_object number None w h = first_object number w h
is_object number (Some v) w h = object_value_read number v w h

is_portrait : (cells : Cells) (number : ℕ) (v : Value) → IsObjectValue v
    → IsPortrait (portrait_by cells number v)
is_portrait cells number v is = record {
  object = is;
  count = length-map-range_with_len (λ i. slot_read (cells (cell.Slot number i))) 0
      (attributes v).slots;
  slots = all_slots (λ i. cells (cell.Slot number i)) (range_with_len 0 (attributes v).slots);
  text = λ l. rw l refl;
}

lower : (from next : ℕ) (xs : List Portrait) → AreInOrder (from + 1) next xs
    → AreInOrder from next xs
lower from next [] h = tt
lower from next (x ∷ xs) h = (omega (arith, h.0), h.1, h.2, h.3)

some_in_order : (cells : Cells) (a next : ℕ) (found : Option Value) (rest : List Portrait)
    → ((w : Value) → found ≡ Some w → IsObjectValue w) → a < next → AreInOrder (a + 1) next rest
    → AreInOrder a next (portrait_of_some cells a found ++ rest)
some_in_order cells a next None rest is lt h = lower a next rest h
some_in_order cells a next (Some v) rest is lt h =
    (omega arith, lt, is_portrait cells a v (is v refl), h)

pub gathered_order : (cells : Cells) (a k next : ℕ) → a + k ≡ next
    → AreInOrder a next (flat_map (portraits_at cells) (range_with_len a k))
gathered_order cells a zero next e = tt
gathered_order cells a (suc k) next e =
    some_in_order cells a next (object_read a (cells (cell.Object a)))
    (flat_map (portraits_at cells) (range_with_len (a + 1) k))
    (λ w h. is_object a (cells (cell.Object a)) w h) (omega (arith, e))
    (gathered_order cells (a + 1) k next (omega (arith, e)))

-- ---- look-ups

abbrev pub found_by : Cells → ℕ → Option Portrait
found_by cells n = option_map (portrait_by cells n) (object_read n (cells (cell.Object n)))

found_here : (cells : Cells) (a next : ℕ) (found : Option Value) (rest : List Portrait)
    → AreInOrder (a + 1) next rest
    → portrait_at (portrait_of_some cells a found ++ rest) a
    ≡ option_map (portrait_by cells a) found
found_here cells a next None rest h = none_below (a + 1) next rest a h (omega arith)
found_here cells a next (Some v) rest h = at_head (portrait_by cells a v) rest a refl

found_later : (cells : Cells) (a n : ℕ) (found : Option Value) (rest : List Portrait)
    → (a ≡ n → ⊥) → portrait_at (portrait_of_some cells a found ++ rest) n ≡ portrait_at rest n
found_later cells a n None rest ne = refl
found_later cells a n (Some v) rest ne = behind_head (portrait_by cells a v) rest n ne

pub gathered_at : (cells : Cells) (a k n : ℕ) → a ≤ n → n < a + k
    → portrait_at (flat_map (portraits_at cells) (range_with_len a k)) n ≡ found_by cells n
gathered_at cells a zero n low high = absurd (omega (arith, low, high))
gathered_at cells a (suc k) n low high =
    let rest = flat_map (portraits_at cells) (range_with_len (a + 1) k) in
    let order : AreInOrder (a + 1) (a + 1 + k) rest =
    gathered_order cells (a + 1) k (a + 1 + k) refl in
    elim (cases_eq a n) [
      | inl e ↦
          subst (λ (m : ℕ). portrait_at (portraits_at cells a ++ rest) m ≡ found_by cells m) e
          (found_here cells a (a + 1 + k) (object_read a (cells (cell.Object a))) rest order)
      | inr ne ↦
          found_later cells a n (object_read a (cells (cell.Object a))) rest ne
          ∙ gathered_at cells (a + 1) k n (omega (arith, low, ne)) (omega (arith, high))
    ]

-- ---- cells that stand for a tree

standing_object : (tree : Tree) (n : ℕ) (v : Option Value) (i : Inode)
    → stands_for tree (cell.Object n) v ≡ Some (value.Object i)
    → object_read n v ≡ Some (value.Object i)
standing_object tree n None i h = h
standing_object tree n (Some v) i h =
    let same : v ≡ value.Object i = cc in ap (object_of_value n) same

standing_none : (tree : Tree) (n : ℕ) (v : Option Value) → (n ≡ 1 → ⊥)
    → stands_for tree (cell.Object n) v ≡ stands_for tree (cell.Object n) None
    → object_read n v ≡ None
standing_none tree n None ne h = let t : (n == 1) ≡ false = ne_eqb n 1 ne in rw t refl
standing_none tree n (Some v) ne h =
    let t : (n == 1) ≡ false = ne_eqb n 1 ne in
    let is : Some v ≡ None = rw t at h in absurd cc

standing_slot : (tree : Tree) (n i : ℕ) (v : Option Value)
    → stands_for tree (cell.Slot n i) v ≡ v
standing_slot tree n i None = refl
standing_slot tree n i (Some v) = refl

slot_value_read : (s : Option Slot) → slot_read (slot_value s) ≡ slot_value s
slot_value_read None = refl
slot_value_read (Some s) = refl

named_slot : (cells : Cells) (tree : Tree) (stamp n i : ℕ) → StandForNamed cells tree stamp
    → i < length (slots_of (place tree n))
    → slot_read (cells (cell.Slot n i)) ≡ slot_value (get_or (slots_of (place tree n)) i None)
named_slot cells tree stamp n i stand lt =
    let s = slot_value (get_or (slots_of (place tree n)) i None) in
    let same : cells (cell.Slot n i) ≡ s =
    sym (standing_slot tree n i (cells (cell.Slot n i)))
    ∙ stand (cell.Slot n i) (lt-ltb i (length (slots_of (place tree n))) lt)
    ∙ standing_slot tree n i s in
    ap slot_read same ∙ slot_value_read (get_or (slots_of (place tree n)) i None)

-- the slots that are read are those of a list
pub slots_of_list : (f : ℕ → Option Value) (slots : Slots)
    → ((i : ℕ) → i < length slots → f i ≡ slot_value (get_or slots i None))
    → map f (range_with_len 0 (length slots)) ≡ map slot_value slots
slots_of_list f slots each =
    sym (fill_by_all f (map slot_value slots) (length slots) None
    (length-map slots slot_value)
    (λ i lt. get_or-map slot_value slots i None None lt
    ∙ sym (each i lt)))

bytes_again : (bytes : List ℕ) → bytes_read (block_value bytes) ≡ bytes
bytes_again [] = refl
bytes_again (b ∷ bytes) = refl

-- a block of what is no file stands for itself
standing_block : (tree : Tree) (n i : ℕ) (v : Option Value) (o : Object)
    → place tree n ≡ Some o → is_regular_at (Some o) ≡ false
    → stands_for tree (cell.Block n i) v ≡ v
standing_block tree n i None o e other =
    let t : is_regular_at (place tree n) ≡ false = ap is_regular_at e ∙ other in rw t refl
standing_block tree n i (Some v) o e other =
    let t : is_regular_at (place tree n) ≡ false = ap is_regular_at e ∙ other in rw t refl

link_text : (cells : Cells) (tree : Tree) (stamp n : ℕ) (text : List ℕ) (o : Object)
    → StandForNamed cells tree stamp → place tree n ≡ Some o → o.body ≡ body.Link text
    → length text ≤ 1024 → length (bytes_read (cells (cell.Block n 0))) ≡ length text
link_text cells tree stamp n text o stand e is short =
    let content : content_of (place tree n) ≡ text =
    ap content_of e ∙ ap (λ (c : Body). elim c [
      | body.Regular bytes ↦ bytes
      | body.Directory slots ↦ []
      | body.Link bytes ↦ bytes
    ]) is in
    let whole : block_of (content_of (place tree n)) 0 ≡ text =
    ap (λ (xs : List ℕ). block_of xs 0) content ∙ take_all 4096 text (omega (arith, short)) in
    let other : is_regular_at (Some o) ≡ false =
    ap (λ (c : Body). elim c [
      | body.Regular bytes ↦ true
      | body.Directory slots ↦ false
      | body.Link bytes ↦ false
    ]) is in
    let named : is_block_of 0 (place tree n) ≡ true =
    ap (is_block_of 0) e ∙ ap (is_block_of_body 0) is in
    let held : cells (cell.Block n 0) ≡ block_value text =
    sym (standing_block tree n 0 (cells (cell.Block n 0)) o e other)
    ∙ stand (cell.Block n 0) named
    ∙ standing_block tree n 0 (block_value (block_of (content_of (place tree n)) 0)) o e other
    ∙ ap block_value whole in
    ap (λ (v : Option Value). length (bytes_read v)) held ∙ ap length (bytes_again text)

text_of_body : (cells : Cells) (tree : Tree) (stamp n : ℕ) (b : Body) (o : Object)
    → StandForNamed cells tree stamp → place tree n ≡ Some o → o.body ≡ b → IsSoundBody b
    → (if is_link_kind (Some (kind_of b)) then length (bytes_read (cells (cell.Block n 0))) else 0)
    ≡ text_length b
text_of_body cells tree stamp n (body.Regular bytes) o stand e is short = refl
text_of_body cells tree stamp n (body.Directory slots) o stand e is short = refl
text_of_body cells tree stamp n (body.Link text) o stand e is short =
    link_text cells tree stamp n text o stand e is short

-- ---- what is found is what the tree has

found_some : (cells : Cells) (tree : Tree) (stamp n : ℕ) (o : Object)
    → StandForNamed cells tree stamp → IsSoundObject (Some o) → 1 ≤ n → n < length tree
    → place tree n ≡ Some o → found_by cells n ≡ Some (portrait_of_object tree n o)
found_some cells tree stamp n o stand sound low high e =
    let v : Value = value.Object (inode_of tree n o) in
    let named : (nat_lt 0 n && nat_lt n (length tree)) ≡ true =
    and_from (nat_lt 0 n) (nat_lt n (length tree)) (lt-ltb 0 n (omega (arith, low)))
    (lt-ltb n (length tree) high) in
    let standing : stands_for tree (cell.Object n) (cells (cell.Object n)) ≡ Some v =
    stand (cell.Object n) named
    ∙ ap (λ (w : Option Value). stands_for tree (cell.Object n) w)
    (ap (object_value tree n) e) in
    let read : object_read n (cells (cell.Object n)) ≡ Some v =
    standing_object tree n (cells (cell.Object n)) (inode_of tree n o) standing in
    let slots : slots_of (place tree n) ≡ slots_within o.body = ap slots_of e in
    ap (option_map (portrait_by cells n)) read
    ∙ ap Some (portrait_same (portrait_by cells n v) (portrait_of_object tree n o) refl refl
    (slots_of_list (λ i. slot_read (cells (cell.Slot n i))) (slots_within o.body)
    (λ i lt. named_slot cells tree stamp n i stand
    (subst (λ (s : Slots). i < length s) (sym slots) lt)
    ∙ ap (λ (s : Slots). slot_value (get_or s i None)) slots))
    (text_of_body cells tree stamp n o.body o stand e refl sound.1))

found_none : (cells : Cells) (tree : Tree) (stamp n : ℕ) → StandForNamed cells tree stamp
    → 1 ≤ n → n < length tree → (n ≡ 1 → ⊥) → place tree n ≡ None → found_by cells n ≡ None
found_none cells tree stamp n stand low high ne e =
    let named : (nat_lt 0 n && nat_lt n (length tree)) ≡ true =
    and_from (nat_lt 0 n) (nat_lt n (length tree)) (lt-ltb 0 n (omega (arith, low)))
    (lt-ltb n (length tree) high) in
    let standing : stands_for tree (cell.Object n) (cells (cell.Object n))
    ≡ stands_for tree (cell.Object n) None =
    stand (cell.Object n) named
    ∙ ap (λ (w : Option Value). stands_for tree (cell.Object n) w)
    (ap (object_value tree n) e) in
    ap (option_map (portrait_by cells n))
    (standing_none tree n (cells (cell.Object n)) ne standing)

found_placed : (cells : Cells) (tree : Tree) (stamp n : ℕ) (o : Option Object)
    → StandForNamed cells tree stamp → IsSound tree → 1 ≤ n → n < length tree
    → place tree n ≡ o → found_by cells n ≡ portrait_of tree n o
found_placed cells tree stamp n None stand sound low high e =
    found_none cells tree stamp n stand low high
    (λ one.
    let root : is_directory_at (place tree 1) ≡ true = sound.root in
    let none : is_directory_at (place tree 1) ≡ false =
    ap (λ (k : ℕ). is_directory_at (place tree k)) (sym one) ∙ ap is_directory_at e in
    both_ways (is_directory_at (place tree 1)) none root) e
found_placed cells tree stamp n (Some o) stand sound low high e =
    found_some cells tree stamp n o stand
    (subst IsSoundObject e (sound.objects n)) low high e

pub found_is : (cells : Cells) (tree : Tree) (stamp n : ℕ) → StandForNamed cells tree stamp
    → IsSound tree → 1 ≤ n → n < length tree → found_by cells n ≡ portrait_of tree n (place tree n)
found_is cells tree stamp n stand sound low high =
    found_placed cells tree stamp n (place tree n) stand sound low high refl

totals_stand : (tree : Tree) (v : Option Value) (next used stamp : ℕ)
    → stands_for tree cell.Meta v ≡ Some (value.Meta next used stamp)
    → totals_read v ≡ (next, used)
totals_stand tree None next used stamp h =
    let same : value.Meta 2 0 0 ≡ value.Meta next used stamp = cc in
    ap totals_of_value same
totals_stand tree (Some v) next used stamp h =
    let same : v ≡ value.Meta next used stamp = cc in
    ap totals_of_value same

pub totals_are : (cells : Cells) (tree : Tree) (stamp : ℕ) → StandForNamed cells tree stamp
    → totals_read (cells cell.Meta) ≡ (length tree, used_blocks tree)
totals_are cells tree stamp stand =
    totals_stand tree (cells cell.Meta) (length tree) (used_blocks tree) stamp
    (stand cell.Meta refl)
