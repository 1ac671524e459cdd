-- The tree that well-formed cells stand for, where nothing is found in their picture.
use Rattle.std.proofs.Common.{◌≡◌, ℕ, ◌<◌, ◌≤◌, ◌^◌, ◌==◌, ◌&&◌, ◌⊎◌, Bool}
use Rattle.std.proofs.Common.{true, false, List, [], ◌∷◌, length, map, get_or}
use Rattle.std.proofs.Common.{Option, Some, None, refl, sym, ap, subst, ◌∙◌, arith, inl}
use Rattle.std.proofs.Common.{inr}
use Rattle.std.specs.List.{range_with_len}
use Rattle.std.specs.Option.{option_map}
use Rattle.std.specs.Prelude.{nat_lt}
use Rattle.std.proofs.lemmas.Bool.{cases_eq, eqb-true, ltb-true, ne_eqb}
use Rattle.std.proofs.lemmas.List.{get_or-map}
use Rattle.std.proofs.lemmas.List.{length-map}
use Rattle.std.proofs.lemmas.List.{take_all}
use Rattle.std.proofs.lemmas.List.FromFn.{get_or-map-range_with_len, length-map-range_with_len}
use Rattle.harp_types.specs.declared.attr.Kind.{Kind}
use Rattle.harp_types.specs.declared.attr.Kind.TheVariants as kind
use Rattle.file_tree.specs.declared.object.Body.{Body}
use Rattle.file_tree.specs.declared.object.Body.TheVariants as body
use Rattle.file_tree.specs.declared.object.Object.{Object}
use Rattle.file_tree.specs.Sound.{IsSound}
use Rattle.file_tree.specs.Tree.{Tree, Slots, place, slots_of, slots_within, used_blocks}
use Rattle.harp_cells.specs.declared.cell.Cell.TheVariants as cell
use Rattle.harp_cells.specs.declared.value.Inode.{Inode}
use Rattle.harp_cells.specs.declared.value.Value.{Value}
use Rattle.harp_cells.specs.declared.value.Value.TheVariants as value
use Rattle.harp_cells.specs.CellsOfTree.{StandForSame, StandForTree, block_of, block_value}
use Rattle.harp_cells.specs.CellsOfTree.{content_of, first_root, is_regular_at, object_value}
use Rattle.harp_cells.specs.CellsOfTree.{slot_value, stands_for}
use Rattle.harp_cells.specs.Effect.{Cells}
use Rattle.audit.specs.declared.picture.Portrait.{Portrait}
use Rattle.audit.specs.Pictures.{IsShaped, absent_object, attributes, bytes_read}
use Rattle.audit.specs.Pictures.{object_read, picture_of, portrait_by, slot_read, slots_by}
use Rattle.audit.specs.Pictures.{totals_read}
use Rattle.audit.specs.Flaws.{findings, portrait_at, slots_in}
use Rattle.audit.specs.Rescued.{AreWell, IsOwn, StandForOne}
use Rattle.audit.specs.Sound.{StandForNamed, is_block_of, is_block_of_body}
use Rattle.audit.proofs.Back.{sound_where_nothing_is_found}
use Rattle.audit.proofs.Bodies.{IsShort, body_by}
use Rattle.audit.proofs.Gathered.{totals_are}
use Rattle.audit.proofs.Steps.{gathered_shape}
use Rattle.audit.proofs.Flawless.{fits_at, long_as, object_by, placed}
use Rattle.audit.proofs.Whole.{object_same}
use Rattle.audit.proofs.Flawless.{tree_of}
use Rattle.audit.proofs.Whole.{slots_same, sound, used_same}
use Rattle.audit.proofs.Contents.{byte_at, content_by, content, same_full, file_block}
use Rattle.audit.proofs.Contents.{file_part, own_short, block_length, block_at, file_byte}
use Rattle.audit.proofs.Contents.{in_range, found, content_is, whole}

-- ---- each cell

held_object : (n : ℕ) (v : Option Value) (w : Value) → IsOwn (cell.Object n) v
    → object_read n v ≡ Some w → (v ≡ Some w) ⊎ ((v ≡ None) × (absent_object n ≡ Some w))
held_object n None w own is = inr (refl, is)
held_object n (Some (value.Object i)) w own is = inl is
held_object n (Some (value.Unformed i)) w own is = inl is
held_object n (Some (value.Meta next used stamp)) w own is = absurd own
held_object n (Some (value.Block bytes)) w own is = absurd own
held_object n (Some (value.Slot object name)) w own is = absurd own
held_object n (Some (value.Client number index reply)) w own is = absurd own
held_object n (Some (value.Saved bytes)) w own is = absurd own
held_object n (Some (value.SavedCred bytes)) w own is = absurd own

held_none : (n : ℕ) (v : Option Value) → IsOwn (cell.Object n) v → object_read n v ≡ None
    → v ≡ None
held_none n None own is = refl
held_none n (Some (value.Object i)) own is = absurd cc
held_none n (Some (value.Unformed i)) own is = absurd cc
held_none n (Some (value.Meta next used stamp)) own is = absurd own
held_none n (Some (value.Block bytes)) own is = absurd own
held_none n (Some (value.Slot object name)) own is = absurd own
held_none n (Some (value.Client number index reply)) own is = absurd own
held_none n (Some (value.Saved bytes)) own is = absurd own
held_none n (Some (value.SavedCred bytes)) own is = absurd own

standing : (tree : Tree) (n : ℕ) (v : Option Value) (w : Value)
    → (v ≡ Some w) ⊎ ((v ≡ None) × (absent_object n ≡ Some w))
    → stands_for tree (cell.Object n) v ≡ Some w
standing tree n v w (inl is) = ap (stands_for tree (cell.Object n)) is
standing tree n v w (inr is) = ap (stands_for tree (cell.Object n)) is.0 ∙ is.1

slot_own : (n s : ℕ) (v : Option Value) → IsOwn (cell.Slot n s) v → slot_read v ≡ v
slot_own n s None own = refl
slot_own n s (Some (value.Slot object name)) own = refl
slot_own n s (Some (value.Meta next used stamp)) own = absurd own
slot_own n s (Some (value.Object i)) own = absurd own
slot_own n s (Some (value.Unformed i)) own = absurd own
slot_own n s (Some (value.Block bytes)) own = absurd own
slot_own n s (Some (value.Client number index reply)) own = absurd own
slot_own n s (Some (value.Saved bytes)) own = absurd own
slot_own n s (Some (value.SavedCred bytes)) own = absurd own

abbrev stamp_of_value : Value → ℕ
stamp_of_value (value.Meta next used stamp) = stamp
stamp_of_value v = 0

abbrev stamp_read : Option Value → ℕ
stamp_read None = 0
stamp_read (Some v) = stamp_of_value v

meta_own : (tree : Tree) (v : Option Value) → IsOwn cell.Meta v
    → stands_for tree cell.Meta v
    ≡ Some (value.Meta (totals_read v).0 (totals_read v).1 (stamp_read v))
meta_own tree None own = refl
meta_own tree (Some (value.Meta next used stamp)) own = refl
meta_own tree (Some (value.Object i)) own = absurd own
meta_own tree (Some (value.Unformed i)) own = absurd own
meta_own tree (Some (value.Block bytes)) own = absurd own
meta_own tree (Some (value.Slot object name)) own = absurd own
meta_own tree (Some (value.Client number index reply)) own = absurd own
meta_own tree (Some (value.Saved bytes)) own = absurd own
meta_own tree (Some (value.SavedCred bytes)) own = absurd own

block_own : (n b : ℕ) (v : Option Value) → IsOwn (cell.Block n b) v
    → block_value (bytes_read v) ≡ v
block_own n b None own = refl
block_own n b (Some (value.Block [])) own = absurd (omega (arith, own.0))
block_own n b (Some (value.Block (x ∷ bytes))) own = refl
block_own n b (Some (value.Meta next used stamp)) own = absurd own
block_own n b (Some (value.Object i)) own = absurd own
block_own n b (Some (value.Unformed i)) own = absurd own
block_own n b (Some (value.Slot object name)) own = absurd own
block_own n b (Some (value.Client number index reply)) own = absurd own
block_own n b (Some (value.Saved bytes)) own = absurd own
block_own n b (Some (value.SavedCred bytes)) own = absurd own

-- ---- the cells of the tree

abbrev tree_in : Cells → Tree
tree_in cells = tree_of (content cells) (picture_of cells)

abbrev body_in : Cells → ℕ → Portrait → Body
body_in cells n x = body_by (attributes x.object).kind (content cells n) (slots_in x)

place_some : (cells : Cells) (n : ℕ) (x : Portrait) → IsShaped (picture_of cells)
    → portrait_at (picture_of cells).objects n ≡ Some x
    → place (tree_in cells) n ≡ Some (object_by (content cells n) x)
place_some cells n x shape e =
    placed (content cells) (picture_of cells) n shape
    ∙ ap (option_map (object_by (content cells n))) e

place_none : (cells : Cells) (n : ℕ) → IsShaped (picture_of cells)
    → portrait_at (picture_of cells).objects n ≡ None → place (tree_in cells) n ≡ None
place_none cells n shape e =
    placed (content cells) (picture_of cells) n shape
    ∙ ap (option_map (object_by (content cells n))) e

object_at : (cells : Cells) → IsShaped (picture_of cells) → AreWell cells
    → findings (picture_of cells) ≡ [] → (n : ℕ) → 1 ≤ n → n < (picture_of cells).next
    → (r : Option Value) → object_read n (cells (cell.Object n)) ≡ r
    → StandForSame (tree_in cells) (cell.Object n) (cells (cell.Object n))
    (object_value (tree_in cells) n (place (tree_in cells) n))
object_at cells shape well none n low high None e =
    let at : portrait_at (picture_of cells).objects n ≡ None =
    in_range cells n low high ∙ ap (option_map (portrait_by cells n)) e in
    ap (stands_for (tree_in cells) (cell.Object n))
    (held_none n (cells (cell.Object n)) (well.kinds (cell.Object n)) e
    ∙ sym (ap (object_value (tree_in cells) n) (place_none cells n shape at)))
object_at cells shape well none n low high (Some w) e =
    let tree = tree_in cells in
    let x = portrait_by cells n w in
    let at : portrait_at (picture_of cells).objects n ≡ Some x =
    in_range cells n low high ∙ ap (option_map (portrait_by cells n)) e in
    standing tree n (cells (cell.Object n)) w
    (held_object n (cells (cell.Object n)) w (well.kinds (cell.Object n)) e)
    ∙ ap Some (object_same (content cells) (picture_of cells) (whole cells shape none) n x at)
    ∙ sym (ap (λ (o : Option Object). stands_for tree (cell.Object n) (object_value tree n o))
    (place_some cells n x shape at))

slot_at : (cells : Cells) → IsShaped (picture_of cells) → AreWell cells
    → findings (picture_of cells) ≡ [] → (n s : ℕ) (found : Option Portrait)
    → portrait_at (picture_of cells).objects n ≡ found
    → s < length (slots_of (place (tree_in cells) n))
    → cells (cell.Slot n s) ≡ slot_value (get_or (slots_of (place (tree_in cells) n)) s None)
slot_at cells shape well none n s None e lt =
    let empty : length (slots_of (place (tree_in cells) n)) ≡ 0 =
    ap (λ (o : Option Object). length (slots_of o)) (place_none cells n shape e) in
    absurd (omega (arith, lt, empty))
slot_at cells shape well none n s (Some x) e lt =
    let sl = slots_within (body_in cells n x) in
    let at : slots_of (place (tree_in cells) n) ≡ sl =
    ap slots_of (place_some cells n x shape e) in
    let f = found cells n x shape e in
    let count = (attributes f.value).slots in
    let same : slots_by cells n count ≡ map slot_value sl =
    ap (λ (y : Portrait). y.slots) f.is
    ∙ slots_same (content cells) (picture_of cells) (whole cells shape none) n x e in
    let within : s < length sl = subst (λ (l : Slots). s < length l) at lt in
    let many : length (slots_by cells n count) ≡ length sl =
    ap length same ∙ length-map sl slot_value in
    sym (slot_own n s (cells (cell.Slot n s)) (well.kinds (cell.Slot n s)))
    ∙ sym (get_or-map-range_with_len (λ i. slot_read (cells (cell.Slot n i))) 0 count s s None
    (omega (
      arith,
      within,
      many,
      length-map-range_with_len (λ i. slot_read (cells (cell.Slot n i))) 0 count,
    )) (omega arith))
    ∙ ap (λ (l : List (Option Value)). get_or l s None) same
    ∙ get_or-map slot_value sl s None None within
    ∙ sym (ap (λ (l : Slots). slot_value (get_or l s None)) at)

-- the inode of a file
record Regular (w : Value) : Type 0 where
  inode : Inode
  is : w ≡ value.Object inode
  kind : inode.kind ≡ kind.Regular
  size : inode.size ≡ (attributes w).size

regular_inode : (w : Value) → (attributes w).kind ≡ Some kind.Regular → Regular w
regular_inode (value.Object i) e = record { inode = i; is = refl; kind = cc; size = refl }
regular_inode (value.Unformed i) e = absurd cc
regular_inode (value.Meta next used stamp) e = absurd cc
regular_inode (value.Block bytes) e = absurd cc
regular_inode (value.Slot object name) e = absurd cc
regular_inode (value.Client number index reply) e = absurd cc
regular_inode (value.Saved bytes) e = absurd cc
regular_inode (value.SavedCred bytes) e = absurd cc

-- the object of a file is there
file_object : (n : ℕ) (v : Option Value) (w : Value) → (attributes w).kind ≡ Some kind.Regular
    → (v ≡ Some w) ⊎ ((v ≡ None) × (absent_object n ≡ Some w)) → v ≡ Some w
file_object n v w file (inl is) = is
file_object n v w file (inr is) = absurd (no_file n w file is.1)
  where
    first_is : (w : Value) → Some first_root ≡ Some w → (attributes w).kind ≡ Some kind.Directory
    first_is w e = ap (λ (o : Option Value). kind_shown o) (sym e)
      where
        kind_shown : Option Value → Option Kind
        kind_shown None = None
        kind_shown (Some v) = (attributes v).kind

    no_file : (n : ℕ) (w : Value) → (attributes w).kind ≡ Some kind.Regular
        → absent_object n ≡ Some w → ⊥
    no_file n w file is = elim (cases_eq n 1) [
      | inl one ↦
          let first : Some first_root ≡ Some w =
          subst (λ (m : ℕ). absent_object m ≡ Some w) one is in
          let wrong : Some kind.Regular ≡ Some kind.Directory = sym file ∙ first_is w first in
          absurd cc
      | inr ne ↦
          let t : (n == 1) ≡ false = ne_eqb n 1 ne in
          let wrong : None ≡ Some w = rw t at is in absurd cc
    ]

-- the block of a file
regular_at : (cells : Cells) → IsShaped (picture_of cells) → AreWell cells
    → findings (picture_of cells) ≡ [] → (n b : ℕ) (x : Portrait) (o : Object)
    → portrait_at (picture_of cells).objects n ≡ Some x
    → place (tree_in cells) n ≡ Some o → o.body ≡ body.Regular (content cells n)
    → (attributes x.object).kind ≡ Some kind.Regular
    → StandForSame (tree_in cells) (cell.Block n b) (cells (cell.Block n b))
    (block_value (block_of (content_of (place (tree_in cells) n)) b))
regular_at cells shape well none n b x o e at is kind_is =
    let tree = tree_in cells in
    let v = cells (cell.Block n b) in
    let f = found cells n x shape e in
    let w = f.value in
    let size = (attributes x.object).size in
    let bytes = map (byte_at cells n) (range_with_len 0 size) in
    let file : is_regular_at (place tree n) ≡ true =
    ap is_regular_at at ∙ ap is_regular_body is in
    let held : content_of (place tree n) ≡ bytes =
    ap content_of at ∙ ap content_of_body is ∙ content_is cells n x e
    ∙ ap (λ (k : Option Kind). content_by cells n k size) kind_is in
    let own_kind : (attributes w).kind ≡ Some kind.Regular =
    ap (λ (y : Portrait). (attributes y.object).kind) f.is ∙ kind_is in
    let there : cells (cell.Object n) ≡ Some w =
    file_object n (cells (cell.Object n)) w own_kind
    (held_object n (cells (cell.Object n)) w (well.kinds (cell.Object n)) f.read) in
    let i = regular_inode w own_kind in
    let size_is : i.inode.size ≡ size =
    i.size ∙ ap (λ (y : Portrait). (attributes y.object).size) f.is in
    file_block tree n b v file (well.kinds (cell.Block n b))
    ∙ ap (λ (xs : List ℕ). Some (value.Block xs))
    (same_full (bytes_read v) (block_of bytes b) (own_short v n b (well.kinds (cell.Block n b)))
    (block_length bytes b)
    (λ k lt. sym (block_at bytes b k lt
    ∙ file_byte cells n b k size lt
    (λ past. well.ends n b k i.inode (there ∙ ap Some i.is) i.kind
    (omega (arith, past, size_is))))))
    ∙ sym (file_part tree n b (block_of bytes b) file)
    ∙ sym (ap (λ (xs : List ℕ). stands_for tree (cell.Block n b) (block_value (block_of xs b)))
    held)
  where
    is_regular_body : Body → Bool
    is_regular_body (body.Regular bytes) = true
    is_regular_body (body.Directory slots) = false
    is_regular_body (body.Link text) = false

    content_of_body : Body → List ℕ
    content_of_body (body.Regular bytes) = bytes
    content_of_body (body.Directory slots) = []
    content_of_body (body.Link text) = text

-- the block of a link
link_at : (cells : Cells) → IsShaped (picture_of cells) → AreWell cells
    → findings (picture_of cells) ≡ [] → (n b : ℕ) (x : Portrait) (o : Object)
    → portrait_at (picture_of cells).objects n ≡ Some x
    → place (tree_in cells) n ≡ Some o → o.body ≡ body.Link (content cells n)
    → (attributes x.object).kind ≡ Some kind.Link → length (content cells n) ≤ 1024 → b ≡ 0
    → StandForSame (tree_in cells) (cell.Block n b) (cells (cell.Block n b))
    (block_value (block_of (content_of (place (tree_in cells) n)) b))
link_at cells shape well none n b x o e at is kind_is short zero_is =
    let tree = tree_in cells in
    let bytes = bytes_read (cells (cell.Block n 0)) in
    let text : content cells n ≡ bytes =
    content_is cells n x e
    ∙ ap (λ (k : Option Kind). content_by cells n k (attributes x.object).size) kind_is in
    let held : content_of (place tree n) ≡ content cells n =
    ap content_of at ∙ ap content_of_body is in
    let first : block_of (content_of (place tree n)) 0 ≡ bytes =
    ap (λ (xs : List ℕ). block_of xs 0) held
    ∙ take_all 4096 (content cells n) (omega (arith, short)) ∙ text in
    let same : cells (cell.Block n 0) ≡ block_value (block_of (content_of (place tree n)) 0) =
    sym (block_own n 0 (cells (cell.Block n 0)) (well.kinds (cell.Block n 0)))
    ∙ ap block_value (sym first) in
    subst (λ (k : ℕ). StandForSame tree (cell.Block n k) (cells (cell.Block n k))
    (block_value (block_of (content_of (place tree n)) k))) (sym zero_is)
    (ap (stands_for tree (cell.Block n 0)) same)
  where
    content_of_body : Body → List ℕ
    content_of_body (body.Regular bytes) = bytes
    content_of_body (body.Directory slots) = []
    content_of_body (body.Link text) = text

block_found : (cells : Cells) → IsShaped (picture_of cells) → AreWell cells
    → findings (picture_of cells) ≡ [] → (n b : ℕ) (x : Portrait) (k : Option Kind)
    → portrait_at (picture_of cells).objects n ≡ Some x → (attributes x.object).kind ≡ k
    → is_block_of_body b (body_by k (content cells n) (slots_in x)) ≡ true
    → StandForSame (tree_in cells) (cell.Block n b) (cells (cell.Block n b))
    (block_value (block_of (content_of (place (tree_in cells) n)) b))
block_found cells shape well none n b x None e is named =
    absurd (omega (arith, ltb-true b 0 named))
block_found cells shape well none n b x (Some kind.Regular) e is named =
    let o = object_by (content cells n) x in
    regular_at cells shape well none n b x o e (place_some cells n x shape e)
    (ap (λ (k : Option Kind). body_by k (content cells n) (slots_in x)) is) is
block_found cells shape well none n b x (Some kind.Directory) e is named = absurd cc
block_found cells shape well none n b x (Some kind.Link) e is named =
    let o = object_by (content cells n) x in
    let fit = fits_at (content cells) (picture_of cells) (whole cells shape none) n x e in
    let short : length (content cells n) ≤ 1024 =
    subst (λ (k : Option Kind). IsShort (body_by k (content cells n) (slots_in x))) is fit.short in
    link_at cells shape well none n b x o e (place_some cells n x shape e)
    (ap (λ (k : Option Kind). body_by k (content cells n) (slots_in x)) is) is short
    (eqb-true b 0 named)

block_named : (cells : Cells) → IsShaped (picture_of cells) → AreWell cells
    → findings (picture_of cells) ≡ [] → (n b : ℕ) (found : Option Portrait)
    → portrait_at (picture_of cells).objects n ≡ found
    → is_block_of b (place (tree_in cells) n) ≡ true
    → StandForSame (tree_in cells) (cell.Block n b) (cells (cell.Block n b))
    (block_value (block_of (content_of (place (tree_in cells) n)) b))
block_named cells shape well none n b None e named =
    let wrong : false ≡ true =
    sym (ap (is_block_of b) (place_none cells n shape e)) ∙ named in
    absurd cc
block_named cells shape well none n b (Some x) e named =
    block_found cells shape well none n b x (attributes x.object).kind e refl
    (sym (ap (is_block_of b) (place_some cells n x shape e)) ∙ named)

meta_at : (cells : Cells) → IsShaped (picture_of cells) → AreWell cells
    → findings (picture_of cells) ≡ []
    → StandForSame (tree_in cells) cell.Meta (cells cell.Meta)
    (Some (value.Meta (length (tree_in cells)) (used_blocks (tree_in cells))
    (stamp_read (cells cell.Meta))))
meta_at cells shape well none =
    let w = whole cells shape none in
    let stamp = stamp_read (cells cell.Meta) in
    meta_own (tree_in cells) (cells cell.Meta) (well.kinds cell.Meta)
    ∙ ap (λ (n : ℕ). Some (value.Meta n (picture_of cells).used stamp))
    (long_as (content cells) (picture_of cells))
    ∙ ap (λ (n : ℕ). Some (value.Meta (length (tree_in cells)) n stamp))
    (used_same (content cells) (picture_of cells) w)

both_of : (a b : Bool) → (a && b) ≡ true → (a ≡ true) × (b ≡ true)
both_of true b h = (refl, h)
both_of false b h = absurd cc

stands : (cells : Cells) → IsShaped (picture_of cells) → AreWell cells
    → findings (picture_of cells) ≡ []
    → StandForNamed cells (tree_in cells) (stamp_read (cells cell.Meta))
stands cells shape well none cell.Meta named = meta_at cells shape well none
stands cells shape well none (cell.Object n) named =
    let both = both_of (nat_lt 0 n) (nat_lt n (length (tree_in cells))) named in
    let low : 0 < n = ltb-true 0 n both.0 in
    let high : n < length (tree_in cells) = ltb-true n (length (tree_in cells)) both.1 in
    object_at cells shape well none n (omega (arith, low))
    (omega (arith, high, long_as (content cells) (picture_of cells)))
    (object_read n (cells (cell.Object n))) refl
stands cells shape well none (cell.Block n b) named =
    block_named cells shape well none n b (portrait_at (picture_of cells).objects n) refl named
stands cells shape well none (cell.Slot n s) named =
    ap (stands_for (tree_in cells) (cell.Slot n s))
    (slot_at cells shape well none n s (portrait_at (picture_of cells).objects n) refl
    (ltb-true s (length (slots_of (place (tree_in cells) n))) named))
stands cells shape well none (cell.Client client) named = absurd cc
stands cells shape well none (cell.Saved at) named = absurd cc

-- the shape of any cells' picture
shape_of : (cells : Cells) → (picture_of cells).next < 2 ^ 32 → IsShaped (picture_of cells)
shape_of cells fits =
    gathered_shape cells (picture_of cells).next (picture_of cells).used
    (picture_of cells).objects fits refl

pub well_cells_stand_for_one : (cells : Cells) → (picture_of cells).next < 2 ^ 32
    → AreWell cells → findings (picture_of cells) ≡ [] → StandForOne cells
well_cells_stand_for_one cells fits well none =
    let shape = shape_of cells fits in
    record {
      tree = tree_in cells;
      stamp = stamp_read (cells cell.Meta);
      stand = stands cells shape well none;
      sound = sound (content cells) (picture_of cells) (whole cells shape none);
    }

-- nothing is found in a tree that cells stand for
pub nothing_found_in_a_tree : (cells : Cells) (tree : Tree) (stamp : ℕ) → length tree < 2 ^ 32
    → StandForNamed cells tree stamp → IsSound tree → findings (picture_of cells) ≡ []
nothing_found_in_a_tree cells tree stamp few stand sound =
    let next : (picture_of cells).next ≡ length tree =
    ap (λ (t : ℕ × ℕ). t.0) (totals_are cells tree stamp stand) in
    let shape = shape_of cells (omega (arith, few, next)) in
    (sound_where_nothing_is_found (picture_of cells) shape).1 (record {
      cells = cells;
      tree = tree;
      stamp = stamp;
      stand = stand;
      sound = sound;
      picture = refl;
    })

pub standing_named : (cells : Cells) (tree : Tree) (stamp : ℕ) → StandForTree cells tree stamp
    → StandForNamed cells tree stamp
standing_named cells tree stamp h cell.Meta named = h.meta
standing_named cells tree stamp h (cell.Object n) named = h.object n
standing_named cells tree stamp h (cell.Block n b) named = h.block n b
standing_named cells tree stamp h (cell.Slot n s) named = h.slot n s
standing_named cells tree stamp h (cell.Client client) named = absurd cc
standing_named cells tree stamp h (cell.Saved at) named = absurd cc
