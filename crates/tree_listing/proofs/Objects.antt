-- An object and its parts, and the numbers of objects.
use Rattle.std.proofs.Common.{◌≡◌, ℕ, ◌<◌, ◌≤◌, List, [], ◌∷◌, ◌++◌, length, take, drop, Option, Some, None, refl, sym, ap, ◌∙◌, subst, take_all, inl, inr}
use Rattle.std.proofs.lemmas.Bool.{cases_lt}
use Rattle.std.proofs.lemmas.List.{append-nil, get_or_past}
use Rattle.harp_types.specs.declared.attr.Attr.{Attr}
use Rattle.harp_types.specs.declared.attr.Kind.TheVariants as kind
use Rattle.file_tree.specs.declared.object.Body.{Body}
use Rattle.file_tree.specs.declared.object.Body.TheVariants.{Regular, Directory, Link}
use Rattle.file_tree.specs.declared.object.Object.{Object}
use Rattle.file_tree.specs.Sound.{IsSoundBody, IsSoundObject}
use Rattle.file_tree.specs.Tree.{Tree, is_directory_at, kind_of, place, size_of, slots_of, slots_within}
use Rattle.harp_cells.specs.declared.value.Inode.{Inode}
use Rattle.harp_cells.specs.CellsOfTree.{content_of, inode_of}
use Rattle.harp_cells.specs.Effect.{Cells}
use Rattle.cell_changes.specs.TreeCells.{TreeCells}
use Rattle.inode_blocks.specs.Holds.{HoldsBytes}
use Rattle.inode_blocks.proofs.TreeLaws.{trees_hold}
use Rattle.inode_dirs.specs.Slots.{HoldsSlots, TellsSlots}
use Rattle.inode_dirs.proofs.TreeCells.{trees_hold_slots}
use Rattle.tree_listing.specs.declared.listing.Listed.{Listed}
use Rattle.tree_listing.specs.declared.listing.ListedBlock.{ListedBlock}
use Rattle.tree_listing.specs.declared.listing.ListedSlot.{ListedSlot}
use Rattle.tree_listing.specs.Listing.{blocks_listed, bytes_of_file, listed, object_listed, of_each_below, slots_listed, text_of_link}
use Rattle.tree_listing.specs.Reading.{attr_by, inode_of_some, inode_placed}
use Rattle.tree_listing.proofs.Gathering.{of_one_more}

-- ---- the content of an object

abbrev content_within : Body → List ℕ
content_within (Regular bytes) = bytes
content_within (Directory slots) = []
content_within (Link text) = text

content_is : (o : Object) → content_of (Some o) ≡ content_within o.body
content_is o = refl

holds_content : (t : TreeCells) (number : ℕ) (o : Object) → place t.tree number ≡ Some o
    → HoldsBytes t.cells number (content_within o.body)
holds_content t number o at =
    subst (HoldsBytes t.cells number) (ap content_of at ∙ content_is o)
    (trees_hold t.cells t.tree t.stamp t.stand number)

kind_stored : (tree : Tree) (number : ℕ) (o : Object) (i : Inode) → i ≡ inode_of tree number o
    → kind_of o.body ≡ i.kind
kind_stored tree number o i is = sym (ap (λ (j : Inode). j.kind) is)

size_stored : (tree : Tree) (number : ℕ) (o : Object) (i : Inode) → i ≡ inode_of tree number o
    → size_of o.body ≡ i.size
size_stored tree number o i is = sym (ap (λ (j : Inode). j.size) is)

-- ---- files

file_content : (b : Body) → kind_of b ≡ kind.Regular → content_within b ≡ bytes_of_file b
file_content (Regular bytes) e = refl
file_content (Directory slots) e = absurd (cc e)
file_content (Link text) e = absurd (cc e)

file_size : (b : Body) → kind_of b ≡ kind.Regular → length (bytes_of_file b) ≡ size_of b
file_size (Regular bytes) e = refl
file_size (Directory slots) e = absurd (cc e)
file_size (Link text) e = absurd (cc e)

-- the blocks of a file hold its bytes, which have the stored size
pub file_held : (t : TreeCells) (number : ℕ) (o : Object) (i : Inode)
    → place t.tree number ≡ Some o → i ≡ inode_of t.tree number o → i.kind ≡ kind.Regular
    → HoldsBytes t.cells number (bytes_of_file o.body) × (length (bytes_of_file o.body) ≡ i.size)
file_held t number o i at is file =
    let regular : kind_of o.body ≡ kind.Regular = kind_stored t.tree number o i is ∙ file in (
      subst (HoldsBytes t.cells number) (file_content o.body regular) (holds_content t number o at),
      file_size o.body regular ∙ size_stored t.tree number o i is,
    )

none_of_directory : (b : Body) → kind_of b ≡ kind.Directory → [] ≡ blocks_listed (bytes_of_file b)
unfolding blocks_listed of_each_below
none_of_directory (Regular bytes) e = absurd (cc e)
none_of_directory (Directory slots) e = refl
none_of_directory (Link text) e = absurd (cc e)

none_of_link : (b : Body) → kind_of b ≡ kind.Link → [] ≡ blocks_listed (bytes_of_file b)
unfolding blocks_listed of_each_below
none_of_link (Regular bytes) e = absurd (cc e)
none_of_link (Directory slots) e = absurd (cc e)
none_of_link (Link text) e = refl

pub directory_has_none : (tree : Tree) (number : ℕ) (o : Object) (i : Inode)
    → i ≡ inode_of tree number o → i.kind ≡ kind.Directory
    → [] ≡ blocks_listed (bytes_of_file o.body)
directory_has_none tree number o i is e =
    none_of_directory o.body (kind_stored tree number o i is ∙ e)

pub link_has_none : (tree : Tree) (number : ℕ) (o : Object) (i : Inode)
    → i ≡ inode_of tree number o → i.kind ≡ kind.Link
    → [] ≡ blocks_listed (bytes_of_file o.body)
link_has_none tree number o i is e = none_of_link o.body (kind_stored tree number o i is ∙ e)

-- ---- links

text_content : (b : Body) → kind_of b ≡ kind.Link → Some (content_within b) ≡ text_of_link b
text_content (Regular bytes) e = absurd (cc e)
text_content (Directory slots) e = absurd (cc e)
text_content (Link text) e = refl

text_size : (b : Body) → kind_of b ≡ kind.Link → length (content_within b) ≡ size_of b
text_size (Regular bytes) e = absurd (cc e)
text_size (Directory slots) e = absurd (cc e)
text_size (Link text) e = refl

text_short : (b : Body) → kind_of b ≡ kind.Link → IsSoundBody b → length (content_within b) ≤ 1024
text_short (Regular bytes) e sound = absurd (cc e)
text_short (Directory slots) e sound = absurd (cc e)
text_short (Link text) e sound = sound

-- what is read of a link's blocks is its text
pub text_read : (t : TreeCells) (number : ℕ) (o : Object) (i : Inode) (text : List ℕ)
    → place t.tree number ≡ Some o → i ≡ inode_of t.tree number o → i.kind ≡ kind.Link
    → ((bytes : List ℕ) → HoldsBytes t.cells number bytes → length bytes ≡ i.size
    → text ≡ take 1024 (drop 0 bytes))
    → Some text ≡ text_of_link o.body
text_read t number o i text at is is_link read =
    let link : kind_of o.body ≡ kind.Link = kind_stored t.tree number o i is ∙ is_link in
    let whole : text ≡ take 1024 (content_within o.body) =
    read (content_within o.body) (holds_content t number o at)
    (text_size o.body link ∙ size_stored t.tree number o i is) in
    let sound = subst IsSoundObject at (t.sound.objects number) in
    ap Some (whole ∙ take_all 1024 (content_within o.body) (text_short o.body link sound.1))
    ∙ text_content o.body link

-- ---- objects

-- the slots of an object are told
pub slots_told : (t : TreeCells) (told : Option Cells) (number : ℕ) (o : Object) (i : Inode)
    → told ≡ Some t.cells → place t.tree number ≡ Some o → i ≡ inode_of t.tree number o
    → TellsSlots told number i.slots (slots_within o.body)
slots_told t told number o i are at is = record {
  cells = t.cells;
  are = are;
  holds = subst (HoldsSlots t.cells number) (ap slots_of at)
      (trees_hold_slots t.cells t.tree t.stamp number t.stand);
  count = sym (ap (λ (j : Inode). j.slots) is);
}

abbrev the_listed : Attr → List ListedSlot → List ListedBlock → Option (List ℕ) → Listed
the_listed attr slots blocks text = record {
  attr = attr;
  slots = slots;
  blocks = blocks;
  text = text;
}

-- an object's attributes and parts are what is listed of it
pub listed_by : (tree : Tree) (number : ℕ) (o : Object) (i : Inode) (attr : Attr)
    (slots : List ListedSlot) (blocks : List ListedBlock) (text : Option (List ℕ))
    → i ≡ inode_of tree number o → attr ≡ attr_by number i
    → slots ≡ slots_listed (slots_within o.body) → blocks ≡ blocks_listed (bytes_of_file o.body)
    → text ≡ text_of_link o.body
    → the_listed attr slots blocks text ≡ listed tree number o
unfolding listed
listed_by tree number o i attr slots blocks text is a s b x =
    let those : Attr = attr_by number (inode_of tree number o) in
    let used : List ListedSlot = slots_listed (slots_within o.body) in
    let filled : List ListedBlock = blocks_listed (bytes_of_file o.body) in
    ap (λ (y : Attr). the_listed y slots blocks text) (a ∙ ap (attr_by number) is)
    ∙ ap (λ (y : List ListedSlot). the_listed those y blocks text) s
    ∙ ap (λ (y : List ListedBlock). the_listed those used y text) b
    ∙ ap (λ (y : Option (List ℕ)). the_listed those used filled y) x

placed_none : (tree : Tree) (number : ℕ) (x : Option Object) → None ≡ inode_of_some tree number x
    → [] ≡ object_listed tree number x
placed_none tree number None e = refl
placed_none tree number (Some o) e = absurd (cc e)

-- nothing is listed where no object lives
pub none_listed : (tree : Tree) (number : ℕ) (objects : List Listed) (i : Option Inode)
    → i ≡ None → i ≡ inode_placed tree number
    → objects ≡ objects ++ object_listed tree number (place tree number)
unfolding inode_placed
none_listed tree number objects i none is =
    sym (append-nil objects)
    ∙ ap (λ (xs : List Listed). objects ++ xs)
    (placed_none tree number (place tree number) (sym none ∙ is))

placed_some : (tree : Tree) (number : ℕ) (x : Option Object) (i : Inode)
    → Some i ≡ inode_of_some tree number x
    → (o : Object) × (x ≡ Some o) × (i ≡ inode_of tree number o)
placed_some tree number None i e = absurd (cc e)
placed_some tree number (Some o) i e = (o, refl, cc)

-- an object where one lives
pub some_listed : (tree : Tree) (number : ℕ) (objects new : List Listed) (l : Listed)
    (i : Option Inode) (inode : Inode) → i ≡ Some inode → i ≡ inode_placed tree number
    → ((o : Object) → place tree number ≡ Some o → inode ≡ inode_of tree number o
    → l ≡ listed tree number o)
    → new ≡ objects ++ l ∷ []
    → new ≡ objects ++ object_listed tree number (place tree number)
unfolding inode_placed
some_listed tree number objects new l i inode some is lists pushed =
    let there = placed_some tree number (place tree number) inode (sym some ∙ is) in
    pushed
    ∙ ap (λ (y : Listed). objects ++ y ∷ []) (lists there.0 there.1 there.2)
    ∙ ap (λ (x : Option Object). objects ++ object_listed tree number x) (sym there.1)

-- ---- the numbers of objects

-- no object has the number 0
pub none_at_0 : (t : TreeCells) (objects : List Listed) → objects ≡ []
    → objects ≡ of_each_below 1 (λ n. object_listed t.tree n (place t.tree n))
unfolding of_each_below
none_at_0 t objects none =
    none ∙ ap (object_listed t.tree 0) (sym t.sound.nothing_at_0)
    ∙ sym (of_one_more (λ n. object_listed t.tree n (place t.tree n)) 0)

-- the root has a number
pub some_numbers : (t : TreeCells) → 1 < length t.tree
some_numbers t = elim (cases_lt 1 (length t.tree)) [
  | inl lt ↦ lt
  | inr le ↦
      let none : place t.tree 1 ≡ None = get_or_past t.tree 1 None le in
      let root = t.sound.root in
      absurd (cc (ap is_directory_at none))
]
