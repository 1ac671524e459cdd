-- The listing of a tree: its live objects by number, each with its attributes and its parts.
use Rattle.std.specs.Prelude.{ℕ, Bool, ◌==◌, List, [], ◌∷◌, length, slice_index_or, Option, Some, None, if◌then◌else◌}
use Rattle.std.specs.List.{flat_map, list_all, range_with_len}
use Rattle.file_tree.specs.declared.object.Slot.{Slot}
use Rattle.file_tree.specs.declared.object.Body.{Body}
use Rattle.file_tree.specs.declared.object.Body.TheVariants as body
use Rattle.file_tree.specs.declared.object.Object.{Object}
use Rattle.file_tree.specs.Tree.{Tree, Slots, place, attr_of, blocks_of, slots_within}
use Rattle.harp_cells.specs.CellsOfTree.{block_of}
use Rattle.tree_listing.specs.declared.listing.Listed.{Listed}
use Rattle.tree_listing.specs.declared.listing.ListedBlock.{ListedBlock}
use Rattle.tree_listing.specs.declared.listing.ListedSlot.{ListedSlot}

-- what each number below one gives, in the order of the numbers
unfoldable pub of_each_below : {X : Type 0} → ℕ → (ℕ → List X) → List X
of_each_below n f = flat_map f (range_with_len 0 n)

-- ---- the parts of an object

-- a slot at its place, where it is used
abbrev pub slot_listed : ℕ → Option Slot → List ListedSlot
slot_listed i None = []
slot_listed i (Some s) = record { slot = i; object = s.number; name = s.name } ∷ []

-- the used slots of a directory
unfoldable pub slots_listed : Slots → List ListedSlot
slots_listed slots =
    of_each_below (length slots) (λ i. slot_listed i (slice_index_or slots i None))

-- no byte but 0
unfoldable pub is_zeros : List ℕ → Bool
is_zeros bytes = list_all (λ b. b == 0) bytes

-- a block at its place, where it has another byte than 0
abbrev pub block_listed : ℕ → List ℕ → List ListedBlock
block_listed i bytes = if is_zeros bytes then [] else record { block = i; bytes = bytes } ∷ []

-- the blocks of a file with another byte than 0; the last one goes up to the file's end
unfoldable pub blocks_listed : List ℕ → List ListedBlock
blocks_listed bytes =
    of_each_below (blocks_of (length bytes)) (λ i. block_listed i (block_of bytes i))

-- the bytes of a file, none of what isn't one
abbrev pub bytes_of_file : Body → List ℕ
bytes_of_file (body.Regular bytes) = bytes
bytes_of_file (body.Directory slots) = []
bytes_of_file (body.Link text) = []

-- the text of a link
abbrev pub text_of_link : Body → Option (List ℕ)
text_of_link (body.Regular bytes) = None
text_of_link (body.Directory slots) = None
text_of_link (body.Link text) = Some text

-- ---- objects

-- an object and its parts
unfoldable pub listed : Tree → ℕ → Object → Listed
listed tree number o = record {
  attr = attr_of tree number o;
  slots = slots_listed (slots_within o.body);
  blocks = blocks_listed (bytes_of_file o.body);
  text = text_of_link o.body;
}

-- what lives at a number
abbrev pub object_listed : Tree → ℕ → Option Object → List Listed
object_listed tree number None = []
object_listed tree number (Some o) = listed tree number o ∷ []

-- THE LISTING OF A TREE: its live objects, by number
unfoldable pub tree_listed : Tree → List Listed
tree_listed tree =
    of_each_below (length tree) (λ number. object_listed tree number (place tree number))
