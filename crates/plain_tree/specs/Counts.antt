-- What is counted of a tree beside its objects.
use Rattle.std.specs.Prelude.{◌≡◌, ℕ, ◌+◌, ◌*◌, ◌<◌, ◌≤◌, ◌==◌, true, List, [], length, slice_index_or, Option, Some, None, if◌then◌else◌}
use Rattle.harp_types.specs.Limits.{object_numbers, slot_size, tree_blocks}
use Rattle.file_tree.specs.declared.object.Slot.{Slot}
use Rattle.file_tree.specs.declared.object.Body.{Body}
use Rattle.file_tree.specs.declared.object.Body.TheVariants as body
use Rattle.file_tree.specs.declared.object.Object.{Object}
use Rattle.file_tree.specs.Tree.{Tree, Slots, place, slots_of, is_directory_at, names_it, names_in, names_of, blocks_of, blocks_at, used_blocks}

-- 1 where two numbers are one
abbrev pub one : ℕ → ℕ → ℕ
one number k = if number == k then 1 else 0

-- the bytes of a file
abbrev pub bytes_within : Body → List ℕ
bytes_within (body.Regular bytes) = bytes
bytes_within (body.Directory slots) = []
bytes_within (body.Link text) = []

abbrev pub bytes_of : Option Object → List ℕ
bytes_of None = []
bytes_of (Some o) = bytes_within o.body

-- 1 where a slot names a number
abbrev pub share : ℕ → Option Slot → ℕ
share number s = if names_it number s then 1 else 0

-- the blocks of a tree, and how many slots name each number
pub record AreCounts (tree : Tree) (used : ℕ) (names : List ℕ) : Type 0 where
  pub blocks : used ≡ used_blocks tree
  pub size : length names ≡ length tree
  pub at : (number : ℕ) → slice_index_or names number 0 ≡ names_of tree number

-- slots that a directory may get: they name a number once more than its own
pub record IsEntered (tree : Tree) (dir : ℕ) (slots : Slots) (number : ℕ) : Type 0 where
  pub directory : is_directory_at (place tree dir) ≡ true
  pub names : (k : ℕ) → names_in k slots ≡ names_in k (slots_of (place tree dir)) + one number k

-- a further object of a size has room, beside the new slots of its directory
abbrev pub HasRoomFor : Tree → ℕ → Slots → ℕ → Type 0
HasRoomFor tree dir slots size =
    (length tree < object_numbers)
    × (used_blocks tree + blocks_of size + blocks_of (slot_size * length slots)
    ≤ tree_blocks + blocks_at (place tree dir))
