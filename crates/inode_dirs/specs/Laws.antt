-- Between the cells of a tree and the slots and parents that they hold.
use Rattle.std.specs.Prelude.{◌≡◌, ◌↔◌, ℕ, ◌+◌, ◌<◌, ◌^◌, min, max, true, false, List, [], ◌∷◌, length, slice_index_or, slice_set, Option, Some, None, Ok}
use Rattle.file_tree.specs.declared.object.Slot.{Slot}
use Rattle.file_tree.specs.Tree.{Tree, Slots, place, slots_of, entry, free_from, with_entry, is_directory_at, parent_of}
use Rattle.file_tree.specs.Tries.{directory}
use Rattle.file_tree.specs.Outcome.{entries_of, page_of, has_no_entry}
use Rattle.file_tree.specs.Rename.{is_above}
use Rattle.file_tree.specs.Within.{IsWithinLimits}
use Rattle.file_tree.specs.Sound.{has_name, IsSound}
use Rattle.harp_cells.specs.declared.value.Inode.{Inode}
use Rattle.harp_cells.specs.declared.cell.Cell.TheVariants as cell
use Rattle.harp_cells.specs.declared.value.Value.TheVariants as value
use Rattle.harp_cells.specs.declared.change.Change.{Change}
use Rattle.harp_cells.specs.declared.change.Change.TheVariants as change
use Rattle.harp_cells.specs.Effect.{Cells, after}
use Rattle.harp_cells.specs.CellsOfTree.{slot_value, StandForSame, StandForTree}
use Rattle.inode_dirs.specs.Slots.{HoldsSlots, TellsSlots, changes_slot_of}
use Rattle.inode_dirs.specs.Parents.{HoldsParents, TellsParents, IsBelow}
use Rattle.inode_dirs.specs.Pages.{entries_under}

-- ---- the cells of a tree

-- a directory's slots are those of its place
abbrev pub SlotsArePlaced : Type 0
SlotsArePlaced = (tree : Tree) (dir : ℕ) (slots : Slots) → directory tree dir ≡ Ok slots
    → slots_of (place tree dir) ≡ slots

-- cells that stand for a tree hold the slots of each object
abbrev pub TreesHoldSlots : Type 0
TreesHoldSlots = (cells : Cells) (tree : Tree) (stamp dir : ℕ) → StandForTree cells tree stamp
    → HoldsSlots cells dir (slots_of (place tree dir))

-- and where cells hold the slots of an object, each of these cells stands for its slot
abbrev pub HeldSlotsStand : Type 0
HeldSlotsStand = (cells : Cells) (tree : Tree) (dir slot : ℕ)
    → HoldsSlots cells dir (slots_of (place tree dir))
    → StandForSame tree (cell.Slot dir slot) (cells (cell.Slot dir slot))
    (slot_value (slice_index_or (slots_of (place tree dir)) slot None))

-- a directory without an entry has no cell of a slot
abbrev pub EmptyHoldsNone : Type 0
EmptyHoldsNone = (cells : Cells) (dir : ℕ) (slots : Slots) → has_no_entry slots ≡ true
    → HoldsSlots cells dir slots
    → HoldsSlots cells dir []

-- cells that stand for a tree tell the slots of each directory
abbrev pub TreesTellSlots : Type 0
TreesTellSlots = (told : Option Cells) (cells : Cells) (tree : Tree) (stamp dir : ℕ) (slots : Slots)
    → told ≡ Some cells → StandForTree cells tree stamp → directory tree dir ≡ Ok slots
    → TellsSlots told dir (length slots) slots

-- cells that stand for a tree whose root is a directory hold its parents
abbrev pub TreesHoldParents : Type 0
TreesHoldParents = (cells : Cells) (tree : Tree) (stamp : ℕ) → is_directory_at (place tree 1) ≡ true
    → StandForTree cells tree stamp → HoldsParents cells tree

-- those that stand for a sound tree tell them
abbrev pub TreesTellParents : Type 0
TreesTellParents = (told : Option Cells) (cells : Cells) (tree : Tree) (stamp : ℕ)
    → told ≡ Some cells → IsSound tree
    → StandForTree cells tree stamp → TellsParents told tree

-- a directory's parent that is stored is the computed one
abbrev pub StoredParentsAreComputed : Type 0
StoredParentsAreComputed = (cells : Cells) (tree : Tree) (stamp number : ℕ) (inode : Inode)
    → StandForTree cells tree stamp
    → cells (cell.Object number) ≡ Some (value.Object inode)
    → is_directory_at (place tree number) ≡ true
    → inode.parent ≡ parent_of tree number

-- ---- what the definitions of a tree say of slots and parents

-- the cookies of a directory's slots fit 32 bits
abbrev pub CookiesFit : Type 0
CookiesFit = (tree : Tree) (dir : ℕ) → IsWithinLimits tree
    → length (slots_of (place tree dir)) + 2 < 2 ^ 32

-- the entries of a directory are those under its parent
abbrev pub EntriesAreUnderParent : Type 0
EntriesAreUnderParent = (tree : Tree) (dir : ℕ) (slots : Slots)
    → entries_of tree dir slots ≡ entries_under dir (parent_of tree dir) slots

-- a page of no bytes behind `..` is the last one exactly where the directory has no entry
abbrev pub EmptyIsLast : Type 0
EmptyIsLast = (dir parent : ℕ) (slots : Slots)
    → (page_of 2 0 (entries_under dir parent slots)).1 ≡ has_no_entry slots

-- no entry has a name exactly where no slot has it
abbrev pub NoneIsNamed : Type 0
NoneIsNamed = (slots : Slots) (name : List ℕ)
    → entry slots name ≡ None ↔ ((slot : ℕ)
    → has_name name (slice_index_or slots slot None) ≡ false)

-- an entry's slot has the name and names the object
abbrev pub FoundIsNamed : Type 0
FoundIsNamed = (slots : Slots) (name : List ℕ) (x : ℕ × ℕ) → entry slots name ≡ Some x
    → (x.0 < length slots) × (slice_index_or slots x.0 None
    ≡ Some (record { name = name; number = x.1 }))

-- so many slots has a directory with a new entry
abbrev pub EntryGrows : Type 0
EntryGrows = (slots : Slots) (s : Slot)
    → length (with_entry slots s) ≡ max (length slots) (free_from 0 slots + 1)

-- the first free slot after one was freed
abbrev pub FreedIsFree : Type 0
FreedIsFree = (slots : Slots) (i : ℕ) → i < length slots
    → free_from 0 (slice_set slots i None) ≡ min i (free_from 0 slots)

-- in a sound tree, as many levels as there are objects are enough on the way up from a directory
abbrev pub AboveIsBelow : Type 0
AboveIsBelow = (tree : Tree) (top dir : ℕ) → IsSound tree → is_directory_at (place tree dir) ≡ true
    → is_above (length tree) tree top dir ≡ true ↔ IsBelow tree dir top

-- ---- changes of one cell

-- a new entry goes into the first free slot
abbrev pub EntersFirstFree : Type 0
EntersFirstFree = (cells : Cells) (dir : ℕ) (slots : Slots) (s : Slot) → HoldsSlots cells dir slots
    → HoldsSlots (after (change.Put (cell.Slot dir (free_from 0 slots)) (value.Slot s.number s.name)
    ∷ []) cells) dir
    (with_entry slots s)

-- a slot's entry is replaced
abbrev pub ReplacesSlot : Type 0
ReplacesSlot = (cells : Cells) (dir i : ℕ) (slots : Slots) (s : Slot) → i < length slots
    → HoldsSlots cells dir slots
    → HoldsSlots (after (change.Put (cell.Slot dir i) (value.Slot s.number s.name) ∷ []) cells) dir
    (slice_set slots i (Some s))

-- a slot is freed
abbrev pub FreesSlot : Type 0
FreesSlot = (cells : Cells) (dir i : ℕ) (slots : Slots) → HoldsSlots cells dir slots
    → HoldsSlots (after (change.Erase (cell.Slot dir i) ∷ []) cells) dir (slice_set slots i None)

-- a change of another cell than a directory's slots leaves them
abbrev pub KeepsSlots : Type 0
KeepsSlots = (cells : Cells) (dir : ℕ) (slots : Slots) (c : Change) → changes_slot_of dir c ≡ false
    → HoldsSlots cells dir slots → HoldsSlots (after (c ∷ []) cells) dir slots
