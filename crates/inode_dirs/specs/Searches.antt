-- What a search for a new entry comes to.
use Rattle.std.specs.Prelude.{◌≡◌, ℕ, List, Some, None}
use Rattle.file_tree.specs.Tree.{Slots, entry, free_from}
use Rattle.inode_dirs.specs.declared.entries.Sought.{Sought}
use Rattle.inode_dirs.specs.declared.entries.Sought.TheVariants as sought

-- the entry with the name among the slots, or else the first free slot, where none has it
abbrev pub IsSought : Slots → List ℕ → Sought → Type 0
IsSought held name (sought.Entry slot object) = entry held name ≡ Some (slot, object)
IsSought held name (sought.Free slot) = (entry held name ≡ None) × (slot ≡ free_from 0 held)

abbrev pub slot_sought : Sought → ℕ
slot_sought (sought.Entry slot object) = slot
slot_sought (sought.Free slot) = slot
