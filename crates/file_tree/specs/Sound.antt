-- Sound trees: what holds of every tree that calls make from the first one.
use Rattle.std.specs.Prelude.{◌≡◌, ℕ, ◌<◌, ◌≤◌, ◌==◌, Bool, true, false, length, List, count_by, Option, Some, None, Ok, if◌then◌else◌}
use Rattle.std.specs.List.{All}
use Rattle.std.specs.Str.{bytes_eq}
use Rattle.harp_types.specs.Limits.{largest_file, longest_path}
use Rattle.file_tree.specs.declared.object.Slot.{Slot}
use Rattle.file_tree.specs.declared.object.Body.{Body}
use Rattle.file_tree.specs.declared.object.Body.TheVariants as body
use Rattle.file_tree.specs.declared.object.Object.{Object}
use Rattle.file_tree.specs.Tree.{Tree, Slots, place, names_of, is_directory_at}
use Rattle.file_tree.specs.Tries.{entry_name}
use Rattle.file_tree.specs.Rename.{is_above}
use Rattle.file_tree.specs.Within.{IsWithinLimits}

-- a free slot, or one with a name of 1 to 255 bytes, without a slash or a zero, and neither `.` nor
-- `..`
abbrev pub IsRightlyNamed : Option Slot → Type 0
IsRightlyNamed None = Unit {0}
IsRightlyNamed (Some s) = entry_name s.name ≡ Ok tt

abbrev pub has_name : List ℕ → Option Slot → Bool
has_name name None = false
has_name name (Some s) = bytes_eq s.name name

-- slots with right names, each of them once
pub record AreSound (slots : Slots) : Type 0 where
  pub names : All IsRightlyNamed slots
  pub once : (name : List ℕ) → count_by (has_name name) slots ≤ 1

abbrev pub IsSoundBody : Body → Type 0
IsSoundBody (body.Regular bytes) = length bytes ≤ largest_file
IsSoundBody (body.Directory slots) = AreSound slots
IsSoundBody (body.Link text) = length text ≤ longest_path

abbrev pub IsSoundObject : Option Object → Type 0
IsSoundObject None = Unit {0}
IsSoundObject (Some o) = (o.mode < 4096) × IsSoundBody o.body

-- the entries of an object: none of the root, one of another directory, one or more of a file or a
-- link
abbrev pub HasEntries : ℕ → Body → ℕ → Type 0
HasEntries number (body.Directory slots) entries = entries ≡ (if number == 1 then 0 else 1)
HasEntries number (body.Regular bytes) entries = 1 ≤ entries
HasEntries number (body.Link text) entries = 1 ≤ entries

-- as many entries name a number as its object has; none names one without an object
abbrev pub IsNamed : ℕ → Option Object → ℕ → Type 0
IsNamed number None entries = entries ≡ 0
IsNamed number (Some o) entries = HasEntries number o.body entries

-- a tree that calls can make: the limits hold, number 0 is free, the root is a directory, each
-- object is sound and has its entries, entries name live objects, and each directory reaches the
-- root going up
pub record IsSound (tree : Tree) : Type 0 where
  pub limits : IsWithinLimits tree
  pub nothing_at_0 : place tree 0 ≡ None
  pub root : is_directory_at (place tree 1) ≡ true
  pub objects : (number : ℕ) → IsSoundObject (place tree number)
  pub entries : (number : ℕ) → IsNamed number (place tree number) (names_of tree number)
  pub reaches : (number : ℕ) → is_directory_at (place tree number) ≡ true
      → is_above (length tree) tree 1 number ≡ true
