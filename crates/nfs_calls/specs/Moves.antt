-- What changes where an entry moves, by the attributes that are stored.
use Rattle.std.specs.Prelude.{◌≡◌, ℕ, ◌-◌, Bool, false, ◌&&◌, ◌==◌, List, [], ◌∷◌, length, Option, Some, Ok, if◌then◌else◌}
use Rattle.harp_types.specs.declared.attr.Time.{Time}
use Rattle.harp_types.specs.declared.cred.Cred.{Cred}
use Rattle.harp_types.specs.declared.reply.Reply.TheVariants.{Done}
use Rattle.harp_types.specs.declared.reply.Status.{Status}
use Rattle.harp_types.specs.declared.reply.Status.TheVariants.{Perm, NoEnt, NotDir, IsDir}
use Rattle.file_tree.specs.Tree.{Tree, place, slots_of, entry, is_directory_at}
use Rattle.file_tree.specs.Tries.{◌>>=◌, refuse, some_or, entry_name}
use Rattle.file_tree.specs.Permissions.{writing, allowed}
use Rattle.file_tree.specs.Outcome.{Outcome}
use Rattle.file_tree.specs.Rename.{is_above, check_target, moved_to}
use Rattle.harp_cells.specs.declared.value.Inode.{Inode}
use Rattle.harp_cells.specs.declared.value.Value.TheVariants as value
use Rattle.harp_cells.specs.declared.cell.Cell.TheVariants as cell
use Rattle.harp_cells.specs.declared.change.Change.{Change}
use Rattle.harp_cells.specs.declared.change.Change.TheVariants as change
use Rattle.nfs_calls.specs.declared.updates.relocation.Relocation.{Relocation}
use Rattle.nfs_calls.specs.TreeCells.{IsInode, IsDirectory}
use Rattle.nfs_calls.specs.Entries.{is_directory_kind, link_of, relinked}

-- ---- changes

-- the old slot is freed, unless it is the new one, which gets the entry
abbrev pub slot_changes : Relocation → ℕ → List ℕ → List Change
slot_changes m to_slot to_name =
    if (m.dir == m.to_dir) && (m.slot == to_slot)
    then change.Put (cell.Slot m.to_dir to_slot) (value.Slot m.number to_name) ∷ []
    else change.Erase (cell.Slot m.dir m.slot)
    ∷ change.Put (cell.Slot m.to_dir to_slot) (value.Slot m.number to_name) ∷ []

-- the directory that the entry leaves, unless it is the one that it moves to
abbrev pub directory_changes : Relocation → Inode → Time → List Change
directory_changes m to now =
    if m.dir == m.to_dir then change.Put (cell.Object m.to_dir) (value.Object to) ∷ []
    else change.Put (cell.Object m.dir)
    (value.Object (relinked now (m.from.links - link_of m.moved.kind) m.from))
    ∷ change.Put (cell.Object m.to_dir) (value.Object to) ∷ []

-- the moved object: a directory gets another parent
abbrev pub moved_inode : Relocation → Time → Inode
moved_inode m now = record m.moved {
  parent = if is_directory_kind m.moved.kind then m.to_dir
      else m.moved.parent;
  ctime = now;
}

-- the links of the directory that the entry moves to, where it replaces an entry of its own kind
abbrev pub links_over : Relocation → ℕ
links_over m = if m.dir == m.to_dir then m.to.links - link_of m.moved.kind else m.to.links

-- ---- steps of a rename

-- the refusal of a target of another kind, by whether the moved object is a directory
abbrev pub kind_refusal : Bool → Status
kind_refusal from = if from then NotDir else IsDir

-- the target's refusals, and the move
abbrev pub moved_outcome : Tree → ℕ → ℕ × ℕ → ℕ → List ℕ → Option (ℕ × ℕ) → Time → Outcome
moved_outcome tree dir x to_dir to_name target now = do
  _ ← check_target tree x.1 target
  new ← moved_to tree dir x to_dir (slots_of (place tree to_dir)) to_name target now
  Ok (Done, new)

-- all after the entry was found
abbrev pub apart_outcome : Tree → ℕ → ℕ × ℕ → ℕ → List ℕ → Time → Outcome
apart_outcome tree dir x to_dir to_name now = do
  _ ← refuse Perm (is_directory_at (place tree x.1) && is_above (length tree) tree x.1 to_dir)
  moved_outcome tree dir x to_dir to_name (entry (slots_of (place tree to_dir)) to_name) now

-- all after the names were checked
abbrev pub found_outcome : Tree → Cred → ℕ → List ℕ → ℕ → List ℕ → Time → Outcome
found_outcome tree cred dir name to_dir to_name now = do
  x ← some_or NoEnt (entry (slots_of (place tree dir)) name)
  _ ← allowed tree cred dir writing
  _ ← allowed tree cred to_dir writing
  apart_outcome tree dir x to_dir to_name now

-- an entry that may move: both are directories, and the object isn't above the one that it moves to
pub record IsMoving (tree : Tree) (m : Relocation) (name to_name : List ℕ) : Type 0 where
  pub from : IsDirectory tree m.dir m.from
  pub to : IsDirectory tree m.to_dir m.to
  pub entry : entry (slots_of (place tree m.dir)) name ≡ Some (m.slot, m.number)
  pub moved : IsInode tree m.number m.moved
  pub right : entry_name to_name ≡ Ok tt
  pub apart : (is_directory_at (place tree m.number)
      && is_above (length tree) tree m.number m.to_dir) ≡ false
