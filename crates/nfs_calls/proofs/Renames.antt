-- The steps of a rename.
use Rattle.std.proofs.Common.{◌≡◌, ℕ, ◌&&◌, Bool, true, false, List, length, Option, Ok, Err, Result, refl, subst}
use Rattle.std.specs.Prelude.{IfOk}
use Rattle.harp_types.specs.declared.attr.Time.{Time}
use Rattle.harp_types.specs.declared.call.Call.TheVariants as call
use Rattle.harp_types.specs.declared.cred.Cred.{Cred}
use Rattle.harp_types.specs.declared.reply.Status.TheVariants.{Perm}
use Rattle.file_tree.specs.Tree.{Tree, place, slots_of, slots_within, entry, is_directory_at}
use Rattle.file_tree.specs.Tries.{slots_in, is_dots, check_name}
use Rattle.file_tree.specs.Permissions.{searching, allowed}
use Rattle.file_tree.specs.Outcome.{Outcome}
use Rattle.file_tree.specs.Rename.{is_above, rename}
use Rattle.harp_cells.specs.declared.reads.CellFault.{CellFault}
use Rattle.harp_cells.specs.declared.value.Inode.{Inode}
use Rattle.harp_cells.specs.Effect.{Cells}
use Rattle.nfs_calls.specs.declared.updates.relocation.Relocation.{Relocation}
use Rattle.nfs_calls.specs.declared.updates.planned.Planned.{Planned}
use Rattle.nfs_calls.specs.declared.error.CallError.{CallError}
use Rattle.nfs_calls.specs.TreeCells.{IsInode, IsDirectory, object_at}
use Rattle.nfs_calls.specs.Gives.{Gives}
use Rattle.nfs_calls.specs.Plans.{plan_view, planned}
use Rattle.nfs_calls.specs.Moves.{moved_outcome, apart_outcome, found_outcome, IsMoving}
use Rattle.nfs_calls.proofs.Inodes.{live_is}
use Rattle.nfs_calls.proofs.Losses.{body_at}

pub directory_above : (r : Result Bool CellFault) (d above : Bool) → d ≡ true
    → IfOk r (λ b. b ≡ above) → IfOk r (λ b. b ≡ (d && above))
directory_above r d above e h = rw e h

pub above_refused : (cells : Cells) (tree : Tree) (dir : ℕ) (x : ℕ × ℕ) (to_dir : ℕ)
    (name to_name : List ℕ) (now : Time)
    → (is_directory_at (place tree x.1) && is_above (length tree) tree x.1 to_dir) ≡ true
    → planned cells tree (call.Rename dir name to_dir to_name)
    (apart_outcome tree dir x to_dir to_name now) ≡ Err Perm
above_refused cells tree dir x to_dir name to_name now e = rw e refl

moved_is : (tree : Tree) (dir : ℕ) (x : ℕ × ℕ) (to_dir : ℕ) (to_name : List ℕ)
    (target : Option (ℕ × ℕ)) (now : Time)
    → (is_directory_at (place tree x.1) && is_above (length tree) tree x.1 to_dir) ≡ false
    → entry (slots_of (place tree to_dir)) to_name ≡ target
    → moved_outcome tree dir x to_dir to_name target now
    ≡ apart_outcome tree dir x to_dir to_name now
moved_is tree dir x to_dir to_name target now apart e = rw (apart, e) refl

-- the move, by a copy of the new name
pub moved_gives : (cells : Cells) (tree : Tree) (m : Relocation) (name owned to_name : List ℕ)
    (now : Time) (target : Option (ℕ × ℕ)) (r : Result Planned CallError) → owned ≡ to_name
    → (IsMoving tree m name owned → entry (slots_of (place tree m.to_dir)) owned ≡ target
    → Gives plan_view r (planned cells tree (call.Rename m.dir name m.to_dir owned)
    (moved_outcome tree m.dir (m.slot, m.number) m.to_dir owned target now)))
    → IsMoving tree m name to_name → entry (slots_of (place tree m.to_dir)) to_name ≡ target
    → Gives plan_view r (planned cells tree (call.Rename m.dir name m.to_dir to_name)
    (apart_outcome tree m.dir (m.slot, m.number) m.to_dir to_name now))
moved_gives cells tree m name owned to_name now target r e h is found =
    let step =
    subst (λ (n : List ℕ). IsMoving tree m name n
    → entry (slots_of (place tree m.to_dir)) n ≡ target
    → Gives plan_view r (planned cells tree (call.Rename m.dir name m.to_dir n)
    (moved_outcome tree m.dir (m.slot, m.number) m.to_dir n target now))) e h is found in
    subst (λ (o : Outcome). Gives plan_view r
    (planned cells tree (call.Rename m.dir name m.to_dir to_name) o))
    (moved_is tree m.dir (m.slot, m.number) m.to_dir to_name target now is.apart found) step

-- a directory, by its kind
pub directory_from : (tree : Tree) (number : ℕ) (i : Inode) → IsInode tree number i
    → slots_in (object_at tree number).body ≡ Ok (slots_within (object_at tree number).body)
    → IsDirectory tree number i
directory_from tree number i is e = record { own = is; lists = rw is.at e }

-- a rename whose directories and names are right
pub rename_is : (tree : Tree) (cred : Cred) (dir : ℕ) (i : Inode) (name : List ℕ) (to_dir : ℕ)
    (j : Inode) (to_name : List ℕ) (now : Time) → IsDirectory tree dir i → IsDirectory tree to_dir j
    → allowed tree cred dir searching ≡ Ok tt → allowed tree cred to_dir searching ≡ Ok tt
    → is_dots name ≡ false → is_dots to_name ≡ false → check_name name ≡ Ok tt
    → check_name to_name ≡ Ok tt
    → found_outcome tree cred dir name to_dir to_name now
    ≡ rename tree cred dir name to_dir to_name now
unfolding rename
rename_is tree cred dir i name to_dir j to_name now is to searches to_searches dots to_dots checked
    to_checked =
    rw (
      live_is tree dir i is.own,
      live_is tree to_dir j to.own,
      body_at tree dir i is,
      body_at tree to_dir j to,
      searches,
      to_searches,
      dots,
      to_dots,
      checked,
      to_checked,
    ) refl
