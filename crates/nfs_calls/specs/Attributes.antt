-- What becomes of an object whose attributes are set.
use Rattle.std.specs.Prelude.{◌≡◌, ℕ, ◌==◌, List, [], Option, Some, None, Ok, if◌then◌else◌}
use Rattle.harp_types.specs.declared.attr.SetAttr.{SetAttr}
use Rattle.harp_types.specs.declared.attr.Time.{Time}
use Rattle.harp_types.specs.declared.reply.Reply.{Reply}
use Rattle.file_tree.specs.declared.object.Body.{Body}
use Rattle.file_tree.specs.Tree.{Tree, attr_at}
use Rattle.file_tree.specs.Tries.{◌>>=◌, Tried}
use Rattle.harp_types.specs.Limits.{field_left}
use Rattle.file_tree.specs.Outcome.{Outcome, given, given_mode, given_time, mtime_for_size, resized, change, with_fields}
use Rattle.harp_cells.specs.declared.change.Change.{Change}
use Rattle.harp_cells.specs.declared.value.Inode.{Inode}
use Rattle.harp_cells.specs.Effect.{Cells}
use Rattle.inode_blocks.specs.Changes.{cuts, kept_in}
use Rattle.cell_changes.specs.Table.{sets}
use Rattle.nfs_calls.specs.declared.updates.set_attr.Set.{Set}
use Rattle.nfs_calls.specs.declared.parts.totals.Totals.{Totals}
use Rattle.nfs_calls.specs.TreeCells.{attr_by, bytes_within, object_at}
use Rattle.nfs_calls.specs.Plans.{totals_of}

-- an object's attributes with the given ones set
unfoldable pub set_inode : Inode → SetAttr → Time → Inode
set_inode i a now = record i {
  mode = given_mode a.mode i.mode;
  uid = given a.uid i.uid;
  gid = given a.gid i.gid;
  size = given a.size i.size;
  atime = given_time a.atime i.atime;
  mtime = given_time a.mtime (mtime_for_size a.size i.mtime now);
  ctime = now;
}

-- the bytes of a body where a size is given
abbrev pub bytes_given : Body → ℕ → Option (List ℕ)
bytes_given body size = if size == field_left then None else Some (resized (bytes_within body) size)

-- the tree with an object's attributes set
abbrev pub set_tree : Tree → ℕ → SetAttr → Time → Tree
set_tree tree number a now =
    change tree number (with_fields a (bytes_given (object_at tree number).body a.size) now)

-- the changes that give a file of a size another one, where one is given
abbrev pub resizes_by : Cells → ℕ → ℕ → ℕ → List Change
resizes_by cells number size wanted =
    if wanted == field_left then [] else cuts number size wanted (kept_in cells number wanted)

-- what was computed where an object's attributes were set
pub record IsSet (cells : Cells) (old new : Tree) (number size : ℕ) (s : Set) : Type 0 where
  pub attr : attr_by number s.inode ≡ attr_at new number
  pub changes : s.changes.items ≡ sets cells old new number size
  pub totals : s.totals ≡ totals_of new

-- the changes of an outcome that sets an object's attributes
abbrev pub sets_planned : Cells → Tree → ℕ → ℕ → Outcome → Tried (Reply × List Change × Totals)
sets_planned cells tree number size outcome = do
  x ← outcome
  Ok (x.0, sets cells tree x.1 number size, totals_of x.1)
