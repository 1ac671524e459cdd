-- The trees that can be read over a log and a store.
use Rattle.std.specs.Prelude.{◌≡◌, ℕ, ◌+◌, ◌≤◌, true, List, [], ◌∷◌, ◌++◌, Option}
use Rattle.event_record.specs.declared.record.RecordFields.{RecordFields}
use Rattle.file_tree.specs.Book.{Entry}
use Rattle.harp_types.specs.Update.{is_update}
use Rattle.harp_store.specs.Disk.{Moments}
use Rattle.tree_log.specs.Reading.{HoldsTree, IsNextRecord}
use Rattle.volatile_log.specs.Log.{LogValue, top}

-- whatever tree could be read before can still be read, over the same store
abbrev pub KeepsTree : LogValue → LogValue → Type 0
KeepsTree old new = (list : List Entry) (upto : ℕ) (told : Option Moments)
    → HoldsTree list upto old told → HoldsTree list upto new told

-- where a record is the next one of its list, the new log is of the list with its entry; where its
-- index isn't the next one, of the same list
pub record KeepsTreeOfNext (r : RecordFields) (old new : LogValue) : Type 0 where
  pub next : (list : List Entry) (upto : ℕ) (told : Option Moments) (e : Entry) → upto ≤ top old
      → r.index ≡ top old + 1 → IsNextRecord list e r → is_update e.call ≡ true
      → HoldsTree list upto old told → HoldsTree (list ++ e ∷ []) upto new told
  pub other : (r.index ≡ top old + 1 → ⊥) → KeepsTree old new
