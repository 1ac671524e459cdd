-- What a sync writes.
use Rattle.std.specs.Prelude.{◌≡◌, ◌⊎◌, ℕ, true, ◌&&◌, ◌||◌, Bool, List, [], ◌∷◌, ◌++◌, Contains, length, Option, Some, None, codes, ◌==◌, if◌then◌else◌}
use Rattle.harp_cells.specs.declared.cell.Cell.{Cell}
use Rattle.harp_cells.specs.declared.value.Value.{Value}
use Rattle.harp_cells.specs.declared.change.Change.{Change}
use Rattle.harp_cells.specs.declared.change.Change.TheVariants as change
use Rattle.harp_cells.specs.Effect.{key}
use Rattle.harp_cells.specs.ValueBytes.{value_bytes}
use Rattle.harp_store.specs.Mark.{MarkFields}
use Rattle.store_folder.specs.Files.{FileStep, IsHeld, Replaced, SyncedFolder, Told, after_steps}
use Rattle.store_folder.specs.Journal.{BringsUp, Journals, JournalsPart, journal_path}
use Rattle.store_folder.specs.MarkFile.{IsMarkFile, mark_bytes}
use Rattle.store_folder.specs.Names.{cell_name, in_folder}
use Rattle.store_folder.specs.Unsynced.{Pending, is_cut, is_stored, is_touched, made_of}
use Rattle.store_journal.specs.Waiting.{NothingWaits, TakesUp}
use Rattle.store_folder.specs.declared.journal.Journal.{Journal}

-- how many files of cells are brought up at a sync
abbrev pub at_once : ℕ
at_once = 32

-- what was made of a cell, as a change
abbrev pub made_change : Cell → Option (Option Value) → List Change
made_change c None = []
made_change c (Some None) = change.Erase c ∷ []
made_change c (Some (Some v)) = change.Put c v ∷ []

-- what was made of cells, one after the other
unfoldable pub made_changes : Pending → List Cell → List Change
made_changes p [] = []
made_changes p (c ∷ cells) = made_change c (made_of p c) ++ made_changes p cells

-- a cell that isn't synced: it was put or erased, or it is a block that the disk has from a cut on
abbrev pub is_unsynced : Pending → Cell → Bool
is_unsynced p c = is_touched p.touched c || (is_cut p.cuts c && is_stored p.blocks c)

-- each cell that isn't synced is among these
abbrev pub AreAll : Pending → List Cell → Type 0
AreAll p cells = (c : Cell) → is_unsynced p c ≡ true → Contains cells c

-- WHAT IS UNSYNCED as changes: what was made of each cell that isn't synced
abbrev pub AreUnsynced : Pending → List Change → Type 0
AreUnsynced p changes = (cells : List Cell) × AreAll p cells × (changes ≡ made_changes p cells)

-- the disk has no block less, but for those that these changes erase
abbrev pub KeepsBlocks : List Change → Pending → Pending → Type 0
KeepsBlocks changes old new = (c : Cell) → is_stored old.blocks c ≡ true
    → (is_stored new.blocks c ≡ true) ⊎ Contains changes (change.Erase c)

-- A SYNC WRITES an entry of all that is unsynced, and then brings up some files of cells
pub record Syncs (folder : List ℕ) (old new : Pending) (was now : Journal) (before after : Told) : Type 0 where
  pub changes : List Change
  pub unsynced : AreUnsynced old changes
  pub mid : Journal
  pub told : Told
  pub journaled : Journals folder changes was mid before told
  pub length_is : now.length ≡ mid.length
  pub brought : BringsUp at_once folder mid.waiting now.waiting told after
  pub blocks : KeepsBlocks changes old new

-- one that fails did nothing, wrote such an entry in part, or wrote it and brought up some files
abbrev pub SyncsPart : List ℕ → Pending → Pending → Journal → Journal → Told → Told → Type 0
SyncsPart folder old new was now before after =
    ((new.blocks ≡ old.blocks) × (now ≡ was) × (after ≡ before))
    ⊎ (((changes : List Change) × AreUnsynced old changes × (new.blocks ≡ old.blocks)
    × JournalsPart folder changes was now before after)
    ⊎ Syncs folder old new was now before after)

-- what writing a mark does
abbrev pub mark_path : List ℕ → List ℕ
mark_path folder = in_folder folder (codes "mark")

abbrev pub mark_steps : List ℕ → MarkFields → List FileStep
mark_steps folder m = Replaced (mark_path folder) (mark_bytes m) ∷ SyncedFolder folder ∷ []

-- ---- a store that has a folder, or none

-- without a folder no sync succeeds
abbrev pub SyncsAll : Option (List ℕ) → Pending → Pending → Journal → Journal → Told → Told → Type 0
SyncsAll None old new was now before after = ⊥
SyncsAll (Some folder) old new was now before after = Syncs folder old new was now before after

abbrev pub SyncsSome : Option (List ℕ) → Pending → Pending → Journal → Journal → Told → Told → Type 0
SyncsSome None old new was now before after = (new ≡ old) × (now ≡ was) × (after ≡ before)
SyncsSome (Some folder) old new was now before after =
    SyncsPart folder old new was now before after

abbrev pub WritesMark : Option (List ℕ) → MarkFields → Told → Told → Type 0
WritesMark None m before after = ⊥
WritesMark (Some folder) m before after = after ≡ after_steps (mark_steps folder m) before

-- one that fails did nothing, or replaced the mark and didn't sync the folder
abbrev pub WritesMarkPart : Option (List ℕ) → MarkFields → Told → Told → Type 0
WritesMarkPart None m before after = after ≡ before
WritesMarkPart (Some folder) m before after = (after ≡ before)
    ⊎ (after ≡ after_steps (Replaced (mark_path folder) (mark_bytes m) ∷ []) before)

-- ---- what is read of a folder

-- the value that a cell's file spells, where there is one
abbrev pub SpellsCell : Option (List ℕ) → Option Value → Type 0
SpellsCell None value = value ≡ None
SpellsCell (Some bytes) value = (v : Value) × (value ≡ Some v) × (bytes ≡ value_bytes v)

abbrev pub SpellsMark : Option (List ℕ) → Option MarkFields → Type 0
SpellsMark None mark = mark ≡ None
SpellsMark (Some bytes) mark = (m : MarkFields) × (mark ≡ Some m) × IsMarkFile bytes m

-- the value of a cell's file, as it is told
abbrev pub ReadsCell : List ℕ → Told → Option Value → Type 0
ReadsCell path told value = (found : Option (List ℕ)) × IsHeld path told found × SpellsCell found value

abbrev pub ReadsMark : List ℕ → Told → Option MarkFields → Type 0
ReadsMark path told mark = (found : Option (List ℕ)) × IsHeld path told found × SpellsMark found mark

-- a journal as it is attached, where nothing waited before: what the file's whole entries have
-- waits. It is appended to only where it ends with such a one
abbrev pub JournalFrom : Option (List ℕ) → Journal → Journal → Type 0
JournalFrom None first j = j ≡ first
JournalFrom (Some bytes) first j = (end : ℕ) × TakesUp bytes end first.waiting j.waiting
    × (j.length ≡ (if end == length bytes then Some end else None))

abbrev pub IsJournalOf : Option (List ℕ) → Journal → Type 0
IsJournalOf found j = (first : Journal) × (first.length ≡ None) × NothingWaits first.waiting
    × JournalFrom found first j

-- THE FOLDER IS ATTACHED: it is synced, and its journal, as it is told, is the store's
abbrev pub Attaches : List ℕ → Option (List ℕ) → Journal → Told → Told → Type 0
Attaches path folder j before after =
    (folder ≡ Some path) × (after ≡ after_steps (SyncedFolder path ∷ []) before)
    × ((found : Option (List ℕ)) × IsHeld (journal_path path) after found × IsJournalOf found j)

-- the folder may have been synced
abbrev pub MaySync : List ℕ → Told → Told → Type 0
MaySync path before after = (after ≡ before) ⊎ (after ≡ after_steps (SyncedFolder path ∷ []) before)

-- no folder is attached, and nothing waits
abbrev pub Detaches : List ℕ → Option (List ℕ) → Journal → Told → Told → Type 0
Detaches path folder j before after =
    (folder ≡ None) × NothingWaits j.waiting × MaySync path before after

-- ---- what reads give

-- what is unsynced of a cell, and else what waits for it
abbrev pub made_over : Option (Option Value) → Option (Option Value) → Option (Option Value)
made_over None waiting = waiting
made_over (Some made) waiting = Some made

-- WHAT IS READ of a cell is what was made of it, and else what its file holds
abbrev pub ReadsHere : Option (Option Value) → Option (List ℕ) → Cell → Told → Option Value → Type 0
ReadsHere (Some made) folder c told value = value ≡ made
ReadsHere None None c told value = ⊥
ReadsHere None (Some folder) c told value =
    ReadsCell (in_folder folder (cell_name (key c))) told value

abbrev pub ReadsMarkHere : Option (List ℕ) → Told → Option MarkFields → Type 0
ReadsMarkHere None told mark = ⊥
ReadsMarkHere (Some folder) told mark = ReadsMark (mark_path folder) told mark
