-- What a store writes into its journal, and how the cells' files follow it.
use Rattle.std.specs.Prelude.{◌≡◌, ◌⊎◌, ℕ, ◌≤◌, List, [], ◌∷◌, ◌++◌, length, map, take, Contains, Option, Some, None, IsSome, codes}
use Rattle.harp_base.specs.Fields.{AllFit}
use Rattle.harp_cells.specs.declared.cell.Cell.{Cell}
use Rattle.harp_cells.specs.declared.value.Value.{Value}
use Rattle.harp_cells.specs.declared.change.Change.{Change}
use Rattle.harp_cells.specs.Effect.{key}
use Rattle.harp_cells.specs.ValueBytes.{value_bytes}
use Rattle.store_folder.specs.Files.{AppendsPart, FileStep, Replaced, Appended, Removed, SyncedFolder, Told, after_steps}
use Rattle.store_journal.specs.JournalFile.{entry_bytes}
use Rattle.store_folder.specs.Names.{cell_name, in_folder}
use Rattle.store_journal.specs.Waiting.{Adds, AddsPart, changes_in, waits}
use Rattle.store_folder.specs.declared.journal.Journal.{Journal}
use Rattle.store_journal.specs.declared.waiting.Waiting.{Waiting}

abbrev pub journal_path : List ℕ → List ℕ
journal_path folder = in_folder folder (codes "journal")

-- an entry behind the others
abbrev pub entry_steps : List ℕ → List Change → List FileStep
entry_steps folder changes = Appended (journal_path folder) (entry_bytes changes) ∷ []

-- a new journal of one entry, once the files that were brought up are there for sure
abbrev pub new_steps : List ℕ → List Change → List FileStep
new_steps folder changes =
    SyncedFolder folder ∷ Replaced (journal_path folder) (entry_bytes changes)
    ∷ SyncedFolder folder ∷ []

-- a first part of these steps
abbrev pub BeginsPart : List ℕ → List Change → Told → Told → Type 0
BeginsPart folder changes before after =
    (n : ℕ) × (after ≡ after_steps (take n (new_steps folder changes)) before)

-- AN ENTRY IS WRITTEN: nothing where there are no changes; behind whole entries, where the
-- journal's length is known; or a new journal has all that waits, and then the changes
abbrev pub Writes : List ℕ → List Change → Journal → Option ℕ → Told → Told → Type 0
Writes folder changes old end before after =
    ((changes ≡ []) × (end ≡ old.length) × (after ≡ before))
    ⊎ ((IsSome old.length × (after ≡ after_steps (entry_steps folder changes) before))
    ⊎ (after ≡ after_steps (new_steps folder (changes_in old.waiting ++ changes)) before))

-- a first part of it is written
abbrev pub WritesPart : List ℕ → List Change → Journal → Told → Told → Type 0
WritesPart folder changes old before after =
    (IsSome old.length × AppendsPart (journal_path folder) (entry_bytes changes) before after)
    ⊎ BeginsPart folder (changes_in old.waiting ++ changes) before after

-- an entry is written, and its changes wait
abbrev pub Journals : List ℕ → List Change → Journal → Journal → Told → Told → Type 0
Journals folder changes old new before after = Writes folder changes old new.length before after
    × Adds changes old.waiting new.waiting

-- behind an entry that may be torn none is written; or it is whole, and some of its changes wait
abbrev pub JournalsPart : List ℕ → List Change → Journal → Journal → Told → Told → Type 0
JournalsPart folder changes old new before after =
    ((new.length ≡ None) × (new.waiting ≡ old.waiting) × WritesPart folder changes old before after)
    ⊎ (Writes folder changes old new.length before after
    × AddsPart changes old.waiting new.waiting)

-- ---- the files of cells

-- a cell's file is replaced by the spelling of the cell's value, or removed where it is absent
abbrev pub cell_step : List ℕ → Cell → Option Value → FileStep
cell_step folder c None = Removed (in_folder folder (cell_name (key c)))
cell_step folder c (Some v) = Replaced (in_folder folder (cell_name (key c))) (value_bytes v)

-- a cell, and what was made of it
abbrev pub Made : Type 0
Made = Cell × Option Value

unfoldable pub cell_steps : List ℕ → List Made → List FileStep
cell_steps folder brought = map (λ b. cell_step folder b.0 b.1) brought

-- a cell waits as before, or its file was brought up to what waited
abbrev pub Settles : List Made → Waiting → Waiting → Cell → Type 0
Settles brought old new c = (waits new c ≡ waits old c)
    ⊎ ((waits new c ≡ None) × ((v : Option Value) × (waits old c ≡ Some v) × Contains brought (c, v)))

-- FILES OF CELLS ARE BROUGHT UP, at most so many, each to what waits for it
pub record BringsUp (most : ℕ) (folder : List ℕ) (old new : Waiting) (before after : Told) : Type 0 where
  pub brought : List Made
  pub few : length brought ≤ most
  pub waited : AllFit (λ b. waits old b.0 ≡ Some b.1) brought
  pub settled : (c : Cell) → Settles brought old new c
  pub written : after ≡ after_steps (cell_steps folder brought) before
