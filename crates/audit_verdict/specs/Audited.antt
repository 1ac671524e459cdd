-- What an audit of a disk looks at.
use Rattle.std.specs.Prelude.{◌≡◌, ◌≢◌, ◌⊎◌, ℕ, map, Option, Some, None}
use Rattle.fuzzy_cells.specs.History.{History}
use Rattle.harp_cells.specs.Effect.{Cells}
use Rattle.harp_cells.specs.declared.reads.CellFault.{CellFault}
use Rattle.harp_cells.specs.declared.reads.CellFault.TheVariants as cell
use Rattle.harp_store.specs.declared.store.StoreFault.{StoreFault}
use Rattle.harp_store.specs.declared.store.StoreFault.TheVariants as store
use Rattle.harp_store.specs.Mark.{MarkFields, SavedNumbers}
use Rattle.harp_types.specs.declared.state.Role.TheVariants as role
use Rattle.overlay.specs.Overlay.{cells_over}
use Rattle.power_save.specs.Saved.{HasNumbers, HoldRecords, IsNotSaved}
use Rattle.volatile_log.specs.Log.{IsLog, LogValue}

-- the changes of each record of a log
abbrev pub changes_of : LogValue → History
changes_of log = map (λ r. r.changes) log.records

-- a log is the saved one: it has the numbers of the mark, and its records stand in their cells
pub record IsSavedLog (cells : Cells) (mark : MarkFields) (log : LogValue) : Type 0 where
  pub numbers : HasNumbers log mark
  pub order : IsLog log
  pub records : (s : SavedNumbers) → mark.saved ≡ Some s
      → HoldRecords s.ring cells log.base log.records

-- the cells after the committed records of a log
abbrev pub committed_over : LogValue → Cells → Cells
committed_over log cells = cells_over log.base (changes_of log) log.cp cells

-- these are the cells after the committed records of the saved log, and so many updates
pub record AreCommitted (cells : Cells) (mark : MarkFields) (cp : ℕ) (held : Cells)
    : Type 0 where
  pub storer : mark.role ≢ role.Outside
  pub log : LogValue
  pub saved : IsSavedLog cells mark log
  pub cp_is : cp ≡ log.cp
  pub are : held ≡ committed_over log cells

-- WHAT IS AUDITED, of a disk with these cells: those that it has, where it has no mark, and with CP
-- 0; and else those after the committed records of its saved log
abbrev pub AreAudited : Cells → Option MarkFields → ℕ → Cells → Type 0
AreAudited cells None cp held = (cp ≡ 0) × (held ≡ cells)
AreAudited cells (Some mark) cp held = AreCommitted cells mark cp held

-- NOTHING IS, where its server is no storer of its view, or no whole log was saved
abbrev pub IsUnsaved : Cells → Option MarkFields → Type 0
IsUnsaved cells None = ⊥
IsUnsaved cells (Some mark) = (mark.role ≡ role.Outside) ⊎ IsNotSaved cells mark

-- ---- faults

-- what a fault of a cell is to a store
abbrev pub fault_of : CellFault → StoreFault
fault_of cell.StoreFailed = store.Failed
fault_of cell.NoMemory = store.NoMemory
