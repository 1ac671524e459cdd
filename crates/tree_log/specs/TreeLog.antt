-- A log, and the cells that a server keeps beside it.
use Rattle.std.specs.Prelude.{List, [], map}
use Rattle.cell_cache.specs.Entries.{Entries}
use Rattle.event_record.specs.declared.record.RecordFields.{RecordFields as Record}
use Rattle.fuzzy_cells.specs.History.{History}
use Rattle.volatile_log.specs.Log.{LogValue}

-- a log, and cells of the store with what they hold
pub record TreeLogValue : Type 0 where
  pub log : LogValue
  pub cached : Entries

-- a log beside no cell
abbrev pub bare : LogValue → TreeLogValue
bare log = record { log = log; cached = [] }

-- the changes of each record
abbrev pub changes_in : List Record → History
changes_in records = map (λ r. r.changes) records
