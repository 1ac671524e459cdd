-- What an observed run goes through: the scene of the group, the observer, and what was shown to it.
use Rattle.std.specs.Prelude.{ℕ, List, [], length, Option}
use Rattle.file_tree.specs.Book.{Entry}
use Rattle.fuzzy_cells.specs.History.{cells_at}
use Rattle.group_trace.specs.Scene.{Scene, first_scene}
use Rattle.harp_cells.specs.declared.cell.Cell.{Cell}
use Rattle.harp_cells.specs.declared.value.Value.{Value}
use Rattle.observed_text.specs.declared.line.ShownNumbers.{ShownNumbers}
use Rattle.observed_text.specs.declared.line.ShownNumbers.TheVariants as numbers
use Rattle.observer.specs.declared.progress.Progress.{Progress}
use Rattle.observer.specs.Progress.{blind, taken_cell, taken_records}
use Rattle.record_changes.specs.Records.{history_of}
use Rattle.shown.specs.Rule.{CellAt, EntriesFrom, GoneTo, Outline}
use Rattle.shown.specs.declared.shown.Shown.{Shown}
use Rattle.shown.specs.declared.shown.Shown.TheVariants as shown

-- What a server showed, as far as it counts for how far an observer is: a cell, what it holds and
-- CP; from which index on there are records, and how many; or a base
pub data Showing : Type 0 where
  CellShown : Cell → Option Value → ℕ → Showing
  RecordsShown : ℕ → ℕ → Showing
  GoneShown : ℕ → Showing

abbrev pub showing_of : Shown → Showing
showing_of (shown.Cell c v cp) = CellShown c v cp
showing_of (shown.Records first records) = RecordsShown first (length records)
showing_of (shown.Gone base) = GoneShown base

-- what the numbers of the group tell, with what the cell holds after CP of these updates
abbrev pub filled : List Entry → Outline → Showing
filled updates (CellAt c cp) = CellShown c (cells_at (history_of updates) cp c) cp
filled updates (EntriesFrom first entries) = RecordsShown first (length entries)
filled updates (GoneTo base) = GoneShown base

-- what its line tells
abbrev pub numbers_of : Showing → ShownNumbers
numbers_of (CellShown c v cp) = numbers.Cell cp
numbers_of (RecordsShown first count) = numbers.Records first count
numbers_of (GoneShown base) = numbers.Gone base

-- how far an observer is that takes it
abbrev pub taken_by : Progress → Showing → Progress
taken_by o (CellShown c v cp) = taken_cell o.finished o.copy c v cp
taken_by o (RecordsShown first count) = taken_records o.finished o.copy first count
taken_by o (GoneShown base) = o

-- A scene of the group, how far the observer is, and what was shown, each under its place from 0
pub record ObservedScene : Type 0 where
  pub scene : Scene
  pub progress : Progress
  pub shown : List Showing

-- new disks, an observer without a copy, and nothing shown
abbrev pub first_observed : ObservedScene
first_observed = record { scene = first_scene; progress = blind; shown = [] }
