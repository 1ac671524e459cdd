-- The cells after the committed records of a log.
use Rattle.std.specs.Prelude.{Option}
use Rattle.harp_cells.specs.Effect.{Cells}
use Rattle.overlay.specs.Overlay.{told_over}
use Rattle.volatile_log.specs.Log.{LogValue}
use Rattle.tree_log.specs.TreeLog.{changes_in}

-- THE CELLS AT CP: those of a store, with the changes of the records up to CP made over them, where
-- the store tells its cells
abbrev pub committed_over : LogValue → Option Cells → Option Cells
committed_over log told = told_over log.base (changes_in log.records) log.cp told
