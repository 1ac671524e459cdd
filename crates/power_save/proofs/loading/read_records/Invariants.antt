use Rattle.std.proofs.Common.{◌≡◌, ◌≤◌, ◌+◌, ◌-◌, length, Some}
use Rattle.harp_cells.specs.Effect.{Cells}
use Rattle.harp_store.specs.Disk.{cells_told}
use Rattle.power_save.specs.Saved.{HoldRecords}
use Rattle.power_save.proofs.loading.read_records.Given as goal
use Rattle.volatile_log.specs.Log.{AreNumberedAfter}

-- the records so far are read
abbrev pub invariant-loop-index : goal.invariant-loop-index
invariant-loop-index g l = record {
  to : l.index ≤ l.top;
  long : l.base + length l.records.items ≡ l.index;
  order : AreNumberedAfter l.base l.records.items;
  held : (cells : Cells) → cells_told (g.D.Store.told l.initial.store) ≡ Some cells
      → HoldRecords l.ring cells l.base l.records.items;
  kept : g.D.Store.told l.store ≡ g.D.Store.told l.initial.store;
  count : g.D.Store.faults l.initial.store ≤ g.D.Store.faults l.store;
}

abbrev pub decreases-loop-index : goal.decreases-loop-index
decreases-loop-index g l = l.top - l.index
