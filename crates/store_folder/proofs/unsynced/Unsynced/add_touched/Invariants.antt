use Rattle.std.proofs.Common.{ℕ}
use Rattle.std.specs.Prelude.{Contains}
use Rattle.harp_cells.specs.declared.cell.Cell.{Cell}
use Rattle.store_folder.proofs.CoverLaws.{Covered}
use Rattle.store_folder.proofs.unsynced.Unsynced.add_touched.Given as goal

abbrev pub invariant-loop-cell : goal.invariant-loop-cell
invariant-loop-cell l = record {
  kept : (c : Cell) → Contains l.initial.cells.items c → Contains l.cells.items c;
  covered : Covered (λ (e : (ℕ × ℕ × ℕ) × Cell). Contains l.cells.items e.1)
      l.initial.cell-iterator l.cell-iterator;
}
