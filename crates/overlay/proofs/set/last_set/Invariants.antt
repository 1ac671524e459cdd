use Rattle.std.proofs.Common.{◌≡◌, ◌≤◌, Option}
use Rattle.harp_cells.specs.declared.value.Value.{Value}
use Rattle.harp_cells.specs.Effect.{changed}
use Rattle.std.specs.Prelude.{fold}
use Rattle.overlay.specs.Overlay.{changes_upto}
use Rattle.overlay.proofs.set.last_set.Given as goal

-- the records above leave the cell
abbrev pub invariant-loop-record : goal.invariant-loop-record
invariant-loop-record g l = record {
  low : l.below ≤ l.fn.upto;
  same : (held : Option Value)
      → fold (changed l.cell) held (changes_upto (g.L.ChangeLog.base l.log) (g.L.ChangeLog.records l.log) l.fn.upto)
      ≡ fold (changed l.cell) held (changes_upto (g.L.ChangeLog.base l.log) (g.L.ChangeLog.records l.log) l.below);
}

abbrev pub decreases-loop-record : goal.decreases-loop-record
decreases-loop-record g l = l.below
