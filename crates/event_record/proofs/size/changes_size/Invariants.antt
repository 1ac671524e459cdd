use Rattle.std.proofs.Common.{◌≡◌, ◌+◌, ◌*◌, ◌≤◌, drop, length}
use Rattle.harp_base.specs.Fields.{many_bytes}
use Rattle.harp_cells.specs.CellBytes.{change_bytes}
use Rattle.event_record.proofs.size.changes_size.Given as goal

abbrev pub invariant-loop-change : goal.invariant-loop-change
invariant-loop-change l = record {
  value : l.size + length (many_bytes change_bytes (drop l.change-index l.changes))
      ≡ length (many_bytes change_bytes l.changes);
  bound : l.size ≤ 268435456 * l.change-index;
}
