use Rattle.std.proofs.Common.{◌≡◌, ◌≤◌, ◌-◌, length}
use Rattle.harp_base.specs.Fields.{many_at}
use Rattle.harp_base.proofs.ListLaws.{after_fields}
use Rattle.harp_cells.specs.CellBytes.{change_at}
use Rattle.store_journal.proofs.journal_file.each_at.Given as goal

abbrev pub invariant-loop : goal.invariant-loop
invariant-loop l = record {
  within : l.at ≤ length l.bytes;
  step : many_at change_at l.count l.bytes l.fn.from
      ≡ after_fields l.changes.items (many_at change_at (l.count - l.counter) l.bytes l.at);
}
