use Rattle.std.proofs.Common.{◌≡◌, ◌++◌, drop}
use Rattle.harp_base.specs.Fields.{many_bytes, AllFit}
use Rattle.harp_cells.specs.CellBytes.{change_bytes, ChangeFits}
use Rattle.store_journal.proofs.journal_file.put_each.Given as goal

abbrev pub invariant-loop-change : goal.invariant-loop-change
invariant-loop-change l = record {
  value : l.out.items ++ many_bytes change_bytes (drop l.change-index l.changes)
      ≡ l.initial.out.items ++ many_bytes change_bytes l.changes;
  fits : AllFit ChangeFits (drop l.change-index l.changes) → AllFit ChangeFits l.changes;
}
