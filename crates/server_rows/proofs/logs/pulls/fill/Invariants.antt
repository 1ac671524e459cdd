use Rattle.std.proofs.Common.{◌≡◌}
use Rattle.server_rows.proofs.logs.pulls.fill.Given as goal

-- the list is for the same records
abbrev pub invariant-filling : goal.invariant-filling
invariant-filling l = record {
  first : l.staged.first ≡ l.initial.staged.first;
  start : l.staged.start ≡ l.initial.staged.start;
}
