use Rattle.std.proofs.Common.{◌≡◌, ℕ, length}
use Rattle.audit.specs.Entries.{AreWays}
use Rattle.audit.proofs.Steps.{AreDoubledTo}
use Rattle.audit.proofs.auditing.double.Given as goal

abbrev pub invariant-loop-at : goal.invariant-loop-at
invariant-loop-at l = record {
  long : length l.ways.items ≡ length l.fn.ways.items;
  ways : (steps : ℕ) → AreWays steps l.objects l.fn.ways.items
      → AreDoubledTo steps l.objects l.at l.ways.items;
}
