use Rattle.std.proofs.Common.{◌≤◌, length}
use Rattle.audit.specs.Stretches.{AreStretches}
use Rattle.audit.proofs.stretches.stretches_of.Given as goal

abbrev pub invariant-loop-before : goal.invariant-loop-before
invariant-loop-before l = record {
  within : l.from ≤ length l.objects;
  cut : AreStretches 0 l.from l.stretches.items;
}
