use Rattle.std.proofs.Common.{◌≡◌, ◌≤◌, drop, max, take}
use Rattle.std.specs.List.{flat_map}
use Rattle.audit.specs.Flaws.{finding_at}
use Rattle.audit.proofs.auditing.findings_in.Given as goal

abbrev pub invariant-loop-at : goal.invariant-loop-at
invariant-loop-at l = record {
  from : l.fn.stretch.from ≤ l.at;
  most : l.at ≤ max l.fn.stretch.from l.at-end;
  found : l.found.items
      ≡ flat_map (finding_at l.objects) (drop l.fn.stretch.from (take l.at l.objects));
}
