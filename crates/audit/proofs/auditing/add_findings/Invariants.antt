use Rattle.std.proofs.Common.{◌≡◌, ◌++◌, take}
use Rattle.std.specs.List.{flat_map}
use Rattle.audit.proofs.auditing.add_findings.Given as goal

abbrev pub invariant-loop-part : goal.invariant-loop-part
invariant-loop-part l =
    l.found.items
    ≡ l.fn.found.items ++ flat_map (λ part. part.items) (take l.part-index l.parts)
