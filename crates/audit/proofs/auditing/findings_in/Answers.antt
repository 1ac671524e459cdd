use Rattle.std.proofs.Common.{rules, arith}
use Rattle.audit.proofs.Cuts.{finding_next, none_found, stretch_done}
use Rattle.audit.proofs.auditing.findings_in.Goals as goal

pub loop-at-init : goal.loop-at-init
loop-at-init c = record {
  from = omega arith;
  most = omega arith;
  found = none_found c.args.objects.now c.args.stretch.from c.new-found.result.items
      c.new-found.ensures.items;
}

pub loop-at-preserved : goal.loop-at-preserved
loop-at-preserved c = record {
  from = omega (arith, c.loop-at.invariant.from);
  most = omega (arith, c.loop-at-test.true);
  found = finding_next c.args.objects.now c.args.stretch.from c.loop-at.at c.loop-at.found.items
      c.add_finding.new.found.items c.index-objects-at.result c.in_ok-flaw.flaw
      c.loop-at.invariant.from (search rules) c.loop-at.invariant.found c.in_ok-flaw.ensures
      (search rules);
}

pub returns : goal.returns
returns c =
    stretch_done c.args.objects.now c.args.stretch c.loop-at.at c.loop-at.found.items
    (omega (arith, c.loop-at-test.false, c.min-at-end.ensures))
    (omega (arith, c.loop-at.invariant.most, c.min-at-end.ensures)) c.loop-at.invariant.found
