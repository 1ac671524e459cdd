use Rattle.std.proofs.Common.{arith, ◌<◌, refl, sym, ap, subst, length, ◌∙◌}
use Rattle.std.proofs.lemmas.List.{get_or_default, length-set}
use Rattle.audit.specs.Entries.{AreWays, IsWay}
use Rattle.audit.proofs.Steps.{double_done, double_first, double_next}
use Rattle.audit.proofs.auditing.double.Goals as goal

pub loop-at-init : goal.loop-at-init
loop-at-init c = record {
  long = refl;
  ways = λ steps are. double_first steps c.args.objects.now c.args.ways.now.items are;
}

pub twice-further-requires-clause-length : goal.twice-further-requires-clause-length
twice-further-requires-clause-length c =
    ap length c.as_slice.ensures.value ∙ c.loop-at.invariant.long ∙ c.requires.length

pub loop-at-preserved : goal.loop-at-preserved
loop-at-preserved c = record {
  long = length-set c.loop-at.ways.items c.loop-at.at c.twice-further.result
      ∙ c.loop-at.invariant.long;
  ways = λ steps are.
      let objects = c.args.objects.now in
      let old = c.loop-at.ways.items in
      let was = c.loop-at.invariant.ways steps are in
      let within : c.loop-at.at < length old =
      omega (arith, c.loop-at-test.true, was.all.long) in
      double_next steps objects c.loop-at.at c.twice-further.result old _ (omega (
        arith,
        c.loop-at-test.true,
      )) was
      (λ n w. c.twice-further.ensures steps n
      (subst (AreWays steps objects) (sym c.as_slice.ensures.value) was.all)
      (subst (IsWay steps objects n)
      (sym (c.index.ensures ∙ get_or_default old c.loop-at.at c.index.result.now 0 within)) w))
      refl;
}

pub returns-clause-length : goal.returns-clause-length
returns-clause-length c = c.loop-at.invariant.long

pub returns-clause-ways : goal.returns-clause-ways
returns-clause-ways c steps are =
    double_done steps c.args.objects.now c.loop-at.at c.loop-at.ways.items
    (omega (arith, c.loop-at-test.false)) (c.loop-at.invariant.ways steps are)
