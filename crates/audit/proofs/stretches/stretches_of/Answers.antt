use Rattle.std.proofs.Common.{length, refl, sym, subst}
use Rattle.audit.specs.declared.stretches.Stretch.{Stretch}
use Rattle.audit.specs.Stretches.{AreStretches}
use Rattle.audit.proofs.Cuts.{stretch_more}
use Rattle.audit.proofs.stretches.stretches_of.Goals as goal

pub loop-before-preserved : goal.loop-before-preserved
loop-before-preserved c =
    let from = c.loop-before.from in
    let to = c.place_of_load-to.result in
    let s : Stretch = record { from = from; to = to } in record {
      within = c.place_of_load-to.ensures.end;
      cut = subst (AreStretches 0 to) (sym c.in_ok-push.ensures.items)
          (stretch_more 0 from c.loop-before.stretches.items s c.loop-before.invariant.cut refl
          c.place_of_load-to.ensures.from);
    }

pub returns : goal.returns
returns c =
    let from = c.loop-before.from in
    let to = length c.args.objects.now in
    let s : Stretch = record { from = from; to = to } in
    subst (AreStretches 0 to) (sym c.in_ok-push-2.ensures.items)
    (stretch_more 0 from c.loop-before.stretches.items s c.loop-before.invariant.cut refl
    c.loop-before.invariant.within)
