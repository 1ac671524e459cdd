use Rattle.std.proofs.Common.{arith, length-take, length-drop}
use Rattle.harp_types.proofs.Grown.{Appends-more}
use Rattle.harp_types.proofs.streams.write_all.Goals as goal

pub loop-at-preserved : goal.loop-at-preserved
loop-at-preserved g c =
    let given = c.in_ok-at.ensures.given in
    let within = given.1 in
    record {
      within = omega (arith, simp (length-take, length-drop) at within);
      grew = Appends-more _ _ _ c.args.bytes.now c.loop-at.at c.in_ok-at.field-0
          c.loop-at.invariant.grew given.0;
      count = omega arith;
    }
