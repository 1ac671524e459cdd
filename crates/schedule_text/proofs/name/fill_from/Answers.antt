use Rattle.std.proofs.Common.{◌<◌, ◌+◌, ◌*◌, length, length-set, ◌∙◌, arith}
use Rattle.schedule_text.specs.Fields.{pairs_from}
use Rattle.schedule_text.proofs.Pairs.{pair_value, fill_on}
use Rattle.schedule_text.proofs.name.fill_from.Goals as goal

pub loop-i-preserved : goal.loop-i-preserved
loop-i-preserved c =
    let n = length c.args.items.now in
    let bytes = c.args.bytes.now in
    record {
      reads = λ small.
          let high = c.value_or_255-high in
          let low = c.value_or_255-low in
          let h : high.result < 16 = omega (arith, c.max.ensures, c.max-greatest.ensures, small) in
          let l : low.result < 16 = omega (arith, c.max-greatest.ensures, small) in
          let g : c.loop-i.greatest < 16 =
          omega (arith, c.max.ensures, c.max-greatest.ensures, small) in
          fill_on n c.loop-i.i bytes c.args.at _ c.loop-i.items
          (pairs_from n bytes c.args.at) (omega arith) (omega (arith, c.loop-i.invariant.count))
          (pair_value bytes (c.args.at + 2 * c.loop-i.i) high.result low.result high.ensures
          low.ensures h l) (c.loop-i.invariant.reads g);
      count = length-set c.loop-i.items c.loop-i.i _ ∙ c.loop-i.invariant.count;
    }
