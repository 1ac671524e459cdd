use Rattle.std.proofs.Common.{length, ap, arith}
use Rattle.schedule_text.proofs.Pairs.{filled_all}
use Rattle.schedule_text.proofs.name.pairs_from.Goals as goal

pub returns-then-is_last-clause-value : goal.returns-then-is_last-clause-value
returns-then-is_last-clause-value c =
    let made = c.in_ok-items.ensures.len in
    let shown = ap length c.as_mut_slice.ensures.value in
    filled_all c.args.most c.min-room.result c.in_ok-items.items.len
    (length c.as_mut_slice.result.now) c.args.bytes.now c.in_ok-items.items.items
    c.fill_from-filled.new.items c.args.at (omega (arith, c.min-room.ensures))
    (omega (arith, made, shown)) (omega (arith, made)) (omega (arith, made, shown))
    (c.is_last.ensures c.if-is_last.true) (c.fill_from-filled.ensures c.if-filled.true)
