use Rattle.std.proofs.Common.{◌+◌, ◌-◌, [], ◌∷◌, length, sym, ap, ◌∙◌, arith}
use Rattle.std.proofs.lemmas.List.{length-append}
use Rattle.schedule_text.specs.Reading.{bit_of, bits_from}
use Rattle.schedule_text.proofs.Bits.{bits_more, bits_done, bits_none, bits_end, bits_next, bit_inside}
use Rattle.schedule_text.proofs.pick.bits_from.Goals as goal

pub returns-in_default-clause-value : goal.returns-in_default-clause-value
returns-in_default-clause-value c =
    let line = c.args.line.now in
    let none = ap bit_of (sym c.peek.ensures.value) ∙ sym c.bit_of.ensures ∙ c.in_default.is in
    let last = bits_done (64 - c.loop-k._k) (64 - (c.loop-k._k + 1)) line c.loop-k.place
    (omega (arith, c.loop-k-test.true)) none in
    bits_end c.loop-k.items.items c.loop-k.place _ (bits_from 64 line c.args.at) last
    c.loop-k.invariant.bits c.loop-k.invariant.end

pub loop-k-preserved : goal.loop-k-preserved
loop-k-preserved c =
    let line = c.args.line.now in
    let some = ap bit_of (sym c.peek.ensures.value) ∙ sym c.in-Some.ensures in
    let more = bits_more (64 - c.loop-k._k) (64 - (c.loop-k._k + 1)) line c.loop-k.place
    c.in-Some.bit (omega (arith, c.loop-k-test.true)) some in
    let pushed = c.in_ok-push.ensures.items in
    record {
      bits = bits_next c.loop-k.items.items _ c.in-Some.bit _
          (bits_from (64 - (c.loop-k._k + 1)) line (c.loop-k.place + 1))
          (bits_from 64 line c.args.at) more pushed c.loop-k.invariant.bits;
      end = ap (λ x. x.1) (sym more) ∙ c.loop-k.invariant.end;
      inside = bit_inside line c.loop-k.place c.in-Some.bit some;
      count = omega (
        arith,
        ap length pushed,
        length-append c.loop-k.items.items (c.in-Some.bit ∷ []),
        c.loop-k.invariant.count,
      );
      counted = omega (arith, c.loop-k.invariant.counted);
    }

pub returns-clause-value : goal.returns-clause-value
returns-clause-value c =
    let line = c.args.line.now in
    let last = bits_none (64 - c.loop-k._k) line c.loop-k.place
    (omega (arith, c.loop-k-test.false)) in
    bits_end c.loop-k.items.items c.loop-k.place _ (bits_from 64 line c.args.at) last
    c.loop-k.invariant.bits c.loop-k.invariant.end
