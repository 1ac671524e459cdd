use Rattle.std.proofs.Common.{length, get_or, arith, refl, ap, ◌∙◌}
use Rattle.std.proofs.lemmas.Option.{slice_get_read}
use Rattle.trace_check.proofs.PacketLemmas.{past_order, within_order}
use Rattle.trace_check.proofs.packets.Packets.get.Goals as goal

pub returns-in-Some : goal.returns-in-Some
returns-in-Some c =
    let items = c.args.self.now.in_order.items in
    let same = ap length c.deref.ensures.value in
    let lt = c.in-Some.ensures.lookup.3.0 in
    within_order c.args.self.now c.args.number c.in-Some.ack.now
    (slice_get_read items (length items) c.args.number c.in-Some.ack.now refl
    (omega (arith, lt, same)) (c.in-Some.ensures.lookup.1
    ∙ ap (λ xs. get_or xs c.args.number c.in-Some.ack.now) c.deref.ensures.value))

pub returns-in-None : goal.returns-in-None
returns-in-None c =
    let past = c.in-None.ensures.lookup.3 in
    let same = ap length c.deref.ensures.value in
    c.copied.ensures ∙ c.get-in-None.ensures.value
    ∙ past_order c.args.self.now c.args.number (omega (arith, past, same))
