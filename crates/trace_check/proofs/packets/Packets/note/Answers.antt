use Rattle.std.proofs.Common.{arith, is_some, refl, sym, ap, ◌∙◌}
use Rattle.trace_check.proofs.PacketLemmas.{numbered_next, numbered_other}
use Rattle.trace_check.proofs.packets.Packets.note.Goals as goal

pub returns-then-number-len : goal.returns-then-number-len
returns-then-number-len c =
    let place = c.if-number-len.true in
    let len = c.len.ensures in
    numbered_next c.args.self.now (record c.args.self.now { in_order = c.push.new.self })
    c.args.number c.args.ack
    (sym (ap is_some c.get.ensures) ∙ sym c.is_some.ensures ∙ c.if-is_some.false)
    (omega (arith, place, len)) c.in_ok-push.ensures.items refl

pub returns : goal.returns
returns c =
    numbered_other c.args.self.now (record c.args.self.now { others = c.insert.new.self })
    c.args.number c.args.ack
    (sym (ap is_some c.get.ensures) ∙ sym c.is_some.ensures ∙ c.if-is_some.false) refl
    c.in_ok-insert.ensures.updates.0
