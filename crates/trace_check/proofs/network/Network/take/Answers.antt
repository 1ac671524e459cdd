use Rattle.std.proofs.Common.{◌≡◌, Some, ◌∙◌, sym, subst}
use Rattle.std.proofs.lemmas.Result.{on_ok_weaker}
use Rattle.trace_check.specs.Network.{IsSent}
use Rattle.trace_check.specs.Readings.{packet_told}
use Rattle.trace_check.specs.declared.readings.PacketTold.TheVariants as packet
use Rattle.trace_check.proofs.NetworkLemmas.{takes_delivered, takes_nothing, takes_sent}
use Rattle.trace_check.proofs.network.Network.take.Goals as goal

pub returns-in-Some-Sent : goal.returns-in-Some-Sent
returns-in-Some-Sent c before a =
    let e = c.packet_told.ensures in
    let e0 = c.in-Some-Sent.is in
    let e1 = c.in-Some-Sent.field-0-is in
    let told : packet_told c.args.line.now ≡ Some (packet.Sent c.in-Some-Sent.packet
    c.in-Some-Sent.from c.in-Some-Sent.to c.in-Some-Sent.message) = cc in
    on_ok_weaker c.send.result
    (λ s. takes_sent c.args.self.now c.send.new.self before c.args.line.now
    c.in-Some-Sent.packet c.in-Some-Sent.from c.in-Some-Sent.to c.in-Some-Sent.message a told
    (subst (λ o. IsSent c.in-Some-Sent.packet o c.args.self.now c.send.new.self)
    c.told_ack.ensures s)) c.send.ensures

pub returns-in-Some-Delivered : goal.returns-in-Some-Delivered
returns-in-Some-Delivered c before a =
    let e = c.packet_told.ensures in
    let e0 = c.in-Some-Delivered.is in
    let e1 = c.in-Some-Delivered.field-0-is in
    let told : packet_told c.args.line.now
    ≡ Some (packet.Delivered c.in-Some-Delivered.packet) = cc in
    on_ok_weaker c.deliver.result
    (takes_delivered c.args.self.now c.deliver.new.self before c.args.line.now
    c.in-Some-Delivered.packet a told) c.deliver.ensures

pub returns-in-None : goal.returns-in-None
returns-in-None c before a =
    takes_nothing c.args.self.now before c.args.line.now a (sym c.packet_told.ensures ∙ c.in-None.is)
