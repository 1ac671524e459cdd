use Rattle.std.proofs.Common.{◌≡◌, Some, None, refl}
use Rattle.std.proofs.lemmas.Result.{on_ok_weaker}
use Rattle.trace_check.specs.Network.{ack_at}
use Rattle.trace_check.proofs.NetworkLemmas.{delivers_ack, delivers_none, delivers_other}
use Rattle.trace_check.proofs.network.Network.deliver.Goals as goal

pub returns-in_ok-raise-in-Some-Some : goal.returns-in_ok-raise-in-Some-Some
returns-in_ok-raise-in-Some-Some c =
    let i = c.in-Some-Some.is in
    let j = c.in-Some-Some.field-0-is in
    let k = c.get.ensures in
    let at : ack_at c.args.self.now c.args.number ≡ Some (Some c.in-Some-Some.ack) = cc in
    on_ok_weaker c.raise-in-Some-Some.result
    (λ m. delivers_ack c.args.self.now (record {
      sent = c.args.self.now.sent;
      tops = c.raise.new.self;
      moments = c.raise-in-Some-Some.new.self;
    }) c.args.number
    c.in-Some-Some.ack refl at c.in_ok-raise-in-Some-Some.ensures m)
    c.raise-in-Some-Some.ensures

pub returns-in-Some-None : goal.returns-in-Some-None
returns-in-Some-None c =
    let i = c.in-Some-None.is in
    let j = c.in-Some-None.field-0-is in
    let k = c.get.ensures in
    let at : ack_at c.args.self.now c.args.number ≡ Some None = cc in
    delivers_other c.args.self.now c.args.number at

pub returns-in-None : goal.returns-in-None
returns-in-None c =
    let i = c.in-None.is in
    let k = c.get.ensures in
    let at : ack_at c.args.self.now c.args.number ≡ None = cc in
    delivers_none c.args.self.now c.args.number at
