use Rattle.std.proofs.Common.{ℕ, List, ap}
use Rattle.node_link.specs.declared.link.SentDatagram.{SentDatagram}
use Rattle.node_loop.proofs.outgoing.datagram.Goals as goal

pub returns : goal.returns
returns c =
    let made : List ℕ → SentDatagram =
    λ bs. record { place = c.args.place; to = c.args.to; bytes = bs } in
    record {
      made = ap made c.in_ok-bytes.ensures.spelled;
      fits = c.in_ok-bytes.ensures.fits;
    }
