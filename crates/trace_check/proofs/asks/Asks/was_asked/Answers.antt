use Rattle.std.proofs.Common.{List, ℕ, ap}
use Rattle.trace_check.specs.Asks.{ask_key, key_of}
use Rattle.trace_check.proofs.AskLemmas.{asked_is, found_is}
use Rattle.trace_check.proofs.asks.Asks.was_asked.Goals as goal

pub returns : goal.returns
returns c before place a =
    let entry = c.args.entry.now in
    asked_is c.args.self.now before place entry c.contains.result a c.in_ok-bytes.ensures.fits
    (found_is c.args.self.now c.contains.result
    (key_of (entry.client, entry.number, c.in_ok-bytes.bytes))
    (ask_key entry.client entry.number entry.cred entry.call) c.contains.ensures
    (ap (λ (b : List ℕ). (entry.client, entry.number, b)) c.in_ok-bytes.ensures.value))
