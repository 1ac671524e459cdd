use Rattle.trace_check.specs.Asks.{key_of}
use Rattle.trace_check.proofs.AskLemmas.{added_is}
use Rattle.trace_check.proofs.asks.Asks.add.Goals as goal

pub returns : goal.returns
returns c b =
    added_is key_of c.args.self.now.asked.keys c.insert.new.self.keys c.args.ask
    c.in_ok-insert.ensures.keys b
