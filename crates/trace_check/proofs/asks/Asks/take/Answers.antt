use Rattle.std.proofs.Common.{ℕ, Option, Vec, Global, subst}
use Rattle.std.specs.Option.{option_map}
use Rattle.std.proofs.lemmas.Result.{on_ok_weaker}
use Rattle.trace_check.specs.Asks.{key_of, TellsAsk}
use Rattle.trace_check.proofs.AskLemmas.{takes_ask, takes_none}
use Rattle.trace_check.proofs.asks.Asks.take.Goals as goal

pub returns-in-Some : goal.returns-in-Some
returns-in-Some c before a =
    let told = subst (λ (o : Option (ℕ × ℕ × Vec ℕ Global)). TellsAsk (option_map key_of o)
    c.args.line.now) c.in-Some.is c.in_ok-ask.ensures in
    on_ok_weaker c.add.result
    (λ m. takes_ask c.args.self.now c.add.new.self before c.args.line.now
    (key_of c.in-Some.ask) told m a) c.add.ensures

pub returns-in-None : goal.returns-in-None
returns-in-None c before a =
    takes_none c.args.self.now before c.args.line.now
    (subst (λ (o : Option (ℕ × ℕ × Vec ℕ Global)). TellsAsk (option_map key_of o)
    c.args.line.now) c.in-None.is c.in_ok-ask.ensures) a
