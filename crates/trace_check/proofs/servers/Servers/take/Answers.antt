use Rattle.std.proofs.Common.{ap}
use Rattle.std.proofs.lemmas.Result.{on_ok_weaker}
use Rattle.trace_check.specs.Readings.{state_told}
use Rattle.trace_check.proofs.ServerLemmas.{no_state, takes_down, takes_nothing, takes_state}
use Rattle.trace_check.proofs.servers.Servers.take.Goals as goal

pub returns-in-State : goal.returns-in-State
returns-in-State c before a =
    on_ok_weaker c.show.result
    (takes_state c.args.self.now c.show.new.self before c.args.line.now c.in-State.server
    c.in-State.state a (ap state_told c.in-State.is)) c.show.ensures

pub returns-in-Down : goal.returns-in-Down
returns-in-Down c before a =
    takes_down c.args.self.now c.set_last.new.self before c.args.line.now c.in-Down.server a
    (ap state_told c.in-Down.is) c.set_last.ensures

pub returns-in_default : goal.returns-in_default
returns-in_default c before a =
    takes_nothing c.args.self.now before c.args.line.now a
    (no_state c.args.line.now c.in_default.not-State c.in_default.not-Down)
