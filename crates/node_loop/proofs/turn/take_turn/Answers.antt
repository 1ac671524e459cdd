use Rattle.std.proofs.Common.{rules, inr}
use Rattle.node_loop.proofs.ClockLaws.{tells-both}
use Rattle.node_loop.proofs.Results.{on_err}
use Rattle.node_loop.proofs.turn.take_turn.Goals as goal

pub returns-in_err-inputs-in-Ok-Some-clause-part :
    goal.returns-in_err-inputs-in-Ok-Some-clause-part
returns-in_err-inputs-in-Ok-Some-clause-part g c =
    let at = c.args.place in
    on_err c.from_residual-in_err-inputs-in-Ok-Some.result (
      c.in_err-inputs-in-Ok-Some.ensures.kept,
      inr (record {
        began = c.now-began.result;
        now = c.now-now.result;
        datagram = c.in-Ok-Some.datagram;
        quiet = search rules;
        link = rw c.in-Ok-Some.field-0-is at c.in-Ok-Some.ensures.taken;
        clock = tells-both (record { place = at; millis = c.now-began.result })
            (record { place = at; millis = c.now-now.result })
            (g.C.Clock.told c.args.clock.now) (g.C.Clock.told c.now-began.new.self)
            (g.C.Clock.told c.now-now.new.self) c.now-began.ensures.told c.now-now.ensures.told;
      }),
    )
