use Rattle.std.proofs.Common.{◌∙◌, ◌+◌, ◌-◌, ap, subst, Ok, arith}
use Rattle.group_trace.specs.DiskCalls.{measures_of}
use Rattle.group_trace.specs.Pump.{most_deliveries}
use Rattle.schedule_play.specs.OnTheWay.{with_pump}
use Rattle.sweep_player.specs.OnTheWay.{TurnCounts}
use Rattle.sweep_player.proofs.PlayLaws.{all-made, none-due, one-on}
use Rattle.sweep_player.proofs.playing.pump.Goals as goal

pub returns-in_default-clause-counts : goal.returns-in_default-clause-counts
returns-in_default-clause-counts g c = λ all number rest h.
    none-due g.W.Stage.spellings all number (most_deliveries - c.loop.counter) c.args.among rest
    c.loop.tally (g.W.Stage.stands c.loop.world) c.next.result
    (c.loop.invariant.counted all number rest h) c.next.ensures c.in_default.is

pub returns-in-Refused-clause-counts : goal.returns-in-Refused-clause-counts
returns-in-Refused-clause-counts g c = λ all number rest h.
    let f = g.W.Stage.spellings in
    let less = with_pump (measures_of f) number (most_deliveries - (c.loop.counter + 1))
    c.args.among rest in
    let here = one-on f all number c.loop.counter c.args.among rest c.loop.tally
    (g.W.Stage.stands c.loop.world) _ c.in-Some.packet
    (c.loop.invariant.counted all number rest h) (omega arith) c.next.ensures c.in-Some.is in
    subst (TurnCounts f all less c.take_elementary.new.tally
    (g.W.Stage.stands c.take_elementary.new.world)) c.in-Refused.is
    (c.in_ok-take_elementary.ensures.counts all number less here)

pub loop-preserved : goal.loop-preserved
loop-preserved g c = record {
  counted = λ all number rest h.
      let f = g.W.Stage.spellings in
      let less = with_pump (measures_of f) number (most_deliveries - (c.loop.counter + 1))
      c.args.among rest in
      let here = one-on f all number c.loop.counter c.args.among rest c.loop.tally
      (g.W.Stage.stands c.loop.world) _ c.in-Some.packet
      (c.loop.invariant.counted all number rest h) (omega arith) c.next.ensures c.in-Some.is in
      subst (TurnCounts f all less c.take_elementary.new.tally
      (g.W.Stage.stands c.take_elementary.new.world)) c.in-GoesOn.is
      (c.in_ok-take_elementary.ensures.counts all number less here);
  clocks = c.in_ok-take_elementary.ensures.clocks (ap Ok c.in-GoesOn.is)
      ∙ c.loop.invariant.clocks;
}

pub returns-clause-counts : goal.returns-clause-counts
returns-clause-counts g c = λ all number rest h.
    all-made g.W.Stage.spellings all number c.loop.counter c.args.among rest c.loop.tally
    (g.W.Stage.stands c.loop.world) (c.loop.invariant.counted all number rest h) (omega arith)
