use Rattle.std.proofs.Common.{arith, sym, ◌∙◌}
use Rattle.door_group.specs.Rule.{asked}
use Rattle.door_group.proofs.Calls.{asks_again, breaks, breaks_again, breaks_first, ends, fewer, gives_up, over, waits_on, waits_out}
use Rattle.door_group.proofs.asker.make_call.Goals as goal

pub returns-in-Ends-clause-done : goal.returns-in-Ends-clause-done
returns-in-Ends-clause-done g c w is =
    let i = fewer _ _ _ _ _ _ _ _ _ _ _ _ _ c.loop-left-test.true (c.loop-left.invariant.waits w is) in
    ends _ _ _ _ _ _ _ _ _ _ _ _ _ _ _ i (c.in-Ok-take_turn.ensures.turn i.scene i.is) c.in-Ends.reply
    (sym c.follow.ensures ∙ c.in-Ends.is)

pub loop-left-preserved-in-WaitsOn : goal.loop-left-preserved-in-WaitsOn
loop-left-preserved-in-WaitsOn g c = record {
  waits = λ w is.
      let i = fewer _ _ _ _ _ _ _ _ _ _ _ _ _ c.loop-left-test.true (c.loop-left.invariant.waits w is) in
      waits_on _ _ _ _ _ _ _ _ _ _ _ _ _ _ _ i (c.in-Ok-take_turn.ensures.turn i.scene i.is) _
      (sym c.follow.ensures ∙ c.in-WaitsOn.is) c.in-Ok-take_turn.ensures.ready.1;
  few = omega (arith, c.loop-left-test.true, c.loop-left.invariant.few);
  runs = c.in-Ok-take_turn.ensures.ready.0;
  count = omega (arith, c.loop-left.invariant.count, c.in-Ok-take_turn.ensures.count);
  on = λ o is. c.in-Ok-take_turn.ensures.on o (c.loop-left.invariant.on o is);
}

pub loop-left-preserved : goal.loop-left-preserved
loop-left-preserved g c = record {
  waits = λ w is.
      let i = fewer _ _ _ _ _ _ _ _ _ _ _ _ _ c.loop-left-test.true (c.loop-left.invariant.waits w is) in
      let t = c.in-Ok-take_turn.ensures.turn i.scene i.is in
      asks_again _ _ _ _ _ _ _ _ _ _ _ _ _ _ _ i t c.in-AsksAt.next _ _ _
      (sym c.follow.ensures ∙ c.in-AsksAt.is) (omega (arith, c.if-left-eq0.false))
      c.in-Ok-take_turn.ensures.ready.1 (c.in-Ok-ask.ensures.asks t.1 t.3);
  runs = c.in-Ok-ask.ensures.runs;
  few = omega (arith, c.loop-left-test.true, c.loop-left.invariant.few);
  count = omega (
    arith,
    c.loop-left.invariant.count,
    c.in-Ok-take_turn.ensures.count,
    c.in-Ok-ask.ensures.count,
  );
  on = λ o is. c.in-Ok-ask.ensures.on o
      (c.in-Ok-take_turn.ensures.on o (c.loop-left.invariant.on o is));
}

pub returns-in-Err-clause-given_up : goal.returns-in-Err-clause-given_up
returns-in-Err-clause-given_up g c w is =
    let q = asked c.args.ticket c.args.call.now in
    gives_up g.S.Servers.turns g.S.Servers.asks g.S.Servers.turn_breaks g.S.Servers.ask_breaks
    c.args.turns q c.args.place w (g.S.Servers.stands c.ask.new.servers)
    (g.S.Servers.trail c.ask.new.servers) c.of_servers.result c.of_servers.ensures.spent
    (breaks_first g.S.Servers.turns g.S.Servers.asks g.S.Servers.turn_breaks g.S.Servers.ask_breaks
    c.args.turns q c.args.place w (g.S.Servers.trail c.ask.new.servers)
    (c.in-Err.ensures.broken w is))

pub returns-in-Err-take_turn-clause-given_up : goal.returns-in-Err-take_turn-clause-given_up
returns-in-Err-take_turn-clause-given_up g c w is =
    let i = fewer _ _ _ _ _ _ _ _ _ _ _ _ _ c.loop-left-test.true
    (c.loop-left.invariant.waits w is) in
    gives_up _ _ _ _ _ _ _ _ (g.S.Servers.stands c.take_turn.new.servers)
    (g.S.Servers.trail c.take_turn.new.servers) c.of_servers-in-Err-take_turn.result
    c.of_servers-in-Err-take_turn.ensures.spent
    (breaks _ _ _ _ _ _ _ _ _ _ _ _ _ _ i (c.in-Err-take_turn.ensures.broken i.scene i.is))

pub returns-then-left-eq0-clause-given_up : goal.returns-then-left-eq0-clause-given_up
returns-then-left-eq0-clause-given_up g c w is =
    let i = fewer _ _ _ _ _ _ _ _ _ _ _ _ _ c.loop-left-test.true
    (c.loop-left.invariant.waits w is) in
    over _ _ _ _ _ _ _ _ _ _ _ _ _ _ _ i (c.in-Ok-take_turn.ensures.turn i.scene i.is)
    c.in-AsksAt.next (sym c.follow.ensures ∙ c.in-AsksAt.is) c.if-left-eq0.true

pub returns-in-Err-ask-clause-given_up : goal.returns-in-Err-ask-clause-given_up
returns-in-Err-ask-clause-given_up g c w is =
    let i = fewer _ _ _ _ _ _ _ _ _ _ _ _ _ c.loop-left-test.true
    (c.loop-left.invariant.waits w is) in
    let t = c.in-Ok-take_turn.ensures.turn i.scene i.is in
    gives_up _ _ _ _ _ _ _ _ (g.S.Servers.stands c.ask-in-loop-left.new.servers)
    (g.S.Servers.trail c.ask-in-loop-left.new.servers) c.of_servers-in-Err-ask.result
    c.of_servers-in-Err-ask.ensures.spent
    (breaks_again _ _ _ _ _ _ _ _ _ _ _ _ _ _ _ i t c.in-AsksAt.next _
    (sym c.follow.ensures ∙ c.in-AsksAt.is) (omega (arith, c.if-left-eq0.false))
    (c.in-Err-ask.ensures.broken t.1 t.3))

pub returns-clause-given_up : goal.returns-clause-given_up
returns-clause-given_up g c w is =
    waits_out _ _ _ _ _ _ _ _ _ _ _ _ _ (omega (arith, c.loop-left-test.false))
    (c.loop-left.invariant.waits w is)
