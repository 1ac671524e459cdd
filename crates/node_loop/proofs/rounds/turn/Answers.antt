use Rattle.node_loop.proofs.rounds.turn.Goals as goal

pub returns-in-Ok-clause-turns : goal.returns-in-Ok-clause-turns
returns-in-Ok-clause-turns g c = c.in-Ok.ensures.turns.turns
