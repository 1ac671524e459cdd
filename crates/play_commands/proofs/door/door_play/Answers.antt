use Rattle.std.proofs.Common.{subst, sym}
use Rattle.play_commands.specs.Door.{DoorPlayed}
use Rattle.play_commands.proofs.door.door_play.Goals as goal

pub returns-clause-ends : goal.returns-clause-ends
returns-clause-ends g c = λ input left.
    subst (λ w. DoorPlayed c.args.cred input (g.S.Source.left c.serve_played-exit.new.source)
    (g.K.Sink.written c.args.sink.now) (g.K.Sink.written c.serve_played-exit.new.sink) w
    c.serve_played-exit.result) (sym c.into_world.ensures)
    (c.serve_played-exit.ensures.ends input left)
