use Rattle.std.proofs.Common.{◌≡◌, true, ap, inl, refl, subst, sym, Err}
use Rattle.schedule_play.specs.Stage.{AreReadings}
use Rattle.door_play.specs.Told.{GivesUp, HasTold}
use Rattle.rpc_door.specs.Serving.{side}
use Rattle.world.specs.World.{IsWorld, clocks_in}
use Rattle.world_rules.specs.Spellings.{spellings}
use Rattle.play_commands.specs.Door.{DoorPlayed}
use Rattle.play_commands.proofs.DoorLaws.{has_bytes, not_spent, played}
use Rattle.play_commands.proofs.door.serve_played.Goals as goal

pub returns-in-Ok-clause-ends : goal.returns-in-Ok-clause-ends
returns-in-Ok-clause-ends g c = λ input left.
    let was = c.open.new.self in
    let now = c.serve_rpc.new.group in
    let source = g.S.Source.left c.serve_rpc.new.source in
    let before = g.K.Sink.written c.args.sink.now in
    let after = g.K.Sink.written c.serve_rpc.new.sink in
    let old = side (HasTold spellings was.next (was.is_open ≡ true) (λ w. IsWorld w was.world))
    (GivesUp spellings (λ w. IsWorld w was.world)) before in
    let unspent = not_spent (g.S.Source.faults c.args.source.now) (g.K.Sink.faults c.args.sink.now)
    was.faults (g.S.Source.faults c.serve_rpc.new.source) (g.K.Sink.faults c.serve_rpc.new.sink)
    now.faults c.serve_rpc.result c.serve_rpc.ensures.cause in
    subst (DoorPlayed c.args.cred input source before after now.world) (sym c.exit_of_door.ensures)
    (played c.args.cred input source old now.next (now.is_open ≡ true)
    ((now.is_open ≡ true) × AreReadings (clocks_in now.world)) (λ r. r.0) now.world after
    (c.in-Ok.ensures.told c.args.cred) c.serve_rpc.result unspent c.serve_rpc.ensures.runs
    (c.serve_rpc.ensures.ends input left))

pub returns-in-Err-Failed-clause-ends : goal.returns-in-Err-Failed-clause-ends
returns-in-Err-Failed-clause-ends g c = λ input left. inl (
  (left, refl),
  c.in-Err-Failed.ensures.refused (ap Err c.in-Err-Failed.field-0-is) c.args.cred has_bytes,
)
