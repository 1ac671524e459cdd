use Rattle.std.proofs.Common.{◌∙◌, ap, arith, length}
use Rattle.harp_cli.proofs.SweepLaws.{grew_none, swept_length}
use Rattle.harp_cli.proofs.sweeping.sweep.Goals as goal

pub write_summaries-requires : goal.write_summaries-requires
write_summaries-requires g c =
    let few = ap length c.as_slice.ensures.value
    ∙ swept_length (g.P.Player.summary_of c.args.player.now) c.args.seed c.args.runs c.args.lines
    c.in-Ok.all.items c.in-Ok.ensures in
    let room = c.requires in
    omega (arith, few, room)

pub returns-in_default-clause-ends : goal.returns-in_default-clause-ends
returns-in_default-clause-ends g c = grew_none (g.K.Sink.written c.args.sink.now) _
