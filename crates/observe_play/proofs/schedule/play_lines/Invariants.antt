use Rattle.std.proofs.Common.{◌-◌}
use Rattle.line_reader.specs.Reading.{text_left}
use Rattle.observe_play.proofs.PlayLoop.{Keeps}
use Rattle.observe_play.proofs.schedule.play_lines.Given as goal

abbrev pub invariant-loop-number : goal.invariant-loop-number
invariant-loop-number g l =
    Keeps g.W.Stage.spellings l.number (g.S.Source.left l.fn.source)
    (g.K.Sink.written l.fn.sink) (text_left l.kept.reader (g.S.Source.left l.source))
    (g.K.Sink.written l.sink) (g.W.Stage.stands l.world) l.kept.watch (g.W.Stage.clocks l.world)
    (g.S.Source.faults l.fn.source) (g.S.Source.faults l.source) (g.K.Sink.faults l.fn.sink)
    (g.K.Sink.faults l.sink)

abbrev pub decreases-loop-number : goal.decreases-loop-number
decreases-loop-number g l = 50002 - l.number
