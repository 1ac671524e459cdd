use Rattle.std.proofs.Common.{ap, subst, arith, inl, inr, Ok}
use Rattle.std.proofs.lemmas.Bool.{cases_lt}
use Rattle.line_reader.specs.Reading.{text_left}
use Rattle.group_trace.specs.DiskRun.{first_disk_scene}
use Rattle.schedule_play.specs.OnTheWay.{LineGives}
use Rattle.schedule_play.proofs.PlayLoop.{below-first, goes-first}
use Rattle.schedule_play.proofs.schedule.play_lines.Goals as goal

pub loop-number-init : goal.loop-number-init
loop-number-init g c = record {
  within = omega arith;
  below = below-first (g.W.Stage.clocks c.args.world.now)
      (g.met.W.Stage.clocks_are c.args.world.now first_disk_scene c.requires);
  goes = λ text told. goes-first g.W.Stage.spellings text (g.S.Source.left c.args.source.now)
      c.in-Ok.reader (g.K.Sink.written c.args.sink.now) (g.W.Stage.stands c.args.world.now) told
      c.in-Ok.ensures c.requires;
  source_count = omega arith;
  sink_count = omega arith;
}

pub loop-number-preserved : goal.loop-number-preserved
loop-number-preserved g c = record {
  within = elim (cases_lt 50000 c.loop-number.number) [
    | inl past ↦ absurd (c.in-Ok-GoesOn.ensures.last past c.in-Ok-GoesOn.field-0-is)
    | inr within ↦ omega arith
  ];
  below = c.in-Ok-GoesOn.ensures.below (ap Ok c.in-Ok-GoesOn.field-0-is);
  goes = λ text told.
      subst (LineGives g.W.Stage.spellings text c.loop-number.number
      (g.S.Source.left c.play_line.new.source)
      (text_left c.play_line.new.reader
      (g.S.Source.left c.play_line.new.source)) (g.K.Sink.written c.args.sink.now)
      (g.K.Sink.written c.play_line.new.sink) (g.W.Stage.stands c.play_line.new.world))
      c.in-Ok-GoesOn.field-0-is
      (c.in-Ok-GoesOn.ensures.ends text (g.K.Sink.written c.args.sink.now)
      (c.loop-number.invariant.goes text told));
  source_count = omega (
    arith,
    c.loop-number.invariant.source_count,
    c.in-Ok-GoesOn.ensures.source_count,
  );
  sink_count = omega (arith, c.loop-number.invariant.sink_count, c.in-Ok-GoesOn.ensures.sink_count);
}

pub returns-in-Ok-Ended-clause-ends : goal.returns-in-Ok-Ended-clause-ends
returns-in-Ok-Ended-clause-ends g c = λ text told.
    subst (LineGives g.W.Stage.spellings text c.loop-number.number
    (g.S.Source.left c.play_line.new.source)
    (text_left c.play_line.new.reader
    (g.S.Source.left c.play_line.new.source)) (g.K.Sink.written c.args.sink.now)
    (g.K.Sink.written c.play_line.new.sink) (g.W.Stage.stands c.play_line.new.world))
    c.in-Ok-Ended.field-0-is
    (c.in-Ok-Ended.ensures.ends text (g.K.Sink.written c.args.sink.now)
    (c.loop-number.invariant.goes text told))

pub returns-in-Ok-Refused-clause-ends : goal.returns-in-Ok-Refused-clause-ends
returns-in-Ok-Refused-clause-ends g c = λ text told.
    subst (LineGives g.W.Stage.spellings text c.loop-number.number
    (g.S.Source.left c.play_line.new.source)
    (text_left c.play_line.new.reader
    (g.S.Source.left c.play_line.new.source)) (g.K.Sink.written c.args.sink.now)
    (g.K.Sink.written c.play_line.new.sink) (g.W.Stage.stands c.play_line.new.world))
    c.in-Ok-Refused.field-0-is
    (c.in-Ok-Refused.ensures.ends text (g.K.Sink.written c.args.sink.now)
    (c.loop-number.invariant.goes text told))

pub returns-in-Err-play_line-clause-ends : goal.returns-in-Err-play_line-clause-ends
returns-in-Err-play_line-clause-ends g c = λ text told.
    c.in-Err-play_line.ensures.ends text (g.K.Sink.written c.args.sink.now)
    (c.loop-number.invariant.goes text told)
