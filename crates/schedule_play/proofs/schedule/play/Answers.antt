use Rattle.schedule_text.proofs.MeaningLaws.{explained}
use Rattle.group_trace.specs.DiskCalls.{measures_of}
use Rattle.schedule_play.proofs.PlayEnd.{completes, ends-after, sink-caused, source-caused}
use Rattle.schedule_play.proofs.TextLaws.{book, disks, events, parts, right, taken, views}
use Rattle.schedule_play.proofs.schedule.play.Goals as goal

pub returns-clause-ends : goal.returns-clause-ends
returns-clause-ends g c = λ text told.
    ends-after g.W.Stage.spellings text _ _ _ (g.W.Stage.stands c.play_lines.new.world)
    c.play_lines.result c.exit_after.result c.exit_after.ensures
    (c.play_lines.ensures.ends text told)

pub returns-clause-complete : goal.returns-clause-complete
returns-clause-complete g c = λ text told source sink.
    let ends = ends-after g.W.Stage.spellings text _ _ _
    (g.W.Stage.stands c.play_lines.new.world)
    c.play_lines.result c.exit_after.result c.exit_after.ensures
    (c.play_lines.ensures.ends text told) in
    completes g.W.Stage.spellings text _ _ _ (g.W.Stage.stands c.play_lines.new.world)
    c.exit_after.result ends
    (λ failed. source (source-caused _ c.play_lines.result c.exit_after.result
    c.exit_after.ensures c.play_lines.ensures.whole c.play_lines.ensures.source_rose failed))
    (λ failed. sink (sink-caused _ c.play_lines.result c.exit_after.result
    c.exit_after.ensures c.play_lines.ensures.whole c.play_lines.ensures.sink_rose failed))

pub returns-clause-source_rose : goal.returns-clause-source_rose
returns-clause-source_rose g c =
    source-caused _ c.play_lines.result c.exit_after.result c.exit_after.ensures
    c.play_lines.ensures.whole c.play_lines.ensures.source_rose

pub returns-clause-sink_rose : goal.returns-clause-sink_rose
returns-clause-sink_rose g c =
    sink-caused _ c.play_lines.result c.exit_after.result c.exit_after.ensures
    c.play_lines.ensures.whole c.play_lines.ensures.sink_rose

pub returns-clause-meaning : goal.returns-clause-meaning
returns-clause-meaning g c = explained

pub returns-clause-taken : goal.returns-clause-taken
returns-clause-taken g c = taken (measures_of g.W.Stage.spellings)

pub returns-clause-right : goal.returns-clause-right
returns-clause-right g c = right (measures_of g.W.Stage.spellings)

pub returns-clause-events : goal.returns-clause-events
returns-clause-events g c = events (measures_of g.W.Stage.spellings)

pub returns-clause-book : goal.returns-clause-book
returns-clause-book g c = book (measures_of g.W.Stage.spellings)

pub returns-clause-views : goal.returns-clause-views
returns-clause-views g c = views (measures_of g.W.Stage.spellings)

pub returns-clause-disks : goal.returns-clause-disks
returns-clause-disks g c = disks g.W.Stage.spellings

pub returns-clause-parts : goal.returns-clause-parts
returns-clause-parts g c = parts (measures_of g.W.Stage.spellings)
