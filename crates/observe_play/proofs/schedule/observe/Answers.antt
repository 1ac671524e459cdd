use Rattle.schedule_play.proofs.PlayEnd.{sink-caused, source-caused}
use Rattle.observed_text.proofs.ObservedLaws.{explained_observed}
use Rattle.observe_play.proofs.PlayEnd.{completes, ends-after}
use Rattle.observe_play.proofs.schedule.observe.Goals as goal

pub returns-clause-ends : goal.returns-clause-ends
returns-clause-ends g c = λ text told.
    ends-after g.W.Stage.spellings text _ _ _ (g.W.Stage.stands c.play_lines.new.world)
    c.play_lines.result c.exit_after.result c.exit_after.ensures
    (c.play_lines.ensures.ends text told)

pub returns-clause-complete : goal.returns-clause-complete
returns-clause-complete g c = λ text told source sink.
    let ends = ends-after g.W.Stage.spellings text _ _ _
    (g.W.Stage.stands c.play_lines.new.world)
    c.play_lines.result c.exit_after.result c.exit_after.ensures
    (c.play_lines.ensures.ends text told) in
    completes g.W.Stage.spellings text _ _ _ (g.W.Stage.stands c.play_lines.new.world)
    c.exit_after.result ends
    (λ failed. source (source-caused _ c.play_lines.result c.exit_after.result
    c.exit_after.ensures c.play_lines.ensures.whole c.play_lines.ensures.source_rose failed))
    (λ failed. sink (sink-caused _ c.play_lines.result c.exit_after.result
    c.exit_after.ensures c.play_lines.ensures.whole c.play_lines.ensures.sink_rose failed))

pub returns-clause-source_rose : goal.returns-clause-source_rose
returns-clause-source_rose g c =
    source-caused _ c.play_lines.result c.exit_after.result c.exit_after.ensures
    c.play_lines.ensures.whole c.play_lines.ensures.source_rose

pub returns-clause-sink_rose : goal.returns-clause-sink_rose
returns-clause-sink_rose g c =
    sink-caused _ c.play_lines.result c.exit_after.result c.exit_after.ensures
    c.play_lines.ensures.whole c.play_lines.ensures.sink_rose

pub returns-clause-meaning : goal.returns-clause-meaning
returns-clause-meaning g c = explained_observed
