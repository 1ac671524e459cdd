use Rattle.std.proofs.Common.{◌+◌, ◌∙◌, ap, arith, length, refl, subst, Ok}
use Rattle.group_trace.specs.DiskCalls.{measures_of}
use Rattle.group_trace.specs.DiskRun.{first_disk_scene}
use Rattle.schedule_play.proofs.PlayLoop.{below-first}
use Rattle.sweep.specs.Lines.{IsNext}
use Rattle.sweep_player.specs.OnTheWay.{TurnCounts}
use Rattle.sweep_player.specs.Reading.{steps_read, steps_read_from, summary_of_steps}
use Rattle.sweep_player.proofs.PlayLaws.{list-ends, list-first, list-on}
use Rattle.sweep_player.proofs.playing.summary_over.Goals as goal

pub loop-lines-init : goal.loop-lines-init
loop-lines-init g c = record {
  counted = list-first g.W.Stage.spellings c.args.steps c.args.steps c.new-tally.result
      (g.W.Stage.stands c.args.world.now) refl c.new-tally.ensures c.requires;
  below = below-first (g.W.Stage.clocks c.args.world.now)
      (g.met.W.Stage.clocks_are c.args.world.now first_disk_scene c.requires);
  within = omega arith;
}

pub loop-lines-preserved : goal.loop-lines-preserved
loop-lines-preserved g c =
    let f = g.W.Stage.spellings in
    let m = measures_of f in
    let all = steps_read m c.args.steps in
    let i = c.loop-lines.before in
    let rest = steps_read_from m (i + 1 + 1) c.next.new.self in
    let went = c.in_ok-take_line.ensures.within (ap Ok c.in-GoesOn.is) in
    record {
      counted = subst (TurnCounts f all rest c.take_line.new.tally
          (g.W.Stage.stands c.take_line.new.world)) c.in-GoesOn.is
          (c.in_ok-take_line.ensures.counts all rest
          (list-on f all i c.in-Some.step c.loop-lines.steps c.next.new.self
          c.loop-lines.tally (g.W.Stage.stands c.loop-lines.world) (subst (λ o. IsNext o c.loop-lines.steps c.next.new.self) c.in-Some.is
          c.in_ok-step.ensures.next)
          c.loop-lines.invariant.counted));
      below = c.in_ok-take_line.ensures.below (ap Ok c.in-GoesOn.is);
      within = omega (arith, went);
    }

pub loop-lines-smaller : goal.loop-lines-smaller
loop-lines-smaller g c =
    let longer = ap length (subst (λ o. IsNext o c.loop-lines.steps c.next.new.self) c.in-Some.is
    c.in_ok-step.ensures.next) in omega (arith, longer)

pub returns-in-Refused : goal.returns-in-Refused
unfolding summary_of_steps
returns-in-Refused g c =
    let f = g.W.Stage.spellings in
    let m = measures_of f in
    let all = steps_read m c.args.steps in
    let i = c.loop-lines.before in
    let rest = steps_read_from m (i + 1 + 1) c.next.new.self in
    c.summary.ensures
    ∙ subst (TurnCounts f all rest c.take_line.new.tally
    (g.W.Stage.stands c.take_line.new.world)) c.in-Refused.is
    (c.in_ok-take_line.ensures.counts all rest
    (list-on f all i c.in-Some.step c.loop-lines.steps c.next.new.self c.loop-lines.tally
    (g.W.Stage.stands c.loop-lines.world) (subst (λ o. IsNext o c.loop-lines.steps c.next.new.self) c.in-Some.is
    c.in_ok-step.ensures.next)
    c.loop-lines.invariant.counted))

pub returns : goal.returns
unfolding summary_of_steps
returns g c =
    c.summary-2.ensures
    ∙ list-ends g.W.Stage.spellings (steps_read (measures_of g.W.Stage.spellings) c.args.steps)
    c.loop-lines.before c.loop-lines.steps c.loop-lines.tally
    (g.W.Stage.stands c.loop-lines.world) (subst (λ o. IsNext o c.loop-lines.steps c.next.new.self) c.in_default.is
    c.in_ok-step.ensures.next).0
    c.loop-lines.invariant.counted
