use Rattle.world_lines.proofs.Made.{makes_refusal_lines, refusal_lines_made}
use Rattle.world_lines.proofs.Loops.{ended, get_again, moved}
use Rattle.world_lines.proofs.given.show_refusals.Goals as goal

pub loop-refusal-preserved : goal.loop-refusal-preserved
loop-refusal-preserved c = rw c.in_ok-show_refusal.ensures
    (moved (makes_refusal_lines c.args.server) (refusal_lines_made c.args.server)
    c.loop-refusal.lines.items 0 c.args.refusals.now c.loop-refusal.refusal-index _ _
    c.loop-refusal-test.true (get_again c.args.refusals.now c.loop-refusal.refusal-index _
    c.loop-refusal-test.true) c.loop-refusal.invariant)

pub returns : goal.returns
returns c = ended (makes_refusal_lines c.args.server) (refusal_lines_made c.args.server)
    c.loop-refusal.lines.items 0 c.args.refusals.now c.loop-refusal.refusal-index _
    c.loop-refusal-test.false c.loop-refusal.invariant
