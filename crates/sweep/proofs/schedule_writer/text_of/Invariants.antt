-- the lines of the steps so far are written, and the others are left
use Rattle.std.proofs.Common.{◌≡◌, ◌++◌, length}
use Rattle.sweep.specs.Lines.{generated}
use Rattle.sweep.specs.Texts.{schedule_text}
use Rattle.sweep.proofs.schedule_writer.text_of.Given as goal

abbrev pub invariant-loop-text : goal.invariant-loop-text
invariant-loop-text l =
    l.text.items ++ schedule_text l.steps ≡ schedule_text (generated l.seed l.lines)

abbrev pub decreases-loop-text : goal.decreases-loop-text
decreases-loop-text l = length l.steps
