-- with the answers in the lines that are left all are kept
use Rattle.std.proofs.Common.{◌≡◌, ◌++◌, drop}
use Rattle.door_play.specs.Replies.{answers_in}
use Rattle.door_play.proofs.stepping.keep_answers.Given as goal

abbrev pub invariant-loop-line : goal.invariant-loop-line
invariant-loop-line l = l.heard.items ++ answers_in (drop l.line-index l.lines)
    ≡ l.fn.heard.items ++ answers_in l.fn.lines
