-- nothing of the word is left
use Rattle.std.proofs.Common.{drop, nat_eq, arith}
use Rattle.std.proofs.lemmas.List.{length-drop}
use Rattle.std.proofs.lemmas.List.Sums.{common_prefix_len-le}
use Rattle.schedule_text.proofs.word.common_len.Goals as goal

pub returns-then-i-word-clause-value : goal.returns-then-i-word-clause-value
returns-then-i-word-clause-value c =
    let i = c.loop-i.i in
    let word = c.args.word.now in
    let le = common_prefix_len-le nat_eq (drop i c.args.name.now) (drop i word) in
    omega
    (arith, le.1, length-drop i word, c.loop-i.invariant.same, c.loop-i.invariant.within, c.if-i-word.true)
