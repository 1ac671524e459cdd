use Rattle.std.proofs.Common.{arith}
use Rattle.harpd.proofs.WordLaws.{delta_found}
use Rattle.harpd.proofs.words.delta_of.Goals as goal

pub returns : goal.returns
returns c = delta_found c.of.result c.args.word.now c.in_ok-number.number c.in_ok-number.ensures.2
    (omega (arith, c.in_ok-number.ensures.1)) c.of.ensures.found c.of.ensures.value
