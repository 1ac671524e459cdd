use Rattle.observed_text.proofs.ReadLaws.{asked_gives}
use Rattle.observed_text.proofs.read.named_at.Goals as goal

pub returns : goal.returns
returns c =
    asked_gives c.args.line.now c.args.at c.args.from c.asked_at.result c.requires.space
    c.requires.named c.asked_at.ensures
