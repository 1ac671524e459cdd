use Rattle.observe_play.proofs.TraceTexts.{none-told}
use Rattle.observe_play.proofs.text.append_given.Goals as goal

pub returns-in-None : goal.returns-in-None
returns-in-None c = rw c.in-None.is (none-told c.args.out.now.items)
