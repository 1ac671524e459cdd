use Rattle.store_journal.specs.Waiting.{entries_of}
use Rattle.store_journal.proofs.WaitLaws.{settled_waits}
use Rattle.store_journal.proofs.waiting.Waiting.settle.Goals as goal

pub returns : goal.returns
returns c = λ d.
    settled_waits (entries_of c.args.self.now) c.remove.new.self.entries c.args.cell c.key.result
    c.key.ensures c.remove.ensures.updates.0 d
