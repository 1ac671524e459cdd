use Rattle.store_journal.specs.Waiting.{entries_of}
use Rattle.store_journal.proofs.WaitLaws.{added_waits, none_added}
use Rattle.std.proofs.Common.{sym, ◌∙◌}
use Rattle.store_journal.proofs.waiting.Waiting.add.Goals as goal

pub returns-clause-added : goal.returns-clause-added
returns-clause-added c = λ d.
    added_waits (entries_of c.args.self.now) c.insert.new.self.entries c.args.change c.in-Some.cell
    c.key.result (sym c.cell_of.ensures ∙ c.in-Some.is) c.key.ensures
    c.in_ok-insert.ensures.updates.0 d
