use Rattle.std.proofs.Common.{◌≡◌, Option, ap, subst, ◌∙◌}
use Rattle.std.specs.Prelude.{IfOk}
use Rattle.harp_cells.specs.declared.change.Change.{Change}
use Rattle.store_journal.specs.Waiting.{entries_of, made_by}
use Rattle.store_journal.proofs.WaitLaws.{found_at}
use Rattle.store_journal.proofs.waiting.Waiting.find.Goals as goal

pub returns-in-Some : goal.returns-in-Some
returns-in-Some c =
    subst (λ (o : Option Change). IfOk c.made_by.result (λ made. made ≡ made_by o))
    (c.in-Some.ensures.value
    ∙ found_at (entries_of c.args.self.now) c.args.cell c.key.result c.key.ensures)
    c.made_by.ensures

pub returns-in-None : goal.returns-in-None
returns-in-None c =
    ap made_by (c.in-None.ensures.value
    ∙ found_at (entries_of c.args.self.now) c.args.cell c.key.result c.key.ensures)
