use Rattle.std.proofs.Common.{sym, ap, ◌∙◌}
use Rattle.harp_cells.specs.Memory.{fetched_in, fetched_from}
use Rattle.harp_cells.proofs.KeyOrder.{at_fetched}
use Rattle.harp_cells.proofs.memory.MemCellsCellRead.value.Goals as goal

pub returns : goal.returns
returns c =
    c.get.ensures.value ∙ at_fetched c.self.inside.values.entries c.in_ok-self.field-0 c.key.result
    c.key.ensures
    ∙ ap (λ f. fetched_from c.self.inside.values.entries f) (sym c.in_ok-self.was)
    ∙ ap fetched_in c.self.view_is
