use Rattle.std.proofs.Common.{Some, ap, ◌∙◌}
use Rattle.std.specs.Bool.{if◌then◌else◌}
use Rattle.harp_cells.specs.Effect.{is_cell}
use Rattle.harp_cells.specs.Memory.{cell_in}
use Rattle.harp_cells.proofs.KeyOrder.{cell_after}
use Rattle.harp_cells.proofs.memory.MemCells.put.Goals as goal

pub returns-clause-put : goal.returns-clause-put
returns-clause-put c cell =
    cell_after c.self.inside.values.entries c.insert.new.self.entries c.args.cell c.key.result
    (Some c.args.value) c.key.ensures c.in_ok-insert.ensures.updates.0 cell
    ∙ ap (λ v. if◌then◌else◌ (is_cell c.args.cell cell) (Some c.args.value)
    (cell_in v.entries cell)) c.self.view_is
