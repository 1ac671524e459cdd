use Rattle.std.proofs.Common.{◌≡◌, take}
use Rattle.harp_cells.specs.Memory.{BecomesBy}
use Rattle.harp_cells.proofs.memory.MemCells.apply.Given as goal

abbrev pub invariant-loop-change : goal.invariant-loop-change
invariant-loop-change l =
    BecomesBy (take l.change-index l.changes) l.initial.self l.self
    × (l.self.fetched ≡ l.initial.self.fetched)
