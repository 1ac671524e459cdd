use Rattle.std.proofs.Common.{◌≡◌}
use Rattle.std.specs.Prelude.{take}
use Rattle.store_folder.specs.Sync.{made_changes}
use Rattle.store_folder.specs.Unsynced.{Stays}
use Rattle.store_folder.proofs.unsynced.Unsynced.made_of.Given as goal

-- what was made of the cells so far
abbrev pub invariant-loop-cell : goal.invariant-loop-cell
invariant-loop-cell l = record {
  same : Stays l.initial.self l.self;
  blocks : l.self.blocks ≡ l.initial.self.blocks;
  made : l.changes.items ≡ made_changes l.initial.self (take l.cell-index l.cells);
}
