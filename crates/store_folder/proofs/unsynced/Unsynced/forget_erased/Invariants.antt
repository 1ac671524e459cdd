use Rattle.std.proofs.Common.{◌≡◌}
use Rattle.std.specs.Prelude.{take}
use Rattle.store_folder.specs.Sync.{KeepsBlocks}
use Rattle.store_folder.proofs.unsynced.Unsynced.forget_erased.Given as goal

-- what the changes so far erase is forgotten
abbrev pub invariant-loop-change : goal.invariant-loop-change
invariant-loop-change l = record {
  same : l.self ≡ record l.initial.self { blocks = l.self.blocks };
  blocks : KeepsBlocks (take l.change-index l.changes) l.initial.self l.self;
}
