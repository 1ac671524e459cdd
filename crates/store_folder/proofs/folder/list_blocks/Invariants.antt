use Rattle.std.proofs.Common.{◌≡◌}
use Rattle.store_folder.specs.Unsynced.{HasBlocks}
use Rattle.store_folder.proofs.folder.list_blocks.Given as goal

-- what was put and erased stays
abbrev pub invariant-loop-name : goal.invariant-loop-name
invariant-loop-name g l = record {
  same : l.unsynced ≡ record l.initial.unsynced { blocks = l.unsynced.blocks };
  blocks : HasBlocks l.initial.unsynced l.unsynced;
}
