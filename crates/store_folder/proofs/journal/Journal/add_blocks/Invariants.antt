use Rattle.std.proofs.Common.{◌≡◌}
use Rattle.store_folder.specs.Unsynced.{HasBlocks}
use Rattle.store_folder.proofs.journal.Journal.add_blocks.Given as goal

-- what was put and erased stays
abbrev pub invariant-loop-change : goal.invariant-loop-change
invariant-loop-change l = record {
  same : l.unsynced ≡ record l.initial.unsynced { blocks = l.unsynced.blocks };
  blocks : HasBlocks l.initial.unsynced l.unsynced;
}
