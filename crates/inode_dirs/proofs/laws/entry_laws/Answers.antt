use Rattle.inode_dirs.proofs.TreeCells.{cookies_fit, entries_are_under_parent}
use Rattle.inode_dirs.proofs.EntryLaws.{none_is_named, found_is_named}
use Rattle.inode_dirs.proofs.SlotCounts.{entry_grows, freed_is_free, empty_is_last}
use Rattle.inode_dirs.proofs.laws.entry_laws.Goals as goal

pub returns : goal.returns
returns c = record {
  none = none_is_named;
  found = found_is_named;
  grows = entry_grows;
  freed = freed_is_free;
  cookies = cookies_fit;
  entries = entries_are_under_parent;
  empty = empty_is_last;
}
