use Rattle.harp_cells.proofs.TreeLaws.{no_values_are_first, cells_stand, blocks_end, slots_end, dead_are_absent, changes_append}
use Rattle.harp_cells.proofs.laws.cell_laws.Goals as goal

pub returns : goal.returns
returns c = record {
  first = no_values_are_first;
  stand = cells_stand;
  blocks = blocks_end;
  slots = slots_end;
  dead = dead_are_absent;
  appended = changes_append;
}
