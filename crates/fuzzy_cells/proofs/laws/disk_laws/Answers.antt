use Rattle.fuzzy_cells.proofs.Disks.{applied, crashed, cut_off, new_disks, prolonged, saved, synced}
use Rattle.fuzzy_cells.proofs.laws.disk_laws.Goals as goal

pub returns : goal.returns
returns c = record {
  first = new_disks;
  applied = applied;
  cut_off = cut_off;
  synced =
      synced;
  crashed = crashed;
  saved = saved;
  prolonged = prolonged;
}
