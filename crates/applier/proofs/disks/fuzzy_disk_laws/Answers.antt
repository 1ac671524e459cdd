use Rattle.applier.proofs.FuzzyDisks.{applied, crashed, cut_off, exact, images, marked, new_disks, prolonged, saved, synced}
use Rattle.applier.proofs.disks.fuzzy_disk_laws.Goals as goal

pub returns : goal.returns
returns c = record {
  first = new_disks;
  applied = applied;
  cut_off = cut_off;
  exact = exact;
  synced = synced;
  marked = marked;
  images = images;
  crashed = crashed;
  saved = saved;
  prolonged = prolonged;
}
