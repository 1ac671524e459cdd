use Rattle.store_laws.proofs.Disks.{are_numbered, changes_follow, crashes_follow, equal_changes, marks_follow, new_disks_are, reads_are_alike, syncs_follow}
use Rattle.store_laws.proofs.laws.told_laws.Goals as goal

pub returns : goal.returns
returns c = record {
  first = new_disks_are;
  reads = reads_are_alike;
  numbered = are_numbered;
  changed = changes_follow;
  equal = equal_changes;
  synced = syncs_follow;
  marked = marks_follow;
  crashed = crashes_follow;
}
