use Rattle.harp_store.proofs.Numbered.{erasures_are_added, numbered_are_synced, numbered_stay}
use Rattle.harp_store.proofs.laws.order_laws.Goals as goal

pub returns : goal.returns
returns c = record {
  added = erasures_are_added;
  changed = numbered_stay;
  synced = numbered_are_synced;
}
