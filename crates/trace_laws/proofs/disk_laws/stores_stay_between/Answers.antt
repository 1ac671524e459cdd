use Rattle.trace_laws.proofs.StoreRuns.{are_fuzzy, first_stores, stores_stay}
use Rattle.trace_laws.proofs.disk_laws.stores_stay_between.Goals as goal

pub returns : goal.returns
returns c = record {
  first = first_stores;
  kept = stores_stay;
  fuzzy = are_fuzzy;
}
