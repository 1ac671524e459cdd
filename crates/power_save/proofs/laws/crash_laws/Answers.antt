use Rattle.std.proofs.Common.{◌+◌, Option, sym, subst}
use Rattle.std.specs.Prelude.{slice_index_or}
use Rattle.harp_cells.specs.declared.value.Value.{Value}
use Rattle.harp_store.proofs.Crashes.{synced_stay}
use Rattle.power_save.specs.Saved.{HasRecord, cell_in}
use Rattle.power_save.proofs.Entries.{crash_keeps}
use Rattle.power_save.proofs.laws.crash_laws.Goals as goal
use Rattle.volatile_log.specs.Log.{room}

pub returns : goal.returns
returns c = record {
  keep = λ log d image s may k e lt. record {
    meant = subst (λ (v : Option Value). HasRecord v (slice_index_or log.records k e))
        (sym (synced_stay d image s.synced may (cell_in room (log.base + 1 + k))))
        (s.held k e lt).meant;
    its = (s.held k e lt).its;
  };
  entries = crash_keeps;
}
