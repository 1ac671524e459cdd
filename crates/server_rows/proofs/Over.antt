-- A log and its index, without some records.
use Rattle.std.proofs.Common.{◌≡◌, ℕ, ◌-◌, ◌≤◌, List, map, drop, sym, subst}
use Rattle.std.proofs.lemmas.List.{drop-map}
use Rattle.event_record.specs.declared.record.RecordFields.{RecordFields}
use Rattle.fuzzy_cells.specs.History.{History}
use Rattle.harp_cells.specs.declared.change.Change.{Change}
use Rattle.overlay.specs.Index.{Entries, IsIndexOf}
use Rattle.server_rows.specs.Indexed.{IsOver}
use Rattle.volatile_log.specs.Log.{LogValue, dropped_to}

pub over_fewer : (old new : Entries) (log fewer : LogValue) (n : ℕ) → fewer ≡ dropped_to log n
    → log.base ≤ n → (IsOver old log → log.base ≤ n
    → IsIndexOf new n (drop (n - log.base) (map (λ r. r.changes) log.records)))
    → IsOver old log → IsOver new fewer
over_fewer old new log fewer n is from follows over =
    let changes : RecordFields → List Change = λ r. r.changes in
    subst (λ (l : LogValue). IsOver new l) (sym is)
    (subst (λ (h : History). IsIndexOf new n h) (drop-map changes (n - log.base) log.records)
    (follows over from))
