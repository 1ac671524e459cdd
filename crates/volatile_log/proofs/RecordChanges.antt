-- The changes of a log's records.
use Rattle.std.proofs.Common.{◌≡◌, ℕ, ◌+◌, ◌-◌, ◌<◌, true, List, [], map, slice_index_or, Some, option_map, refl, ap, sym, ◌∙◌, nat_lt, arith}
use Rattle.std.specs.List.{slice_get}
use Rattle.std.proofs.lemmas.Bool.{lt-ltb}
use Rattle.std.proofs.lemmas.Option.{get_or_from_slice_get, slice_get-map}
use Rattle.event_record.specs.declared.record.RecordFields.{RecordFields as Record}
use Rattle.harp_cells.specs.declared.change.Change.{Change}
use Rattle.volatile_log.specs.Log.{LogValue, record_at}

-- those of the record with this index
pub changes_at : (log : LogValue) (index : ℕ) (r : Record) → log.base < index → Some r ≡ record_at log index
    → r.changes ≡ slice_index_or (map (λ (r : Record). r.changes) log.records) (index - (log.base + 1)) []
changes_at log index r above is =
    let changes : Record → List Change = λ r. r.changes in
    let low : nat_lt log.base index ≡ true = lt-ltb log.base index above in
    let there : record_at log index ≡ slice_get log.records (index - log.base - 1) = rw low refl in
    let place : index - log.base - 1 ≡ index - (log.base + 1) = omega arith in
    let found : slice_get log.records (index - (log.base + 1)) ≡ Some r = ap (slice_get log.records) (sym place) ∙ sym (is ∙ there) in
    sym (get_or_from_slice_get (map changes log.records) (index - (log.base + 1)) r.changes [] (slice_get-map changes log.records (index - (log.base + 1)) ∙ ap (option_map changes) found))
