-- The index of the first records of a log.
use Rattle.std.proofs.Common.{◌≡◌, ℕ, ◌+◌, ◌-◌, ◌≤◌, length, take, drop, subst, arith}
use Rattle.std.proofs.lemmas.List.{drop-map, length-drop}
use Rattle.event_record.specs.declared.record.RecordFields.{RecordFields as Record}
use Rattle.fuzzy_cells.specs.History.{History}
use Rattle.overlay.specs.Index.{Entries, IsIndexOf}
use Rattle.volatile_log.specs.Log.{LogValue, dropped_to, top}
use Rattle.tree_log.specs.TreeLog.{changes_in}

-- an index is that of a log's records up to this one
abbrev pub IsIndexedTo : Entries → ℕ → LogValue → Type 0
IsIndexedTo index indexed log = (log.base ≤ indexed) × (indexed ≤ top log)
    × IsIndexOf index log.base (take (indexed - log.base) (changes_in log.records))

within_dropped : (indexed n : ℕ) (log : LogValue) → log.base ≤ n → n ≤ indexed → indexed ≤ top log
    → indexed ≤ top (dropped_to log n)
within_dropped indexed n log from low high =
    let left = length-drop (n - log.base) log.records in
    omega (arith, from, low, high, left)

-- the log drops the records that are out of the index
pub indexed_dropped : (index : Entries) (indexed n : ℕ) (log : LogValue) → log.base ≤ n → n ≤ indexed
    → indexed ≤ top log
    → IsIndexOf index n (take (indexed - n) (drop (n - log.base) (changes_in log.records)))
    → IsIndexedTo index indexed (dropped_to log n)
indexed_dropped index indexed n log from low high is = (
  low,
  within_dropped indexed n log from low high,
  subst (λ (h : History). IsIndexOf index n (take (indexed - n) h))
      (drop-map (λ (r : Record). r.changes) (n - log.base) log.records) is,
)
