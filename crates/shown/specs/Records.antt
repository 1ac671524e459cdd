-- What is shown of the records of a log.
use Rattle.std.specs.Prelude.{◌≡◌, ℕ, ◌-◌, ◌≤◌, ◌==◌, ◌||◌, List, length, map, take, drop, nat_le, nat_lt, Option, None, Some, if◌then◌else◌}
use Rattle.event_record.specs.declared.record.RecordFields.{RecordFields}
use Rattle.fuzzy_cells.specs.History.{History}
use Rattle.idle_log.specs.declared.kept.Kept.{Kept}
use Rattle.idle_log.specs.declared.kept.Kept.TheVariants as kept
use Rattle.shown.specs.declared.shown.Shown.{Shown}
use Rattle.shown.specs.declared.shown.Shown.TheVariants as shown
use Rattle.volatile_log.specs.Log.{LogValue}
use Rattle.witness.specs.Serving.{asked_for, one_or_more, record_size}

-- THE RECORDS SHOWN from an index on: nothing of 0 and above CP, that they are gone up to the base,
-- and else the committed ones from it on, as many as a Give has space for, and at least one
abbrev pub records_from : LogValue → ℕ → Option Shown
records_from log first =
    if first == 0 || nat_lt log.cp first then None
    else (if nat_le first log.base then Some (shown.Gone log.base)
    else Some (shown.Records first (one_or_more record_size (asked_for log first log.cp))))

-- of what a server keeps: nothing where that is no log
abbrev pub records_kept : Kept → ℕ → Option Shown
records_kept (kept.Held log) first = records_from log first
records_kept (kept.Lost lb) first = None
records_kept (kept.Empty e) first = None

-- THE COMMITTED RECORDS of a log are those of a history behind its base
pub record AreCommittedOf (history : History) (log : LogValue) : Type 0 where
  pub within : log.cp ≤ length history
  pub are : take (log.cp - log.base) (map (λ r. r.changes) log.records)
      ≡ take (log.cp - log.base) (drop log.base history)
