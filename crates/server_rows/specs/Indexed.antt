-- An index over a log.
use Rattle.std.specs.Prelude.{map}
use Rattle.overlay.specs.Index.{Entries, IsIndexOf}
use Rattle.volatile_log.specs.Log.{LogValue}

-- the index is that of the changes of the log's records
abbrev pub IsOver : Entries → LogValue → Type 0
IsOver index log = IsIndexOf index log.base (map (λ r. r.changes) log.records)
