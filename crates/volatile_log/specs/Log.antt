-- A log in memory: its numbers, and the records after its base.
use Rattle.std.specs.Prelude.{◌≡◌, ℕ, ◌+◌, ◌-◌, ◌<◌, ◌≤◌, ◌^◌, List, [], ◌∷◌, ◌++◌, length, take, drop, max, Option, None, nat_lt, if◌then◌else◌}
use Rattle.std.specs.List.{slice_get}
use Rattle.harp_types.specs.Limits.{log_room}
use Rattle.event_record.specs.declared.record.RecordFields.{RecordFields as Record}

-- the records base + 1 to base + length records; those up to LB are on the disk, up to AP applied,
-- up to CP committed
pub record LogValue : Type 0 where
  pub base : ℕ
  pub lb : ℕ
  pub ap : ℕ
  pub cp : ℕ
  pub records : List Record

-- the index of the last record
abbrev pub top : LogValue → ℕ
top log = log.base + length log.records

-- how many records a log has room for
abbrev pub room : ℕ
room = log_room

-- the records have the indices n + 1, n + 2 and so on
abbrev pub AreNumberedAfter : ℕ → List Record → Type 0
AreNumberedAfter n [] = Unit {0}
AreNumberedAfter n (r ∷ rs) = (r.index ≡ n + 1) × AreNumberedAfter (n + 1) rs

-- the numbers stand in their order and within their limits, and the records follow each other from
-- the base on
pub record IsLog (log : LogValue) : Type 0 where
  pub base : log.base ≤ log.lb
  pub lb : log.lb ≤ log.ap
  pub ap : log.ap ≤ log.cp
  pub cp : log.cp ≤ top log
  pub top : top log < 2 ^ 62
  pub few : length log.records ≤ room
  pub numbered : AreNumberedAfter log.base log.records

abbrev pub empty_log : LogValue
empty_log = record { base = 0; lb = 0; ap = 0; cp = 0; records = [] }

-- with one more record at the end
abbrev pub with_record : LogValue → Record → LogValue
with_record log r = record log { records = log.records ++ r ∷ [] }

-- committed up to this index
abbrev pub committed_to : LogValue → ℕ → LogValue
committed_to log n = record log { cp = n }

-- the record of an index, none up to the base and above the top
abbrev pub record_at : LogValue → ℕ → Option Record
record_at log index =
    if nat_lt log.base index then slice_get log.records (index - log.base - 1)
    else None

-- applied up to this index
abbrev pub applied_to : LogValue → ℕ → LogValue
applied_to log n = record log { ap = n }

-- on the disk up to this index
abbrev pub lowered_to : LogValue → ℕ → LogValue
lowered_to log n = record log { lb = n }

-- without the records up to this index
abbrev pub dropped_to : LogValue → ℕ → LogValue
dropped_to log n = record log { base = n; records = drop (n - log.base) log.records }

-- ---- pulling and accepting

-- records from `first` on, which are collected up to a view's start
pub record StagedValue : Type 0 where
  pub first : ℕ
  pub start : ℕ
  pub records : List Record

-- the index of the record that is wanted next
abbrev pub next : StagedValue → ℕ
next s = s.first + length s.records

-- the records have the indices n, n + 1 and so on
abbrev pub AreNumberedFrom : ℕ → List Record → Type 0
AreNumberedFrom n [] = Unit {0}
AreNumberedFrom n (r ∷ rs) = (r.index ≡ n) × AreNumberedFrom (n + 1) rs

-- the records follow each other from `first` up to the start at most, and a log has room for all that are wanted
pub record IsStaged (s : StagedValue) : Type 0 where
  pub start : s.start < 2 ^ 62
  pub few : s.start < s.first + room
  pub within : next s ≤ max s.first (s.start + 1)
  pub numbered : AreNumberedFrom s.first s.records

-- with the next record
abbrev pub with_staged : StagedValue → Record → StagedValue
with_staged s r = record s { records = s.records ++ r ∷ [] }

-- A source's log in a view with this base: without the records up to the base. Where the base is above LB, then LB, AP
-- and a lower CP become the base
abbrev pub resumed_log : LogValue → ℕ → LogValue
resumed_log log base = record {
  base = base;
  lb = max log.lb base;
  ap = max log.ap base;
  cp = max log.cp base;
  records = drop (base - log.base) log.records;
}

-- A held data server's log in a view with this base and CP, of which it isn't the source: the records up to its own CP
-- and the staged ones, without those up to the base
abbrev pub adopted_log : LogValue → List Record → ℕ → ℕ → LogValue
adopted_log log staged base cp = record log {
  base = base;
  cp = max log.cp cp;
  records = drop (base - log.base) (take (log.cp - log.base) log.records ++ staged);
}

-- a lost data server's log, LB being on its disk: the staged records
abbrev pub adopted_by_lost : ℕ → List Record → ℕ → ℕ → LogValue
adopted_by_lost lb staged base cp = record { base = base; lb = lb; ap = lb; cp = max lb cp; records = staged }

-- a witness's log: the staged records, with LB and AP at the base
abbrev pub adopted_by_empty : List Record → ℕ → ℕ → LogValue
adopted_by_empty staged base cp = record { base = base; lb = base; ap = base; cp = max base cp; records = staged }
