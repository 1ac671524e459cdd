-- Which part a storer can take in a view, what it pulls, and what it goes on with.
use Rattle.std.specs.Prelude.{◌≡◌, ℕ, ◌+◌, ◌-◌, ◌<◌, ◌≤◌, ◌^◌, ◌++◌, Bool, true, false, List, map, take, drop, if◌then◌else◌}
use Rattle.event_record.specs.Record.{entry_of}
use Rattle.event_record.specs.declared.record.RecordFields.{RecordFields}
use Rattle.file_tree.specs.Book.{Entry}
use Rattle.group_rules.specs.Form.{adopted, keeps}
use Rattle.group_rules.specs.Limits.{is_log}
use Rattle.group_rules.specs.Places.{Place, is_p2, same}
use Rattle.group_rules.specs.State.{Plan, Server}
use Rattle.idle_log.specs.Kept.{AtBase, IsPlaced, base_in, cp_in, held_in, lb_in, log_in, top_in, with_kept}
use Rattle.idle_log.specs.declared.kept.Kept.{Kept}
use Rattle.idle_log.specs.LogLaws.{new_log}
use Rattle.volatile_log.specs.Log.{LogValue, StagedValue, room, top}

-- records of the own log stay: those of the source, and of a held data server
abbrev pub keeps_of : Place → Kept → Plan → Bool
keeps_of q k plan = if is_log (held_in k) then
    (if is_p2 q then same q plan.source else true) else false

-- What the tests of a plan say of its numbers and of the log that a storer holds
pub record CanTake (q : Place) (k : Kept) (plan : Plan) : Type 0 where
  pub placed : IsPlaced q k
  pub base : plan.base ≤ plan.start
  pub cp : plan.cp ≤ plan.start
  pub limit : plan.start < 2 ^ 62
  pub room : plan.start ≤ plan.base + room
  -- all that it knows as committed stays
  pub covered : cp_in k ≤ plan.start
  -- what is dropped is on a data server's disk, and isn't what was dropped before
  pub disk : (lb : ℕ) → is_p2 q ≡ false → plan.base ≤ lb_in lb k
  pub goes_on : keeps_of q k plan ≡ true → base_in k ≤ plan.base
  pub held : same q plan.source ≡ true → is_log (held_in k) ≡ true
  pub source : same q plan.source ≡ true → top_in k ≡ plan.start

-- how many records of the view aren't pulled: of the source all
abbrev pub needless : Place → Kept → Plan → ℕ
needless q k plan = if same q plan.source then plan.start else
    (if keeps_of q k plan then cp_in k else plan.base)

-- a list for the records that are pulled
abbrev pub IsFor : Place → Kept → Plan → StagedValue → Type 0
IsFor q k plan staged = (staged.first ≡ needless q k plan + 1) × (staged.start ≡ plan.start)

-- the records that a storer goes on with, whole: of its own and of the staged ones those whose
-- entries the machine adopts
abbrev pub adopted_records : Place → Server Entry → Plan → (own staged : List RecordFields)
    → List RecordFields
adopted_records q s plan own staged =
    if same q plan.source then drop (plan.base - s.base) own
    else (if keeps q s plan then drop (plan.base - s.base) (take (s.cp - s.base) own ++ staged)
    else staged)

-- A storer goes on with this log when it accepts: it is the machine's, with all records that the
-- view starts with
pub record TakesUp (q : Place) (k : Kept) (plan : Plan) (staged : List RecordFields)
    (log : LogValue) : Type 0 where
  pub adopts : (s : Server Entry)
      → new_log log ≡ adopted q (with_kept s k) plan (map entry_of staged)
  pub records : (s : Server Entry)
      → log.records ≡ adopted_records q (with_kept s k) plan (log_in k).records staged
  pub top : top log ≡ plan.start
  pub placed : AtBase q log
