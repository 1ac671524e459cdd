-- The typed logs beside the group's machine.
use Rattle.std.specs.Prelude.{◌≡◌, ℕ, ◌+◌, ◌-◌, ◌≤◌, ◌⊎◌, ◌==◌, true, false, List, [], ◌∷◌, ◌++◌, map, max, min, take, None, Some, option_map, if◌then◌else◌}
use Rattle.event_record.specs.Record.{entry_of}
use Rattle.event_record.specs.declared.record.RecordFields.{RecordFields}
use Rattle.file_tree.specs.Book.{Entry}
use Rattle.group_rules.specs.Effects.{NewLog, joined_server, opening, report_of, taken}
use Rattle.group_rules.specs.Form.{adopted}
use Rattle.group_rules.specs.Limits.{by_held}
use Rattle.group_rules.specs.Moves.{Appending, Applying, Basing, Committing, Flushing, Heeding, Opening, act}
use Rattle.group_rules.specs.Places.{Place, all_of, is_p2, nobody, same}
use Rattle.group_rules.specs.Serving.{asked_for, held_tests, one_or_more}
use Rattle.group_rules.specs.State.{Duty, Live, Log, Lost, Plan, Server}
use Rattle.volatile_log.specs.Log.{IsLog, LogValue, adopted_by_empty, adopted_by_lost, adopted_log, applied_to, committed_to, dropped_to, lowered_to, resumed_log, top, with_record}
use Rattle.witness.specs.Serving.{asked_for as asked, given}

-- the numbers and entries of a log
abbrev pub new_log : LogValue → NewLog Entry
new_log l = record {
  base = l.base;
  lb = l.lb;
  ap = l.ap;
  cp = l.cp;
  items = map entry_of
      l.records;
}

-- the server with this log
abbrev pub with_log : Server Entry → LogValue → Server Entry
with_log s l = record s {
  held = Log;
  lb = l.lb;
  base = l.base;
  ap = l.ap;
  cp = l.cp;
  items = map
      entry_of l.records;
}

-- A source has what it resumes, with CP raised to the view's. At the witness LB and AP stand at
-- the base
abbrev pub Resumes : Type 0
Resumes = (q : Place) (s : Server Entry) (l : LogValue) (plan : Plan)
    → IsLog l → same q plan.source ≡ true → l.base ≤ plan.base
    → ((is_p2 q ≡ false) × (plan.base ≤ l.lb)) ⊎ ((is_p2 q ≡ true) × (l.lb ≡ l.base) × (l.ap
    ≡ l.base))
    → new_log (committed_to (resumed_log l plan.base) (max (resumed_log l plan.base).cp plan.cp))
    ≡ adopted q (with_log s l) plan []

-- A held data server that isn't the source has what it adopts
abbrev pub AdoptsHeld : Type 0
AdoptsHeld = (q : Place) (s : Server Entry) (l : LogValue) (plan : Plan)
    (staged : List RecordFields)
    → IsLog l → same q plan.source ≡ false → is_p2 q ≡ false → plan.base ≤ l.lb
    → new_log (adopted_log l staged plan.base plan.cp)
    ≡ adopted q (with_log s l) plan (map entry_of staged)

-- so has a lost one
abbrev pub AdoptsLost : Type 0
AdoptsLost = (q : Place) (s : Server Entry) (plan : Plan) (staged : List RecordFields)
    → same q plan.source ≡ false → is_p2 q ≡ false → plan.base ≤ s.lb
    → new_log (adopted_by_lost s.lb staged plan.base plan.cp)
    ≡ adopted q (record s { held = Lost }) plan (map entry_of staged)

-- and so has the witness, whatever it held before, with the greater of its CP and the view's
abbrev pub AdoptsAtWitness : Type 0
AdoptsAtWitness = (q : Place) (s : Server Entry) (plan : Plan) (staged : List RecordFields)
    → same q plan.source ≡ false → is_p2 q ≡ true
    → new_log (adopted_by_empty staged plan.base (max (by_held s.held s.cp s.lb) plan.cp))
    ≡ adopted q s plan (map entry_of staged)

-- an active log takes a record
abbrev pub Puts : Type 0
Puts = (q : Place) (clock : ℕ) (s : Server Entry) (l : LogValue) (r : RecordFields)
    → act q clock (with_log s l) (Appending (entry_of r)) ≡ with_log s (with_record l r)

-- it commits, applies, and keeps what is on the disk
abbrev pub Commits : Type 0
Commits = (q : Place) (clock : ℕ) (s : Server Entry) (l : LogValue) (n : ℕ)
    → (act q clock (with_log s l) (Committing n) ≡ with_log s (committed_to l n))
    × (act q clock (with_log s l) (Applying n) ≡ with_log s (applied_to l n))
    × (act q clock (with_log s l) Flushing ≡ with_log s (lowered_to l l.ap))

abbrev pub Drops : Type 0
Drops = (q : Place) (clock : ℕ) (s : Server Entry) (l : LogValue) (n : ℕ)
    → act q clock (with_log s l) (Basing n) ≡ with_log s (dropped_to l n)

-- the log with the next record; others aren't taken
abbrev pub taken_log : LogValue → RecordFields → LogValue
taken_log l r = if r.index == top l + 1 then with_record l r else l

-- committed as far as told
abbrev pub raised_log : LogValue → (cp : ℕ) → LogValue
raised_log l cp = committed_to l (max l.cp (min cp (top l)))

-- a partner's state beside its log, where it heeds
abbrev pub live : ℕ → Server Entry → Server Entry
live clock s = record s { mode = Live; heard = nobody; horizon = max s.horizon (clock + s.delta) }

-- A partner that heeds an Event drops to the base first, then takes the record, and then commits
-- as far as told
abbrev pub Heeds : Type 0
Heeds = (q : Place) (clock : ℕ) (s : Server Entry) (l : LogValue) (base cp : ℕ) (r : RecordFields)
    → IsLog l → base ≤ l.lb
    → act q clock (with_log s l) (Heeding (taken (with_log s l) r.index (entry_of r)) cp base)
    ≡ with_log (live clock s) (raised_log (taken_log (dropped_to l (max l.base base)) r) cp)

-- of a Beat it takes no record
abbrev pub HeedsBeats : Type 0
HeedsBeats = (q : Place) (clock : ℕ) (s : Server Entry) (l : LogValue) (base cp : ℕ)
    → IsLog l → base ≤ l.lb
    → act q clock (with_log s l) (Heeding (map entry_of l.records) cp base)
    ≡ with_log (live clock s) (raised_log (dropped_to l (max l.base base)) cp)

-- a leader that opens commits all that its log has
abbrev pub Opens : Type 0
Opens = (q : Place) (clock : ℕ) (s : Server Entry) (l : LogValue) (lb : ℕ)
    → act q clock (with_log s l) (Opening lb)
    ≡ with_log (opening s s.plan.start lb) (committed_to l (top l))

-- joining a higher view leaves the log, and reports its numbers
abbrev pub Freezes : Type 0
Freezes = (s : Server Entry) (l : LogValue) (v : ℕ) (duty : Duty)
    → joined_server (with_log s l) v duty ≡ with_log (joined_server (with_log s l) v duty) l

abbrev pub Reports : Type 0
Reports = (s : Server Entry) (l : LogValue) → report_of (with_log s l) ≡ record {
  held = Log;
  accepted = s.accepted;
  base = l.base;
  lb = l.lb;
  cp = l.cp;
  top = top l;
  horizon = s.horizon;
}

-- the sizes of these records are those of their entries in a list that begins with `before`
abbrev pub Sized : (List Entry → Entry → ℕ) → (RecordFields → ℕ) → List Entry
    → List RecordFields → Type 0
Sized size each before [] = Unit {0}
Sized size each before (r ∷ rs) = (size before (entry_of r)
    ≡ each r) × Sized size each (before ++ entry_of r ∷ []) rs

-- A fetch is served what the machine serves, where the sizes of the records are those of their
-- entries in the list: the log's records from the asked one on, up to `last`, where it is held and
-- among them
abbrev pub Serves : Type 0
Serves = (size : List Entry → Entry → ℕ) (each : RecordFields
    → ℕ) (list : List Entry) (s : Server Entry) (l : LogValue)
    (index last : ℕ) → last ≤ top l → Sized size each (take (index - 1) list) (asked l index last)
    → option_map (map entry_of) (given each l index last)
    ≡ (if all_of (held_tests (with_log s l) index last)
    then Some (one_or_more size (take (index - 1) list) (asked_for
    (with_log s l) index last)) else None)
