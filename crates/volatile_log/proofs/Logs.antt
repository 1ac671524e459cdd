-- Logs that others become stand in order too.
use Rattle.std.proofs.Common.{◌≡◌, ℕ, ◌+◌, ◌-◌, ◌<◌, ◌≤◌, List, [], ◌∷◌, ◌++◌, length, take, drop, max, Bool, true, false, arith, if◌then◌else◌}
use Rattle.std.proofs.lemmas.List.{length-append, length-drop, length-take}
use Rattle.event_record.specs.declared.record.RecordFields.{RecordFields as Record}
use Rattle.volatile_log.specs.Log.{AreNumberedAfter, IsLog, IsStaged, LogValue, StagedValue, dropped_to, next, resumed_log, room, top}
use Rattle.volatile_log.proofs.Numbers.{numbered_append, numbered_drop, numbered_take, renumbered, staged_after, staged_more}

-- records without those up to n
numbered_past : (log : LogValue) (n : ℕ) → IsLog log → log.base ≤ n → AreNumberedAfter n (drop (n - log.base) log.records)
numbered_past log n h from =
    renumbered (log.base + (n - log.base)) n (drop (n - log.base) log.records) (omega (arith, from)) (numbered_drop log.base (n - log.base) log.records h.numbered)

pub dropped_is_log : (log : LogValue) (n : ℕ) → IsLog log → log.base ≤ n → n ≤ log.lb → IsLog (dropped_to log n)
dropped_is_log log n h from to =
    let left = length-drop (n - log.base) log.records in
    record {
      base = to;
      lb = h.lb;
      ap = h.ap;
      cp = omega (arith, left, h.cp, from);
      top = omega (arith, left, h.lb, h.ap, h.cp, h.top, from, to);
      few = omega (arith, left, h.few);
      numbered = numbered_past log n h from;
    }

pub resumed_is_log : (log : LogValue) (base : ℕ) → IsLog log → log.base ≤ base → base ≤ top log → IsLog (resumed_log log base)
resumed_is_log log base h from to =
    let left = length-drop (base - log.base) log.records in
    record {
      base = omega arith;
      lb = omega (arith, h.lb);
      ap = omega (arith, h.ap);
      cp = omega (arith, left, h.cp, from, to);
      top = omega (arith, left, h.top, from, to);
      few = omega (arith, left, h.few);
      numbered = numbered_past log base h from;
    }

-- the kept records and the pulled ones
abbrev pub kept_and_pulled : LogValue → List Record → ℕ → List Record
kept_and_pulled log staged base = drop (base - log.base) (take (log.cp - log.base) log.records) ++ staged

pub kept_length : (log : LogValue) (staged : List Record) (base : ℕ) → IsLog log → log.base ≤ base → base ≤ log.lb
    → length (kept_and_pulled log staged base) ≡ log.cp - base + length staged
kept_length log staged base h from to =
    let all = length-append (drop (base - log.base) (take (log.cp - log.base) log.records)) staged in
    let left = length-drop (base - log.base) (take (log.cp - log.base) log.records) in
    let kept = length-take (log.cp - log.base) log.records in
    omega (arith, all, left, kept, h.base, h.lb, h.ap, h.cp, from, to)

-- where a staging list begins above CP and is full up to a start that a log with this base has room for
pub adopted_is_log : (log : LogValue) (s : StagedValue) (base cp : ℕ) → IsLog log → IsStaged s → s.start < next s → s.first ≡ log.cp + 1
    → log.base ≤ base → base ≤ log.lb → log.cp ≤ s.start → cp ≤ s.start → s.start ≤ base + room
    → IsLog (record { base = base; lb = log.lb; ap = log.ap; cp = max log.cp cp; records = kept_and_pulled log s.records base })
adopted_is_log log s base cp h staged full first from to own told few =
    let kept = drop (base - log.base) (take (log.cp - log.base) log.records) in
    let left = length-drop (base - log.base) (take (log.cp - log.base) log.records) in
    let taken = length-take (log.cp - log.base) log.records in
    let all = kept_length log s.records base h from to in
    let numbers : AreNumberedAfter base kept = renumbered (log.base + (base - log.base)) base kept (omega (arith, from))
    (numbered_drop log.base (base - log.base) (take (log.cp - log.base) log.records) (numbered_take log.base (log.cp - log.base) log.records h.numbered)) in
    record {
      base = to;
      lb = h.lb;
      ap = omega (arith, h.ap);
      cp = omega (arith, all, h.lb, h.ap, to, full, first, own, told, staged.within);
      top = omega (arith, all, h.lb, h.ap, to, first, own, staged.within, staged.start);
      few = omega (arith, all, h.lb, h.ap, to, first, own, staged.within, few);
      numbered = numbered_append base kept s.records numbers (staged_after s.first (base + length kept) s.records
          (omega (arith, left, taken, first, h.base, h.lb, h.ap, h.cp, from, to)) staged.numbered);
    }

-- with the next record, where it was taken
pub taken_is_staged : (b : Bool) (s : StagedValue) (r : Record) → IsStaged s → next s ≤ s.start → r.index ≡ next s
    → IsStaged (record s { records = if b then s.records ++ r ∷ [] else s.records })
taken_is_staged true s r h wanted is =
    let more = length-append s.records (r ∷ []) in
    record {
      start = h.start;
      few = h.few;
      within = omega (arith, more, h.within, wanted);
      numbered = staged_more s.first s.records r h.numbered is;
    }
taken_is_staged false s r h wanted is = h
