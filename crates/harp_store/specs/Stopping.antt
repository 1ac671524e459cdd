-- A store with a stop, as callers see it.
use Rattle.std.specs.Prelude.{◌≡◌, ℕ, ◌+◌, ◌-◌, ◌≤◌, ◌^◌, ◌++◌, length, replicate, Option, None, Some, is_some, true}
use Rattle.harp_store.specs.Disk.{Disk, Moments, synced_whole, then_disk, with_mark, with_value, without_from}
use Rattle.harp_store.specs.Memory.{nothing_stored}
use Rattle.harp_store.specs.declared.attempt.Attempt.{Attempt}
use Rattle.harp_store.specs.declared.attempt.Attempt.TheVariants as attempt

-- what a call would have made of a disk
abbrev pub made : Attempt → Disk → Disk
made (attempt.Put cell value) d = with_value cell (Some value) d
made (attempt.Erase cell) d = with_value cell None d
made (attempt.EraseFrom object first) d = without_from object first d
made attempt.Sync d = synced_whole d
made (attempt.WriteMark mark) d = with_mark mark d

-- the number of the moment at which each stop comes
unfoldable pub stop_moment : ℕ
stop_moment = 2 ^ 64

-- what stands, its moments numbered so that the stop comes at that one
abbrev pub numbered : ℕ → Moments → Moments
numbered left stored = record {
  past = replicate (stop_moment - (left + length stored.past)) nothing_stored.now ++ stored.past;
  now = stored.now;
}

-- the call that failed is told as made
abbrev pub with_failed : Option Attempt → Moments → Moments
with_failed None h = h
with_failed (Some a) h = then_disk (made a h.now) h

-- what a store tells that has so many calls left before its stop
abbrev pub told_by : ℕ → Option Attempt → Moments → Moments
told_by left stopped stored = with_failed stopped (numbered left stored)

-- The stop comes at its moment: no call failed yet, or none passes any more
pub record IsStopping (left : ℕ) (stopped : Option Attempt) (faults past : ℕ) : Type 0 where
  pub before : stopped ≡ None → faults ≡ 0
  pub left_is : is_some stopped ≡ true → left ≡ 0
  pub failed : is_some stopped ≡ true → 1 ≤ faults
  pub within : left + past ≤ stop_moment
