-- Which calls a run's step makes of its server's disk.
use Rattle.std.specs.Prelude.{◌≡◌, ℕ, ◌+◌, Bool, true, false, List, [], ◌∷◌, map, min, Option, if◌then◌else◌}
use Rattle.file_tree.specs.Book.{Entry}
use Rattle.fuzzy_cells.specs.Disk.{Disk}
use Rattle.fuzzy_cells.specs.History.{between}
use Rattle.group_trace.specs.DiskCalls.{Changing, Marking, Spellings, Syncing, after_calls, calls_by, measures_of}
use Rattle.group_trace.specs.DiskRun.{calls_at}
use Rattle.group_rules.specs.Disk.{flush_tests, settled_tests}
use Rattle.group_rules.specs.Moves.{Accepting, Demoting, Joining, Move, Saving}
use Rattle.group_rules.specs.Places.{Place, all_of}
use Rattle.group_rules.specs.State.{Group}
use Rattle.group_rules.specs.Step.{Apply, Crash, Does, Flush, Input, Power, list_of, saves, step_of}
use Rattle.harp_cells.specs.declared.change.Change.{Change}
use Rattle.harp_store.specs.Disk.{Moments, after_changes, after_step, synced_whole, with_mark}
use Rattle.harp_store.specs.Mark.{MarkFields}
use Rattle.power_save.specs.Entries.{saved_entries}
use Rattle.power_save.specs.Saved.{puts_of}
use Rattle.record_changes.specs.Records.{history_of}
use Rattle.store_laws.specs.Calls.{HaveFewBlocks, IsChangeOf}
use Rattle.store_laws.specs.Told.{IsToldOf, OneForOne}
use Rattle.volatile_log.specs.Log.{AreNumberedAfter, LogValue}

-- a move that writes the mark, and does no more to the disk
abbrev pub marks : Move Entry → Bool
marks (Joining v duty) = true
marks (Accepting plan role n) = true
marks (Demoting v) = true
marks m = false

abbrev pub any_marks : List (Move Entry) → Bool
any_marks [] = false
any_marks (m ∷ ms) = if marks m then true else any_marks ms

-- a step that may change or sync cells, or falls
abbrev pub is_of_cells : Input → Bool
is_of_cells (Does (Apply n)) = true
is_of_cells (Does Flush) = true
is_of_cells (Does Power) = true
is_of_cells (Does Crash) = true
is_of_cells i = false

-- the changes of at most n records that an apply makes
abbrev pub applied_by : Group Entry → Place → ℕ → List Change
applied_by g q n = between (history_of (list_of g q)) (g.server q).ap
    (min ((g.server q).ap + n) (g.server q).cp)

-- THE CALLS OF A STEP by what it begins with: an apply changes cells, a flush syncs and writes the
-- mark, a power failure saves, a crash calls nothing, and any other step writes the mark once where
-- one of its moves does
pub record StepsCall (f : Spellings) (g : Group Entry) (q : Place) : Type 0 where
  pub apply : (n : ℕ) → calls_at f g q (Does (Apply n)) ≡
      (if all_of (settled_tests q (g.server q)) then map Changing (applied_by g q n) else [])
  pub flush : calls_at f g q (Does Flush) ≡
      (if all_of (flush_tests q (g.server q)) then Syncing ∷ Marking ∷ [] else [])
  pub power : calls_at f g q (Does Power) ≡ calls_by f (list_of g q) (g.server q) Saving
  pub crash : calls_at f g q (Does Crash) ≡ []
  pub other : (i : Input) → is_of_cells i ≡ false → calls_at f g q i ≡
      (if any_marks (step_of (measures_of f).size g q i) then Marking ∷ [] else [])

abbrev pub StepsMakeCalls : Type 0
StepsMakeCalls = (f : Spellings) (g : Group Entry) (q : Place) → StepsCall f g q

-- ---- what is told after them

-- WHAT A STORE TELLS AFTER A WHOLE STEP has the step's disk: after the changes of an apply, the
-- sync and mark of a flush, the puts, sync and mark of a save, and the one mark of any other step
pub record StepLeaves (f : Spellings) (g : Group Entry) (q : Place) (told : Option Moments)
    (r : Disk) : Type 0 where
  pub apply : (n : ℕ) (made : List Change) → OneForOne IsChangeOf made (applied_by g q n)
      → HaveFewBlocks (calls_at f g q (Does (Apply n))) r
      → IsToldOf (if all_of (settled_tests q (g.server q)) then after_changes made told else told)
      (after_calls (calls_at f g q (Does (Apply n))) r)
  pub flush : (mark : MarkFields) → HaveFewBlocks (calls_at f g q (Does Flush)) r
      → IsToldOf (if all_of (flush_tests q (g.server q)) then
      after_step (with_mark mark) (after_step synced_whole told) else told)
      (after_calls (calls_at f g q (Does Flush)) r)
  pub power : (log : LogValue) (mark : MarkFields) → AreNumberedAfter log.base log.records
      → saved_entries log ≡ record {
        base = (g.server q).base;
        cp = (g.server q).cp;
        items = (g.server q).items;
      }
      → HaveFewBlocks (calls_at f g q (Does Power)) r
      → IsToldOf (if saves (g.server q).held (g.server q).saved then after_step (with_mark mark)
      (after_step synced_whole (after_changes (puts_of log.records) told)) else told)
      (after_calls (calls_at f g q (Does Power)) r)
  pub other : (i : Input) (mark : MarkFields) → is_of_cells i ≡ false
      → HaveFewBlocks (calls_at f g q i) r
      → IsToldOf (if any_marks (step_of (measures_of f).size g q i) then
      after_step (with_mark mark) told else told) (after_calls (calls_at f g q i) r)

abbrev pub StepsLeave : Type 0
StepsLeave = (f : Spellings) (g : Group Entry) (q : Place) (told : Option Moments) (r : Disk)
    → IsToldOf told r → StepLeaves f g q told r
