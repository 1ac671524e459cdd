-- What holds of the disk that a store tells, beside that of a run.
use Rattle.std.specs.Prelude.{◌≡◌, ℕ, suc, true, false, not, ◌&&◌, ◌+◌, ◌<◌, ◌≤◌, List, [], ◌∷◌, ◌++◌, length, map, take, Option, Some}
use Rattle.applier.specs.Applied.{FlushesInPart}
use Rattle.trace_laws.specs.DiskLaws.{HasFewBlocks}
use Rattle.event_record.specs.Record.{entry_of}
use Rattle.event_record.specs.declared.record.RecordFields.{RecordFields}
use Rattle.file_tree.specs.Book.{Entry}
use Rattle.fuzzy_cells.specs.Disk.{Disk, reads, synced_to, with_changes}
use Rattle.fuzzy_cells.specs.Fuzzy.{AreAlike}
use Rattle.group_trace.specs.DiskCalls.{Changing, DiskCall, Spellings, after_calls, calls_by, measures_of, saved_puts}
use Rattle.group_trace.specs.Picks.{crashed_by}
use Rattle.group_trace.specs.DiskRun.{calls_at, disk_after, disk_run, empty_stores, first_disk_scene, is_crash, is_whole}
use Rattle.group_rules.specs.Moves.{Saving}
use Rattle.group_rules.specs.Places.{Place}
use Rattle.group_rules.specs.State.{Group, Server}
use Rattle.group_rules.specs.Step.{Input, saves}
use Rattle.group_trace.specs.Run.{CanFollow}
use Rattle.group_trace.specs.Scene.{first_scene}
use Rattle.harp_cells.specs.declared.change.Change.{Change}
use Rattle.harp_store.specs.Disk.{AfterPart, Disk as ToldDisk, MayHaveMade, Moments, Now, after_changes, after_step, changed_by_all, moment, reads as told_reads, synced_whole, then_disk, with_mark}
use Rattle.harp_store.specs.Laws.{IsNumbered}
use Rattle.harp_store.specs.Mark.{MarkFields}
use Rattle.harp_store.specs.Memory.{crashed_by as told_crashed_by, nothing_stored}
use Rattle.power_save.specs.Entries.{saved_entries}
use Rattle.power_save.specs.Saved.{SavesInPart, puts_of}
use Rattle.store_laws.specs.Calls.{HaveFewBlocks, IsCallOf, IsChangeOf, Makes, StoreCall, Writes, flush_calls, passing, save_calls, told_after}
use Rattle.store_laws.specs.Told.{IsDiskOf, IsToldOf, OneForOne}
use Rattle.harp_types.specs.declared.pick.Pick.{Pick}
use Rattle.trace_types.specs.declared.step.Step.{Step}
use Rattle.volatile_log.specs.Log.{AreNumberedAfter, LogValue}

-- ---- the disk of a store and that of a run

-- new disks
abbrev pub NewDisksAre : Type 0
NewDisksAre = (q : Place) → IsDiskOf nothing_stored.now (empty_stores q)

-- reads give the same, but of the cells of saved logs
abbrev pub ReadsAreAlike : Type 0
ReadsAreAlike = (d : ToldDisk) (r : Disk) → IsDiskOf d r → HasFewBlocks r
    → AreAlike (told_reads d) (reads r)

-- no block of a store has a number behind the last one
abbrev pub AreNumbered : Type 0
AreNumbered = (d : ToldDisk) (r : Disk) → IsDiskOf d r → HasFewBlocks r → IsNumbered d

-- ---- after calls

-- changes of cells, one for one
abbrev pub ChangesFollow : Type 0
ChangesFollow = (d : ToldDisk) (r : Disk) (made changes : List Change) → IsDiskOf d r
    → OneForOne IsChangeOf made changes
    → HasFewBlocks (with_changes r changes)
    → IsDiskOf (changed_by_all made d) (with_changes r changes)

-- each change is itself
abbrev pub EqualChangesAre : Type 0
EqualChangesAre = (changes : List Change) → OneForOne IsChangeOf changes changes

-- a sync
abbrev pub SyncsFollow : Type 0
SyncsFollow = (d : ToldDisk) (r : Disk) → IsDiskOf d r → HasFewBlocks r
    → IsDiskOf (synced_whole d) (synced_to (reads r))

-- a mark that is written
abbrev pub MarksFollow : Type 0
MarksFollow = (d : ToldDisk) (r : Disk) (mark : MarkFields) → IsDiskOf d r
    → IsDiskOf (with_mark mark d) r

-- a crash by one pick
abbrev pub CrashesFollow : Type 0
CrashesFollow = (d : ToldDisk) (r : Disk) (pick : Pick) → IsDiskOf d r
    → IsDiskOf (told_crashed_by pick d) (crashed_by pick r)

-- the first calls, one for one
abbrev pub CallsFollow : Type 0
CallsFollow = (told : Option Moments) (r : Disk) (calls : List StoreCall) (others : List DiskCall)
    (k : ℕ) → IsToldOf told r → OneForOne IsCallOf calls others → HaveFewBlocks others r
    → IsToldOf (told_after (take k calls) told) (after_calls (take k others) r)

-- A STEP OF A RUN whose calls a store makes: what is told after all of them has the step's disk;
-- where the step crashes or a stop cuts it, that is what its pick leaves of what is told after the
-- calls that pass
pub record StepIsTold (f : Spellings) (g : Group Entry) (stop : Option ℕ) (pick : Pick)
    (q : Place) (i : Input) (calls : List StoreCall) (told : Option Moments)
    (r : Disk) : Type 0 where
  pub whole : (is_whole f g stop q i && not (is_crash i)) ≡ true
      → IsToldOf (told_after calls told) (disk_after f g stop pick q i r)
  pub crashed : (is_whole f g stop q i && not (is_crash i)) ≡ false
      → Now (λ d. IsDiskOf (told_crashed_by pick d) (disk_after f g stop pick q i r))
      (told_after (passing stop calls) told)

abbrev pub StepsFollow : Type 0
StepsFollow = (f : Spellings) (g : Group Entry) (stop : Option ℕ) (pick : Pick) (q : Place)
    (i : Input) (calls : List StoreCall) (told : Option Moments) (r : Disk) → IsToldOf told r
    → OneForOne IsCallOf calls (calls_at f g q i)
    → HaveFewBlocks (calls_at f g q i) r
    → StepIsTold f g stop pick q i calls told r

-- in every run each disk has few blocks, and has them after any first calls of a step
abbrev pub RunsHaveFewBlocks : Type 0
RunsHaveFewBlocks = (f : Spellings) (ss : List Step) → CanFollow (measures_of f) first_scene ss
    → (q : Place) (i : Input)
    → HaveFewBlocks (calls_at f (disk_run f first_disk_scene ss).scene.group q i)
    ((disk_run f first_disk_scene ss).disks q)

-- ---- which calls they are

-- each call makes one moment, so the moments tell how many passed
abbrev pub CallsAreMoments : Type 0
CallsAreMoments = (calls : List StoreCall) (old new : Moments) → told_after calls (Some old) ≡
    Some new → moment new ≡ moment old + length calls

-- the moment before the last of some first calls is that after the others
abbrev pub MomentsBeforeStand : Type 0
MomentsBeforeStand = (calls : List StoreCall) (k : ℕ) (told : Option Moments) (before : Moments)
    (d : ToldDisk) → k < length calls → told_after (take (suc k) calls) told ≡
    Some (then_disk d before) → told_after (take k calls) told ≡ Some before

-- changes, and then other calls
abbrev pub ChangesAreCalls : Type 0
ChangesAreCalls = (changes : List Change) (more : List StoreCall) (told : Option Moments)
    → told_after (map Makes changes ++ more) told ≡ told_after more (after_changes changes told)

-- first changes, where a stop lets no more pass
abbrev pub FirstChangesAreCalls : Type 0
FirstChangesAreCalls = (k : ℕ) (changes : List Change) (told : Option Moments)
    → told_after (take k (map Makes changes)) told ≡ after_changes (take k changes) told

-- changes one for one are calls one for one
abbrev pub ChangesAreOfCalls : Type 0
ChangesAreOfCalls = (made changes : List Change) → OneForOne IsChangeOf made changes
    → OneForOne IsCallOf (map Makes made) (map Changing changes)

-- the puts of a log that is saved are those of the run's save
abbrev pub PutsAreSaved : Type 0
PutsAreSaved = (f : Spellings) (list : List Entry) (base : ℕ) (records : List RecordFields)
    (items : List Entry) → AreNumberedAfter base records → map entry_of records ≡ items
    → OneForOne IsChangeOf (puts_of records) (saved_puts f list base items)

-- a save that is made: its calls are those of the run's move, and this is what is told after them
abbrev pub SavesAreCalls : Type 0
SavesAreCalls = (f : Spellings) (list : List Entry) (s : Server Entry) (log : LogValue)
    (mark : MarkFields) → saves s.held s.saved ≡ true → AreNumberedAfter log.base log.records
    → saved_entries log ≡ record { base = s.base; cp = s.cp; items = s.items }
    → OneForOne IsCallOf (save_calls log mark) (calls_by f list s Saving)

abbrev pub SavesAreTold : Type 0
SavesAreTold = (log : LogValue) (mark : MarkFields) (told : Option Moments)
    → told_after (save_calls log mark) told ≡
    after_step (with_mark mark) (after_step synced_whole (after_changes (puts_of log.records) told))

-- ---- a part of calls, as an error leaves it, is some first ones of them

-- of an apply
abbrev pub PartsAreFirstChanges : Type 0
PartsAreFirstChanges = (changes : List Change) (old new : Option Moments)
    → AfterPart changes old new
    → (n : ℕ) × (new ≡ told_after (take n (map Makes changes)) old)

-- of a flush
abbrev pub PartsAreFirstFlushes : Type 0
PartsAreFirstFlushes = (mark : MarkFields) (old new : Option Moments) → FlushesInPart mark old new
    → (n : ℕ) × (new ≡ told_after (take n (flush_calls mark)) old)

-- of a save
abbrev pub PartsAreFirstSaves : Type 0
PartsAreFirstSaves = (log : LogValue) (mark : MarkFields) (old new : Option Moments)
    → SavesInPart log mark old new
    → (n : ℕ) × (new ≡ told_after (take n (save_calls log mark)) old)

-- of a mark alone
abbrev pub PartsAreFirstMarks : Type 0
PartsAreFirstMarks = (mark : MarkFields) (old new : Option Moments)
    → MayHaveMade (with_mark mark) old new
    → (n : ℕ) × (n ≤ 1) × (new ≡ told_after (take n (Writes mark ∷ [])) old)
