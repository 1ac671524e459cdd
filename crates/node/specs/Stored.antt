-- What a step brings to a server's disk, by its input.
use Rattle.std.specs.Prelude.{◌≡◌, ◌⊎◌, ℕ, Bool, true, List, [], Option, None, Some, if◌then◌else◌}
use Rattle.applier.specs.Applied.{FlushesInPart, flushed, lower}
use Rattle.cell_cache.specs.Entries.{Entries}
use Rattle.file_tree.specs.Book.{Entry}
use Rattle.group_rules.specs.Disk.{flush_tests, settled_tests}
use Rattle.group_rules.specs.Moves.{Move}
use Rattle.group_rules.specs.Places.{all_of}
use Rattle.group_rules.specs.Step.{Apply, Ask, Does, Flush, Input, ListTree}
use Rattle.harp_cells.specs.declared.change.Change.{Change}
use Rattle.harp_store.specs.Disk.{AfterPart, Moments, after_changes}
use Rattle.harp_store.specs.Mark.{MarkFields}
use Rattle.idle_log.specs.Kept.{log_in as kept_log}
use Rattle.node.specs.Disk.{MayLeave, disk_after, marked_by}
use Rattle.node.specs.Node.{NodeValue}
use Rattle.node.specs.declared.state.State.{State}
use Rattle.node.specs.declared.state.State.TheVariants as state
use Rattle.tree_log.specs.Applying.{changes_by}
use Rattle.volatile_log.specs.Log.{LogValue, empty_log}

-- ---- the log of an active server

-- as its leader or its partner has it
abbrev pub log_in : State → LogValue
log_in state.Gone = empty_log
log_in (state.Rests kept) = kept_log kept
log_in (state.Joined kept joining) = kept_log kept
log_in (state.Pulls kept joining plan staged) = kept_log kept
log_in (state.Leads leader plan) = leader.log
log_in (state.Follows partner plan) = partner.log

-- and as its node tells it
abbrev pub log_of : NodeValue → LogValue
log_of n = record {
  base = n.plain.base;
  lb = n.plain.lb;
  ap = n.plain.ap;
  cp = n.plain.cp;
  records = n.records;
}

-- a leader or a partner with this log and these cells in memory; another state stays
abbrev pub with_log : State → LogValue → Entries → State
with_log state.Gone log cached = state.Gone
with_log (state.Rests kept) log cached = state.Rests kept
with_log (state.Joined kept joining) log cached = state.Joined kept joining
with_log (state.Pulls kept joining plan staged) log cached = state.Pulls kept joining plan staged
with_log (state.Leads leader plan) log cached = state.Leads
    (record leader { log = log; cached = cached }) plan
with_log (state.Follows partner plan) log cached = state.Follows
    (record partner { log = log; cached = cached }) plan

-- ---- applying and flushing

-- a settled data server brings updates to its disk, and lists its tree
abbrev pub stores : NodeValue → Bool
stores n = all_of (settled_tests n.me n.plain)

-- it flushes where AP is above LB
abbrev pub flushes : NodeValue → Bool
flushes n = all_of (flush_tests n.me n.plain)

-- the changes of at most so many records after AP, up to CP, at a server that stores
abbrev pub changes_made : ℕ → NodeValue → List Change
changes_made most n = if stores n then changes_by most (log_of n) else []

-- the mark after a flush
abbrev pub mark_flushed : NodeValue → MarkFields
mark_flushed n = if flushes n then lower n.plain.ap n.mark else n.mark

-- and the disk
abbrev pub disk_flushed : NodeValue → Option Moments → Option Moments
disk_flushed n told = if flushes n then flushed (lower n.plain.ap n.mark) told else told

-- a flush that failed leaves the disk as it was, or after a first part of its calls, where it makes
-- any
abbrev pub LeavesFlush : NodeValue → (old new : Option Moments) → Type 0
LeavesFlush n old new = (new ≡ old) ⊎ ((flushes n ≡ true)
    × FlushesInPart (lower n.plain.ap n.mark) old new)

-- ---- what is given, if anything, which makes these moves at this server

-- THE MARK afterwards, in memory and on the disk: neither an ask nor an apply nor a listing writes
-- it
abbrev pub mark_by : NodeValue → List (Move Entry) → Option Input → MarkFields
mark_by n ms None = n.mark
mark_by n ms (Some (Does (Ask client number cred call))) = n.mark
mark_by n ms (Some (Does (Apply most))) = n.mark
mark_by n ms (Some (Does Flush)) = mark_flushed n
mark_by n ms (Some (Does ListTree)) = n.mark
mark_by n ms (Some i) = marked_by n.mark ms

-- THE DISK afterwards: a flush syncs it and writes the mark, an apply makes changes of cells, and
-- what else is given at most writes the mark
abbrev pub disk_by : NodeValue → List (Move Entry) → Option Input → Option Moments → Option Moments
disk_by n ms None told = told
disk_by n ms (Some (Does (Ask client number cred call))) told = told
disk_by n ms (Some (Does (Apply most))) told = after_changes (changes_made most n) told
disk_by n ms (Some (Does Flush)) told = disk_flushed n told
disk_by n ms (Some (Does ListTree)) told = told
disk_by n ms (Some i) told = disk_after ms (marked_by n.mark ms) told

-- THE DISK after an error: a first part of that, as it is after some first calls of the store
abbrev pub LeavesBy : NodeValue → List (Move Entry) → Option Input → (old new : Option Moments)
    → Type 0
LeavesBy n ms None old new = new ≡ old
LeavesBy n ms (Some (Does (Ask client number cred call))) old new = new ≡ old
LeavesBy n ms (Some (Does (Apply most))) old new = AfterPart (changes_made most n) old new
LeavesBy n ms (Some (Does Flush)) old new = LeavesFlush n old new
LeavesBy n ms (Some (Does ListTree)) old new = new ≡ old
LeavesBy n ms (Some i) old new = MayLeave ms (marked_by n.mark ms) old new
