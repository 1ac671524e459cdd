-- What a server shows of what is wanted of it, and what that leaves.
use Rattle.std.specs.Prelude.{◌≡◌, ◌≢◌, ℕ, true, false, Option, None, Some, Result, Ok, Err, if◌then◌else◌}
use Rattle.group_rules.specs.Limits.{is_log}
use Rattle.cell_cache.specs.Entries.{AreOf}
use Rattle.harp_cells.specs.Effect.{Cells, Reads}
use Rattle.harp_cells.specs.declared.cell.Cell.{Cell}
use Rattle.harp_store.specs.Disk.{Moments, cells_told}
use Rattle.node.specs.Node.{NodeValue}
use Rattle.node.specs.Stored.{log_of, stores}
use Rattle.node.specs.declared.fault.NodeFault.{NodeFault}
use Rattle.node.specs.declared.fault.NodeFault.TheVariants.{Halted, NoMemory, StoreFailed}
use Rattle.shown.specs.declared.shown.Shown.{Shown}
use Rattle.shown.specs.declared.shown.Shown.TheVariants as shown
use Rattle.shown.specs.declared.shown.Want.{Want}
use Rattle.shown.specs.declared.shown.Want.TheVariants as want
use Rattle.shown.specs.Records.{records_from}
use Rattle.tree_log.specs.Committed.{committed_over}

-- A CELL IS SHOWN by a settled data server alone: what it holds at CP, by the log over the store
abbrev pub ShowsCell : NodeValue → Option Cells → Cell → Option Shown → Type 0
ShowsCell n told c None = stores n ≡ false
ShowsCell n told c (Some (shown.Cell d v cp)) = (stores n ≡ true) × (d ≡ c) × (cp ≡ n.plain.cp)
    × Reads (committed_over (log_of n) told) c v
ShowsCell n told c (Some (shown.Records first records)) = ⊥
ShowsCell n told c (Some (shown.Gone base)) = ⊥

-- RECORDS ARE SHOWN by a server alone that holds a log: the committed ones from an index on
abbrev pub records_shown : NodeValue → ℕ → Option Shown
records_shown n first = if is_log n.plain.held then records_from (log_of n) first else None

-- THE ANSWER of a server whose store tells these cells
abbrev pub Shows : NodeValue → Option Cells → Want → Option Shown → Type 0
Shows n told (want.Cell c) o = ShowsCell n told c o
Shows n told (want.Records first) o = o ≡ records_shown n first

-- what it leaves of a server: all of it but which cells it keeps in memory. After a fault it is
-- halted
abbrev pub LeavesNode : Result (Option Shown) NodeFault → (old new : NodeValue) → Type 0
LeavesNode (Ok o) old new = new ≡ record old { cached = new.cached }
LeavesNode (Err Halted) old new = new ≡ old
LeavesNode (Err StoreFailed) old new = (new.halted ≡ true) × (new.me ≡ old.me)
LeavesNode (Err NoMemory) old new = (new.halted ≡ true) × (new.me ≡ old.me)

-- a call of a server that isn't halted leaves that, and halts nothing
abbrev pub OnlyCaches : {A : Type 0} → Result A NodeFault → (old new : NodeValue)
    → (before after : Option Moments) → Type 0
OnlyCaches (Ok x) old new before after = (new ≡ record old { cached = new.cached })
    × AreOf (cells_told after) new.cached × (after ≡ before)
OnlyCaches (Err why) old new before after = (new.me ≡ old.me) × (why ≢ Halted) × (after ≡ before)

-- WHAT SHOWING LEAVES: that, and the store as it was, whose cells the server keeps
abbrev pub LeavesShown : Result (Option Shown) NodeFault → (old new : NodeValue)
    → (before after : Option Moments) → Type 0
LeavesShown result old new before after = LeavesNode result old new × (after ≡ before)
    × AreOf (cells_told after) new.cached
