-- What stands of a server, its disk and its store behind a call, whether it went well or failed.
use Rattle.std.specs.Prelude.{◌≡◌, ◌↔◌, ℕ, true, false, Err, List, [], OnErr, OnOk, Option, Result, Some}
use Rattle.cell_cache.specs.Entries.{AreOf}
use Rattle.file_tree.specs.Book.{Entry}
use Rattle.group_rules.specs.Moves.{Move}
use Rattle.group_rules.specs.Step.{Input}
use Rattle.harp_store.specs.Disk.{AfterPart, Moments, after_changes, cells_told}
use Rattle.node.specs.Cached.{IsCachedAs}
use Rattle.node.specs.Node.{NodeValue}
use Rattle.node.specs.State.{cached_in}
use Rattle.node.specs.Stored.{LeavesBy, LeavesFlush, changes_made, disk_by, disk_flushed, log_in, log_of, mark_by, mark_flushed, stores, with_log}
use Rattle.node.specs.declared.fault.NodeFault.{NodeFault}
use Rattle.node.specs.declared.fault.NodeFault.TheVariants.{Halted, StoreFailed}
use Rattle.node.specs.declared.state.State.{State}
use Rattle.node_outputs.specs.Records.{records_sent}
use Rattle.node_outputs.specs.declared.outputs.Outputs.{Outputs}
use Rattle.replica.specs.Listing.{listing_at}
use Rattle.tree_log.specs.Reading.{HoldsTree}
use Rattle.tree_log.specs.Storing.{CountsFaults}
use Rattle.volatile_log.specs.Log.{lowered_to}

-- ---- why a call failed

-- OF A SERVER that isn't halted: no call says Halted, and it says that the store failed only where
-- the store's count of faults rose, which never falls
pub record FailsOnce {A : Type 0} (result : Result A NodeFault)
    (faults risen : ℕ) : Type 0 where
  pub running : result ≡ Err Halted → ⊥
  pub counts : CountsFaults (result ≡ Err StoreFailed) faults risen

-- ---- whether the server goes on

-- A step is Halted just where an earlier call failed, and then nothing changes. After an error the
-- server is halted, and else it isn't
pub record Halts (result : Result (Unit {0}) NodeFault) (old new : NodeValue)
    (disk left : Option Moments) : Type 0 where
  pub halted : (result ≡ Err Halted) ↔ (old.halted ≡ true)
  pub still : old.halted ≡ true → (new ≡ old) × (left ≡ disk)
  pub up : OnOk result (new.halted ≡ false)
  pub fails : OnErr result (new.halted ≡ true)

-- It isn't halted, and the cells that it keeps in memory are those of its store
pub record Runs (n : NodeValue) (disk : Option Moments) : Type 0 where
  pub up : n.halted ≡ false
  pub cached : AreOf (cells_told disk) n.cached

-- It goes on at its place, and keeps the same cells in memory, or none
pub record StaysUp (result : Result (Unit {0}) NodeFault) (old new : NodeValue) : Type 0 where
  pub me : new.me ≡ old.me
  pub up : OnOk result (new.halted ≡ false)
  pub cached : OnOk result (IsCachedAs old.cached new.cached)

-- and none
pub record StaysUpBare (result : Result (Unit {0}) NodeFault) (old new : NodeValue) : Type 0 where
  pub me : new.me ≡ old.me
  pub up : OnOk result (new.halted ≡ false)
  pub cached : OnOk result (new.cached ≡ [])

-- ---- the server's place, its mark and its disk

-- moves, by the sizes of the records and the list of entries that they are made of
abbrev pub MovesBy : Type 0
MovesBy = (size : List Entry → Entry → ℕ) → (list : List Entry) → List (Move Entry)

-- What is given, if anything, brings this to the mark and to the disk, whose part is there after an
-- error
pub record Brings (result : Result (Unit {0}) NodeFault) (moves : MovesBy) (given : Option Input)
    (old new : NodeValue) (disk left : Option Moments) : Type 0 where
  pub me : new.me ≡ old.me
  pub mark : OnOk result ((size : List Entry → Entry → ℕ) (list : List Entry)
      → new.mark ≡ mark_by old (moves size list) given)
  pub written : OnOk result ((size : List Entry → Entry → ℕ) (list : List Entry)
      → left ≡ disk_by old (moves size list) given disk)
  pub part : OnErr result ((size : List Entry → Entry → ℕ) (list : List Entry)
      → LeavesBy old (moves size list) given disk left)

-- an apply of at most so many records
pub record Applies (result : Result (Unit {0}) NodeFault) (most : ℕ) (old new : NodeValue)
    (disk left : Option Moments) : Type 0 where
  pub me : new.me ≡ old.me
  pub mark : new.mark ≡ old.mark
  pub done : OnOk result (left ≡ after_changes (changes_made most old) disk)
  pub part : AfterPart (changes_made most old) disk left

-- a flush
pub record Flushes (result : Result (Unit {0}) NodeFault) (old new : NodeValue)
    (disk left : Option Moments) : Type 0 where
  pub me : new.me ≡ old.me
  pub mark : OnOk result (new.mark ≡ mark_flushed old)
  pub done : OnOk result (left ≡ disk_flushed old disk)
  pub part : LeavesFlush old disk left

-- a call that writes nothing
pub record Keeps (old new : NodeValue) (disk left : Option Moments) : Type 0 where
  pub me : new.me ≡ old.me
  pub mark : new.mark ≡ old.mark
  pub kept : left ≡ disk

-- ---- the log of a leader or a partner

-- A flush lowers LB to AP in the log; after an error the log is as before
pub record Lowers {A E : Type 0} (result : Result A E) (old new : State) : Type 0 where
  pub log : OnOk result (let log = log_in old in
      new ≡ with_log old (lowered_to log log.ap) (cached_in new))
  pub still : OnErr result (new ≡ with_log old (log_in old) (cached_in new))

-- ---- what a listing tells

-- a settled data server lists the tree after the committed updates, where it can be read, and
-- another server says nothing; no record is sent
pub record TellsTree (result : Result (Unit {0}) NodeFault) (n : NodeValue) (disk : Option Moments)
    (before after : Outputs) : Type 0 where
  pub listing : OnOk result ((list : List Entry) → stores n ≡ true
      → HoldsTree list n.plain.cp (log_of n) disk
      → after.listing ≡ Some (listing_at n.plain.cp list))
  pub silent : stores n ≡ false → after ≡ before
  pub records : records_sent after ≡ records_sent before
