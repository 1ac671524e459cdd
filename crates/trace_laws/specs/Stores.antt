-- The disks of the data servers, and what each step does to them.
use Rattle.std.specs.Prelude.{◌≡◌, ℕ, ◌+◌, true, false, List, [], ◌∷◌, ◌++◌, Option, None, Some, MatchBool, min, take, if◌then◌else◌}
use Rattle.std.specs.List.{list_all}
use Rattle.file_tree.specs.Book.{Entry}
use Rattle.harp_cells.specs.declared.change.Change.{Change}
use Rattle.harp_cells.specs.Effect.{Cells}
use Rattle.fuzzy_cells.specs.History.{between}
use Rattle.fuzzy_cells.specs.Fuzzy.{MayBeLeft}
use Rattle.fuzzy_cells.specs.Disk.{Disk, IsBetween, changes_saved, reads, synced_to, with_changes}
use Rattle.group_trace.specs.DiskRun.{Stores}
use Rattle.record_changes.specs.Records.{history_of}
use Rattle.group_rules.specs.Disk.{settled_tests}
use Rattle.group_safety.specs.Disks.{Disks}
use Rattle.group_rules.specs.Limits.{is_log}
use Rattle.group_rules.specs.Moves.{Applying, Falling, Flushing, Move, Saving, act, moved}
use Rattle.group_rules.specs.Places.{Place, all_of, is_p2}
use Rattle.group_rules.specs.State.{Group, Packet, Server}
use Rattle.group_rules.specs.Step.{Advance, Apply, At, Boot, Clock, Comes, CutAt, CutDeliver, Deliver, Delta, Does, Happening, Input, happens, numbered, saves, step_of, writes_any}

-- ---- what a move does to the disk of its server

-- a power failure puts cells of a saved log, syncs, and then writes the mark; where nothing is
-- saved the disk stays
pub record Saves (s : Server Entry) (disk new : Disk) : Type 0 where
  pub more : List Change
  pub saved : list_all changes_saved more ≡ true
  pub is : new ≡ (if saves s.held s.saved then synced_to (reads (with_changes disk more)) else
      disk)

-- a fall leaves of what wasn't synced any part, and so does a power failure that is cut off, which
-- has put cells of a saved log before
pub record Falls (disk new : Disk) : Type 0 where
  pub more : List Change
  pub saved : list_all changes_saved more ≡ true
  pub left : Cells
  pub may : MayBeLeft disk.synced (disk.changes ++ more) left
  pub is : new ≡ synced_to left

-- what a move does: `list` is that of the server's accepted view. The changes of records go to the
-- disk in their order
abbrev pub StoreMoved : List Entry → Server Entry → Move Entry → Disk → Disk → Type 0
StoreMoved list s (Applying n) disk new = new ≡
    with_changes disk (between (history_of list) s.ap n)
StoreMoved list s Flushing disk new = new ≡ synced_to (reads disk)
StoreMoved list s Saving disk new = Saves s disk new
StoreMoved list s Falling disk new = Falls disk new
StoreMoved list s m disk new = new ≡ disk

-- moves, one after the other
abbrev pub StoreBy : Group Entry → Place → Server Entry → List (Move Entry) → Disk → Disk → Type 0
StoreBy g q s [] disk new = new ≡ disk
StoreBy g q s (m ∷ ms) disk new = (next : Disk) × StoreMoved (g.page s.accepted).list s m disk next
    × StoreBy (moved g q s m) q (act q (g.clock q) s m) ms next new

-- ---- what happens to the disk of a server

-- a step of a server that is up, with all its moves
abbrev pub StoreStepped : (List Entry → Entry → ℕ) → Group Entry → Place → Input → Disk → Disk
    → Type 0
StoreStepped size g q i disk new =
    MatchBool (g.server q).up (StoreBy g q (g.server q) (step_of size g q i) disk new) (new ≡ disk)

-- what a step that is cut may have put: some of the changes that it was to apply
abbrev pub begun : Group Entry → Place → Input → ℕ → List Change
begun g q (Does (Apply n)) calls = if all_of (settled_tests q (g.server q))
    then take calls (between (history_of (g.page (g.server q).accepted).list) (g.server q).ap
    (min ((g.server q).ap + n) (g.server q).cp))
    else []
begun g q i calls = []

-- a step that is cut at a call that changes the disk: the server falls
abbrev pub StoreCut : (List Entry → Entry → ℕ) → Group Entry → Place → Input → Disk → Disk → Type 0
StoreCut size g q i disk new =
    MatchBool (g.server q).up
    (MatchBool (writes_any q (g.clock q) (g.server q) (step_of size g q i))
    ((calls : ℕ) × Falls (with_changes disk (begun g q i calls)) new)
    (StoreBy g q (g.server q) (step_of size g q i) disk new))
    (new ≡ disk)

-- one disk may change
pub record OneDisk (q : Place) (Changes : Disk → Disk → Type 0) (old new : Stores) : Type 0 where
  pub own : Changes (old q) (new q)
  pub others : (x : Place) → (x ≡ q → ⊥) → new x ≡ old x

-- no disk changes
abbrev pub AllStay : Stores → Stores → Type 0
AllStay old new = (x : Place) → new x ≡ old x

-- a delivery steps the server that the packet is for
abbrev pub StoresDelivered : (List Entry → Entry → ℕ) → Group Entry → Option (Packet Entry)
    → Stores → Stores → Type 0
StoresDelivered size g None old new = AllStay old new
StoresDelivered size g (Some p) old new =
    OneDisk p.to (StoreStepped size g p.to (Comes p.from p.body)) old new

-- a delivery that is cut
abbrev pub StoresCutDelivered : (List Entry → Entry → ℕ) → Group Entry → Option (Packet Entry)
    → Stores → Stores → Type 0
StoresCutDelivered size g None old new = AllStay old new
StoresCutDelivered size g (Some p) old new =
    OneDisk p.to (StoreCut size g p.to (Comes p.from p.body)) old new

-- WHAT A HAPPENING MAY DO to the disks: at most one changes
abbrev pub StoresAfter : (List Entry → Entry → ℕ) → Group Entry → Happening → Stores → Stores
    → Type 0
StoresAfter size g (At q d) old new = OneDisk q (StoreStepped size g q (Does d)) old new
StoresAfter size g (Deliver which) old new =
    StoresDelivered size g (numbered g.packets which) old new
StoresAfter size g (CutAt q d) old new = OneDisk q (StoreCut size g q (Does d)) old new
StoresAfter size g (CutDeliver which) old new =
    StoresCutDelivered size g (numbered g.packets which) old new
StoresAfter size g (Boot q) old new = AllStay old new
StoresAfter size g (Clock q t) old new = AllStay old new
StoresAfter size g (Advance d) old new = AllStay old new
StoresAfter size g (Delta d) old new = AllStay old new

-- disks beside a run: a crash may leave many, so a run of the group has many runs of its disks
abbrev pub StoresRun : (List Entry → Entry → ℕ) → Group Entry → List Happening → Stores → Stores
    → Type 0
StoresRun size g [] old new = AllStay old new
StoresRun size g (h ∷ hs) old new = (next : Stores) × StoresAfter size g h old next
    × StoresRun size (happens size g h) hs next new

-- ---- what is kept

-- AP of a server that holds a log, else its LB, with which a log would begin
abbrev pub applied_in : Server Entry → ℕ
applied_in s = if is_log s.held then s.ap else s.lb

-- each disk of a data server is between its mark's LB and how far it may be, in the history of the
-- book's updates
pub record StoresOk (g : Group Entry) (disks : Disks) (stores : Stores) : Type 0 where
  pub each : (q : Place) → is_p2 q ≡ false
      → IsBetween (history_of g.committed) (g.server q).lb (applied_in (g.server q)) (disks q)
      (stores q)
