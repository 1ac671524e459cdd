-- What holds of the disks of the data servers.
use Rattle.std.specs.Prelude.{◌≡◌, ℕ, ◌≤◌, ◌⊎◌, false, List, length, take}
use Rattle.file_tree.specs.Book.{Entry}
use Rattle.harp_cells.specs.CellsOfTree.{StandForBook}
use Rattle.harp_cells.specs.Effect.{after}
use Rattle.fuzzy_cells.specs.History.{between, cells_at}
use Rattle.fuzzy_cells.specs.Fuzzy.{AreAlike, IsFuzzy}
use Rattle.fuzzy_cells.specs.Disk.{reads}
use Rattle.record_changes.specs.Records.{history_of}
use Rattle.group_safety.specs.Disks.{Disks, DisksOk, disks_run}
use Rattle.group_safety.specs.Laws.{Whole}
use Rattle.group_rules.specs.Places.{Place, is_p2}
use Rattle.group_rules.specs.State.{Group, Live, Log, Open, top}
use Rattle.group_rules.specs.Step.{Happening, run}
use Rattle.trace_laws.specs.Stores.{StoresOk, StoresRun}
use Rattle.group_trace.specs.DiskRun.{Stores}

-- every run of the disks beside a run of the group keeps them between
abbrev pub StoresStay : Type 0
StoresStay = (size : List Entry → Entry → ℕ) (g : Group Entry) → Whole g → (disks : Disks)
    → DisksOk g disks
    → (stores new : Stores) → StoresOk g disks stores → (happenings : List Happening)
    → StoresRun size g happenings stores new
    → StoresOk (run size g happenings) (disks_run size g disks happenings) new

-- EACH DATA SERVER'S DISK IS FUZZY between the LB of its mark and some number of the book's
-- updates, which are in its log where it holds one, and committed where it is settled: what the
-- disk reads as, and what a crash now may leave
pub record IsFuzzyAt (g : Group Entry) (q : Place) (stores : Stores) : Type 0 where
  pub far : ℕ
  pub in_book : far ≤ length g.committed
  pub in_log : (g.server q).held ≡ Log → far ≤ top (g.server q)
  pub settled : ((g.server q).mode ≡ Open) ⊎ ((g.server q).mode ≡ Live) → far ≤ (g.server q).cp
  pub cells : IsFuzzy (history_of g.committed) (g.server q).lb far (reads (stores q))
  pub left : (n : ℕ) → IsFuzzy (history_of g.committed) (g.server q).lb far
      (after (take n (stores q).changes) (stores q).synced)

-- each disk that is between is fuzzy
abbrev pub StoresAreFuzzy : Type 0
StoresAreFuzzy = (g : Group Entry) → Whole g → (disks : Disks) → DisksOk g disks
    → (stores : Stores) → StoresOk g disks stores
    → (q : Place) → is_p2 q ≡ false → IsFuzzyAt g q stores

-- A SERVER'S READS: where a data server holds a log, its records after the base up to any index
-- from how far its disk may be up to top, over its disk, give each cell as after so many entries
-- of its list, and stand for them
pub record ReadsRightly (g : Group Entry) (q : Place) (stores : Stores) (upto : ℕ) : Type 0 where
  pub exact : AreAlike (after (between (history_of (g.page (g.server q).accepted).list)
      (g.server q).base upto) (reads (stores q)))
      (cells_at (history_of (g.page (g.server q).accepted).list) upto)
  pub stand : StandForBook (after (between (history_of (g.page (g.server q).accepted).list)
      (g.server q).base upto) (reads (stores q)))
      (take upto (g.page (g.server q).accepted).list)

-- from how far the disk may be up to top, so at top, and at CP where it is settled
pub record ServerReads (g : Group Entry) (disks : Disks) (stores : Stores)
    (q : Place) : Type 0 where
  pub upto : (g.server q).held ≡ Log → (upto : ℕ) → disks q ≤ upto → upto ≤ top (g.server q)
      → ReadsRightly g q stores upto
  pub at_top : (g.server q).held ≡ Log → ReadsRightly g q stores (top (g.server q))
  pub at_cp_open : (g.server q).mode ≡ Open → ReadsRightly g q stores (g.server q).cp
  pub at_cp_live : (g.server q).mode ≡ Live → ReadsRightly g q stores (g.server q).cp

-- each data server does
abbrev pub ServersReadExactly : Type 0
ServersReadExactly = (g : Group Entry) → Whole g → (disks : Disks) → DisksOk g disks
    → (stores : Stores) → StoresOk g disks stores
    → (q : Place) → is_p2 q ≡ false → ServerReads g disks stores q
