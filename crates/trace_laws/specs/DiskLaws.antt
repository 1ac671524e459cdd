-- What holds of every run with disks.
use Rattle.std.specs.Prelude.{◌≡◌, ℕ, ◌≤◌, true, false, List, [], ◌∷◌, map, take, None}
use Rattle.harp_types.specs.declared.pick.Pick.{Pick}
use Rattle.harp_types.specs.declared.pick.Pick.TheVariants as pick
use Rattle.trace_types.specs.declared.step.Step.{Step}
use Rattle.file_tree.specs.Book.{Entry}
use Rattle.harp_cells.specs.declared.cell.Cell.{Cell}
use Rattle.harp_cells.specs.declared.cell.Cell.TheVariants as cell
use Rattle.harp_cells.specs.declared.change.Change.{Change}
use Rattle.harp_cells.specs.Effect.{after}
use Rattle.fuzzy_cells.specs.Disk.{Disk, reads}
use Rattle.fuzzy_cells.specs.Fuzzy.{MayBeLeft}
use Rattle.group_rules.specs.Moves.{Move}
use Rattle.group_safety.specs.Laws.{BasesOnBothDisks, EveryLaterView, ReadsAlone, StandsFor, WithinLimits}
use Rattle.group_rules.specs.Places.{Place, is_p2}
use Rattle.group_rules.specs.State.{Live, Log, Open, Server, top}
use Rattle.group_rules.specs.Step.{Near}
use Rattle.trace_laws.specs.StoreLaws.{IsFuzzyAt, ReadsRightly}
use Rattle.trace_laws.specs.Laws.{RunIsRight}
use Rattle.group_trace.specs.Calls.{calls_of}
use Rattle.group_trace.specs.Run.{run}
use Rattle.group_trace.specs.Scene.{first_scene}
use Rattle.group_trace.specs.DiskCalls.{Spellings, all_calls, kind_of, measures_of}
use Rattle.group_trace.specs.Picks.{crashed_by, kept, most_blocks}
use Rattle.group_trace.specs.DiskRun.{DiskScene, disk_run, first_disk_scene}

-- at no moment since the last sync has a file more blocks than a file has at most
abbrev pub HasFewBlocks : Disk → Type 0
HasFewBlocks disk = (n object block : ℕ) → most_blocks ≤ block
    → after (take n disk.changes) disk.synced (cell.Block object block) ≡ None

-- A data server's disk in a scene: it is fuzzy between the LB of its mark and some number of the
-- book's updates, what it reads as and what a crash now may leave; and the log over it gives each
-- cell exactly, at top and where it is settled at CP
pub record DiskIsRight (w : DiskScene) (q : Place) : Type 0 where
  pub fuzzy : IsFuzzyAt w.scene.group q w.disks
  pub few : HasFewBlocks (w.disks q)
  pub at_top : (w.scene.group.server q).held ≡ Log
      → ReadsRightly w.scene.group q w.disks (top (w.scene.group.server q))
  pub at_cp_open : (w.scene.group.server q).mode ≡ Open
      → ReadsRightly w.scene.group q w.disks (w.scene.group.server q).cp
  pub at_cp_live : (w.scene.group.server q).mode ≡ Live
      → ReadsRightly w.scene.group q w.disks (w.scene.group.server q).cp

-- OF EACH LIST OF STEPS that are taken: its lines are a right trace, its scene is that of the run
-- without disks, each data server's disk is right, and every base is on both disks. Each log stands
-- for its view's list, each answered update for good in every later view; who reads under a promise
-- has the whole book and is the last that opened a view; numbers keep their limits, and clocks are
-- near each other
pub record DiskRunIsRight (f : Spellings) (ss : List Step) : Type 0 where
  pub lines : RunIsRight (measures_of f) ss
  pub scene : (disk_run f first_disk_scene ss).scene ≡ run (measures_of f) first_scene ss
  pub disks : (q : Place) → is_p2 q ≡ false → DiskIsRight (disk_run f first_disk_scene ss) q
  pub bases : BasesOnBothDisks (disk_run f first_disk_scene ss).scene.group
  pub logs : (q : Place) → StandsFor (disk_run f first_disk_scene ss).scene.group q
  pub later_views : EveryLaterView (disk_run f first_disk_scene ss).scene.group
  pub alone : ReadsAlone (disk_run f first_disk_scene ss).scene.group
  pub within : WithinLimits (disk_run f first_disk_scene ss).scene.group
  pub clocks : Near (disk_run f first_disk_scene ss).scene.group.clock

-- a stop counts the calls that a step makes, kind by kind
abbrev pub CallsAreCounted : Type 0
CallsAreCounted = (f : Spellings) (q : Place) (clock : ℕ) (list : List Entry) (s : Server Entry)
    (ms : List (Move Entry))
    → map kind_of (all_calls f q clock list s ms) ≡ calls_of (measures_of f) q clock list s ms

-- a crash that keeps nothing leaves what was synced, one that keeps all what the disk reads as;
-- and bits are repeated
pub record PicksKeep : Type 0 where
  pub nothing : (disk : Disk) (c : Cell) → reads (crashed_by pick.None disk) c ≡ disk.synced c
  pub all : (disk : Disk) → HasFewBlocks disk → (c : Cell) → reads (crashed_by pick.All disk) c ≡
      reads disk c
  pub bits : (x y z : Change) → kept (pick.Bits (true ∷ false ∷ [])) 0 (x ∷ y ∷ z ∷ []) ≡ x
      ∷ z ∷ []

-- what a crash by a pick leaves is what a crash may leave
abbrev pub PicksAreParts : Type 0
PicksAreParts = (pick : Pick) (disk : Disk)
    → MayBeLeft disk.synced disk.changes (reads (crashed_by pick disk))
