-- A run of the group with the disks of its servers.
use Rattle.std.specs.Prelude.{ℕ, Bool, true, false, not, ◌&&◌, List, [], ◌∷◌, take, Option, None, Some, if◌then◌else◌}
use Rattle.harp_types.specs.declared.pick.Pick.{Pick}
use Rattle.harp_types.specs.declared.pick.Pick.TheVariants as pick
use Rattle.trace_types.specs.declared.step.Step.{Step}
use Rattle.trace_types.specs.declared.step.Step.TheVariants as step
use Rattle.file_tree.specs.Book.{Entry}
use Rattle.fuzzy_cells.specs.Disk.{Disk, synced_to}
use Rattle.fuzzy_cells.specs.History.{no_cells}
use Rattle.group_rules.specs.Names.{place_of}
use Rattle.group_rules.specs.Places.{Place, at}
use Rattle.group_rules.specs.State.{Group, Packet}
use Rattle.group_rules.specs.Step.{Apply, Ask, Comes, Crash, Does, Flush, Input, ListTree, Power, Suspect, Tick, list_of, numbered, step_of}
use Rattle.group_trace.specs.Calls.{calls_of, passes}
use Rattle.group_trace.specs.Run.{next}
use Rattle.group_trace.specs.Scene.{Scene, first_scene}
use Rattle.group_trace.specs.DiskCalls.{DiskCall, Spellings, after_calls, all_calls, measures_of}
use Rattle.group_trace.specs.Picks.{crashed_by}

-- a disk for each server
abbrev pub Stores : Type 0
Stores = Place → Disk

-- new disks
abbrev pub empty_stores : Stores
empty_stores q = synced_to no_cells

-- A scene with the disk of each server, and with the pick of each stop that is armed
pub record DiskScene : Type 0 where
  pub scene : Scene
  pub disks : Stores
  pub picks : Place → Pick

-- new disks, and no stop
abbrev pub first_disk_scene : DiskScene
first_disk_scene = record { scene = first_scene; disks = empty_stores; picks = λ q. pick.None }

-- ---- one step of a server

-- the calls of a step that begins so, in order
abbrev pub calls_at : Spellings → Group Entry → Place → Input → List DiskCall
calls_at f g q i = all_calls f q (g.clock q) (list_of g q) (g.server q)
    (step_of (measures_of f).size g q i)

-- whether it makes at most as many as a stop lets pass
abbrev pub is_whole : Spellings → Group Entry → Option ℕ → Place → Input → Bool
is_whole f g stop q i =
    passes stop (calls_of (measures_of f) q (g.clock q) (list_of g q) (g.server q)
    (step_of (measures_of f).size g q i))

-- the calls that pass
abbrev pub passing : Option ℕ → List DiskCall → List DiskCall
passing None calls = calls
passing (Some most) calls = take most calls

-- a crash, whose pick is its own
abbrev pub is_crash : Input → Bool
is_crash (Does Crash) = true
is_crash i = false

-- THE DISK AFTER A STEP: after all of its calls; where a stop cuts it, after the first calls and a
-- crash by the stop's pick; and after a crash by its own pick
abbrev pub disk_after : Spellings → Group Entry → Option ℕ → Pick → Place → Input → Disk → Disk
disk_after f g stop pick q i disk =
    if is_whole f g stop q i && not (is_crash i) then after_calls (calls_at f g q i) disk
    else crashed_by pick (after_calls (passing stop (calls_at f g q i)) disk)

-- the disks after a step of one server: the others stay
abbrev pub disks_after_at : Spellings → DiskScene → Option ℕ → Pick → Place → Input → Stores
disks_after_at f w stop pick q i =
    at w.disks q (disk_after f w.scene.group stop pick q i (w.disks q))

-- ---- a step

-- after a delivery: a server that is down takes nothing
abbrev pub disks_came : Spellings → DiskScene → Option (Packet Entry) → Stores
disks_came f w None = w.disks
disks_came f w (Some p) = if (w.scene.group.server p.to).up
    then disks_after_at f w (w.scene.armed p.to) (w.picks p.to) p.to (Comes p.from p.body) else
    w.disks

-- the step of a server that is stopped where a stop is armed
abbrev pub disks_done : Spellings → DiskScene → Place → Input → Stores
disks_done f w q i = disks_after_at f w (w.scene.armed q) (w.picks q) q i

-- the disks after each form of a step
abbrev pub disks_next : Spellings → DiskScene → Step → Stores
disks_next f w (step.Ask server client number cred call) = disks_done f w (place_of server)
    (Does (Ask client number cred call))
disks_next f w (step.Deliver n) = disks_came f w (numbered w.scene.group.packets n)
disks_next f w (step.Tick server) = disks_done f w (place_of server) (Does Tick)
disks_next f w (step.Suspect server) = disks_done f w (place_of server) (Does Suspect)
disks_next f w (step.Apply server most) = disks_done f w (place_of server) (Does (Apply most))
disks_next f w (step.Flush server) = disks_done f w (place_of server) (Does Flush)
disks_next f w (step.List server) = disks_done f w (place_of server) (Does ListTree)
disks_next f w (step.Power server) = disks_after_at f w None pick.None (place_of server)
    (Does Power)
disks_next f w (step.PowerCut server calls pick) = disks_after_at f w (Some calls) pick
    (place_of server) (Does Power)
disks_next f w (step.Crash server pick) = disks_after_at f w None pick (place_of server)
    (Does Crash)
disks_next f w s = w.disks

-- a stop brings its pick
abbrev pub picks_next : DiskScene → Step → Place → Pick
picks_next w (step.Stop server calls pick) = at w.picks (place_of server) pick
picks_next w s = w.picks

-- what a step leaves
abbrev pub disk_next : Spellings → DiskScene → Step → DiskScene
disk_next f w s = record {
  scene = next (measures_of f) w.scene s;
  disks =
      disks_next f w s;
  picks = picks_next w s;
}

-- what steps leave, one after the other
unfoldable pub disk_run : Spellings → DiskScene → List Step → DiskScene
disk_run f w [] = w
disk_run f w (s ∷ ss) = disk_run f (disk_next f w s) ss
