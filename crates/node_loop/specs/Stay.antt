-- A SERVER THAT STAYS UP: it runs with the steady habit until it is told to stop, and then it saves
-- its log as at a power failure. Meanwhile it shows each change of its state.
use Rattle.std.specs.Prelude.{◌≡◌, ◌≤◌, ◌⊎◌, ℕ, Bool, true, false, List, [], ◌∷◌, ◌++◌, Option}
use Rattle.std.specs.Prelude.{Some, None}
use Rattle.file_tree.specs.Book.{Entry}
use Rattle.group_rules.specs.Moves.{Saving, act}
use Rattle.group_rules.specs.State.{mark_of}
use Rattle.harp_types.specs.Trio.{value_of, with_value}
use Rattle.harp_types.specs.declared.server.ServerId.{ServerId}
use Rattle.harp_store.specs.Disk.{Moments}
use Rattle.node.specs.Node.{NodeValue, server}
use Rattle.node.specs.Power.{IsSavedBy, SavesAtOnce, mark_left, saves_log}
use Rattle.node_link.specs.Traffic.{Traffic}
use Rattle.node_link.specs.declared.clock.Reading.{Reading}
use Rattle.node_loop.specs.declared.counts.Stayed.{Stayed}
use Rattle.node_loop.specs.declared.habit.Habit.TheVariants.{Steady}
use Rattle.node_loop.specs.declared.ledger.Ledger.{Ledger}
use Rattle.node_loop.specs.declared.outside.Outside.{Outside}
use Rattle.node_loop.specs.declared.running.Running.{Running}
use Rattle.node_loop.specs.declared.watcher.Sight.{Sight}
use Rattle.node_loop.specs.Chain.{Chain, Stops}
use Rattle.node_loop.specs.Cut.{IsUnstartedWith, TurnsAtInPart}
use Rattle.node_loop.specs.Orders.{IsTold}
use Rattle.node_loop.specs.Run.{BootsWith, TurnsAt, rounds}
use Rattle.node_loop.specs.Scene.{Around, Scene, alone, around, around_in, only, spot, start}
use Rattle.node_loop.specs.Turn.{is_dropped}
use Rattle.node_loop.specs.Watch.{Showed, ShowsNew, dropped_after, sight, state_shown}

-- ---- the save

-- A NODE SAVES ITS LOG and is down, as the rules say of a power failure: where a log is held that
-- the mark hasn't saved, it stands on the disk whole, and at each moment whole or not at all; else
-- the disk stays
pub record Saves (n : NodeValue) (old new : Option Moments) : Type 0 where
  pub rules : (items : List Entry) (clock : ℕ)
      → mark_left n items ≡ mark_of (act n.me clock (server n items) Saving)
  pub saved : saves_log n ≡ true → IsSavedBy n old new
  pub at_once : saves_log n ≡ true → SavesAtOnce n old new
  pub kept : saves_log n ≡ false → new ≡ old

-- a save in part, of what the rules say: at each moment the log stands on the disk whole, or not at
-- all
pub record FailsSave (n : NodeValue) (old new : Option Moments) : Type 0 where
  pub rules : (items : List Entry) (clock : ℕ)
      → mark_left n items ≡ mark_of (act n.me clock (server n items) Saving)
  pub saving : saves_log n ≡ true → SavesAtOnce n old new
  pub kept : saves_log n ≡ false → new ≡ old

-- the server of a place saves its log, and is gone
pub record SavesAt (place : ServerId) (server : Running) (a c : Scene) : Type 0 where
  pub disk : Option Moments
  pub was : value_of a.servers place ≡ Some server
  pub saves : Saves server.node (value_of a.disks place) disk
  pub is : c ≡ record a {
    servers = with_value a.servers place None;
    disks = with_value a.disks place disk;
  }

pub record SavesAtInPart (place : ServerId) (a : Scene) (left : Around) : Type 0 where
  pub server : Running
  pub disk : Option Moments
  pub was : value_of a.servers place ≡ Some server
  pub saves : FailsSave server.node (value_of a.disks place) disk
  pub is : left ≡ around (with_value a.disks place disk) a.link a.clock

-- ---- what it runs on

-- its disk, the link and the clock, what it was answered when it asked whether to stop, and what it
-- showed, each as far as it is told; and how many datagrams the link couldn't send
pub record Outer : Type 0 where
  pub disk : Option Moments
  pub link : Option Traffic
  pub unsent : ℕ
  pub clock : Option (List Reading)
  pub answers : Option (List Bool)
  pub shown : Option (List Sight)

-- what these tell
abbrev pub outer_of : {L D C O W : Type 0} → (L → Option Traffic) → (L → ℕ)
    → (D → Option Moments) → (C → Option (List Reading)) → (O → Option (List Bool))
    → (W → Option (List Sight)) → Outside L D C O W → Outer
outer_of link unsent disk clock orders watcher o = record {
  disk = disk o.disk;
  link = link o.link;
  unsent = unsent o.link;
  clock = clock o.clock;
  answers = orders o.orders;
  shown = watcher o.watcher;
}

-- before its boot
abbrev pub start_on : ServerId → Outer → Scene
start_on place o = start (only place o.disk) o.link o.clock

-- while it runs
abbrev pub scene_on : ServerId → Running → Ledger → Outer → Scene
scene_on place server ledger o = alone place (spot server o.disk o.link o.clock ledger)

abbrev pub around_on : ServerId → Outer → Around
around_on place o = around (only place o.disk) o.link o.clock

-- ---- its turns, watched

-- a scene, what was shown behind turns so far, and how many datagrams were dropped
pub record Watched : Type 0 where
  pub scene : Scene
  pub sights : List Sight
  pub dropped : ℕ

abbrev pub watched : Scene → List Sight → ℕ → Watched
watched scene sights dropped = record { scene = scene; sights = sights; dropped = dropped }

-- the server of a place takes a turn, and shows what is new; a datagram that gave nothing counts
pub record TurnsWatched (place : ServerId) (a c : Watched) : Type 0 where
  pub turns : TurnsAt place a.scene c.scene
  pub sights : List Sight
  pub shows : ShowsNew place turns.turns.turned.now (state_shown turns.old.server.node)
      (state_shown turns.new.server.node) sights
  pub is : c.sights ≡ a.sights ++ sights
  pub counts : c.dropped ≡ dropped_after
      (is_dropped turns.turns.turned.taken turns.turns.turned.inputs.items) a.dropped

-- what is left behind a turn in part, and what was shown before it
pub record WatchedLeft : Type 0 where
  pub around : Around
  pub sights : List Sight

-- it takes one in part, and shows nothing
pub record TurnsWatchedInPart (place : ServerId) (a : Watched) (left : WatchedLeft)
    : Type 0 where
  pub turns : TurnsAtInPart place a.scene left.around
  pub is : left.sights ≡ a.sights

-- so many turns of a server from one scene to another, what was shown behind them, and how many
-- datagrams were dropped
pub record RunsWatched (place : ServerId) (turns : ℕ) (a c : Scene) (sights : List Sight)
    (dropped : ℕ) : Type 0 where
  pub turned : Chain TurnsWatched (rounds turns (place ∷ [])) (watched a [] 0)
      (watched c sights dropped)

-- a front of so many, and the next one in part
pub record StopsWatched (place : ServerId) (turns : ℕ) (a : Scene) (left : Around)
    (sights : List Sight) : Type 0 where
  pub stops : Stops TurnsWatched TurnsWatchedInPart (rounds turns (place ∷ [])) (watched a [] 0)
      (record { around = left; sights = sights })

-- so it was, and that was shown
abbrev pub ShowsRuns : ServerId → ℕ → Scene → Scene → ℕ → Option (List Sight)
    → Option (List Sight) → Type 0
ShowsRuns place turns a c dropped old new =
    (sights : List Sight) × RunsWatched place turns a c sights dropped × Showed sights old new

abbrev pub ShowsStops : ServerId → ℕ → Scene → Around → Option (List Sight)
    → Option (List Sight) → Type 0
ShowsStops place turns a left old new =
    (sights : List Sight) × StopsWatched place turns a left sights × Showed sights old new

-- ---- the run

-- a server was booted with the steady habit
pub record IsBegun (delta : ℕ) (place : ServerId) (old : Outer) (booted : Scene)
    (server : Running) : Type 0 where
  pub boots : Chain (BootsWith Steady delta) (place ∷ []) (start_on place old) booted
  pub stands : value_of booted.servers place ≡ Some server

-- WHAT A SERVER SHOWED: itself at the reading of its boot, at which it ticks, and behind each turn
-- what was new then
abbrev pub ShowedAll : ServerId → Running → List Sight → Outer → Outer → Type 0
ShowedAll place server sights old new =
    Showed (sight place server.pace.due server.node ∷ sights) old.shown new.shown

-- it took so many turns, and dropped so many datagrams
pub record HasRun (delta : ℕ) (place : ServerId) (most turns dropped : ℕ) (old new : Outer)
    (ran : Scene) : Type 0 where
  pub booted : Scene
  pub server : Running
  pub sights : List Sight
  pub begun : IsBegun delta place old booted server
  pub runs : RunsWatched place turns booted ran sights dropped
  pub within : turns ≤ most
  pub showed : ShowedAll place server sights old new

-- THE RUN OF A SERVER THAT STAYS UP: it is booted, takes its turns until it is told to stop, so many
-- at most, and saves its log. This is where it led, and what was counted, answered and shown
pub record IsStay (delta : ℕ) (place : ServerId) (most : ℕ) (old : Outer) (stayed : Stayed)
    (new : Outer) : Type 0 where
  pub ran : Scene
  pub end : Scene
  pub server : Running
  pub runs : HasRun delta place most stayed.turns stayed.dropped old new ran
  pub saves : SavesAt place server ran end
  pub told : IsTold server.pace.ticks stayed.turns most old.answers new.answers
  pub around_is : around_on place new ≡ around_in end
  pub taken_is : stayed.taken ≡ ran.counts.taken
  pub sent_is : stayed.sent ≡ ran.counts.sent
  pub unsent_is : stayed.unsent ≡ new.unsent

-- ---- a run that is cut off

-- it wasn't started, and showed nothing
pub record WasUnstarted (delta : ℕ) (place : ServerId) (old new : Outer) : Type 0 where
  pub left : IsUnstartedWith Steady delta (place ∷ []) (start_on place old) (around_on place new)
  pub silent : new.shown ≡ old.shown

-- it was booted, and a turn was cut off
pub record IsTurnCut (delta : ℕ) (place : ServerId) (most : ℕ) (old new : Outer) : Type 0 where
  pub booted : Scene
  pub server : Running
  pub sights : List Sight
  pub begun : IsBegun delta place old booted server
  pub stops : StopsWatched place most booted (around_on place new) sights
  pub showed : ShowedAll place server sights old new

-- it ran, and its save was cut off
pub record IsSaveCut (delta : ℕ) (place : ServerId) (most : ℕ) (old new : Outer) : Type 0 where
  pub turns : ℕ
  pub dropped : ℕ
  pub ran : Scene
  pub runs : HasRun delta place most turns dropped old new ran
  pub part : SavesAtInPart place ran (around_on place new)

-- SUCH A RUN WAS CUT OFF: before its turns, amid them, or amid its save
abbrev pub IsStayCut : ℕ → ServerId → ℕ → Outer → Outer → Type 0
IsStayCut delta place most old new = WasUnstarted delta place old new
    ⊎ (IsTurnCut delta place most old new ⊎ IsSaveCut delta place most old new)
