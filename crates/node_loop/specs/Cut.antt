-- RUNS THAT ARE CUT OFF: what servers leave where a disk, the link or memory fails.
use Rattle.std.specs.Prelude.{◌≡◌, ◌⊎◌, ℕ, List, ◌++◌, Option}
use Rattle.harp_types.specs.Trio.{value_of, with_value}
use Rattle.harp_types.specs.declared.server.ServerId.{ServerId}
use Rattle.harp_store.specs.Disk.{Moments}
use Rattle.node.specs.Node.{NodeValue}
use Rattle.node.specs.declared.input.Input.{Input}
use Rattle.node_link.specs.Readings.{MayTell}
use Rattle.node_link.specs.Traffic.{Traffic}
use Rattle.node_link.specs.declared.clock.Reading.{Reading}
use Rattle.node_link.specs.declared.link.SentDatagram.{SentDatagram}
use Rattle.node_outputs.specs.declared.outputs.Outputs.{Outputs}
use Rattle.node_loop.specs.declared.habit.Habit.{Habit}
use Rattle.node_loop.specs.declared.habit.Habit.TheVariants.{Plain}
use Rattle.node_loop.specs.declared.turned.Turned.{Turned}
use Rattle.node_loop.specs.Chain.{Chain, Stops}
use Rattle.node_loop.specs.Looks.{look_of}
use Rattle.node_loop.specs.Outgoing.{AreSpelled, datagrams}
use Rattle.node_loop.specs.Run.{Asked, BootsWith, IsGiven, TurnsAt, ask_of, rounds}
use Rattle.node_loop.specs.Scene.{Around, AtWork, Scene, Spot, around, around_in, at_work, with_all_sent, with_spot}
use Rattle.node_loop.specs.Step.{FailsBoot, FailsStep, IsStep}
use Rattle.node_loop.specs.Turn.{FailsTurn, IsTurn, LinkTurns, MayTellAll, readings_of}
use Rattle.node_loop.specs.Turns.{Pacing}

-- ---- what is left

-- of a node at work: its disk, and the link
pub record WorkLeft : Type 0 where
  pub disk : Option Moments
  pub link : Option Traffic

-- at a spot: the clock too
pub record SpotLeft : Type 0 where
  pub disk : Option Moments
  pub link : Option Traffic
  pub clock : Option (List Reading)

abbrev pub work_left : Option Moments → Option Traffic → WorkLeft
work_left disk link = record { disk = disk; link = link }

abbrev pub spot_left : Option Moments → Option Traffic → Option (List Reading) → SpotLeft
spot_left disk link clock = record { disk = disk; link = link; clock = clock }

-- in a scene, where a server at its place left this; the disks of the others stay
abbrev pub with_left : ServerId → SpotLeft → Scene → Around
with_left place left a = around (with_value a.disks place left.disk) left.link left.clock

-- ---- one input

-- the step fails: a part of it is on the disk, and nothing is sent
pub record FailsAt (now : ℕ) (input : Input) (a : AtWork) (left : WorkLeft) : Type 0 where
  pub disk : FailsStep input now a.node a.disk left.disk
  pub link : left.link ≡ a.link

-- a front of these datagrams was sent
pub record SendsInPart (all : List SentDatagram) (old new : Option Traffic) : Type 0 where
  pub front : List SentDatagram
  pub rest : List SentDatagram
  pub parts : all ≡ front ++ rest
  pub sent : new ≡ with_all_sent front old

-- or it is taken, and a front of what goes out is sent; what goes to other servers has spellings
pub record SendsAFront (place : ServerId) (now : ℕ) (input : Input) (a : AtWork)
    (left : WorkLeft) : Type 0 where
  pub node : NodeValue
  pub outs : Outputs
  pub step : IsStep input now a.node node a.disk left.disk outs
  pub spelled : AreSpelled outs
  pub sends : SendsInPart (datagrams place outs) a.link left.link

-- A NODE IS GIVEN AN INPUT IN PART. So nothing of a step is sent before its disk is written
abbrev pub IsGivenInPart : ServerId → ℕ → Input → AtWork → WorkLeft → Type 0
IsGivenInPart place now input a left =
    FailsAt now input a left ⊎ SendsAFront place now input a left

-- ---- one turn of a place

-- the server is given nothing
pub record GivesNothing (place : ServerId) (a : Spot) (left : SpotLeft) : Type 0 where
  pub fails : FailsTurn place (look_of a.server.node) a.server.pace a.link left.link a.clock
      left.clock
  pub disk : left.disk ≡ a.disk

-- or it is given a front of what the turn gives, and the next input in part
pub record GivesAFront (place : ServerId) (a : Spot) (left : SpotLeft) : Type 0 where
  pub turned : Turned
  pub before : Option Traffic
  pub pace : Pacing
  pub turn : IsTurn place (look_of a.server.node) a.server.pace pace turned
  pub link : LinkTurns place (look_of a.server.node) a.server.pace turned a.link before
  pub clock : MayTellAll (readings_of place turned) a.clock left.clock
  pub given : Stops (IsGiven place turned.now) (IsGivenInPart place turned.now) turned.inputs.items
      (at_work (record a { link = before })) (work_left left.disk left.link)

-- A TURN IN PART
abbrev pub IsTurnInPart : ServerId → Spot → SpotLeft → Type 0
IsTurnInPart place a left = GivesNothing place a left ⊎ GivesAFront place a left

-- ---- between turns

-- a server is given an input in part, at a reading of its clock
pub record GivesAtOnce (place : ServerId) (input : Input) (a : Spot) (left : SpotLeft)
    : Type 0 where
  pub now : ℕ
  pub clock : MayTell (record { place = place; millis = now }) a.clock left.clock
  pub given : IsGivenInPart place now input (at_work a) (work_left left.disk left.link)

-- or nothing was done yet
abbrev pub GivesInPart : ServerId → Input → Spot → SpotLeft → Type 0
GivesInPart place input a left =
    (left ≡ spot_left a.disk a.link a.clock) ⊎ GivesAtOnce place input a left

-- ---- in a scene

-- a boot at a reading of the clock fails
pub record BootsInPart (place : ServerId) (delta : ℕ) (old new : Option Moments)
    (before after : Option (List Reading)) : Type 0 where
  pub now : ℕ
  pub disk : FailsBoot place delta old new
  pub clock : MayTell (record { place = place; millis = now }) before after

-- so it is with that of the server of a place
pub record BootsAtInPart (delta : ℕ) (place : ServerId) (a : Scene) (left : Around) : Type 0 where
  pub disk : Option Moments
  pub boots : BootsInPart place delta (value_of a.disks place) disk a.clock left.clock
  pub is : left ≡ around (with_value a.disks place disk) a.link left.clock

-- the server of a place takes a turn in part
pub record TurnsAtInPart (place : ServerId) (a : Scene) (left : Around) : Type 0 where
  pub old : Spot
  pub new : SpotLeft
  pub was : a ≡ with_spot place old a
  pub turns : IsTurnInPart place old new
  pub is : left ≡ with_left place new a

-- it is given an input in part, between its turns
pub record GivesAtInPart (place : ServerId) (input : Input) (a : Scene) (left : Around)
    : Type 0 where
  pub old : Spot
  pub new : SpotLeft
  pub was : a ≡ with_spot place old a
  pub gives : GivesInPart place input old new
  pub is : left ≡ with_left place new a

abbrev pub AsksAtInPart : ServerId → Asked → Scene → Around → Type 0
AsksAtInPart place q a left = GivesAtInPart place (ask_of q) a left

-- ---- the run

-- SERVERS THAT WEREN'T STARTED: nothing was done, or the first ones were booted, and the next one
-- in part
abbrev pub IsUnstartedWith : Habit → ℕ → List ServerId → Scene → Around → Type 0
IsUnstartedWith habit delta places a left =
    (left ≡ around_in a) ⊎ Stops (BootsWith habit delta) (BootsAtInPart delta) places a left

-- A RUN THAT WAS CUT OFF: its servers weren't started, or they took a front of its turns, and the
-- next one in part
abbrev pub IsCutOffWith : Habit → ℕ → List ServerId → ℕ → Scene → Around → Type 0
IsCutOffWith habit delta places turns a left = IsUnstartedWith habit delta places a left
    ⊎ ((booted : Scene) × Chain (BootsWith habit delta) places a booted
    × Stops TurnsAt TurnsAtInPart (rounds turns places) booted left)

-- servers of the papers
abbrev pub IsUnstarted : ℕ → List ServerId → Scene → Around → Type 0
IsUnstarted delta places a left = IsUnstartedWith Plain delta places a left

abbrev pub IsCutOff : ℕ → List ServerId → ℕ → Scene → Around → Type 0
IsCutOff delta places turns a left = IsCutOffWith Plain delta places turns a left
