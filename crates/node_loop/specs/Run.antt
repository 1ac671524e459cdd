-- THE NODE RUN: what servers are given and send, turn by turn, from their boots on.
use Rattle.std.specs.Prelude.{◌≡◌, ℕ, zero, suc, List, [], ◌++◌, Option, Some}
use Rattle.harp_types.specs.Trio.{value_of, with_value}
use Rattle.harp_types.specs.declared.call.Call.{Call}
use Rattle.harp_types.specs.declared.cred.Cred.{Cred}
use Rattle.harp_types.specs.declared.peer.Peer.TheVariants.{Local}
use Rattle.harp_types.specs.declared.server.ServerId.{ServerId}
use Rattle.harp_types.specs.declared.trio.Trio.{Trio}
use Rattle.harp_store.specs.Disk.{Moments}
use Rattle.node.specs.declared.input.Input.{Input}
use Rattle.node.specs.declared.input.Input.TheVariants.{Ask}
use Rattle.node_link.specs.Readings.{MayTell}
use Rattle.node_link.specs.Traffic.{Traffic}
use Rattle.node_link.specs.declared.clock.Reading.{Reading}
use Rattle.node_outputs.specs.declared.outputs.Outputs.{Outputs}
use Rattle.node_loop.specs.declared.counts.Served.{Served}
use Rattle.node_loop.specs.declared.habit.Habit.{Habit}
use Rattle.node_loop.specs.declared.habit.Habit.TheVariants.{Plain}
use Rattle.node_loop.specs.declared.heard.Heard.{Heard}
use Rattle.node_loop.specs.declared.running.Running.{Running}
use Rattle.node_loop.specs.declared.turned.TurnEnd.{TurnEnd}
use Rattle.node_loop.specs.declared.turned.Turned.{Turned}
use Rattle.node_loop.specs.Chain.{Chain}
use Rattle.node_loop.specs.Looks.{look_of}
use Rattle.node_loop.specs.Outgoing.{AreSpelled, datagrams, heards}
use Rattle.node_loop.specs.Scene.{AtWork, Scene, Spot, all_places, at_work, sent_after, taken_after, with_all_sent, with_heard, with_spot}
use Rattle.node_loop.specs.Step.{IsBoot, IsStep}
use Rattle.node_loop.specs.Turn.{IsTurn, LinkTurns, MayTellAll, is_dropped, readings_of}
use Rattle.node_loop.specs.Turns.{first_pace}

-- ---- a boot

-- A BOOT of a server with this habit, at a reading of the clock: it ticks at once
pub record IsBooted (habit : Habit) (place : ServerId) (delta : ℕ) (server : Running)
    (old new : Option Moments) (before after : Option (List Reading)) : Type 0 where
  pub now : ℕ
  pub boot : IsBoot place delta now old new server.node
  pub pace : server.pace ≡ first_pace habit now
  pub clock : MayTell (record { place = place; millis = now }) before after

-- ---- one input

-- A node is given an input at a reading of its clock: it takes a step, and what goes out of it is
-- sent and heard, in its order; what goes to other servers has spellings
pub record IsGiven (place : ServerId) (now : ℕ) (input : Input) (a b : AtWork) : Type 0 where
  pub outs : Outputs
  pub step : IsStep input now a.node b.node a.disk b.disk outs
  pub link : b.link ≡ with_all_sent (datagrams place outs) a.link
  pub sent : b.sent ≡ sent_after (datagrams place outs) a.sent
  pub heard : b.heard ≡ a.heard ++ heards outs
  pub spelled : AreSpelled outs

-- ---- one turn of a place

-- A TURN, of a server that sees of itself what its node shows: it is given what the turn gives, one
-- input after the other, each at the turn's last reading
pub record Turns (place : ServerId) (a c : Spot) : Type 0 where
  pub turned : Turned
  pub before : Option Traffic
  pub turn : IsTurn place (look_of a.server.node) a.server.pace c.server.pace turned
  pub link : LinkTurns place (look_of a.server.node) a.server.pace turned a.link before
  pub clock : MayTellAll (readings_of place turned) a.clock c.clock
  pub taken : c.counts.taken ≡ taken_after turned.taken a.counts.taken
  pub given : Chain (IsGiven place turned.now) turned.inputs.items
      (at_work (record a { link = before })) (at_work c)

-- a turn that ended so
pub record TurnsTo (place : ServerId) (end : TurnEnd) (a c : Spot) : Type 0 where
  pub turns : Turns place a c
  pub to : end.now ≡ turns.turned.now
  pub dropped : end.dropped ≡ is_dropped turns.turned.taken turns.turned.inputs.items

-- ---- between turns

-- A server is given an input between its turns, at a reading of its clock
pub record Gives (place : ServerId) (input : Input) (a c : Spot) : Type 0 where
  pub now : ℕ
  pub clock : MayTell (record { place = place; millis = now }) a.clock c.clock
  pub given : IsGiven place now input (at_work a) (at_work c)
  pub pace : c.server.pace ≡ a.server.pace
  pub taken : c.counts.taken ≡ a.counts.taken

-- ---- in a scene

-- the server of a place is booted from its disk, with this habit; nothing is taken, sent or heard
pub record BootsWith (habit : Habit) (delta : ℕ) (place : ServerId) (a c : Scene) : Type 0 where
  pub server : Running
  pub disk : Option Moments
  pub clock : Option (List Reading)
  pub boots : IsBooted habit place delta server (value_of a.disks place) disk a.clock clock
  pub is : c ≡ record a {
    servers = with_value a.servers place (Some server);
    disks = with_value a.disks place disk;
    clock = clock;
  }

-- as one of the papers
abbrev pub BootsAt : ℕ → ServerId → Scene → Scene → Type 0
BootsAt delta = BootsWith Plain delta

-- the server of a place takes a turn
pub record TurnsAt (place : ServerId) (a c : Scene) : Type 0 where
  pub old : Spot
  pub new : Spot
  pub was : a ≡ with_spot place old a
  pub turns : Turns place old new
  pub is : c ≡ with_spot place new a

-- the server of a place is given an input between its turns
pub record GivesAt (place : ServerId) (input : Input) (a c : Scene) : Type 0 where
  pub old : Spot
  pub new : Spot
  pub was : a ≡ with_spot place old a
  pub gives : Gives place input old new
  pub is : c ≡ with_spot place new a

-- a call, as a client's program asks it under a number
pub record Asked : Type 0 where
  pub client : ℕ
  pub number : ℕ
  pub cred : Cred
  pub call : Call

-- as it is given to a server by the program that the server runs in
abbrev pub ask_of : Asked → Input
ask_of q = Ask Local q.client q.number q.cred q.call

-- THE SERVER OF A PLACE IS ASKED a call by the program that it runs in, between its turns
abbrev pub AsksAt : ServerId → Asked → Scene → Scene → Type 0
AsksAt place q a c = GivesAt place (ask_of q) a c

-- ---- the run

-- so many rounds of turns at these places
abbrev pub rounds : ℕ → List ServerId → List ServerId
rounds zero places = []
rounds (suc n) places = rounds n places ++ places

-- so many rounds of the three servers lead here, and what was heard in them may be dropped
abbrev pub TakesTurns : ℕ → Scene → Scene → Type 0
TakesTurns turns a c =
    (hs : List Heard) × Chain TurnsAt (rounds turns all_places) a (with_heard hs c)

-- THE RUN: the server of each place is booted, in their order, and then they take so many rounds of
-- turns. This is where it led, and what was counted
pub record IsRun (delta : ℕ) (places : List ServerId) (turns : ℕ) (a : Scene) (served : Served)
    (disks : Trio (Option Moments)) (link : Option Traffic) (clock : Option (List Reading)) : Type 0 where
  pub booted : Scene
  pub end : Scene
  pub boots : Chain (BootsAt delta) places a booted
  pub turned : Chain TurnsAt (rounds turns places) booted end
  pub disks_are : disks ≡ end.disks
  pub link_is : link ≡ end.link
  pub clock_is : clock ≡ end.clock
  pub served_is : served
      ≡ record { turns = turns; taken = end.counts.taken; sent = end.counts.sent }
