-- What happens at servers that run is a run of the group: a scene that follows a history, and where
-- it leads.
use Rattle.std.specs.Prelude.{◌≡◌, ◌⊎◌, ℕ, ◌+◌, ◌-◌, ◌≤◌, true, List, [], ◌∷◌, ◌++◌, Contains, drop, filter, None, Some, ⊤}
use Rattle.std.specs.List.{AllByRecursion, slice_get}
use Rattle.file_tree.specs.Book.{Entry}
use Rattle.group_rules.specs.State.{Mode, Open, Server as Machine, Waits}
use Rattle.group_trace.specs.DiskCalls.{measures_of}
use Rattle.group_trace.specs.DiskRun.{DiskScene, disk_run}
use Rattle.group_trace.specs.Run.{CanFollow, run_lines}
use Rattle.harp_store.specs.Disk.{Disk as ToldDisk, IsSynced, with_mark}
use Rattle.harp_store.specs.Mark.{first_mark}
use Rattle.harp_store.specs.Memory.{nothing_stored}
use Rattle.harp_types.specs.Limits.{clock_skew, first_promise}
use Rattle.harp_types.specs.Trio.{value_of}
use Rattle.harp_types.specs.Update.{is_update}
use Rattle.harp_types.specs.declared.peer.Peer.{Peer}
use Rattle.harp_types.specs.declared.peer.Peer.TheVariants.{Server}
use Rattle.harp_types.specs.declared.server.ServerId.{ServerId}
use Rattle.harp_types.specs.declared.trio.Trio.{Trio}
use Rattle.node.specs.Node.{IsServer, NodeValue}
use Rattle.node_link.specs.declared.link.SentDatagram.{SentDatagram}
use Rattle.node_loop.specs.Arriving.{IsMessage}
use Rattle.node_loop.specs.Chain.{Chain}
use Rattle.node_outputs.specs.Messages.{heard}
use Rattle.schedule_play.specs.Stage.{IsReached}
use Rattle.trace_types.specs.declared.step.Step.{Step}
use Rattle.trace_types.specs.declared.step.Step.TheVariants as step
use Rattle.wire.specs.Messages.{message_bytes}
use Rattle.wire.specs.declared.message.Message.{Message}
use Rattle.world.specs.World.{IsWorld, WorldValue}
use Rattle.world_lines.specs.Posted.{Posted}
use Rattle.world_rules.specs.Host.{HostValue, disk_of}
use Rattle.world_rules.specs.Spellings.{spellings}
use Rattle.running_laws.specs.Books.{AddTo, WasAsked}
use Rattle.running_laws.specs.Events.{EachAfter, Event, IsNewSite, Site, all_sent}
use Rattle.running_laws.specs.Histories.{IsInTime, IsNear, IsRisen, IsSentBefore}
use Rattle.running_laws.specs.Lives.{Happens}
use Rattle.running_laws.specs.Statement.{Stands, answer_lines, is_answer}

-- ---- a scene that follows a history

-- a host has the node and the disk of a place, where without a node all is synced
pub record IsSite (h : HostValue) (s : Site) : Type 0 where
  pub node : h.node ≡ s.node
  pub disk : disk_of h ≡ s.disk.now
  pub served : (n : NodeValue) → s.node ≡ Some n → IsServer n
  pub synced : s.node ≡ None → IsSynced s.disk.now

-- a new disk with the mark that the first boot of a run writes on it
abbrev pub first_disk : ServerId → ToldDisk
first_disk place = with_mark (first_mark place first_promise) nothing_stored.now

-- A PLACE IS NEW: nothing was written there yet; its host has the first mark, and is down
pub record IsNew (place : ServerId) (h : HostValue) (s : Site) : Type 0 where
  pub new : IsNewSite s
  pub node : h.node ≡ None
  pub disk : disk_of h ≡ first_disk place

abbrev pub IsPlace : ServerId → HostValue → Site → Type 0
IsPlace place h s = IsSite h s ⊎ IsNew place h s

-- a packet from one server to another has these bytes
pub record IsPacket (ps : List Posted) (from to : ServerId) (bytes : List ℕ) : Type 0 where
  pub number : ℕ
  pub posted : Posted
  pub there : slice_get ps number ≡ Some posted
  pub from_is : posted.packet.from ≡ from
  pub to_is : posted.packet.to ≡ to
  pub spells : IsMessage bytes posted.packet.message

-- bytes that tell something to a client
pub record AreForClients (bytes : List ℕ) : Type 0 where
  pub message : Message
  pub spells : bytes ≡ message_bytes message
  pub unheard : heard message ≡ None

-- A DATAGRAM TO A SERVER is a packet, or tells something to a client
abbrev pub IsPosted : List Posted → SentDatagram → Type 0
IsPosted ps d = (to : ServerId) → d.to ≡ Server to
    → IsPacket ps d.place to d.bytes ⊎ AreForClients d.bytes

-- THE CLOCKS OF A RUN are near the highest reading of a history, and above no reading that may come
-- next at their place
pub record ClocksFollow (before : List Event) (clocks : Trio ℕ) : Type 0 where
  pub top : ℕ
  pub near : (now : ℕ) → IsNear before now → top ≤ now + clock_skew
  pub low : (place : ServerId) → top ≤ value_of clocks place + clock_skew
  pub high : (place : ServerId) → value_of clocks place ≤ top
  pub behind : (place : ServerId) (now : ℕ) → IsRisen before place now → IsNear before now
      → value_of clocks place ≤ now

-- a step of a run that asks has a call that was asked for
abbrev pub IsAskedStep : List Event → Step → Type 0
IsAskedStep events (step.Ask server client number cred call) =
    (peer : Peer) × WasAsked events client number cred call peer
IsAskedStep events s = ⊤

-- each of these updates has somebody, in their order, who asked for it
abbrev pub AreAskers : List Event → List Entry → List Peer → Type 0
AreAskers events [] [] = ⊤
AreAskers events [] (p ∷ peers) = ⊥
AreAskers events (x ∷ xs) [] = ⊥
AreAskers events (x ∷ xs) (p ∷ peers) = (is_update x.call ≡ true)
    × WasAsked events x.client x.number x.cred x.call p × AreAskers events xs peers

-- the records above CP
abbrev pub above_cp : Machine Entry → List Entry
above_cp s = drop (s.cp - s.base) s.items

abbrev pub WaitIn : List Event → Mode → List Entry → List Peer → Type 0
WaitIn events Open xs peers = AreAskers events xs peers
WaitIn events Waits xs peers = peers ≡ []
WaitIn events m xs peers = ⊤

-- WHO WAITS AT AN OPEN LEADER asked for what it hasn't committed; before it opens, nobody waits
abbrev pub HasAskers : List Event → Machine Entry → List Peer → Type 0
HasAskers events s peers = WaitIn events s.mode (above_cp s) peers

-- A SCENE FOLLOWS A HISTORY that left these nodes and disks: steps lead to it that only a full net
-- may refuse, which ask for what was asked, and a world stands there whose hosts are the places,
-- whose packets are what was sent, and no stop is armed
pub record Follows (before : List Event) (sites : Trio Site) (w : DiskScene) (x : WorldValue)
    : Type 0 where
  pub reached : IsReached spellings w
  pub asks : AllByRecursion (IsAskedStep before) reached.steps
  pub stands : IsWorld w x
  pub sites_are : (place : ServerId)
      → IsPlace place (value_of x.hosts place) (value_of sites place)
  pub no_stop : (place : ServerId) → value_of x.stops place ≡ None
  pub posted : (d : SentDatagram) → Contains (all_sent before) d → IsPosted x.packets d
  pub clocks : ClocksFollow before x.clocks
  pub askers : (place : ServerId) (n : NodeValue) → (value_of sites place).node ≡ Some n
      → HasAskers before n.plain n.peers

-- ---- where they lead

-- steps that only a full net may refuse lead from one scene to another
pub record LeadsTo (w v : DiskScene) : Type 0 where
  pub steps : List Step
  pub taken : CanFollow (measures_of spellings) w.scene steps
  pub leads : disk_run spellings w steps ≡ v

-- steps lead on to a scene that follows the longer history: the places are its servers, their
-- answers are those of what happened meanwhile, and so is what comes to the book
pub record FollowsOn (before events : List Event) (sites : Trio Site) (w : DiskScene)
    (x : WorldValue) : Type 0 where
  pub scene : DiskScene
  pub world : WorldValue
  pub led : LeadsTo w scene
  pub follows : Follows (before ++ events) sites scene world
  pub places : (place : ServerId) → Stands scene place (value_of sites place)
  pub answers : filter is_answer (run_lines (measures_of spellings) w.scene led.steps)
      ≡ answer_lines events
  pub book : AddTo before events x.book.entries world.book.entries

-- EVENTS FOLLOW: from each scene that follows a history, where more events happen
abbrev pub EventsFollow : Type 0
EventsFollow = (before events : List Event) (a c : Trio Site) (w : DiskScene) (x : WorldValue)
    → Follows before a w x → Chain Happens events a c
    → EachAfter IsSentBefore before events → EachAfter IsInTime before events
    → FollowsOn before events c w x
