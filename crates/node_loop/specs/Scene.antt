-- Servers that run, what they share, and what is counted and heard.
use Rattle.std.specs.Prelude.{◌≡◌, ◌≤◌, ℕ, ◌+◌, ◌-◌, ◌^◌, min, false, List, [], ◌∷◌, ◌++◌, length, Option, None, Some}
use Rattle.cell_cache.specs.Entries.{AreOf}
use Rattle.harp_types.specs.Memory.{raised}
use Rattle.harp_types.specs.Streams.{Rose}
use Rattle.harp_types.specs.Trio.{value_of, with_value}
use Rattle.harp_types.specs.declared.server.ServerId.{ServerId}
use Rattle.harp_types.specs.declared.server.ServerId.TheVariants.{Zero, One, Two}
use Rattle.harp_types.specs.declared.trio.Trio.{Trio}
use Rattle.harp_store.specs.Disk.{Moments, cells_told}
use Rattle.node.specs.Node.{NodeValue}
use Rattle.node_link.specs.Traffic.{Traffic}
use Rattle.node_link.specs.declared.clock.Reading.{Reading}
use Rattle.node_link.specs.declared.link.Datagram.{Datagram}
use Rattle.node_link.specs.declared.link.SentDatagram.{SentDatagram}
use Rattle.node_loop.specs.declared.counts.Counts.{Counts}
use Rattle.node_loop.specs.declared.heard.Heard.{Heard}
use Rattle.node_loop.specs.declared.ledger.Ledger.{Ledger}
use Rattle.node_loop.specs.declared.running.Running.{Running}
use Rattle.node_loop.specs.declared.three.Three.{Three}

-- ---- counts

-- dropped datagrams count too
abbrev pub taken_after : Option Datagram → ℕ → ℕ
taken_after None n = n
taken_after (Some d) n = raised n

-- as far as a u64 counts
abbrev pub sent_after : List SentDatagram → ℕ → ℕ
sent_after ds n = min (n + length ds) (2 ^ 64 - 1)

-- datagrams more were sent
abbrev pub with_all_sent : List SentDatagram → Option Traffic → Option Traffic
with_all_sent ds None = None
with_all_sent ds (Some t) = Some (record { taken = t.taken; sent = t.sent ++ ds; left = t.left })

-- ---- one server

-- a node at work: it, its disk, the link that it sends over, how many datagrams were sent, and what
-- the program that it runs in has heard
pub record AtWork : Type 0 where
  pub node : NodeValue
  pub disk : Option Moments
  pub link : Option Traffic
  pub sent : ℕ
  pub heard : List Heard

abbrev pub work : NodeValue → Option Moments → Option Traffic → Ledger → AtWork
work node disk link ledger = record {
  node = node;
  disk = disk;
  link = link;
  sent = ledger.counts.sent;
  heard = ledger.heard.items;
}

-- A server at its place: it and its disk; and what it shares with others, the link, the readings of
-- the clock, the counts, and what the program that they run in has heard
pub record Spot : Type 0 where
  pub server : Running
  pub disk : Option Moments
  pub link : Option Traffic
  pub clock : Option (List Reading)
  pub counts : Counts
  pub heard : List Heard

abbrev pub spot : Running → Option Moments → Option Traffic → Option (List Reading) → Ledger → Spot
spot server disk link clock ledger = record {
  server = server;
  disk = disk;
  link = link;
  clock = clock;
  counts = ledger.counts;
  heard = ledger.heard.items;
}

abbrev pub at_work : Spot → AtWork
at_work s = record {
  node = s.server.node;
  disk = s.disk;
  link = s.link;
  sent = s.counts.sent;
  heard = s.heard;
}

-- no step of it failed, and the cells that it keeps in memory are those of its disk
pub record IsUp (n : NodeValue) (disk : Option Moments) : Type 0 where
  pub runs : n.halted ≡ false
  pub cached : AreOf (cells_told disk) n.cached

-- ---- the servers

-- THE SCENE: the servers that were booted, the disks, and what the servers share
pub record Scene : Type 0 where
  pub servers : Trio (Option Running)
  pub disks : Trio (Option Moments)
  pub link : Option Traffic
  pub clock : Option (List Reading)
  pub counts : Counts
  pub heard : List Heard

-- a server at its place in the scene; the others stay
abbrev pub with_spot : ServerId → Spot → Scene → Scene
with_spot place s a = record {
  servers = with_value a.servers place (Some s.server);
  disks = with_value a.disks place s.disk;
  link = s.link;
  clock = s.clock;
  counts = s.counts;
  heard = s.heard;
}

-- it is the same but for what is heard
abbrev pub with_heard : List Heard → Scene → Scene
with_heard hs a = record a { heard = hs }

abbrev pub nobody : {T : Type 0} → Trio (Option T)
nobody = record { zero = None; one = None; two = None }

-- something at this place alone
abbrev pub only : {T : Type 0} → ServerId → Option T → Trio (Option T)
only place x = with_value nobody place x

abbrev pub each : {A B : Type 0} → (A → B) → Trio A → Trio B
each f trio = record { zero = f trio.zero; one = f trio.one; two = f trio.two }

-- the places of a group, ascending
abbrev pub all_places : List ServerId
all_places = Zero ∷ One ∷ Two ∷ []

-- before the first boot
abbrev pub start : Trio (Option Moments) → Option Traffic → Option (List Reading) → Scene
start disks link clock = record {
  servers = nobody;
  disks = disks;
  link = link;
  clock = clock;
  counts = record { taken = 0; sent = 0 };
  heard = [];
}

-- three servers that run
abbrev pub scene : Trio Running → Trio (Option Moments) → Option Traffic → Option (List Reading)
    → Ledger → Scene
scene servers disks link clock ledger = record {
  servers = each Some servers;
  disks = disks;
  link = link;
  clock = clock;
  counts = ledger.counts;
  heard = ledger.heard.items;
}

-- what servers run on: the disks, the link and the clock, as far as they tell
pub record Around : Type 0 where
  pub disks : Trio (Option Moments)
  pub link : Option Traffic
  pub clock : Option (List Reading)

abbrev pub around : Trio (Option Moments) → Option Traffic → Option (List Reading) → Around
around disks link clock = record { disks = disks; link = link; clock = clock }

abbrev pub around_in : Scene → Around
around_in a = around a.disks a.link a.clock

abbrev pub scene_of : Three → Trio (Option Moments) → Option Traffic → Option (List Reading)
    → Scene
scene_of three disks link clock = scene three.servers disks link clock three.ledger

-- one that runs alone
abbrev pub alone : ServerId → Spot → Scene
alone place s = with_spot place s (start nobody None None)

abbrev pub AreUp : Trio Running → Trio (Option Moments) → Type 0
AreUp servers disks =
    (place : ServerId) → IsUp (value_of servers place).node (value_of disks place)

-- one of these counts of faults rose
abbrev pub OneRose : Trio ℕ → Trio ℕ → Type 0
OneRose old new = (place : ServerId) × Rose (value_of old place) (value_of new place)

-- none of these counts fell
abbrev pub NoneFell : Trio ℕ → Trio ℕ → Type 0
NoneFell old new = (place : ServerId) → value_of old place ≤ value_of new place
