-- Histories of three servers that run as processes: their lives, the network and the clocks.
use Rattle.std.specs.Prelude.{◌≡◌, ℕ, ◌+◌, ◌≤◌, List, [], Contains, ⊤}
use Rattle.harp_types.specs.Limits.{clock_skew}
use Rattle.harp_types.specs.declared.peer.Peer.TheVariants.{Server}
use Rattle.harp_types.specs.declared.server.ServerId.{ServerId}
use Rattle.harp_types.specs.declared.trio.Trio.{Trio}
use Rattle.node_loop.specs.Chain.{Chain}
use Rattle.running_laws.specs.Events.{Boots, Does, EachAfter, Ends, Event, Saves, Site, Takes, What, all_sent, new_sites}
use Rattle.running_laws.specs.Lives.{Happens}

-- THE NETWORK may lose, repeat, delay and reorder. But a datagram that is taken from the port of a
-- server was sent by that server to this place, before. Whatever comes from elsewhere may be
-- anything
abbrev pub IsNotForged : List Event → ServerId → What → Type 0
IsNotForged before place (Takes d) = (s : ServerId) → d.from ≡ Server s
    → Contains (all_sent before) (record { place = s; to = Server place; bytes = d.bytes })
IsNotForged before place (Boots delta) = ⊤
IsNotForged before place (Does given) = ⊤
IsNotForged before place Saves = ⊤
IsNotForged before place Ends = ⊤

abbrev pub IsSentBefore : List Event → Event → Type 0
IsSentBefore before e = IsNotForged before e.place e.what

-- no reading at the place before this one is above it
abbrev pub IsRisen : List Event → ServerId → ℕ → Type 0
IsRisen before place now = (x : Event) → Contains before x → x.place ≡ place → x.now ≤ now

-- no reading before this one is more than the skew above it
abbrev pub IsNear : List Event → ℕ → Type 0
IsNear before now = (x : Event) → Contains before x → x.now ≤ now + clock_skew

-- THE CLOCKS: no reading at a place is below one before it there, in an earlier life too, and none
-- is more than their skew below one before it anywhere. A life ends at the reading that its clock
-- has then
pub record IsInTime (before : List Event) (e : Event) : Type 0 where
  pub rises : IsRisen before e.place e.now
  pub near : IsNear before e.now

-- A HISTORY of three servers, from new disks on, and what it leaves
pub record IsHistory (events : List Event) (left : Trio Site) : Type 0 where
  pub lives : Chain Happens events new_sites left
  pub network : EachAfter IsSentBefore [] events
  pub clocks : EachAfter IsInTime [] events
