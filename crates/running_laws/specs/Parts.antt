-- What the servers of one call do is a part of a history: events at their places.
use Rattle.std.specs.Prelude.{◌≡◌, ◌⊎◌, ℕ, Bool, true, false, List, [], ◌∷◌, ◌++◌, Contains, Option, None, Some, flat_map, option_map, ⊤}
use Rattle.harp_store.specs.Disk.{IsLeftOf, Moments}
use Rattle.harp_types.specs.Trio.{value_of, with_value}
use Rattle.harp_types.specs.declared.server.ServerId.{ServerId}
use Rattle.harp_types.specs.declared.trio.Trio.{Trio}
use Rattle.node_link.specs.Traffic.{Traffic}
use Rattle.node_link.specs.declared.clock.Reading.{Reading}
use Rattle.node_link.specs.declared.link.TakenDatagram.{TakenDatagram}
use Rattle.node_loop.specs.Chain.{Chain}
use Rattle.node_loop.specs.Cut.{IsCutOff, SendsInPart}
use Rattle.node_loop.specs.Run.{IsRun}
use Rattle.node_loop.specs.Scene.{Around, Scene, all_places, around, start}
use Rattle.node_loop.specs.Stay.{HasRun, IsSaveCut, IsStay, IsTurnCut, Outer, WasUnstarted, around_on, start_on}
use Rattle.node_loop.specs.declared.counts.Served.{Served}
use Rattle.node_loop.specs.declared.counts.Stayed.{Stayed}
use Rattle.node_loop.specs.declared.running.Running.{Running}
use Rattle.node_outputs.specs.declared.outputs.Outputs.{Outputs}
use Rattle.promise.specs.Promise.{IsDelta}
use Rattle.running_laws.specs.Events.{Boots, Does, Ends, Event, Saves, Site, Takes, What, all_sent, sent_by}
use Rattle.running_laws.specs.Lives.{Happens}

-- ---- what the link and the clock tell of events

abbrev pub taken_in : ServerId → What → List TakenDatagram
taken_in place (Takes d) = record { place = place; datagram = d } ∷ []
taken_in place (Boots delta) = []
taken_in place (Does given) = []
taken_in place Saves = []
taken_in place Ends = []

abbrev pub taken_by : Event → List TakenDatagram
taken_by e = taken_in e.place e.what

-- the datagrams that events take
abbrev pub all_taken : List Event → List TakenDatagram
all_taken events = flat_map taken_by events

-- THE LINK took these and sent those, in their order, where it tells
abbrev pub LinkDid : List Event → Option Traffic → Option Traffic → Type 0
LinkDid events None new = new ≡ None
LinkDid events (Some old) new = (t : Traffic) × (new ≡ Some t)
    × (t.taken ≡ old.taken ++ all_taken events) × (t.sent ≡ old.sent ++ all_sent events)

abbrev pub reading_of : Event → Reading
reading_of e = record { place = e.place; millis = e.now }

-- these are readings of events, in their order, among others; several events may be at one
unfoldable pub AreReadIn : List Event → List Reading → Type 0
AreReadIn [] readings = ⊤
AreReadIn (e ∷ es) readings = (front : List Reading) × (rest : List Reading)
    × (readings ≡ front ++ reading_of e ∷ rest) × AreReadIn es (reading_of e ∷ rest)

-- THE CLOCK gave the readings of events, where it still tells
abbrev pub ClockDid : List Event → Option (List Reading) → Option (List Reading) → Type 0
ClockDid events old None = ⊤
ClockDid events None (Some new) = ⊥
ClockDid events (Some old) (Some new) =
    (more : List Reading) × (new ≡ old ++ more) × AreReadIn events more

-- ---- the places of a call

-- the node that lives at a place, and its disk, which tells
pub record IsSiteOf (servers : Trio (Option Running)) (disks : Trio (Option Moments))
    (place : ServerId) (s : Site) : Type 0 where
  pub node : s.node ≡ option_map (λ (r : Running). r.node) (value_of servers place)
  pub disk : value_of disks place ≡ Some s.disk

abbrev pub AreSitesOf : List ServerId → Scene → Trio Site → Type 0
AreSitesOf places a sites = (place : ServerId) → Contains places place
    → IsSiteOf a.servers a.disks place (value_of sites place)

-- ---- a part of a history

-- FROM ONE SCENE TO ANOTHER these events happen, from whatever sites of the first one on, at these
-- places alone; and what the link and the clock tell is of them
pub record Did (places : List ServerId) (a c : Scene) : Type 0 where
  pub events : List Event
  pub there : (e : Event) → Contains events e → Contains places e.place
  pub happen : (old : Trio Site) → AreSitesOf places a old
      → (new : Trio Site) × AreSitesOf places c new × Chain Happens events old new
  pub link : LinkDid events a.link c.link
  pub clock : ClockDid events a.clock c.clock

-- where a call leads, as far as it tells
pub record LeadsOut (c : Scene) (disks : Trio (Option Moments)) (link : Option Traffic)
    (clock : Option (List Reading)) : Type 0 where
  pub disks_are : disks ≡ c.disks
  pub link_is : link ≡ c.link
  pub clock_is : clock ≡ c.clock

-- A CALL'S SERVERS DO a part of a history: from their boots on, where it leads
abbrev pub DoesPart : List ServerId → Scene → Trio (Option Moments) → Option Traffic
    → Option (List Reading) → Type 0
DoesPart places a disks link clock =
    (c : Scene) × LeadsOut c disks link clock × Did places a c

-- ---- a call that is cut off

-- an event as if it put nothing out
abbrev pub silenced : Event → Event
silenced e = record e { outs = None }

-- AMID AN EVENT of a place the process is gone: whatever a crash may leave of the disk that it left
-- there is the next life's, and nothing of the event was sent
pub record IsGoneAmid (places : List ServerId) (a : Scene) (left : Around) : Type 0 where
  pub event : Event
  pub there : Contains places event.place
  pub happens : (h b : Moments) → value_of left.disks event.place ≡ Some h
      → IsLeftOf h.now b.now → (old : Trio Site) → AreSitesOf places a old
      → Happens event old (with_value old event.place (record { node = None; disk = b }))
  pub others : left.disks ≡ with_value a.disks event.place (value_of left.disks event.place)
  pub link : LinkDid (silenced event ∷ []) a.link left.link

-- BEHIND AN EVENT of a place, of which a front was sent
pub record IsGoneBehind (places : List ServerId) (a : Scene) (left : Around) : Type 0 where
  pub event : Event
  pub outs : Outputs
  pub puts : event.outs ≡ Some outs
  pub there : Contains places event.place
  pub happens : (old : Trio Site) → AreSitesOf places a old
      → (b : Site) × (value_of left.disks event.place ≡ Some b.disk)
      × Happens event old (with_value old event.place b)
  pub others : left.disks ≡ with_value a.disks event.place (value_of left.disks event.place)
  pub took : Option Traffic
  pub takes : LinkDid (silenced event ∷ []) a.link took
  pub sends : SendsInPart (sent_by event) took left.link

-- between two events, amid one, or behind one
abbrev pub IsGone : List ServerId → Scene → Around → Type 0
IsGone places a left =
    (left.disks ≡ a.disks) ⊎ (IsGoneAmid places a left ⊎ IsGoneBehind places a left)

-- A CALL THAT IS CUT OFF does a part of a history too, and then the process is gone
pub record DidInPart (places : List ServerId) (a : Scene) (left : Around) : Type 0 where
  pub mid : Scene
  pub did : Did places a mid
  pub gone : IsGone places mid left

-- ---- a server that is told to stop

-- the save of the server of a place, whole or cut, at a reading of its clock
abbrev pub save_of : ServerId → (cut : Bool) → (now : ℕ) → Event
save_of place cut now = record {
  place = place;
  now = now;
  what = Saves;
  cut = cut;
  outs = None;
}

-- A SERVER THAT STAYED UP does a part of a history, up to its save and with it, whole or cut:
-- whatever a crash may leave of the disk that it left is the next life's. The save sends nothing,
-- and reads no clock
pub record DidThenSaved (place : ServerId) (cut : Bool) (a : Scene) (left : Around) : Type 0 where
  pub mid : Scene
  pub did : Did (place ∷ []) a mid
  pub saves : (now : ℕ) (h b : Moments) → value_of left.disks place ≡ Some h
      → IsLeftOf h.now b.now → (old : Trio Site) → AreSitesOf (place ∷ []) mid old
      → Happens (save_of place cut now) old
      (with_value old place (record { node = None; disk = b }))
  pub is : left
      ≡ around (with_value mid.disks place (value_of left.disks place)) mid.link mid.clock

-- ---- lives

-- LIVES: of the servers of one process at these places, which take all their turns or are cut off
pub record LiveInHistories (places : List ServerId) : Type 0 where
  pub whole : (delta turns : ℕ) (disks new : Trio (Option Moments)) (link left : Option Traffic)
      (clock read : Option (List Reading)) (served : Served) → IsDelta delta
      → IsRun delta places turns (start disks link clock) served new left read
      → DoesPart places (start disks link clock) new left read
  pub cut : (delta turns : ℕ) (disks : Trio (Option Moments)) (link : Option Traffic)
      (clock : Option (List Reading)) (left : Around) → IsDelta delta
      → IsCutOff delta places turns (start disks link clock) left
      → DidInPart places (start disks link clock) left

-- and of a server that stays up, up to its save and with it, or to where it was cut off before; its
-- save may be cut too
pub record StaysInHistories (place : ServerId) : Type 0 where
  pub ran : (delta most turns dropped : ℕ) (old new : Outer) (ran : Scene) → IsDelta delta
      → HasRun delta place most turns dropped old new ran
      → Did (place ∷ []) (start_on place old) ran
  pub saved : (delta most : ℕ) (old new : Outer) (stayed : Stayed) → IsDelta delta
      → IsStay delta place most old stayed new
      → DidThenSaved place false (start_on place old) (around_on place new)
  pub unstarted : (delta : ℕ) (old new : Outer) → IsDelta delta
      → WasUnstarted delta place old new
      → DidInPart (place ∷ []) (start_on place old) (around_on place new)
  pub cut : (delta most : ℕ) (old new : Outer) → IsDelta delta
      → IsTurnCut delta place most old new
      → DidInPart (place ∷ []) (start_on place old) (around_on place new)
  pub save_cut : (delta most : ℕ) (old new : Outer) → IsDelta delta
      → IsSaveCut delta place most old new
      → DidThenSaved place true (start_on place old) (around_on place new)

-- of three servers in one process, of one that runs alone, and of one that stays up
abbrev pub LivesArePartsOfHistories : Type 0
LivesArePartsOfHistories =
    LiveInHistories all_places × ((place : ServerId) → LiveInHistories (place ∷ []))
    × ((place : ServerId) → StaysInHistories place)
