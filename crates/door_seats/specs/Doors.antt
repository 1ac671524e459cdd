-- A DOOR with what it has around it, and how it goes on.
use Rattle.std.specs.Prelude.{◌≡◌, ◌⊎◌, ◌≤◌, ℕ, List, Option, None, Result, Ok, Err, ⊤, option_map}
use Rattle.harp_types.specs.Streams.{Rose}
use Rattle.harp_types.specs.declared.server.ServerId.TheVariants.{Zero}
use Rattle.node_link.specs.Readings.{MayTell}
use Rattle.node_link.specs.Traffic.{Traffic}
use Rattle.node_link.specs.declared.clock.Reading.{Reading}
use Rattle.node_link.specs.declared.link.Datagram.{Datagram}
use Rattle.node_link.specs.declared.link.LinkFault.{LinkFault}
use Rattle.node_link.specs.declared.link.LinkFault.TheVariants.{Failed}
use Rattle.node_link.specs.declared.link.SentDatagram.{SentDatagram}
use Rattle.client_calls.specs.First.{first_number}
use Rattle.door_seats.specs.Answers.{AreRight}
use Rattle.door_seats.specs.Connections.{Signs}
use Rattle.door_seats.specs.Events.{AllHappen, Does, Event, Hears, IsAt, IsCut, Outer, Passes, Scene, Seating, first_seating}
use Rattle.door_seats.specs.Moving.{ask_of}
use Rattle.door_seats.specs.Seats.{Sent}
use Rattle.door_seats.specs.declared.door.Door.{Door}
use Rattle.door_seats.specs.declared.door.Outside.{Outside}
use Rattle.door_seats.specs.declared.rule.Moment.{Moment}
use Rattle.door_seats.specs.declared.rule.Rule.{Rule}
use Rattle.door_seats.specs.declared.seat.Ask.{Ask}
use Rattle.door_seats.specs.declared.seat.Seat.{Seat}

-- what connections, link and clock tell, and how many calls of the link failed
pub record Tells (N L C : Type 0) : Type 0 where
  pub signs : N → Signs
  pub link : L → Option Traffic
  pub clock : C → Option (List Reading)
  pub faults : L → ℕ

abbrev pub tells_of : {N L C : Type 0} → (N → Signs) → (L → Option Traffic)
    → (C → Option (List Reading)) → (L → ℕ) → Tells N L C
tells_of signs link clock faults =
    record { signs = signs; link = link; clock = clock; faults = faults }

abbrev pub outer_of : {N L C : Type 0} → Tells N L C → Outside N L C → Outer
outer_of t o =
    record { signs = t.signs o.connections; link = t.link o.link; clock = t.clock o.clock }

abbrev pub scene_of : {N L C : Type 0} → Tells N L C → Door → Outside N L C → Scene
scene_of t d o = record { now = d.reading; seating = d.hall; outer = outer_of t o }

abbrev pub moment_of : Door → Moment
moment_of d = record { rule = d.rule; now = d.reading }

-- an ask as a datagram
abbrev pub datagram_of : Ask → SentDatagram
datagram_of ask = record { place = Zero; to = ask.to; bytes = ask.bytes }

-- events happened, up to this
abbrev pub GoesOn : Rule → Scene → Scene → Type 0
GoesOn rule a c = (es : List Event) × AllHappen rule es a c

-- events happened, and then one was cut off, which left this outside
abbrev pub Stops : Rule → Scene → Outer → Type 0
Stops rule a o = (c : Scene) × GoesOn rule a c × IsCut c.outer o

abbrev pub GoesBy : {A : Type 0} → Rule → Result A LinkFault → Scene → Scene → Type 0
GoesBy rule (Ok x) a c = GoesOn rule a c
GoesBy rule (Err why) a c = Stops rule a c.outer

-- a call of the link that failed is counted, and no count falls
abbrev pub IsCounted : {A : Type 0} → Result A LinkFault → ℕ → ℕ → Type 0
IsCounted result old new = (old ≤ new) × (result ≡ Err Failed → Rose old new)

-- HOW A DOOR GOES ON, where it comes to this: events happen, and its rule stays
pub record Goes {N L C A : Type 0} (t : Tells N L C) (result : Result A LinkFault)
    (old : Door) (out_old : Outside N L C) (new : Door) (out_new : Outside N L C) : Type 0 where
  pub events : GoesBy old.rule result (scene_of t old out_old) (scene_of t new out_new)
  pub rule : new.rule ≡ old.rule
  pub counted : IsCounted result (t.faults out_old.link) (t.faults out_new.link)

-- nothing can fail at it
pub record GoesWell {N L C : Type 0} (t : Tells N L C)
    (old : Door) (out_old : Outside N L C) (new : Door) (out_new : Outside N L C) : Type 0 where
  pub events : GoesOn old.rule (scene_of t old out_old) (scene_of t new out_new)
  pub rule : new.rule ≡ old.rule
  pub link : out_new.link ≡ out_old.link

-- a door that has served nobody yet
pub record IsNew (rule : Rule) (client first : ℕ) (d : Door) : Type 0 where
  pub rule_is : d.rule ≡ rule
  pub seating : d.hall ≡ first_seating client first
  pub reading : d.reading ≡ 0

abbrev pub first_scene : (client first : ℕ) → Outer → Scene
first_scene client first o = record { now = 0; seating = first_seating client first; outer = o }

-- a seat is one of which this holds
abbrev pub Shows : ℕ → (Seat → Type 0) → Seating → Type 0
Shows n P g = (s : Seat) × IsAt n s g × P s

-- a datagram is heard at a seat, or says nothing of any call
abbrev pub Heard : Moment → Datagram → Option Ask → Seating → Seating → Type 0
Heard m d ask g h =
    ((n : ℕ) × (sent : Option Sent) × (ask ≡ option_map ask_of sent)
    × Does m.rule m.now (Hears n d sent) g h)
    ⊎ ((ask ≡ None) × Does m.rule m.now (Passes d) g h)

abbrev pub with_clock : Option (List Reading) → Outer → Outer
with_clock clock o = record { signs = o.signs; link = o.link; clock = clock }

-- how events end that led to a scene: there, or cut off behind it
abbrev pub EndsAt : {A : Type 0} → Result A LinkFault → Outer → Outer → Type 0
EndsAt (Ok x) o new = new ≡ o
EndsAt (Err why) o new = IsCut o new

-- WHAT A DOOR DOES from its first moment on: the clock is read, and by that its calls are numbered;
-- then events happen, one of which may be cut off where it fails; and all of them are right
pub record Serves {N L C : Type 0} (t : Tells N L C) (rule : Rule) (client : ℕ)
    (result : Result ⊤ LinkFault) (old new : Outside N L C) : Type 0 where
  pub reading : ℕ
  pub clock : Option (List Reading)
  pub events : List Event
  pub last : Scene
  pub read : MayTell (record { place = Zero; millis = reading }) (t.clock old.clock) clock
  pub happen : AllHappen rule events
      (first_scene client (first_number reading) (with_clock clock (outer_of t old))) last
  pub ends : EndsAt result last.outer (outer_of t new)
  pub right : AreRight rule events
  pub counted : IsCounted result (t.faults old.link) (t.faults new.link)
