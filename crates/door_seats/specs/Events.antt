-- WHAT HAPPENS AT A DOOR, event by event: what its connections and its link tell, what its clock
-- gives, and what its seats do.
use Rattle.std.specs.Prelude.{◌≡◌, ◌⊎◌, ℕ, zero, suc, ◌+◌, length, true, List, [], ◌∷◌, ◌++◌, slice_get, slice_set, Option, Some, None, ⊤}
use Rattle.harp_types.specs.declared.server.ServerId.TheVariants.{Zero}
use Rattle.node_link.specs.Readings.{MayTell}
use Rattle.node_link.specs.Traffic.{TakesNext, Traffic, with_sent_told}
use Rattle.node_link.specs.declared.clock.Reading.{Reading}
use Rattle.node_link.specs.declared.link.Datagram.{Datagram}
use Rattle.group_client.specs.Rule.{ask_datagram, news}
use Rattle.group_client.specs.declared.news.News.TheVariants.{Nothing}
use Rattle.door_seats.specs.Connections.{Sign, Signs, Arrived, Broke, Came, Left, Over, Went, with_sign}
use Rattle.door_seats.specs.Kept.{Kept}
use Rattle.door_seats.specs.Seats.{Moved, Sent, arrived, begins, call_of, come, gone, hears_datagram, is_leaving, left, lost, over, reminded}
use Rattle.door_seats.specs.declared.rule.Moment.{Moment}
use Rattle.door_seats.specs.declared.rule.Rule.{Rule}
use Rattle.door_seats.specs.declared.seat.Line.TheVariants as line
use Rattle.door_seats.specs.declared.seat.Seat.{Seat}
use Rattle.door_seats.specs.declared.seat.Visit.{Visit}

-- ---- the seats

-- the seats, and the answers that are kept
pub record Seating : Type 0 where
  pub seats : List Seat
  pub kept : Kept

-- an empty seat of a client, whose first call has this number
abbrev pub empty_seat : (client first : ℕ) → Seat
empty_seat client first = record {
  client = client;
  next = first;
  place = Zero;
  line = line.Free;
  is_settled = true;
  unread = [];
  unsent = [];
  visit = None;
}

-- so many empty seats, of this client and those behind it
abbrev pub empty_seats : (count client first : ℕ) → List Seat
empty_seats zero client first = []
empty_seats (suc n) client first = empty_seat client first ∷ empty_seats n (client + 1) first

-- sixteen seats, of this client and those behind it
pub record AreOf (client : ℕ) (seats : List Seat) : Type 0 where
  pub sixteen : length seats ≡ 16
  pub clients : (n : ℕ) (s : Seat) → slice_get seats n ≡ Some s → s.client ≡ client + n

-- sixteen of them, and no answer
abbrev pub first_seating : (client first : ℕ) → Seating
first_seating client first = record { seats = empty_seats 16 client first; kept = [] }

-- a seat is this one
abbrev pub IsAt : ℕ → Seat → Seating → Type 0
IsAt n s g = slice_get g.seats n ≡ Some s

-- another one is in its place
abbrev pub with_seat : ℕ → Seat → Seating → Seating
with_seat n s g = record { seats = slice_set g.seats n s; kept = g.kept }

abbrev pub with_moved : ℕ → Moved → Seating → Seating
with_moved n m g = record { seats = slice_set g.seats n m.seat; kept = m.kept }

-- ---- events

-- What happens: the clock is read; a connection takes a seat; bytes come over it; no more come; the
-- next record is begun; a call is asked again; a datagram is heard; one says nothing of any call;
-- bytes go; none go any more; and the connection is ended
pub data Event : Type 0 where
  Wakes : (now : ℕ) → Event
  Arrives : (seat : ℕ) → Event
  Comes : (seat : ℕ) → (bytes : List ℕ) → Event
  Ends : (seat : ℕ) → Event
  Begins : (seat : ℕ) → (sent : Option Sent) → Event
  Reminds : (seat : ℕ) → (sent : Option Sent) → Event
  Hears : (seat : ℕ) → (heard : Datagram) → (sent : Option Sent) → Event
  Passes : (heard : Datagram) → Event
  Goes : (seat : ℕ) → (bytes : List ℕ) → Event
  Breaks : (seat : ℕ) → Event
  Leaves : (seat : ℕ) → Event

-- ---- what seats do

-- a seat that fits is changed so
abbrev pub Changes : ℕ → (Seat → Type 0) → (Seat → Seat) → Seating → Seating → Type 0
Changes n Fits change g h =
    (s : Seat) × IsAt n s g × Fits s × (h ≡ with_seat n (change s) g)

-- a seat moves so, and asks this
abbrev pub Moves : ℕ → Option Sent → (Seat → Kept → Moved) → Seating → Seating → Type 0
Moves n sent move g h =
    (s : Seat) × IsAt n s g × ((move s g.kept).sent ≡ sent)
    × (h ≡ with_moved n (move s g.kept) g)

abbrev pub at : Rule → ℕ → Moment
at rule now = record { rule = rule; now = now }

-- a datagram says nothing of the call of a seat
abbrev pub SaysNothing : Moment → Datagram → Seat → Type 0
SaysNothing m d s =
    (v : Visit) → s.visit ≡ Some v → news (call_of m s v.errand v.number) d ≡ Nothing

-- WHAT THE SEATS DO at an event, at this moment
abbrev pub Does : Rule → ℕ → Event → Seating → Seating → Type 0
Does rule now (Wakes t) g h = h ≡ g
Does rule now (Arrives n) g h = Changes n (λ s. s.line ≡ line.Free) arrived g h
Does rule now (Comes n bytes) g h = Changes n (λ s. s.line ≡ line.Open) (come bytes) g h
Does rule now (Ends n) g h = Changes n (λ s. s.line ≡ line.Open) over g h
Does rule now (Begins n sent) g h = Moves n sent (begins (at rule now) g.seats) g h
Does rule now (Reminds n sent) g h = Moves n sent (reminded (at rule now)) g h
Does rule now (Hears n d sent) g h = Moves n sent (hears_datagram (at rule now) d) g h
Does rule now (Passes d) g h =
    (h ≡ g) × ((n : ℕ) (s : Seat) → IsAt n s g → SaysNothing (at rule now) d s)
Does rule now (Goes n bytes) g h =
    (rest : List ℕ) × Changes n (λ s. s.unsent ≡ bytes ++ rest) (gone rest) g h
Does rule now (Breaks n) g h = Changes n (λ s. ⊤) lost g h
Does rule now (Leaves n) g h = Changes n (λ s. is_leaving s ≡ true) left g h

-- ---- what is told outside

-- what connections, link and clock tell
pub record Outer : Type 0 where
  pub signs : Signs
  pub link : Option Traffic
  pub clock : Option (List Reading)

-- the sign of an event
abbrev pub sign_of : Event → Option Sign
sign_of (Wakes now) = None
sign_of (Arrives n) = Some (Arrived n)
sign_of (Comes n bytes) = Some (Came n bytes)
sign_of (Ends n) = Some (Over n)
sign_of (Begins n sent) = None
sign_of (Reminds n sent) = None
sign_of (Hears n d sent) = None
sign_of (Passes d) = None
sign_of (Goes n bytes) = Some (Went n bytes)
sign_of (Breaks n) = Some (Broke n)
sign_of (Leaves n) = Some (Left n)

abbrev pub with_sign_if : Option Sign → Signs → Signs
with_sign_if None signs = signs
with_sign_if (Some x) signs = with_sign x signs

-- what is asked is sent
abbrev pub with_ask : Option Sent → Option Traffic → Option Traffic
with_ask None link = link
with_ask (Some x) link = with_sent_told (ask_datagram x.asked x.to) link

-- a datagram is taken, and then what is asked is sent
abbrev pub TakesAndSends : Datagram → Option Sent → Option Traffic → Option Traffic → Type 0
TakesAndSends d sent old new =
    (between : Option Traffic) × TakesNext Zero (Some d) old between × (new ≡ with_ask sent between)

-- what the link tells of an event
abbrev pub LinkTells : Event → Option Traffic → Option Traffic → Type 0
LinkTells (Wakes now) old new = new ≡ old
LinkTells (Arrives n) old new = new ≡ old
LinkTells (Comes n bytes) old new = new ≡ old
LinkTells (Ends n) old new = new ≡ old
LinkTells (Begins n sent) old new = new ≡ with_ask sent old
LinkTells (Reminds n sent) old new = new ≡ with_ask sent old
LinkTells (Hears n d sent) old new = TakesAndSends d sent old new
LinkTells (Passes d) old new = TakesNext Zero (Some d) old new
LinkTells (Goes n bytes) old new = new ≡ old
LinkTells (Breaks n) old new = new ≡ old
LinkTells (Leaves n) old new = new ≡ old

abbrev pub ClockTells : Event → Option (List Reading) → Option (List Reading) → Type 0
ClockTells (Wakes now) old new = MayTell (record { place = Zero; millis = now }) old new
ClockTells (Arrives n) old new = new ≡ old
ClockTells (Comes n bytes) old new = new ≡ old
ClockTells (Ends n) old new = new ≡ old
ClockTells (Begins n sent) old new = new ≡ old
ClockTells (Reminds n sent) old new = new ≡ old
ClockTells (Hears n d sent) old new = new ≡ old
ClockTells (Passes d) old new = new ≡ old
ClockTells (Goes n bytes) old new = new ≡ old
ClockTells (Breaks n) old new = new ≡ old
ClockTells (Leaves n) old new = new ≡ old

-- ---- steps

-- the moment, the seats, and what is outside
pub record Scene : Type 0 where
  pub now : ℕ
  pub seating : Seating
  pub outer : Outer

-- the clock's last reading
abbrev pub now_after : Event → ℕ → ℕ
now_after (Wakes now) old = now
now_after (Arrives n) old = old
now_after (Comes n bytes) old = old
now_after (Ends n) old = old
now_after (Begins n sent) old = old
now_after (Reminds n sent) old = old
now_after (Hears n d sent) old = old
now_after (Passes d) old = old
now_after (Goes n bytes) old = old
now_after (Breaks n) old = old
now_after (Leaves n) old = old

-- AN EVENT HAPPENS
pub record Happens (rule : Rule) (e : Event) (a c : Scene) : Type 0 where
  pub does : Does rule a.now e a.seating c.seating
  pub signs : c.outer.signs ≡ with_sign_if (sign_of e) a.outer.signs
  pub link : LinkTells e a.outer.link c.outer.link
  pub clock : ClockTells e a.outer.clock c.outer.clock
  pub now : c.now ≡ now_after e a.now

-- EVENTS HAPPEN one after the other, the latest first
abbrev pub AllHappen : Rule → List Event → Scene → Scene → Type 0
AllHappen rule [] a c = c ≡ a
AllHappen rule (e ∷ es) a c = (b : Scene) × AllHappen rule es a b × Happens rule e b c

-- one that is cut off has read the clock, taken bytes of a connection and taken a datagram, at most
pub record IsCut (a c : Outer) : Type 0 where
  pub signs : (c.signs ≡ a.signs)
      ⊎ ((n : ℕ) × (bytes : List ℕ) × (c.signs ≡ with_sign (Came n bytes) a.signs))
  pub link : (c.link ≡ a.link) ⊎ ((d : Option Datagram) × TakesNext Zero d a.link c.link)
  pub clock : (c.clock ≡ a.clock)
      ⊎ ((now : ℕ) × MayTell (record { place = Zero; millis = now }) a.clock c.clock)
