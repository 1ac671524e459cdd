-- The datagrams that a link took, sent and has left, and what its calls make of them.
use Rattle.std.specs.Prelude.{◌≡◌, ℕ, List, [], ◌∷◌, ◌++◌, drop, Option, Some, None}
use Rattle.harp_types.specs.Trio.{value_of, with_value}
use Rattle.harp_types.specs.declared.trio.Trio.{Trio}
use Rattle.harp_types.specs.declared.server.ServerId.{ServerId}
use Rattle.node_link.specs.declared.link.Datagram.{Datagram}
use Rattle.node_link.specs.declared.link.TakenDatagram.{TakenDatagram}
use Rattle.node_link.specs.declared.link.SentDatagram.{SentDatagram}

-- the greatest port of a link: the places have the ports from there on
abbrev pub last_port : ℕ
last_port = 65533

-- what was taken and sent, in order, and what is left for each place, the first to be taken first
pub record Traffic : Type 0 where
  pub taken : List TakenDatagram
  pub sent : List SentDatagram
  pub left : Trio (List Datagram)

abbrev pub first : List Datagram → Option Datagram
first [] = None
first (d ∷ ds) = Some d

-- the datagram that the place takes next, None where none is left
abbrev pub next_at : ServerId → Traffic → Option Datagram
next_at place t = first (value_of t.left place)

abbrev pub taken_at : ServerId → Option Datagram → List TakenDatagram
taken_at place None = []
taken_at place (Some d) = (record { place = place; datagram = d }) ∷ []

-- the place took its next datagram, where one was left
abbrev pub without_next : ServerId → Traffic → Traffic
without_next place t = record {
  taken = t.taken ++ taken_at place (next_at place t);
  sent = t.sent;
  left = with_value t.left place (drop 1 (value_of t.left place));
}

-- a receive gave the place's next datagram and took it, or none where none is left
abbrev pub TakesNext : ServerId → Option Datagram → Option Traffic → Option Traffic → Type 0
TakesNext place given None new = new ≡ None
TakesNext place given (Some t) new = (given ≡ next_at place t) × (new ≡ Some (without_next place t))

-- a datagram more was sent
abbrev pub with_sent : SentDatagram → Traffic → Traffic
with_sent d t = record { taken = t.taken; sent = t.sent ++ d ∷ []; left = t.left }

abbrev pub with_sent_told : SentDatagram → Option Traffic → Option Traffic
with_sent_told d None = None
with_sent_told d (Some t) = Some (with_sent d t)
