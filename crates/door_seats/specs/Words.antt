-- What a datagram says to which seat.
use Rattle.std.specs.Prelude.{◌≡◌, ◌<◌, ℕ, Option, Some, None, Ok}
use Rattle.harp_types.specs.declared.server.ServerId.{ServerId}
use Rattle.node_link.specs.declared.link.Datagram.{Datagram}
use Rattle.client_calls.specs.Servers.{server_of}
use Rattle.group_client.specs.Rule.{Asked, said}
use Rattle.group_client.specs.declared.news.News.TheVariants.{Nothing}
use Rattle.wire.specs.Messages.{decoded}
use Rattle.wire.specs.declared.message.Message.{Message}
use Rattle.wire.specs.declared.message.Message.TheVariants as message
use Rattle.door_seats.specs.Events.{IsAt, SaysNothing, Seating}
use Rattle.door_seats.specs.declared.hall.Word.{Word}
use Rattle.door_seats.specs.declared.rule.Moment.{Moment}
use Rattle.door_seats.specs.declared.seat.Seat.{Seat}

-- the client to which a message says something
abbrev pub client_of : Message → Option ℕ
client_of (message.Answer client number index reply) = Some client
client_of (message.CannotServe client number cause) = Some client
client_of (message.Invite view) = None
client_of (message.Join view has accepted base lb cp top horizon) = None
client_of (message.Form view storers source base cp start horizon) = None
client_of (message.Fetch view first) = None
client_of (message.Give view first records) = None
client_of (message.Formed view lb) = None
client_of (message.Event view cp base event) = None
client_of (message.Beat view cp base) = None
client_of (message.Ack view top lb until) = None
client_of (message.Demote view) = None
client_of (message.Ask client number cred call) = None

-- a place of sixteen, or where there is none, no seat has this client
abbrev pub IsSeatOf : ℕ → Seating → Option ℕ → Type 0
IsSeatOf client g (Some n) = n < 16
IsSeatOf client g None = (n : ℕ) (s : Seat) → IsAt n s g → s.client ≡ client → ⊥

-- or no seat's call is one of which the message says something
abbrev pub IsSeatFor : Message → Seating → Option ℕ → Type 0
IsSeatFor m g (Some n) = n < 16
IsSeatFor m g None =
    (n : ℕ) (s : Seat) → IsAt n s g → (by : ServerId) (q : Asked) → q.client ≡ s.client
    → said by q m ≡ Nothing

-- a server's message to a seat, or where there is none, the datagram says nothing to any
abbrev pub IsWord : Moment → Datagram → Seating → Option Word → Type 0
IsWord m d g (Some w) =
    (w.n < 16) × (server_of m.rule.port d.from ≡ Some w.by) × (decoded d.bytes ≡ Ok w.message)
IsWord m d g None = (n : ℕ) (s : Seat) → IsAt n s g → SaysNothing m d s
