-- What a datagram gives to a server.
use Rattle.std.specs.Prelude.{◌≡◌, ◌⊎◌, ℕ, List, Option, Some, None}
use Rattle.harp_types.specs.declared.peer.Peer.{Peer}
use Rattle.harp_types.specs.declared.peer.Peer.TheVariants.{Local, Server, Other}
use Rattle.node_link.specs.declared.link.Datagram.{Datagram}
use Rattle.wire.specs.Messages.{MessageFits, message_bytes}
use Rattle.wire.specs.declared.message.Message.{Message}
use Rattle.wire.specs.declared.message.Message.TheVariants as message
use Rattle.node.specs.declared.input.Input.{Input}
use Rattle.node.specs.declared.input.Input.TheVariants as input

-- a server's message counts only where a server sent it
abbrev pub from_server : Peer → Message → Option Input
from_server Local m = None
from_server (Server s) m = Some (input.Message s m)
from_server (Other address port) m = None

-- a call comes from anyone; answers are for clients
abbrev pub input_of : Peer → Message → Option Input
input_of peer (message.Ask client number cred call) = Some (input.Ask peer client number cred call)
input_of peer (message.Answer client number index reply) = None
input_of peer (message.CannotServe client number cause) = None
input_of peer (message.Invite view) = from_server peer (message.Invite view)
input_of peer (message.Join view has accepted base lb cp top horizon) =
    from_server peer (message.Join view has accepted base lb cp top horizon)
input_of peer (message.Form view storers source base cp start horizon) =
    from_server peer (message.Form view storers source base cp start horizon)
input_of peer (message.Fetch view first) = from_server peer (message.Fetch view first)
input_of peer (message.Give view first records) = from_server peer (message.Give view first records)
input_of peer (message.Formed view lb) = from_server peer (message.Formed view lb)
input_of peer (message.Event view cp base event) =
    from_server peer (message.Event view cp base event)
input_of peer (message.Beat view cp base) = from_server peer (message.Beat view cp base)
input_of peer (message.Ack view top lb until) = from_server peer (message.Ack view top lb until)
input_of peer (message.Demote view) = from_server peer (message.Demote view)

-- the bytes spell this message
abbrev pub IsMessage : List ℕ → Message → Type 0
IsMessage bytes m = (bytes ≡ message_bytes m) × MessageFits m

-- the bytes spell no message
abbrev pub IsNoise : List ℕ → Type 0
IsNoise bytes = (m : Message) → IsMessage bytes m → ⊥

-- a datagram gives what its message gives, and nothing where it is none
abbrev pub Arrives : Datagram → Option Input → Type 0
Arrives d given = ((m : Message) × IsMessage d.bytes m × (given ≡ input_of d.from m))
    ⊎ (IsNoise d.bytes × (given ≡ None))
