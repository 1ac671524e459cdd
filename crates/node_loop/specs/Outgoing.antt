-- What goes out of a step of a server: the datagrams that it sends, and what the program that it
-- runs in hears.
use Rattle.std.specs.Prelude.{◌≡◌, All, List, [], ◌∷◌, ◌++◌, Option, Some, None, flat_map, map}
use Rattle.harp_types.specs.declared.peer.Peer.{Peer}
use Rattle.harp_types.specs.declared.peer.Peer.TheVariants.{Local, Server, Other}
use Rattle.harp_types.specs.declared.server.ServerId.{ServerId}
use Rattle.node_link.specs.declared.link.SentDatagram.{SentDatagram}
use Rattle.node_outputs.specs.declared.outputs.Answered.{Answered}
use Rattle.node_outputs.specs.declared.outputs.Outputs.{Outputs}
use Rattle.node_outputs.specs.declared.outputs.Refused.{Refused}
use Rattle.node_outputs.specs.declared.outputs.Sent.{Sent}
use Rattle.wire.specs.Messages.{MessageFits, message_bytes}
use Rattle.wire.specs.declared.message.Message.{Message}
use Rattle.wire.specs.declared.message.Message.TheVariants as message
use Rattle.node_loop.specs.declared.heard.Heard.{Heard}
use Rattle.node_loop.specs.declared.heard.Heard.TheVariants.{Answer, CannotServe}

-- ---- to who asked

-- an answer, as who asked hears it
abbrev pub answer_heard : Answered → Heard
answer_heard a = Answer a.client a.number a.index a.reply

abbrev pub refusal_heard : Refused → Heard
refusal_heard r = CannotServe r.client r.number r.cause

-- what another program is told of it
abbrev pub told_of : Heard → Message
told_of (Answer client number index reply) = message.Answer client number index reply
told_of (CannotServe client number cause) = message.CannotServe client number cause

-- a message as it goes from a place to a peer
abbrev pub datagram : ServerId → Peer → Message → SentDatagram
datagram place to m = record { place = place; to = to; bytes = message_bytes m }

-- a datagram tells it, unless the own program asked
abbrev pub sent_to : ServerId → Peer → Heard → List SentDatagram
sent_to place Local h = []
sent_to place (Server s) h = datagram place (Server s) (told_of h) ∷ []
sent_to place (Other address port) h = datagram place (Other address port) (told_of h) ∷ []

-- the own program hears it
abbrev pub heard_by : Peer → Heard → List Heard
heard_by Local h = h ∷ []
heard_by (Server s) h = []
heard_by (Other address port) h = []

-- ---- of a step

abbrev pub answer_sent : ServerId → Answered → List SentDatagram
answer_sent place a = sent_to place a.peer (answer_heard a)

abbrev pub refusal_sent : ServerId → Refused → List SentDatagram
refusal_sent place r = sent_to place r.peer (refusal_heard r)

abbrev pub message_sent : ServerId → Sent → SentDatagram
message_sent place s = datagram place (Server s.to) s.message

-- WHAT IS SENT, in order: answers and refusals to who asked from elsewhere, and messages to other
-- servers
abbrev pub datagrams : ServerId → Outputs → List SentDatagram
datagrams place o = flat_map (answer_sent place) o.answers.items
    ++ flat_map (refusal_sent place) o.refusals.items ++ map (message_sent place) o.sends.items

-- each message to another server has a spelling
abbrev pub AreSpelled : Outputs → Type 0
AreSpelled o = All (λ (s : Sent). MessageFits s.message) o.sends.items

abbrev pub heard_answer : Answered → List Heard
heard_answer a = heard_by a.peer (answer_heard a)

abbrev pub heard_refusal : Refused → List Heard
heard_refusal r = heard_by r.peer (refusal_heard r)

-- WHAT THE OWN PROGRAM HEARS, in order: its answers and its refusals
abbrev pub heards : Outputs → List Heard
heards o = flat_map heard_answer o.answers.items ++ flat_map heard_refusal o.refusals.items

-- the first thing that was heard is taken, where there is one
abbrev pub IsNext : Option Heard → List Heard → List Heard → Type 0
IsNext None old new = (old ≡ []) × (new ≡ [])
IsNext (Some h) old new = old ≡ h ∷ new
