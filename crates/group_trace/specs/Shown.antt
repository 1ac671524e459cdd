-- How a trace shows a server that may be down, and a message.
use Rattle.std.specs.Prelude.{Bool, true, false, length, Option, Some, None, if◌then◌else◌}
use Rattle.harp_types.specs.declared.state.StateLine.{StateLine}
use Rattle.trace_types.specs.declared.line.ShownMessage.{ShownMessage}
use Rattle.trace_types.specs.declared.line.ShownMessage.TheVariants as shown
use Rattle.trace_claims.specs.Servers.{Packet as PacketShown}
use Rattle.file_tree.specs.Book.{Entry}
use Rattle.group_rules.specs.Names.{id_of, view_of}
use Rattle.group_rules.specs.Places.{leader, partner}
use Rattle.group_rules.specs.Shown.{held_shown, same_state, state_of}
use Rattle.group_rules.specs.State.{Ack, Beat, Demote, Event, Fetch, Form, Formed, Give, Invite, Join, Message, Packet, Server}

-- a server that is down shows no state
abbrev pub shown_of : Server Entry → Option StateLine
shown_of s = if s.up then Some (state_of s) else None

-- a message
abbrev pub message_shown : Message Entry → ShownMessage
message_shown (Invite v) = shown.Invite (view_of v)
message_shown (Join v t) =
    shown.Join (view_of v) (held_shown t.held) (view_of t.accepted) t.base t.lb t.cp t.top
    t.horizon
message_shown (Form v p) =
    shown.Form (view_of v) (id_of (leader p.storers)) (id_of (partner p.storers))
    (id_of p.source) p.base p.cp p.start p.horizon
message_shown (Fetch v index) = shown.Fetch (view_of v) index
message_shown (Give v index items) = shown.Give (view_of v) index (length items)
message_shown (Formed v lb) = shown.Formed (view_of v) lb
message_shown (Event v index cp base e) = shown.Event (view_of v) index cp base e.client e.number
message_shown (Beat v cp base) = shown.Beat (view_of v) cp base
message_shown (Ack v t lb until) = shown.Ack (view_of v) t lb until
message_shown (Demote v) = shown.Demote (view_of v)

-- a packet
abbrev pub packet_shown : Packet Entry → PacketShown
packet_shown p = record { from = id_of p.from; to = id_of p.to; message = message_shown p.body }

-- a server that is down is only like one that is down
abbrev pub same_shown : Option StateLine → Option StateLine → Bool
same_shown None None = true
same_shown None (Some t) = false
same_shown (Some s) None = false
same_shown (Some s) (Some t) = same_state s t
