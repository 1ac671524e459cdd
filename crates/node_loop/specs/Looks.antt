-- What a server sees of itself as it takes a turn, and which messages tell of its view.
use Rattle.std.specs.Prelude.{Bool, true, false, ◌-◌, ◌&&◌, ◌||◌, ◌==◌, [], Option, Some, None}
use Rattle.group_rules.specs.Shown.{state_of}
use Rattle.harp_types.specs.Server.{same_server}
use Rattle.harp_types.specs.View.{View}
use Rattle.harp_types.specs.declared.state.Mode.{Mode}
use Rattle.harp_types.specs.declared.state.Mode.TheVariants as mode
use Rattle.harp_types.specs.declared.state.Role.{Role}
use Rattle.harp_types.specs.declared.state.StateLine.{StateLine}
use Rattle.node.specs.Node.{NodeValue, server}
use Rattle.wire.specs.declared.message.Message.{Message}
use Rattle.wire.specs.declared.message.Message.TheVariants as message
use Rattle.node_loop.specs.declared.look.Look.{Look}

-- whether a server at this stands in an open view
abbrev pub is_settled : Mode → Bool
is_settled mode.Rests = false
is_settled mode.Calls = false
is_settled mode.Joined = false
is_settled mode.Pulls = false
is_settled mode.Waits = false
is_settled mode.Open = true
is_settled mode.Live = true

-- of a server that shows this; a leader has committed what its partner acknowledged
abbrev pub seen : Role → StateLine → Look
seen role line = record {
  role = role;
  accepted = line.accepted;
  promised = line.promised;
  is_open = is_settled line.mode;
  records = line.top - line.base;
  unacknowledged = line.top - line.cp;
}

-- WHAT A SERVER SEES of itself: the role that its mark has, and what it shows
abbrev pub look_of : NodeValue → Look
look_of n = seen n.mark.role (state_of (server n []))

-- the view that a server's message tells of
abbrev pub view_told : Message → Option View
view_told (message.Invite view) = Some view
view_told (message.Join view has accepted base lb cp top horizon) = Some view
view_told (message.Form view storers source base cp start horizon) = Some view
view_told (message.Fetch view first) = Some view
view_told (message.Give view first records) = Some view
view_told (message.Formed view lb) = Some view
view_told (message.Event view cp base event) = Some view
view_told (message.Beat view cp base) = Some view
view_told (message.Ack view top lb until) = Some view
view_told (message.Demote view) = Some view
view_told (message.Ask client number cred call) = None
view_told (message.Answer client number index reply) = None
view_told (message.CannotServe client number cause) = None

-- whether two views are one
abbrev pub same_view : View → View → Bool
same_view v w = (v.count == w.count) && same_server v.coordinator w.coordinator

-- whether it is the accepted one or the promised one
abbrev pub is_in_view : Look → View → Bool
is_in_view look view = same_view view look.accepted || same_view view look.promised

abbrev pub is_told_in : Look → Option View → Bool
is_told_in look None = false
is_told_in look (Some view) = is_in_view look view
