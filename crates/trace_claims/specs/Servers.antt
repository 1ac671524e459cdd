-- What a trace says of its servers, and of the packets between them.
use Rattle.std.specs.Prelude.{◌≡◌, ℕ, ◌+◌, ◌≤◌, ◌<◌, Bool, true, false, ◌&&◌, ◌==◌, [], ◌∷◌, ◌++◌, Option, Some, None, fold, if◌then◌else◌}
use Rattle.harp_types.specs.Server.{same_server}
use Rattle.harp_types.specs.View.{View}
use Rattle.harp_types.specs.declared.server.ServerId.{ServerId}
use Rattle.harp_types.specs.declared.server.ServerId.TheVariants as server
use Rattle.harp_types.specs.declared.state.StateLine.{StateLine}
use Rattle.harp_types.specs.declared.state.Mode.{Mode}
use Rattle.harp_types.specs.declared.state.Mode.TheVariants as mode
use Rattle.harp_types.specs.declared.state.Role.{Role}
use Rattle.harp_types.specs.declared.state.Role.TheVariants as role
use Rattle.harp_types.specs.declared.state.Held.{Held}
use Rattle.harp_types.specs.declared.state.Held.TheVariants as held
use Rattle.trace_types.specs.declared.step.Step.TheVariants as step
use Rattle.trace_types.specs.declared.line.ShownMessage.{ShownMessage}
use Rattle.trace_types.specs.declared.line.ShownMessage.TheVariants as shown
use Rattle.trace_types.specs.declared.line.Line.{Line}
use Rattle.trace_types.specs.declared.line.Line.TheVariants as line
use Rattle.trace_claims.specs.Trace.{Trace}

-- ---- states

-- view 0.0
abbrev pub first_view : View
first_view = record { count = 0; coordinator = server.Zero }

-- a state at rest before any view was formed
abbrev pub state_at_rest : Role → Held → StateLine
state_at_rest role held = record {
  mode = mode.Rests;
  promised = first_view;
  accepted = first_view;
  role = role;
  held = held;
  base = 0;
  lb = 0;
  ap = 0;
  cp = 0;
  top = 0;
}

-- the states before the first line, which aren't written
abbrev pub first_state : ServerId → StateLine
first_state server.Zero = state_at_rest (role.Leads server.One) held.Held
first_state server.One = state_at_rest (role.Follows server.Zero) held.Held
first_state server.Two = state_at_rest role.Outside held.Empty

-- a server that is down has no state
abbrev pub later_state : ServerId → Option StateLine → Line → Option StateLine
later_state s before (line.State server state) = if same_server server s then Some state else
    before
later_state s before (line.Down server) = if same_server server s then None else before
later_state s before l = before

-- a server's last state after these lines, none where it is down
abbrev pub last_state : Trace → ServerId → Option StateLine
last_state trace s = fold (later_state s) (Some (first_state s)) trace

-- a state line of this server stands here, of this accepted view and with a top of at least n
pub record HasShown (trace : Trace) (s : ServerId) (view : View) (n : ℕ) : Type 0 where
  pub earlier : Trace
  pub later : Trace
  pub state : StateLine
  pub stands : trace ≡ earlier ++ line.State s state ∷ later
  pub accepted : state.accepted ≡ view
  pub reaches : n ≤ state.top

-- whether a mode is open
abbrev pub is_open : Mode → Bool
is_open mode.Open = true
is_open m = false

-- whether two views are the same
abbrev pub same_view : View → View → Bool
same_view v w = (v.count == w.count) && same_server v.coordinator w.coordinator

-- whether a state is open in this view
abbrev pub opens : View → StateLine → Bool
opens view state = is_open state.mode && same_view state.accepted view

-- a server's first state line that is open in this view
abbrev pub first_open : Trace → ServerId → View → Option StateLine
first_open [] s view = None
first_open (line.State server state ∷ lines) s view =
    if same_server server s && opens view state then Some state else first_open lines s view
first_open (l ∷ lines) s view = first_open lines s view

-- ---- clocks

-- a server's clock after a line: a clock line sets it, an advance adds to all
abbrev pub clock_next : ServerId → ℕ → Line → ℕ
clock_next s before (line.Event (step.Clock server reading)) = if same_server server s then
    reading else before
clock_next s before (line.Event (step.Advance millis)) = before + millis
clock_next s before l = before

-- a server's clock after these lines
abbrev pub clock_after : Trace → ServerId → ℕ
clock_after trace s = fold (clock_next s) 0 trace

-- ---- packets

-- a packet, as a send line shows it
pub record Packet : Type 0 where
  pub from : ServerId
  pub to : ServerId
  pub message : ShownMessage

-- the packet of this number: that of the first send line with it
abbrev pub packet_in : Trace → ℕ → Option Packet
packet_in [] n = None
packet_in (line.Sent packet from to message ∷ lines) n =
    if packet == n then Some (record { from = from; to = to; message = message }) else
    packet_in lines n
packet_in (l ∷ lines) n = packet_in lines n

-- an Ack from one server to another
abbrev pub ack_packet : (from to : ServerId) → View → (top lb until : ℕ) → Packet
ack_packet from to view top lb until = record {
  from = from;
  to = to;
  message = shown.Ack view top lb until;
}

-- an Ack of this view with a top of at least n was delivered
pub record AckDelivered (trace : Trace) (from to : ServerId) (view : View) (n : ℕ) : Type 0 where
  pub earlier : Trace
  pub later : Trace
  pub packet : ℕ
  pub top : ℕ
  pub lb : ℕ
  pub until : ℕ
  pub stands : trace ≡ earlier ++ line.Event (step.Deliver packet) ∷ later
  pub packet_is : packet_in earlier packet ≡ Some (ack_packet from to view top lb until)
  pub reaches : n ≤ top

-- an Ack of this view that promises beyond a moment was delivered
pub record PromiseDelivered (trace : Trace) (from to : ServerId) (view : View)
    (moment : ℕ) : Type 0 where
  pub earlier : Trace
  pub later : Trace
  pub packet : ℕ
  pub top : ℕ
  pub lb : ℕ
  pub until : ℕ
  pub stands : trace ≡ earlier ++ line.Event (step.Deliver packet) ∷ later
  pub packet_is : packet_in earlier packet ≡ Some (ack_packet from to view top lb until)
  pub beyond : moment < until
