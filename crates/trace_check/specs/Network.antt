-- What is kept of packets.
use Rattle.std.specs.Prelude.{◌≡◌, ◌↔◌, ℕ, ◌+◌, Option, Some, None}
use Rattle.std.specs.Option.{option_map}
use Rattle.harp_types.specs.View.{View}
use Rattle.harp_types.specs.declared.server.ServerId.{ServerId}
use Rattle.trace_types.specs.declared.line.ShownMessage.{ShownMessage}
use Rattle.trace_types.specs.declared.line.ShownMessage.TheVariants as shown
use Rattle.trace_claims.specs.Trace.{Trace}
use Rattle.trace_claims.specs.Servers.{AckDelivered, Packet, PromiseDelivered, packet_in}
use Rattle.trace_check.specs.Keys.{way_key}
use Rattle.trace_check.specs.Marks.{IsRaised, Reaches}
use Rattle.trace_check.specs.Packets.{packet_at, IsNumbered}
use Rattle.trace_check.specs.declared.network.Network.{Network}
use Rattle.trace_check.specs.declared.packets.SentAck.{SentAck}

-- what a message acknowledges, if anything
abbrev pub told_ack : ServerId → ServerId → ShownMessage → Option SentAck
told_ack from to (shown.Ack view top lb until) =
    Some (record { key = way_key from to view; top = top; until = until })
told_ack from to message = None

abbrev pub ack_of : Packet → Option SentAck
ack_of p = told_ack p.from p.to p.message

-- what is kept of the packet of a number
abbrev pub ack_at : Network → ℕ → Option (Option SentAck)
ack_at network number = packet_at network.sent number

-- the packets, and the greatest tops and moments of delivered acknowledgements, are those of
-- these lines
pub record IsNetworkOf (network : Network) (trace : Trace) : Type 0 where
  pub sent : (number : ℕ) → ack_at network number ≡ option_map ack_of (packet_in trace number)
  pub tops : (from to : ServerId) (view : View) (n : ℕ)
      → Reaches network.tops (way_key from to view) n ↔ AckDelivered trace from to view n
  pub moments : (from to : ServerId) (view : View) (moment : ℕ)
      → Reaches network.moments (way_key from to view) (moment + 1)
      ↔ PromiseDelivered trace from to view moment

-- a number that had no packet has this one
pub record IsSent (number : ℕ) (ack : Option SentAck) (old new : Network) : Type 0 where
  pub sent : IsNumbered number ack old.sent new.sent
  pub tops : new.tops ≡ old.tops
  pub moments : new.moments ≡ old.moments

-- an acknowledgement's numbers count, where there is one
abbrev pub Acknowledges : Option (Option SentAck) → Network → Network → Type 0
Acknowledges (Some (Some ack)) old new = IsRaised ack.key ack.top old.tops new.tops
    × IsRaised ack.key ack.until old.moments new.moments
Acknowledges o old new = (new.tops ≡ old.tops) × (new.moments ≡ old.moments)

-- the packet of this number is delivered
pub record AcksDelivered (number : ℕ) (old new : Network) : Type 0 where
  pub sent : (n : ℕ) → ack_at new n ≡ ack_at old n
  pub told : Acknowledges (ack_at old number) old new
