-- What is kept of packets by number.
use Rattle.std.specs.Prelude.{◌≡◌, ℕ, ◌==◌, Option, Some, None, slice_get, if◌then◌else◌}
use Rattle.std.specs.BTreeMap.{get}
use Rattle.std.specs.Ordering.{nat_cmp}
use Rattle.trace_check.specs.declared.packets.Packets.{Packets}
use Rattle.trace_check.specs.declared.packets.SentAck.{SentAck}

abbrev pub or_ack : Option (Option SentAck) → Option (Option SentAck) → Option (Option SentAck)
or_ack None other = other
or_ack (Some p) other = Some p

-- what is kept of the packet of a number
unfoldable pub packet_at : Packets → ℕ → Option (Option SentAck)
packet_at packets number =
    or_ack (slice_get packets.in_order.items number) (get nat_cmp packets.others number)

-- a number that had no packet has this one, and nothing else changes
abbrev pub IsNumbered : ℕ → Option SentAck → Packets → Packets → Type 0
IsNumbered number ack old new = (n : ℕ)
    → packet_at new n ≡ or_ack (packet_at old n) (if number == n then Some ack else None)
