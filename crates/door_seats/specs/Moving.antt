-- What a seat asks, as a datagram.
use Rattle.std.specs.Prelude.{◌≡◌, ◌<◌, ◌≤◌, ◌^◌, Option, option_map}
use Rattle.client_calls.specs.Servers.{peer_of}
use Rattle.group_client.specs.Rule.{ask_message}
use Rattle.node_link.specs.Traffic.{last_port}
use Rattle.wire.specs.Messages.{message_bytes}
use Rattle.door_seats.specs.Kept.{Kept}
use Rattle.door_seats.specs.Seats.{Moved, Sent}
use Rattle.door_seats.specs.declared.rule.Moment.{Moment}
use Rattle.door_seats.specs.declared.seat.Ask.{Ask}
use Rattle.door_seats.specs.declared.seat.Seat.{Seat}

abbrev pub ask_of : Sent → Ask
ask_of x =
    record { to = peer_of x.asked.port x.to; bytes = message_bytes (ask_message x.asked) }

-- at such a moment records are answered: it is one that a clock tells, and all servers have ports
abbrev pub IsUsable : Moment → Type 0
IsUsable m = (m.now < 2 ^ 62) × (m.rule.port ≤ last_port)

-- this is asked, and the seat and what is kept are these
pub record HasMoved (what : Option Ask) (s : Seat) (k : Kept) (m : Moved) : Type 0 where
  pub ask : what ≡ option_map ask_of m.sent
  pub seat : s ≡ m.seat
  pub kept : k ≡ m.kept
