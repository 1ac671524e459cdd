-- What was sent: packets by their numbers, from 0.
use Rattle.std.specs.Prelude.{ℕ, zero, suc, Bool, true, false, List, [], ◌∷◌, length, Option, None}
use Rattle.std.specs.Prelude.{Some}
use Rattle.std.specs.List.{sum_by}
use Rattle.harp_types.specs.declared.server.ServerId.{ServerId}
use Rattle.wire.specs.declared.message.Message.{Message}
use Rattle.wire.specs.Messages.{message_bytes}
use Rattle.world_lines.specs.declared.packet.Packet.{Packet}

-- a packet that was sent, and whether it was ever delivered
pub record Posted : Type 0 where
  pub packet : Packet
  pub delivered : Bool

-- a packet that is sent now
abbrev pub posted : ServerId → ServerId → Message → Posted
posted from to message = record {
  packet = record { from = from; to = to; message = message };
  delivered = false;
}

abbrev pub arrived : Posted → Posted
arrived p = record p { delivered = true }

-- packet n counts as delivered; where there is none, nothing changes
unfoldable pub delivered_at : List Posted → ℕ → List Posted
delivered_at [] n = []
delivered_at (p ∷ ps) zero = arrived p ∷ ps
delivered_at (p ∷ ps) (suc n) = p ∷ delivered_at ps n

-- whether a packet was delivered; where there is none, none was
abbrev pub was_delivered : Option Posted → Bool
was_delivered None = false
was_delivered (Some p) = p.delivered

abbrev pub bytes_of : Posted → ℕ
bytes_of p = length (message_bytes p.packet.message)

-- how many bytes the messages have together
abbrev pub bytes_sent : List Posted → ℕ
bytes_sent ps = sum_by bytes_of ps
