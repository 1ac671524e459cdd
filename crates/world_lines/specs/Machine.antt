-- Packets as those of the group's machine.
use Rattle.std.specs.Prelude.{◌≡◌, ℕ, ◌==◌, List, map, reverse, slice_get, Option, Some}
use Rattle.std.specs.List.{list_any}
use Rattle.std.specs.Option.{option_and_then, option_map}
use Rattle.harp_types.specs.declared.server.ServerId.{ServerId}
use Rattle.file_tree.specs.Book.{Entry}
use Rattle.group_rules.specs.Names.{place_of}
use Rattle.group_rules.specs.State.{Message as Heard, Packet as Sent}
use Rattle.node_outputs.specs.Messages.{heard}
use Rattle.world_lines.specs.Posted.{Posted, was_delivered}
use Rattle.world_lines.specs.declared.packet.Packet.{Packet}

abbrev pub sent : ServerId → ServerId → Heard Entry → Sent Entry
sent from to body = record { from = place_of from; to = place_of to; body = body }

-- a packet as the machine has it; one with a message of a client is none
abbrev pub sent_as : Packet → Option (Sent Entry)
sent_as p = option_map (sent p.from p.to) (heard p.message)

-- what was opened, as the machine has it
abbrev pub opened_as : Option Packet → Option (Sent Entry)
opened_as o = option_and_then sent_as o

-- these are the packets of the machine, which has the newest first, and these were delivered
pub record StandFor (ps : List Posted) (packets : List (Sent Entry)) (numbers : List ℕ)
    : Type 0 where
  pub packets_are : map (λ (p : Posted). sent_as p.packet) ps ≡ map Some (reverse packets)
  pub delivered : (n : ℕ) → list_any (λ m. m == n) numbers ≡ was_delivered (slice_get ps n)
