use Rattle.trace_check.proofs.PacketLemmas.{no_packet_at}
use Rattle.trace_check.proofs.packets.Packets.new.Goals as goal

pub returns : goal.returns
returns c =
    no_packet_at (record { in_order = c.new.result; others = c.new-2.result }) c.new.ensures.items
    c.new-2.ensures.empty
