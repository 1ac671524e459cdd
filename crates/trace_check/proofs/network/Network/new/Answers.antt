use Rattle.trace_check.proofs.NetworkLemmas.{no_packets}
use Rattle.trace_check.proofs.network.Network.new.Goals as goal

pub returns : goal.returns
returns c =
    no_packets (record { sent = c.new.result; tops = c.new-2.result; moments = c.new-3.result })
    c.new.ensures c.new-2.ensures c.new-3.ensures
