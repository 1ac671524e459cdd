-- The adapter over TCP: how many times its port couldn't be opened.
use Rattle.std.specs.Prelude.{ℕ}
use Rattle.door_seats.specs.declared.tcp.TcpConnections.{TcpConnections}

abbrev pub connection_faults : {R : Type 0} → TcpConnections R → ℕ
connection_faults connections = connections.faults
