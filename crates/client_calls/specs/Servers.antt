-- The servers that a client asks, as peers.
use Rattle.std.specs.Prelude.{ℕ, ◌+◌, ◌==◌, Option, Some, None, if◌then◌else◌}
use Rattle.harp_types.specs.Server.{number_of}
use Rattle.harp_types.specs.declared.peer.Peer.{Peer}
use Rattle.harp_types.specs.declared.peer.Peer.TheVariants.{Local, Server, Other}
use Rattle.harp_types.specs.declared.server.ServerId.{ServerId}
use Rattle.harp_types.specs.declared.server.ServerId.TheVariants.{Zero, One, Two}
use Rattle.node_link.specs.Peers.{localhost}

-- a server as a peer, where server 0 has this port
abbrev pub peer_of : ℕ → ServerId → Peer
peer_of port s = Other localhost (port + number_of s)

-- the server that has an address and a port
abbrev pub server_at : ℕ → ℕ → ℕ → Option ServerId
server_at port address from =
    if address == localhost
    then (if from == port then Some Zero
    else if from == port + 1 then Some One
    else if from == port + 2 then Some Two else None) else None

-- the server that a peer is
abbrev pub server_of : ℕ → Peer → Option ServerId
server_of port Local = None
server_of port (Server s) = None
server_of port (Other address from) = server_at port address from
