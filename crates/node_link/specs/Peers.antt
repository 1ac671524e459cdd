-- Peers as addresses: the places of a group have three ports in a row, at 127.0.0.1.
use Rattle.std.specs.Prelude.{◌≡◌, ℕ, ◌+◌, Option, None, Some}
use Rattle.harp_types.specs.Server.{number_of}
use Rattle.harp_types.specs.declared.server.ServerId.{ServerId}
use Rattle.harp_types.specs.declared.peer.Peer.{Peer}
use Rattle.harp_types.specs.declared.peer.Peer.TheVariants.{Local, Server, Other}

-- 127.0.0.1 as a number
abbrev pub localhost : ℕ
localhost = 2130706433

-- the address and the port of a place, where place 0 has this port
abbrev pub place_address : ℕ → ServerId → ℕ × ℕ
place_address base s = (localhost, base + number_of s)

-- those of a peer: the own program has none
abbrev pub address_of : ℕ → Peer → Option (ℕ × ℕ)
address_of base Local = None
address_of base (Server s) = Some (place_address base s)
address_of base (Other address port) = Some (address, port)

-- no other peer has the address of a place
abbrev pub IsOutside : ℕ → ℕ × ℕ → Type 0
IsOutside base at = (s : ServerId) → at ≡ place_address base s → ⊥

-- a peer is a place where it has a place's address, and what comes in is from another program
abbrev pub IsPeerAt : ℕ → ℕ × ℕ → Peer → Type 0
IsPeerAt base at Local = ⊥
IsPeerAt base at (Server s) = at ≡ place_address base s
IsPeerAt base at (Other address port) = (at ≡ (address, port)) × IsOutside base at
