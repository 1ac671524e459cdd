-- The numbers of servers.
use Rattle.std.specs.Prelude.{ℕ, Bool, ◌==◌}
use Rattle.harp_types.specs.declared.server.ServerId.{ServerId}
use Rattle.harp_types.specs.declared.server.ServerId.TheVariants.{Zero, One, Two}

-- a server's number
abbrev pub number_of : ServerId → ℕ
number_of Zero = 0
number_of One = 1
number_of Two = 2

-- whether two servers are one
abbrev pub same_server : ServerId → ServerId → Bool
same_server s t = number_of s == number_of t
