-- An Invite of the witness, which is given late.
use Rattle.std.specs.Prelude.{ℕ, ◌+◌, ◌-◌, ◌^◌, min, Bool, true, false, nat_le, ◌==◌, List, [], ◌∷◌, Option, None, Some, if◌then◌else◌}
use Rattle.harp_types.specs.declared.peer.Peer.{Peer}
use Rattle.harp_types.specs.declared.peer.Peer.TheVariants.{Local, Server, Other}
use Rattle.node_link.specs.declared.late.Late.{Late}
use Rattle.node_link.specs.declared.link.Datagram.{Datagram}

-- its first byte is that of an Invite
abbrev pub begins_invite : List ℕ → Bool
begins_invite [] = false
begins_invite (b ∷ bs) = b == 1

-- a server's Invite
abbrev pub is_invite : Peer → List ℕ → Bool
is_invite Local bytes = false
is_invite (Server s) bytes = begins_invite bytes
is_invite (Other address port) bytes = false

-- what is given at a reading: what is kept back, once its time has come
abbrev pub given_at : ℕ → Late → Option Datagram
given_at now l = if nat_le l.from now then l.kept else None

abbrev pub left_at : ℕ → Late → Late
left_at now l = record { from = l.from; kept = if nat_le l.from now then None else l.kept }

abbrev pub from_by : (now from : ℕ) → Option Datagram → ℕ
from_by now from None = min (now + 100) (2 ^ 64 - 1)
from_by now from (Some d) = from

-- from when on an Invite is given that came at a reading: a tenth of a second later, or when the one
-- before it would have been
abbrev pub from_when : ℕ → Late → ℕ
from_when now l = from_by now l.from l.kept
