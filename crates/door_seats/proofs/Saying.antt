-- What a datagram says to the seats of a hall.
use Rattle.std.proofs.Common.{◌≡◌, Option, Some, None, Ok, inl, refl, slice_index_or, slice_set, List, subst, sym, ℕ}
use Rattle.harp_types.specs.declared.server.ServerId.{ServerId}
use Rattle.node_link.specs.declared.link.Datagram.{Datagram}
use Rattle.client_calls.specs.Servers.{server_of}
use Rattle.wire.specs.Messages.{decoded}
use Rattle.wire.specs.declared.message.Message.{Message}
use Rattle.door_seats.specs.Doors.{Heard}
use Rattle.door_seats.specs.Events.{AreOf, Seating}
use Rattle.door_seats.specs.Kept.{Kept}
use Rattle.door_seats.specs.Moving.{HasMoved}
use Rattle.door_seats.specs.Seats.{call_of, hears, hears_datagram, hears_of, hears_of_datagram}
use Rattle.door_seats.specs.Words.{IsSeatFor, IsWord}
use Rattle.door_seats.specs.declared.hall.Word.{Word}
use Rattle.door_seats.specs.declared.rule.Moment.{Moment}
use Rattle.door_seats.specs.declared.seat.Ask.{Ask}
use Rattle.door_seats.specs.declared.seat.Seat.{Seat}
use Rattle.door_seats.specs.declared.seat.Visit.{Visit}
use Rattle.door_seats.proofs.Halls.{moves_at, seating}

-- ---- what says nothing

-- a datagram whose message says nothing
pub no_word : (m : Moment) (d : Datagram) (g : Seating) (by : ServerId) (x : Message)
    → server_of m.rule.port d.from ≡ Some by → decoded d.bytes ≡ Ok x → IsSeatFor x g None
    → IsWord m d g None
no_word m d g by x is spelled none n s here v asks =
    rw (is, spelled) (none n s here by (call_of m s v.errand v.number) refl)

-- ---- what is heard

-- a seat does by a datagram what it does by its message
same_of : (m : Moment) (d : Datagram) (by : ServerId) (x : Message) (s : Seat) (kept : Kept)
    (o : Option Visit) → server_of m.rule.port d.from ≡ Some by → decoded d.bytes ≡ Ok x
    → hears_of_datagram m d s kept o ≡ hears_of m by x s kept o
same_of m d by x s kept None is spelled = refl
same_of m d by x s kept (Some v) is spelled = rw (is, spelled) refl

pub heard_at : (client : ℕ) (w : Word) (xs : List Seat) (kept : Kept) (g : Seating)
    → seating xs kept ≡ g → AreOf client xs → (m : Moment) (d : Datagram)
    → IsWord m d g (Some w) → (ask : Option Ask) (s z : Seat) (k : Kept)
    → s ≡ slice_index_or xs w.n s → HasMoved ask z k (hears m w.by w.message s kept)
    → Heard m d ask g (seating (slice_set xs w.n z) k)
heard_at client w xs kept g looks are m d word ask s z k is has =
    let does = moves_at client w.n xs kept g looks are word.0 ask (λ _. hears_datagram m d) s z k
    is (subst (HasMoved ask z k) (sym (same_of m d w.by w.message s kept s.visit word.1 word.2))
    has) in
    inl (w.n, does.0, does.1, does.2)
