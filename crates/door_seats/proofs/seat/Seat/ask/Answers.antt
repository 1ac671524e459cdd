use Rattle.std.proofs.Common.{refl}
use Rattle.door_seats.proofs.seat.Seat.ask.Goals as goal

pub returns : goal.returns
returns c = rw (c.peer_of.ensures, c.in_ok-ask_bytes.ensures) refl
