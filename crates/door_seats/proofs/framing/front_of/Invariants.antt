-- so many fragments were taken, and others follow
use Rattle.door_seats.proofs.FrontLaws.{IsWithin}
use Rattle.door_seats.proofs.framing.front_of.Given as goal

abbrev pub invariant-loop : goal.invariant-loop
invariant-loop l = IsWithin l.bytes l.request.items l.taken l.counter
