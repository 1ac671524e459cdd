-- so many empty seats are there
use Rattle.std.proofs.Common.{◌≡◌}
use Rattle.door_seats.specs.Events.{empty_seats}
use Rattle.door_seats.proofs.hall.Hall.new.Given as goal

abbrev pub invariant-loop-n : goal.invariant-loop-n
invariant-loop-n l = l.seats.items ≡ empty_seats l.n l.client l.first
