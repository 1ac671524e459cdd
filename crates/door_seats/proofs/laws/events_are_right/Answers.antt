use Rattle.door_seats.proofs.Rightness.{are_right}
use Rattle.door_seats.proofs.laws.events_are_right.Goals as goal

pub returns : goal.returns
returns c = are_right
