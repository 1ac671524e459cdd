use Rattle.door_seats.proofs.seat.Seat.news.Goals as goal

pub returns : goal.returns
returns c = c.said.ensures.said
