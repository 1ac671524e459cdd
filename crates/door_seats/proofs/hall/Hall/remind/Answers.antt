use Rattle.std.proofs.lemmas.Result.{IfOk-weaker}
use Rattle.door_seats.specs.Seats.{reminded}
use Rattle.door_seats.proofs.Halls.{moves_at}
use Rattle.door_seats.proofs.hall.Hall.remind.Goals as goal

pub returns : goal.returns
returns c =
    let hall = c.self.inside in
    let seats = hall.seats.items in
    IfOk-weaker c.remind.result _ _
    (λ ask moves. moves_at hall.client c.args.n seats hall.kept c.args.self.now c.self.view_is
    c.self.invariant c.requires.seat ask (λ _. reminded c.args.moment) c.index_mut.result.now
    c.remind.new.self hall.kept c.index_mut.ensures.value (moves hall.kept))
    c.remind.ensures.moves
