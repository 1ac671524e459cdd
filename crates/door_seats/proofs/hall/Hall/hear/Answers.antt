use Rattle.std.proofs.lemmas.Result.{IfOk-weaker}
use Rattle.std.proofs.Common.{subst}
use Rattle.door_seats.specs.Words.{IsWord}
use Rattle.door_seats.proofs.Halls.{are_still}
use Rattle.door_seats.proofs.Saying.{heard_at}
use Rattle.door_seats.proofs.hall.Hall.hear.Goals as goal

pub invariant_of-self : goal.invariant_of-self
invariant_of-self c =
    let hall = c.self.inside in
    let word = subst (IsWord c.args.moment c.args.datagram.now c.args.self.now) c.in-Some.is
    c.in_ok-n.ensures in
    are_still hall.client c.in-Some.field-0.n hall.seats.items hall.kept c.args.self.now
    c.self.view_is c.self.invariant word.0 c.index_mut.result.now c.hear.new.self
    c.index_mut.ensures.value c.hear.ensures.client

pub returns-in-Some : goal.returns-in-Some
returns-in-Some c =
    let hall = c.self.inside in
    let word = subst (IsWord c.args.moment c.args.datagram.now c.args.self.now) c.in-Some.is
    c.in_ok-n.ensures in
    IfOk-weaker c.hear.result _ _
    (λ ask moves. heard_at hall.client c.in-Some.field-0 hall.seats.items hall.kept
    c.args.self.now c.self.view_is c.self.invariant c.args.moment c.args.datagram.now word ask
    c.index_mut.result.now c.hear.new.self c.hear.new.kept c.index_mut.ensures.value moves)
    c.hear.ensures.moves
