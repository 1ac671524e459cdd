use Rattle.std.proofs.Common.{sym, ◌∙◌, ap}
use Rattle.wire.specs.Messages.{decoded}
use Rattle.door_seats.proofs.Saying.{no_word}
use Rattle.door_seats.proofs.hall.Hall.word.Goals as goal

pub returns-in-None : goal.returns-in-None
returns-in-None c =
    no_word c.args.moment c.args.datagram.now c.args.self.now c.in-Some.by c.in-Ok.message
    (sym c.server_of.ensures ∙ c.in-Some.is)
    (ap decoded (sym c.as_slice.ensures) ∙ c.in-Ok.ensures.exact)
    c.in-None.ensures
