use Rattle.overlay.proofs.Places.{last_in, none_there}
use Rattle.overlay.proofs.index.last_at.Goals as goal

pub returns-in_err-get : goal.returns-in_err-get
returns-in_err-get c =
    rw c.from_residual.ensures (none_there c.args.places.now.entries c.args.place c.args.upto c.in_err-get.ensures.value)

pub returns : goal.returns
returns c =
    last_in c.args.places.now.entries c.args.place c.args.upto c.in_ok-get.field-0.now c.last_upto.result
    c.in_ok-get.ensures.value c.last_upto.ensures
