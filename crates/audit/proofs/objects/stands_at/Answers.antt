use Rattle.std.proofs.Common.{get_or, ap, ◌∙◌, arith}
use Rattle.std.proofs.lemmas.Bool.{eqb-true}
use Rattle.audit.specs.declared.picture.Portrait.{Portrait}
use Rattle.audit.proofs.Searches.{place_read}
use Rattle.audit.proofs.objects.stands_at.Goals as goal

pub returns : goal.returns
returns c is =
    let objects = c.args.objects.now in
    let x = c.index-objects-place.result in
    place_read 1 c.requires.0 objects c.args.number c.args.place x c.requires.1
    (omega (arith, c.if-place-objects.false)) c.index-objects-place.is
    (ap (λ (y : Portrait). y.number) c.index-objects-place.is
    ∙ eqb-true (get_or objects c.args.place x).number c.args.number is)
