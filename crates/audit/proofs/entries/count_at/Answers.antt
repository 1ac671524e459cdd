use Rattle.std.proofs.Common.{refl, arith}
use Rattle.audit.proofs.Said.{named_more}
use Rattle.audit.proofs.entries.count_at.Goals as goal

pub returns-then-place-len : goal.returns-then-place-len
returns-then-place-len c entries number order there named =
    absurd (omega (arith, there.0, named.long, c.if-place-len.true, c.args.names.now.ok.0))

pub returns : goal.returns
returns c entries number order there named =
    named_more c.args.objects.now entries c.args.names.now.items _ number c.args.dir c.args.place
    c.index-objects-place.result c.index.result.now c.one_more.result order named there
    c.index-objects-place.is c.index.ensures c.one_more.ensures.count c.one_more.ensures.held refl
