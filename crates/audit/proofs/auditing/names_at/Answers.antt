use Rattle.std.proofs.Common.{arith}
use Rattle.audit.proofs.Said.{named_at}
use Rattle.audit.proofs.auditing.names_at.Goals as goal

pub index-requires : goal.index-requires
index-requires c =
    omega (arith, c.requires.prepared.named.first.long, c.requires.place)

pub returns : goal.returns
returns c x read =
    let made = c.args.prepared.now in
    named_at c.args.objects.now made.low.items made.high.items c.args.at x c.index.result.now
    c.index-2.result.now c.together.result c.requires.order c.requires.prepared.named c.requires.place
    read c.index.ensures c.index-2.ensures c.together.ensures.count c.together.ensures.held
