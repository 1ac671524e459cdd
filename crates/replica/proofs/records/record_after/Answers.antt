use Rattle.replica.proofs.Lists.{record_next, record_there}
use Rattle.replica.proofs.records.record_after.Goals as goal

pub returns-clause-next : goal.returns-clause-next
returns-clause-next c = record_next c.args.log.now c.args.n c.in-Some.item.now c.requires.from
    c.in-Some.ensures.value

pub returns-clause-there : goal.returns-clause-there
returns-clause-there c = record_there c.args.log.now c.args.n c.in-Some.item.now c.requires.from
    c.in-Some.ensures.value
