use Rattle.audit.proofs.Said.{named_nothing}
use Rattle.audit.proofs.entries.count_name.Goals as goal

pub count_at-requires : goal.count_at-requires
count_at-requires c = c.in-Some.ensures.0

pub returns-in-Some : goal.returns-in-Some
returns-in-Some c entries named =
    c.count_at.ensures entries c.args.number c.requires c.in-Some.ensures named

pub returns-in-None : goal.returns-in-None
returns-in-None c entries named =
    named_nothing c.args.objects.now entries c.args.names.now.items c.args.number c.args.dir
    c.requires named c.in-None.ensures
