use Rattle.std.proofs.Common.{sym}
use Rattle.audit.specs.Flaws.{entry_in}
use Rattle.audit.proofs.Said.{named_by_none, named_by_one}
use Rattle.audit.proofs.entries.count_entry.Goals as goal

pub returns-in-Some : goal.returns-in-Some
returns-in-Some c entries named =
    named_by_one c.args.objects.now entries c.count_name.new.names.items c.args.dir
    c.in-Some.number (entry_in c.args.slot.now) c.in-Some.ensures
    (c.count_name.ensures entries named)

pub returns-in-None : goal.returns-in-None
returns-in-None c entries named =
    named_by_none c.args.objects.now entries c.args.names.now.items c.args.dir
    (entry_in c.args.slot.now) c.in-None.ensures named
