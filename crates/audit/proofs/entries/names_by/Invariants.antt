use Rattle.std.proofs.Common.{take}
use Rattle.audit.specs.Entries.{AreNamed, entries_in}
use Rattle.audit.proofs.entries.names_by.Given as goal

abbrev pub invariant-loop-object : goal.invariant-loop-object
invariant-loop-object l =
    AreNamed l.objects (entries_in (take l.object-index l.some)) l.names.items
