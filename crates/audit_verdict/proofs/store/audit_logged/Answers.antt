use Rattle.std.proofs.Common.{rules, ap}
use Rattle.harp_store.specs.Disk.{cells_told, reads}
use Rattle.audit_verdict.proofs.store.audit_logged.Goals as goal

pub returns-in-Ok-clause-verdict : goal.returns-in-Ok-clause-verdict
returns-in-Ok-clause-verdict g c = λ h told.
    let cells = ap cells_told told in
    c.in-Ok.ensures.verdict (reads h.now) (search (rules, cells))
