use Rattle.std.proofs.Common.{◌∙◌}
use Rattle.harp_cli.proofs.AuditLaws.{tree_ends}
use Rattle.harp_cli.proofs.auditing.audit_folder.Goals as goal

pub returns-in-Ok-clause-tree : goal.returns-in-Ok-clause-tree
returns-in-Ok-clause-tree g c = λ list log h told left.
    tree_ends c.verdict_laws.ensures list log c.in-Ok.verdict _ _ c.tell.result
    (c.in-Ok.ensures.tree list log h (c.attach.ensures.kept ∙ told) left) c.tell.ensures.ends
