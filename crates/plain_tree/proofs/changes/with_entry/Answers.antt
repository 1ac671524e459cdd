use Rattle.file_tree.proofs.SlotLaws.{names_entered}
use Rattle.plain_tree.proofs.changes.with_entry.Goals as goal

pub returns-in-Ok-clause-names : goal.returns-in-Ok-clause-names
returns-in-Ok-clause-names c =
    λ k. rw c.in-Ok.ensures.value (names_entered c.args.slots.now c.args.slot k)
