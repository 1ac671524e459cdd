use Rattle.std.proofs.Common.{rules, ◌≡◌, ℕ, subst}
use Rattle.std.specs.Prelude.{IfOk}
use Rattle.dedup.specs.Repeats.{seen_after}
use Rattle.file_tree.specs.Book.{last_of}
use Rattle.tree_log.proofs.reading.seen_over.Goals as goal

pub returns-clause-seen : goal.returns-clause-seen
returns-clause-seen g c held list told stand =
    subst (λ (n : ℕ). IfOk c.seen.result (λ s. s
    ≡ seen_after (last_of c.args.client list) c.args.number n)) c.cp.ensures.value
    (c.seen.ensures.last held list (search (rules, told)) (stand.client c.args.client))
