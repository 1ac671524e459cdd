use Rattle.std.proofs.Common.{ℕ, rules, ap, subst}
use Rattle.std.specs.Prelude.{IfOk}
use Rattle.overlay.specs.Overlay.{told_over}
use Rattle.audit_verdict.specs.Audited.{changes_of, committed_over}
use Rattle.audit_verdict.specs.Verdicts.{IsVerdictOn}
use Rattle.audit_verdict.proofs.store.judge_over.Goals as goal

pub returns-clause-verdict : goal.returns-clause-verdict
returns-clause-verdict g c = λ held told.
    let log = c.args.log.now in
    let over = ap (told_over log.base (changes_of log) log.cp) told in
    subst (λ (n : ℕ). IfOk c.judge.result (IsVerdictOn n (committed_over log held)))
    c.cp-2.ensures.value
    (c.judge.ensures.verdict (committed_over log held) (search (rules, over)))
