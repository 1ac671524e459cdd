use Rattle.std.proofs.Common.{◌∙◌, sym, subst}
use Rattle.harp_store.specs.Disk.{ReadsMark}
use Rattle.audit_verdict.proofs.Verdicts.{each_ok, of_bare}
use Rattle.audit_verdict.proofs.store.audit_store.Goals as goal

pub returns-in-None-clause-verdict : goal.returns-in-None-clause-verdict
returns-in-None-clause-verdict g c = λ h told.
    let found = c.in_ok-read_mark.field-0 in
    let mark = subst (λ m. ReadsMark m found) told c.in_ok-read_mark.ensures.value in
    each_ok _ _ c.audit_bare.result (λ v is. of_bare h.now v (sym mark ∙ c.in-None.is) is)
    (c.audit_bare.ensures.verdict h (c.in_ok-read_mark.ensures.kept ∙ told))

pub returns-in-Some-clause-tree : goal.returns-in-Some-clause-tree
returns-in-Some-clause-tree g c = λ list log h told left.
    let found = c.in_ok-read_mark.field-0 in
    let mark = subst (λ m. ReadsMark m found) told c.in_ok-read_mark.ensures.value in
    c.audit_marked.ensures.tree list log h (c.in_ok-read_mark.ensures.kept ∙ told)
    (sym mark ∙ c.in-Some.is) left
