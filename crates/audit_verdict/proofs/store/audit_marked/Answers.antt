use Rattle.std.proofs.Common.{◌≡◌, ◌∙◌, Err, rules, ap, sym, inr}
use Rattle.audit.proofs.Rescued.{nothing_found_in_a_tree, standing_named}
use Rattle.harp_store.specs.Disk.{cells_told, reads}
use Rattle.harp_types.specs.declared.state.Role.TheVariants as role
use Rattle.audit_verdict.proofs.Verdicts.{each_ok, inner, left_tells, of_marked, of_unsaved}
use Rattle.audit_verdict.proofs.store.audit_marked.Goals as goal

pub returns-in-Ok-clause-verdict : goal.returns-in-Ok-clause-verdict
returns-in-Ok-clause-verdict g c = λ h told marked.
    let apart : c.args.mark.now.role ≡ role.Outside → ⊥ = search rules in
    each_ok _ _ c.audit_logged.result
    (λ v is. of_marked h.now v c.args.mark.now c.in-Ok.log marked apart (record {
      numbers = c.in-Ok.ensures.log.1;
      order = c.in-Ok.ensures.log.0;
      records = (c.in-Ok.ensures.records (reads h.now) (ap cells_told told)).records;
    }) is)
    (c.audit_logged.ensures.verdict h (c.in-Ok.ensures.kept ∙ told))

pub returns-in-Ok-clause-tree : goal.returns-in-Ok-clause-tree
returns-in-Ok-clause-tree g c = λ list log h told marked left.
    let mark = inner _ _ (sym marked ∙ left.marked) in
    let loaded = (c.in-Ok.ensures.records (reads h.now) (ap cells_told told)).again left.ring log
    left.before left.order left.held mark in
    each_ok _ _ c.audit_logged.result
    (λ v is. left_tells list log h left v c.in-Ok.log loaded nothing_found_in_a_tree
    standing_named is)
    (c.audit_logged.ensures.verdict h (c.in-Ok.ensures.kept ∙ told))

pub returns-in-Err-NotSaved-clause-verdict : goal.returns-in-Err-NotSaved-clause-verdict
returns-in-Err-NotSaved-clause-verdict g c = λ h told marked.
    let failed = c.in-Err-NotSaved.is ∙ ap Err c.in-Err-NotSaved.field-0-is in
    of_unsaved h.now c.args.mark.now marked
    (inr ((c.load.ensures.records (reads h.now) (ap cells_told told)).unsaved failed))

pub returns-in-Err-NotSaved-clause-tree : goal.returns-in-Err-NotSaved-clause-tree
returns-in-Err-NotSaved-clause-tree g c = λ list log h told marked left.
    let failed = c.in-Err-NotSaved.is ∙ ap Err c.in-Err-NotSaved.field-0-is in
    let mark = inner _ _ (sym marked ∙ left.marked) in
    (c.load.ensures.records (reads h.now) (ap cells_told told)).found left.ring log left.before
    left.order left.held mark failed
