use Rattle.std.proofs.Common.{◌≡◌, length, rules, refl, sym, ap, ◌∙◌}
use Rattle.std.proofs.lemmas.List.{nil_from_length}
use Rattle.audit.specs.Flaws.{findings}
use Rattle.audit_verdict.proofs.judging.judge.Goals as goal

pub returns-clause-verdict : goal.returns-clause-verdict
returns-clause-verdict g c = λ held told.
    let is = c.in_ok-picture.ensures.picture held told in
    let none : length c.in_ok-findings.findings.items ≡ 0 = search rules in (
      ap findings (sym is) ∙ sym c.in_ok-findings.ensures.found
          ∙ nil_from_length c.in_ok-findings.findings.items none,
      refl,
      c.in_ok-objects.ensures.objects held (c.in_ok-picture.ensures.kept ∙ told) is,
    )
