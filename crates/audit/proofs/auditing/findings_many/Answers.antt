use Rattle.std.proofs.Common.{◌≡◌, ◌∙◌, Vec, Global}
use Rattle.audit.specs.declared.flaw.Finding.{Finding}
use Rattle.audit.specs.declared.stretches.Stretch.{Stretch}
use Rattle.audit.specs.Stretches.{findings_in}
use Rattle.audit.proofs.Listed.{if_ok, made_of_each}
use Rattle.audit.proofs.auditing.findings_many.Goals as goal

pub returns : goal.returns
returns g c =
    let gave = c.in_ok-collect.ensures in
    let chain = rw (c.map.ensures.base, c.map.ensures.f, c.with_min_len.ensures.base) at gave.1 in
    if_ok c.in_ok-collect.field-0 _ _ _
    (λ all parts. made_of_each
    (λ (s : Stretch) (part : Vec Finding Global). part.items ≡ findings_in c.args.objects.now s)
    chain.0 c.args.stretches.now gave.0 parts.0 all.items (chain.1 ∙ c.par_iter.ensures) parts.1
    parts.2 chain.2) gave.2
