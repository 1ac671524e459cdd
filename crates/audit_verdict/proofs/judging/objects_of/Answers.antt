use Rattle.std.proofs.Common.{rules, ap}
use Rattle.audit.specs.Named.{named_told}
use Rattle.audit_verdict.proofs.TreesOfCells.{each_tree, named_tree}
use Rattle.audit_verdict.proofs.judging.objects_of.Goals as goal

pub returns-clause-objects : goal.returns-clause-objects
returns-clause-objects g c = λ held told is.
    let picture = c.args.picture.now in
    let named = ap (named_told picture.objects) told in
    each_tree c.list_tree.result held (λ tree stamp stand sound.
    c.list_tree.ensures.list
    (named_tree c.audit_laws.ensures.named held picture is tree stamp stand sound)
    (search (rules, named)))
