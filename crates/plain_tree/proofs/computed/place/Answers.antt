use Rattle.std.proofs.Common.{sym, ap, ◌∙◌}
use Rattle.file_tree.specs.Tree.{Tree, place}
use Rattle.file_tree.proofs.Bounds.{place_fits}
use Rattle.file_tree.proofs.Kept.{place_within}
use Rattle.plain_tree.proofs.computed.place.Goals as goal

pub returns-in-Some-clause-fits : goal.returns-in-Some-clause-fits
returns-in-Some-clause-fits c =
    place_fits c.args.tree.now c.args.number c.in-Some.object.now
    (sym (ap (λ (t : Tree). place t c.args.number) c.as_slice.ensures) ∙ sym c.in-Some.ensures)

pub returns-in-Some-clause-within : goal.returns-in-Some-clause-within
returns-in-Some-clause-within c =
    place_within c.args.tree.now c.args.number c.in-Some.object.now
    (sym (ap (λ (t : Tree). place t c.args.number) c.as_slice.ensures) ∙ sym c.in-Some.ensures)
