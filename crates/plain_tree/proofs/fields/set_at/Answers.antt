use Rattle.std.proofs.Common.{arith, ap}
use Rattle.file_tree.specs.declared.object.Object.{Object}
use Rattle.file_tree.proofs.Kept.{IsWithinLimits-fields, placed_at}
use Rattle.plain_tree.proofs.fields.set_at.Goals as goal

pub returns-in-Some-clause-kept : goal.returns-in-Some-clause-kept
returns-in-Some-clause-kept c =
    IsWithinLimits-fields c.args.tree.now.items c.args.handle c.in-Some.object c.set_in.new.object
    c.args.bytes c.requires.tree
    (placed_at c.args.tree.now.items c.args.handle c.index_mut.result.now c.in-Some.object
    (omega (arith, c.args.tree.now.ok.0)) c.index_mut.ensures.value c.in-Some.is)
    (ap (λ (o : Object). o.body) c.set_in.ensures) c.requires.enough
