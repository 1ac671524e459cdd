use Rattle.std.proofs.Common.{arith, sym, ap, subst}
use Rattle.file_tree.specs.Tree.{Tree, place, blocks_at}
use Rattle.file_tree.specs.Within.{IsWithinLimits}
use Rattle.plain_tree.specs.Counts.{IsEntered}
use Rattle.plain_tree.proofs.CountLaws.{counts_few, counts_reslot}
use Rattle.plain_tree.proofs.objects.Objects.reslot.Goals as goal

pub count-requires-clause-few : goal.count-requires-clause-few
count-requires-clause-few c =
    counts_few c.self.inside.items.items c.self.inside.used c.self.inside.names.items
    c.self.invariant (subst IsWithinLimits (sym c.self.view_is) c.requires.tree) c.args.number

pub invariant_of-self : goal.invariant_of-self
invariant_of-self c =
    rw c.reslot.ensures.value (counts_reslot c.self.inside.items.items c.self.inside.used
    c.self.inside.names.items c.args.dir c.args.number c.args.slots c.args.now
    c.exchanged-self-inside.result c.count.new.names.items c.self.invariant
    (subst (λ (t : Tree). IsEntered t c.args.dir c.args.slots c.args.number) (sym c.self.view_is)
    c.requires.entered)
    (omega (
      arith,
      c.exchanged-self-inside.ensures,
      c.blocks_in-before.ensures.value,
      ap (λ (t : Tree). blocks_at (place t c.args.dir)) c.as_slice.ensures.value,
      c.blocks_of-after.ensures,
      c.len.ensures,
    )) c.count.ensures.size c.count.ensures.names)
