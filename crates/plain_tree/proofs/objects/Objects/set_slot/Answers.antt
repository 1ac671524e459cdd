use Rattle.std.proofs.Common.{sym, ap, ◌∙◌, subst}
use Rattle.file_tree.specs.Tree.{Tree, place, slots_of}
use Rattle.file_tree.specs.Within.{IsWithinLimits}
use Rattle.plain_tree.proofs.CountLaws.{counts_few, counts_held, counts_slot}
use Rattle.plain_tree.proofs.objects.Objects.set_slot.Goals as goal

pub exchange-requires-clause-held : goal.exchange-requires-clause-held
exchange-requires-clause-held c =
    counts_held c.self.inside.items.items c.self.inside.used c.self.inside.names.items c.args.dir
    c.slots_at.result.now c.self.invariant
    (c.slots_at.ensures ∙ ap (λ (t : Tree). slots_of (place t c.args.dir)) c.as_slice.ensures.value)

pub exchange-requires-clause-few : goal.exchange-requires-clause-few
exchange-requires-clause-few c =
    counts_few c.self.inside.items.items c.self.inside.used c.self.inside.names.items
    c.self.invariant (subst IsWithinLimits (sym c.self.view_is) c.requires.tree)

pub invariant_of-self : goal.invariant_of-self
invariant_of-self c =
    rw c.set_slot.ensures.value (counts_slot c.self.inside.items.items c.self.inside.used
    c.self.inside.names.items c.args.dir c.args.i c.args.slot c.args.now c.exchange.new.names.items
    c.slots_at.result.now c.self.invariant
    (c.slots_at.ensures ∙ ap (λ (t : Tree). slots_of (place t c.args.dir)) c.as_slice.ensures.value)
    c.exchange.ensures.size c.exchange.ensures.names)
