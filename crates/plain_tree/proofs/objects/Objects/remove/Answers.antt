use Rattle.std.proofs.Common.{ℕ, ◌-◌, get_or, arith, ap, ◌∙◌}
use Rattle.file_tree.specs.Tree.{Tree, Slots, place, slots_of, names_in, blocks_at}
use Rattle.plain_tree.proofs.CountLaws.{counts_gone}
use Rattle.plain_tree.proofs.objects.Objects.remove.Goals as goal

pub invariant_of-self : goal.invariant_of-self
invariant_of-self c =
    let slots_is = c.slots_at.ensures
    ∙ ap (λ (t : Tree). slots_of (place t c.args.number)) c.as_slice.ensures.value in
    let blocks_is = c.blocks_in.ensures.value
    ∙ ap (λ (t : Tree). blocks_at (place t c.args.number))
    c.as_slice-then-number-len.ensures.value in
    rw c.clear.ensures.value (counts_gone c.self.inside.items.items c.self.inside.used
    c.self.inside.names.items c.args.number (c.self.inside.used - c.blocks_in.result)
    c.uncount_all.new.names.items c.self.invariant (omega (arith, c.if-number-len.true, c.len.ensures))
    (ap (λ (n : ℕ). c.self.inside.used - n) blocks_is) c.uncount_all.ensures.size
    (λ k. c.uncount_all.ensures.names k
    ∙ ap (λ (ss : Slots). get_or c.self.inside.names.items k 0 - names_in k ss) slots_is))
