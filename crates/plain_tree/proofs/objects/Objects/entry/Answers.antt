use Rattle.std.proofs.Common.{◌<◌, length, sym, ap, ◌∙◌, subst}
use Rattle.file_tree.specs.Tree.{Tree, Slots, place, slots_of, entry}
use Rattle.plain_tree.proofs.CountLaws.{entry_within}
use Rattle.plain_tree.proofs.objects.Objects.entry.Goals as goal

pub returns-in-Some-clause-within : goal.returns-in-Some-clause-within
returns-in-Some-clause-within c =
    let slots_is = c.slots_at.ensures
    ∙ ap (λ (t : Tree). slots_of (place t c.args.dir)) c.as_slice.ensures.value in
    subst (λ (t : Tree). c.in-Some.x.1 < length t) c.self.view_is
    (entry_within c.self.inside.items.items c.self.inside.used c.self.inside.names.items c.args.dir
    c.args.name.now c.in-Some.x c.self.invariant
    (sym (ap (λ (ss : Slots). entry ss c.args.name.now) slots_is) ∙ sym c.in-Some.ensures))
