use Rattle.std.proofs.Common.{rules, ◌++◌, List, map, sym, ap, ◌∙◌}
use Rattle.std.proofs.lemmas.Iterator.Adapters.{YieldsList-from_vec}
use Rattle.std.proofs.lemmas.Iterator.Consumers.{YieldsList-end}
use Rattle.std.proofs.lemmas.List.{map-id}
use Rattle.tree_listing.specs.declared.listing.ListedSlot.{ListedSlot}
use Rattle.world_lines.specs.Lines.{line_of_slot}
use Rattle.world_lines.proofs.listing.push_slots.Goals as goal

pub returns : goal.returns
returns c =
    let all = YieldsList-end (YieldsList-from_vec {s = c.into_iter-slot-iterator.result}
    c.into_vec-slot-items.result.items (search rules) (search rules))
    c.loop-slot.yielded c.loop-slot.slot-iterator c.loop-slot.yielded_by c.next.result
    c.next.new.self c.in-None.is c.next.ensures.steps in
    c.loop-slot.invariant
    ∙ ap (λ (xs : List ListedSlot). c.args.lines.now.items ++ map (line_of_slot c.args.dir) xs)
    (sym (map-id c.loop-slot.yielded) ∙ all.0 ∙ c.into_vec-slot-items.ensures)
