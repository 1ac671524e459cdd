use Rattle.std.proofs.Common.{rules, ◌++◌, List, sym, ap, ◌∙◌}
use Rattle.std.proofs.lemmas.Iterator.Adapters.{YieldsList-from_vec}
use Rattle.std.proofs.lemmas.Iterator.Consumers.{YieldsList-end}
use Rattle.std.proofs.lemmas.List.{map-id}
use Rattle.tree_listing.specs.declared.listing.Listed.{Listed}
use Rattle.world_lines.specs.Lines.{lines_of_objects}
use Rattle.world_lines.proofs.TreeLines.{none_shown, one_shown}
use Rattle.world_lines.proofs.listing.push_objects.Goals as goal

pub loop-object-init : goal.loop-object-init
loop-object-init c = none_shown c.args.lines.now.items

pub loop-object-preserved : goal.loop-object-preserved
loop-object-preserved c =
    one_shown c.args.lines.now.items c.loop-object.lines.items c.push_object.new.lines.items
    c.loop-object.yielded c.in-Some.object c.loop-object.invariant c.in_ok-push_object.ensures

pub returns : goal.returns
returns c =
    let all = YieldsList-end (YieldsList-from_vec {s = c.into_iter-object-iterator.result}
    c.into_vec-object-items.result.items (search rules) (search rules))
    c.loop-object.yielded c.loop-object.object-iterator c.loop-object.yielded_by c.next.result
    c.next.new.self c.in-None.is c.next.ensures.steps in
    c.loop-object.invariant
    ∙ ap (λ (xs : List Listed). c.args.lines.now.items ++ lines_of_objects xs)
    (sym (map-id c.loop-object.yielded) ∙ all.0 ∙ c.into_vec-object-items.ensures)
