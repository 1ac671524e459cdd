use Rattle.std.proofs.Common.{rules, ◌++◌, List, map, sym, ap, ◌∙◌}
use Rattle.std.proofs.lemmas.Iterator.Adapters.{YieldsList-from_vec}
use Rattle.std.proofs.lemmas.Iterator.Consumers.{YieldsList-end}
use Rattle.std.proofs.lemmas.List.{map-id}
use Rattle.tree_listing.specs.declared.listing.ListedBlock.{ListedBlock}
use Rattle.world_lines.specs.Lines.{line_of_block}
use Rattle.world_lines.proofs.listing.push_blocks.Goals as goal

pub returns : goal.returns
returns c =
    let all = YieldsList-end (YieldsList-from_vec {s = c.into_iter-block-iterator.result}
    c.into_vec-block-items.result.items (search rules) (search rules))
    c.loop-block.yielded c.loop-block.block-iterator c.loop-block.yielded_by c.next.result
    c.next.new.self c.in-None.is c.next.ensures.steps in
    c.loop-block.invariant
    ∙ ap (λ (xs : List ListedBlock). c.args.lines.now.items ++ map (line_of_block c.args.file) xs)
    (sym (map-id c.loop-block.yielded) ∙ all.0 ∙ c.into_vec-block-items.ensures)
