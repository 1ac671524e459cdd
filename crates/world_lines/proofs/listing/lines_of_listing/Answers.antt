use Rattle.std.proofs.Common.{rules, ◌≡◌}
use Rattle.world_lines.specs.Lines.{lines_of_listing}
use Rattle.world_lines.proofs.TreeLines.{tree_shown}
use Rattle.world_lines.proofs.listing.lines_of_listing.Goals as goal

pub returns-clause-shows : goal.returns-clause-shows
returns-clause-shows c tree is =
    let all : c.push_objects.new.lines.items ≡ lines_of_listing c.args.server c.args.listing =
    search rules in
    tree_shown c.args.server c.args.listing tree c.push_objects.new.lines.items all is
