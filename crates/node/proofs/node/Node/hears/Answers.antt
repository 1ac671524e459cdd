use Rattle.std.proofs.Common.{nat_le, sym, ◌∙◌}
use Rattle.group_rules.specs.Misfits.{heard_tests}
use Rattle.group_rules.specs.Names.{number_of_view, place_of}
use Rattle.group_rules.specs.Places.{all_of}
use Rattle.group_rules.specs.Replicate.{is_in_view}
use Rattle.node.proofs.Tested.{and_false, and_true, heard_is, where_in}
use Rattle.node.proofs.node.Node.hears.Goals as goal

pub returns-then-is_one : goal.returns-then-is_one
returns-then-is_one c =
    let s = c.args.self.now.plain in
    where_in (is_in_view s (number_of_view c.args.view))
    (nat_le c.args.lb c.in-Some.plan.now.start)
    (all_of (heard_tests s (place_of c.args.from) c.args.lb)) (sym c.in-Some.ensures.found)
    (and_true c.is_one.result (nat_le c.args.lb c.in-Some.plan.now.start) c.if-is_one.true
    ∙ heard_is s (place_of c.args.from) c.args.lb c.in-Some.plan.now c.partner.result
    c.is_one.result c.in-Some.ensures.plan c.partner.ensures c.is_one.ensures)

pub returns-else-is_one : goal.returns-else-is_one
returns-else-is_one c =
    let s = c.args.self.now.plain in
    where_in (is_in_view s (number_of_view c.args.view)) c.is_one.result
    (all_of (heard_tests s (place_of c.args.from) c.args.lb)) (sym c.in-Some.ensures.found)
    (and_false c.is_one.result (nat_le c.args.lb c.in-Some.plan.now.start) c.if-is_one.false
    ∙ heard_is s (place_of c.args.from) c.args.lb c.in-Some.plan.now c.partner.result
    c.is_one.result c.in-Some.ensures.plan c.partner.ensures c.is_one.ensures)
