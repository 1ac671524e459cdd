use Rattle.std.proofs.Common.{ap, nat_le, refl, sym, ◌∙◌}
use Rattle.group_rules.specs.Misfits.{led_tests}
use Rattle.group_rules.specs.Names.{number_of_view, place_of}
use Rattle.group_rules.specs.Places.{all_of}
use Rattle.group_rules.specs.Replicate.{is_in_view}
use Rattle.node.proofs.Tested.{and_false, and_true, led_is, where_in}
use Rattle.node.specs.Node.{NodeValue}
use Rattle.node.proofs.node.Node.follows.Goals as goal

pub returns-then-is_one : goal.returns-then-is_one
returns-then-is_one c =
    let s = c.args.self.now.plain in
    where_in (is_in_view s (number_of_view c.args.view)) (nat_le c.args.base c.lb.result)
    (all_of (led_tests s (place_of c.args.from) c.args.base)) (sym c.in-Some.ensures.found)
    (and_true c.is_one.result (nat_le c.args.base c.lb.result) c.if-is_one.true
    ∙ led_is s (place_of c.args.from) c.args.base c.lb.result c.in-Some.plan.now c.leader.result
    c.is_one.result c.in-Some.ensures.plan c.leader.ensures c.is_one.ensures
    (c.lb.ensures.value ∙ ap (λ (n : NodeValue). n.plain.lb) c.self.view_is))

pub returns-else-is_one : goal.returns-else-is_one
returns-else-is_one c =
    let s = c.args.self.now.plain in
    where_in (is_in_view s (number_of_view c.args.view)) c.is_one.result
    (all_of (led_tests s (place_of c.args.from) c.args.base)) (sym c.in-Some.ensures.found)
    (and_false c.is_one.result (nat_le c.args.base s.lb) c.if-is_one.false
    ∙ led_is s (place_of c.args.from) c.args.base s.lb c.in-Some.plan.now c.leader.result
    c.is_one.result c.in-Some.ensures.plan c.leader.ensures c.is_one.ensures refl)
