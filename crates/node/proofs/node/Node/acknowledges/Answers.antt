use Rattle.std.proofs.Common.{arith, false, nat_le, refl, sym, ◌∙◌}
use Rattle.group_rules.specs.Misfits.{told_tests}
use Rattle.group_rules.specs.Names.{number_of_view, place_of}
use Rattle.group_rules.specs.Places.{all_of}
use Rattle.group_rules.specs.Replicate.{is_in_view}
use Rattle.group_rules.specs.State.{top}
use Rattle.node.proofs.Tested.{told_above, told_by_other, told_is, told_within, where_in}
use Rattle.node.proofs.node.Node.acknowledges.Goals as goal

pub returns-then-not-is_one : goal.returns-then-not-is_one
returns-then-not-is_one c =
    let s = c.args.self.now.plain in
    where_in (is_in_view s (number_of_view c.args.view)) false
    (all_of (told_tests s (place_of c.args.from) c.args.top c.args.lb))
    (sym c.in-Some.ensures.found)
    (told_by_other c.is_one.result c.args.top (top s) c.args.lb c.if-not-is_one.true
    ∙ told_is s (place_of c.args.from) c.args.top c.args.lb (top s) c.in-Some.plan.now
    c.partner.result c.is_one.result c.in-Some.ensures.plan c.partner.ensures c.is_one.ensures refl)

pub returns-then-top : goal.returns-then-top
returns-then-top c =
    let s = c.args.self.now.plain in
    where_in (is_in_view s (number_of_view c.args.view)) false
    (all_of (told_tests s (place_of c.args.from) c.args.top c.args.lb))
    (sym c.in-Some.ensures.found)
    (told_above c.is_one.result c.args.top c.top.result c.args.lb c.if-not-is_one.false
    c.if-top.true
    ∙ told_is s (place_of c.args.from) c.args.top c.args.lb c.top.result c.in-Some.plan.now
    c.partner.result c.is_one.result c.in-Some.ensures.plan c.partner.ensures c.is_one.ensures
    c.top.ensures)

pub returns : goal.returns
returns c =
    let s = c.args.self.now.plain in
    where_in (is_in_view s (number_of_view c.args.view)) (nat_le c.args.lb c.args.top)
    (all_of (told_tests s (place_of c.args.from) c.args.top c.args.lb))
    (sym c.in-Some.ensures.found)
    (told_within c.is_one.result c.args.top c.top.result c.args.lb c.if-not-is_one.false
    (omega (arith, c.if-top.false))
    ∙ told_is s (place_of c.args.from) c.args.top c.args.lb c.top.result c.in-Some.plan.now
    c.partner.result c.is_one.result c.in-Some.ensures.plan c.partner.ensures c.is_one.ensures
    c.top.ensures)
