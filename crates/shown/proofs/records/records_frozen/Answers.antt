use Rattle.idle_log.proofs.Giving.{fits_a_give}
use Rattle.shown.proofs.Truths.{answer_is, answers_low, answers_truly}
use Rattle.shown.proofs.records.records_frozen.Goals as goal

pub shown_of-requires : goal.shown_of-requires
shown_of-requires c = fits_a_give _ c.in_ok-found.found c.args.log.now c.args.first
    c.cp.result c.top.ensures.order c.in_ok-found.ensures

pub returns-clause-shown : goal.returns-clause-shown
returns-clause-shown c = answer_is _ c.in_ok-found.found c.args.log.now c.args.first
    c.base.result c.cp.result c.cp-2.result c.shown_of.result c.top.ensures.order
    c.base.ensures.value c.cp.ensures.value c.cp-2.ensures.value c.in_ok-found.ensures
    c.shown_of.ensures

pub returns-clause-truly : goal.returns-clause-truly
returns-clause-truly c = answers_truly c.shown_of.result c.args.log.now c.args.first
    (returns-clause-shown c)

pub returns-clause-low : goal.returns-clause-low
returns-clause-low c = answers_low c.shown_of.result c.args.log.now c.args.first
    c.top.ensures.order (returns-clause-shown c)
