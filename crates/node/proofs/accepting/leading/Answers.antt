use Rattle.std.proofs.Common.{ap, subst, ◌∙◌, []}
use Rattle.group_rules.specs.Names.{number_of_view, place_of}
use Rattle.node.proofs.Accepts.{HearsFormed, accepted_formed}
use Rattle.node.proofs.Storers.{partner_place}
use Rattle.replica.specs.Leading.{Leading}
use Rattle.node.proofs.Stocked.{same_led}
use Rattle.volatile_log.specs.Log.{LogValue}
use Rattle.node.proofs.accepting.leading.Goals as goal

pub returns-in-Some-clause-accepted : goal.returns-in-Some-clause-accepted
returns-in-Some-clause-accepted c = accepted_formed c.args.me (number_of_view c.args.view)
    c.args.form c.args.log
    c.args.joining.now c.in-Ok.leader.beside c.formed.new.self c.in-Some.lb c.requires.leads
    (c.in-Ok.ensures.partner ∙ ap place_of c.partner-partner.ensures
    ∙ partner_place c.args.form.storers) c.in-Some.ensures
    (subst (λ (l : Leading). HearsFormed l c.formed.new.self c.in-Some.lb) c.in-Ok.ensures.ok
    c.formed.ensures.heard)

pub returns-in-Some-clause-cached : goal.returns-in-Some-clause-cached
returns-in-Some-clause-cached c = c.formed.ensures.cached
    ∙ ap (λ (l : Leading). l.cached) c.in-Ok.ensures.ok

pub returns-in-Some-clause-stock : goal.returns-in-Some-clause-stock
returns-in-Some-clause-stock c = same_led c.formed.new.self.log.records c.args.log.records
    c.formed.new.self.peers []
    (ap (λ (g : LogValue). g.records) (c.formed.ensures.log
    ∙ ap (λ (l : Leading). l.log) c.in-Ok.ensures.ok))
    (c.formed.ensures.peers ∙ ap (λ (l : Leading). l.peers) c.in-Ok.ensures.ok)
