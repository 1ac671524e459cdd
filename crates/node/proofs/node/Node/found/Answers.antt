use Rattle.std.proofs.Common.{subst, List, ◌∙◌, ap, sym}
use Rattle.std.proofs.lemmas.Result.{IfOk-weaker}
use Rattle.idle_log.specs.Gives.{GivesFound, StandIn}
use Rattle.idle_log.specs.LogLaws.{with_log}
use Rattle.node.proofs.Fetched.{finds_followed, finds_joined, finds_led, finds_pulls, finds_rests}
use Rattle.volatile_log.specs.Log.{LogValue}
use Rattle.std.specs.Prelude.{IfSome}
use Rattle.event_record.specs.declared.record.RecordFields.{RecordFields}
use Rattle.node.specs.Node.{NodeValue}
use Rattle.node.specs.State.{records_in}
use Rattle.node.proofs.node.Node.found.Goals as goal

pub returns-in-Rests-clause-given : goal.returns-in-Rests-clause-given
returns-in-Rests-clause-given c =
    let n = c.self.inside in
    IfOk-weaker c.serve.result _ _
    (λ found given items. finds_rests n.me n.mark n.horizon n.served n.duty n.state c.in-Rests.kept
    c.args.self.now items c.args.first c.args.last found c.self.view_is c.in-Rests.is given)
    c.serve.ensures.given

pub returns-in-Joined-clause-given : goal.returns-in-Joined-clause-given
returns-in-Joined-clause-given c =
    let n = c.self.inside in
    IfOk-weaker c.serve-in-Joined.result _ _
    (λ found given items. finds_joined n.me n.mark n.horizon n.served n.duty n.state
    c.in-Joined.kept
    c.in-Joined.field-1
    c.args.self.now items c.args.first c.args.last found c.self.view_is c.in-Joined.is given)
    c.serve-in-Joined.ensures.given

pub returns-in-Pulls-clause-given : goal.returns-in-Pulls-clause-given
returns-in-Pulls-clause-given c =
    let n = c.self.inside in
    IfOk-weaker c.serve-in-Pulls.result _ _
    (λ found given items. finds_pulls n.me n.mark n.horizon n.served n.duty n.state c.in-Pulls.kept
    c.in-Pulls.field-1 c.in-Pulls.field-2 c.in-Pulls.field-3
    c.args.self.now items c.args.first c.args.last found c.self.view_is c.in-Pulls.is given)
    c.serve-in-Pulls.ensures.given

pub returns-in-Leads-clause-given : goal.returns-in-Leads-clause-given
returns-in-Leads-clause-given c =
    let n = c.self.inside in
    IfOk-weaker c.serve_active.result _ _
    (λ found given items. finds_led n.me n.mark n.horizon n.served n.duty n.state
    c.in-Leads.leader c.in-Leads.field-1 c.args.self.now items c.args.first c.args.last found
    c.self.view_is c.in-Leads.is (λ t. subst (λ (l : LogValue).
    GivesFound (with_log t l) l c.args.first c.args.last found) c.log.ensures (given t)))
    c.serve_active.ensures.given

pub returns-in-Follows-clause-given : goal.returns-in-Follows-clause-given
returns-in-Follows-clause-given c =
    let n = c.self.inside in
    IfOk-weaker c.serve_active-in-Follows.result _ _
    (λ found given items. finds_followed n.me n.mark n.horizon n.served n.duty n.state
    c.in-Follows.partner c.in-Follows.field-1 c.args.self.now items c.args.first c.args.last found
    c.self.view_is c.in-Follows.is (λ t. subst (λ (l : LogValue).
    GivesFound (with_log t l) l c.args.first c.args.last found) c.log-in-Follows.ensures (given t)))
    c.serve_active-in-Follows.ensures.given

pub returns-in-Rests-clause-own : goal.returns-in-Rests-clause-own
returns-in-Rests-clause-own c = IfOk-weaker c.serve.result _ _
    (λ found own. subst (λ (rs : List RecordFields). IfSome found (StandIn rs))
    (ap records_in (sym c.in-Rests.is) ∙ ap (λ (n : NodeValue). n.records) c.self.view_is) own)
    c.serve.ensures.own

pub returns-in-Joined-clause-own : goal.returns-in-Joined-clause-own
returns-in-Joined-clause-own c = IfOk-weaker c.serve-in-Joined.result _ _
    (λ found own. subst (λ (rs : List RecordFields). IfSome found (StandIn rs))
    (ap records_in (sym c.in-Joined.is) ∙ ap (λ (n : NodeValue). n.records) c.self.view_is) own)
    c.serve-in-Joined.ensures.own

pub returns-in-Pulls-clause-own : goal.returns-in-Pulls-clause-own
returns-in-Pulls-clause-own c = IfOk-weaker c.serve-in-Pulls.result _ _
    (λ found own. subst (λ (rs : List RecordFields). IfSome found (StandIn rs))
    (ap records_in (sym c.in-Pulls.is) ∙ ap (λ (n : NodeValue). n.records) c.self.view_is) own)
    c.serve-in-Pulls.ensures.own

pub returns-in-Leads-clause-own : goal.returns-in-Leads-clause-own
returns-in-Leads-clause-own c = IfOk-weaker c.serve_active.result _ _
    (λ found own. subst (λ (rs : List RecordFields). IfSome found (StandIn rs))
    (ap (λ (l : LogValue). l.records) c.log.ensures
    ∙ ap records_in (sym c.in-Leads.is) ∙ ap (λ (n : NodeValue). n.records) c.self.view_is) own)
    c.serve_active.ensures.own

pub returns-in-Follows-clause-own : goal.returns-in-Follows-clause-own
returns-in-Follows-clause-own c = IfOk-weaker c.serve_active-in-Follows.result _ _
    (λ found own. subst (λ (rs : List RecordFields). IfSome found (StandIn rs))
    (ap (λ (l : LogValue). l.records) c.log-in-Follows.ensures
    ∙ ap records_in (sym c.in-Follows.is) ∙ ap (λ (n : NodeValue). n.records) c.self.view_is) own)
    c.serve_active-in-Follows.ensures.own
