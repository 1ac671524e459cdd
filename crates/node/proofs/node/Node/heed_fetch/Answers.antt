use Rattle.std.proofs.Common.{[], ap, sym, ◌∙◌, List, ◌++◌, subst}
use Rattle.std.proofs.lemmas.Result.{on_ok_weaker}
use Rattle.group_rules.specs.Names.{number_of_view, place_of}
use Rattle.group_rules.specs.Serving.{on_fetch}
use Rattle.idle_log.specs.Gives.{given_moves, StandIn}
use Rattle.node.proofs.Fetched.{fetches, gives_made}
use Rattle.node.proofs.Heeds.{leaves}
use Rattle.node.specs.Node.{server}
use Rattle.std.specs.Prelude.{IfSome, Option}
use Rattle.std.proofs.lemmas.List.Elements.{Contains-append_left}
use Rattle.event_record.specs.declared.record.RecordFields.{RecordFields}
use Rattle.node.proofs.Wholes.{stand_both}
use Rattle.node_outputs.specs.Records.{records_sent}
use Rattle.node.proofs.node.Node.heed_fetch.Goals as goal

pub returns-in-None-clause-makes : goal.returns-in-None-clause-makes
returns-in-None-clause-makes c items clock size list within sized =
    let n = c.args.self.now in
    let v = number_of_view c.args.view in
    let to = place_of c.args.from in
    leaves n.me clock (on_fetch size list (server n items) to v c.args.first) (server n items) []
    c.args.outs.now
    (fetches n items size list to v c.args.first c.in-Some.last c.in_ok-found.field-0
    (sym c.in-Some.is ∙ c.last_served.ensures) within sized (c.in_ok-found.ensures.given items)
    ∙ ap (given_moves to v c.args.first) c.in-None.is)

pub returns-in-Some-2-clause-makes : goal.returns-in-Some-2-clause-makes
returns-in-Some-2-clause-makes c =
    let n = c.args.self.now in
    let v = number_of_view c.args.view in
    let to = place_of c.args.from in
    on_ok_weaker c.send.result
    (λ told items clock size list within sized. gives_made n.me clock
    (on_fetch size list (server n items) to v c.args.first) (server n items) to v c.args.first
    c.in-Some-2.records c.args.outs.now c.send.new.self
    (fetches n items size list to v c.args.first c.in-Some.last c.in_ok-found.field-0
    (sym c.in-Some.is ∙ c.last_served.ensures) within sized (c.in_ok-found.ensures.given items)
    ∙ ap (given_moves to v c.args.first) c.in-Some-2.is) told)
    c.send.ensures.said

pub returns-in_default-clause-sent : goal.returns-in_default-clause-sent
returns-in_default-clause-sent c r h =
    Contains-append_left (records_sent c.args.outs.now) c.args.self.now.records r h

pub returns-in-None-clause-sent : goal.returns-in-None-clause-sent
returns-in-None-clause-sent c r h =
    Contains-append_left (records_sent c.args.outs.now) c.args.self.now.records r h

pub returns-in-Some-2-clause-sent : goal.returns-in-Some-2-clause-sent
returns-in-Some-2-clause-sent c =
    let own = c.args.self.now.records in
    on_ok_weaker c.send.result
    (λ same. subst (λ (xs : List RecordFields). StandIn (records_sent c.args.outs.now ++ own) xs)
    (sym same) (stand_both (records_sent c.args.outs.now) own c.in-Some-2.records
    (subst (λ (o : Option (List RecordFields)). IfSome o (StandIn own)) c.in-Some-2.is
    c.in_ok-found.ensures.own)))
    c.send.ensures.records
