use Rattle.std.proofs.Common.{List, [], ◌++◌, sym, ◌∙◌, refl, subst}
use Rattle.std.proofs.lemmas.Result.{on_ok_weaker}
use Rattle.group_rules.specs.Misfits.{misfits}
use Rattle.group_rules.specs.Names.{number_of_view, place_of}
use Rattle.group_rules.specs.Open.{and_then, try_open}
use Rattle.group_rules.specs.State.{Fetch}
use Rattle.group_rules.specs.Step.{on_message}
use Rattle.node.proofs.Takes.{ignored, taken_then}
use Rattle.node.specs.Node.{server}
use Rattle.event_record.specs.declared.record.RecordFields.{RecordFields}
use Rattle.idle_log.specs.Gives.{StandIn}
use Rattle.node_outputs.specs.Records.{records_sent}
use Rattle.std.proofs.lemmas.List.Elements.{Contains-append_left}
use Rattle.node.proofs.node.Node.take_fetch.Goals as goal

pub returns-then-misfits_fetch-clause-makes : goal.returns-then-misfits_fetch-clause-makes
returns-then-misfits_fetch-clause-makes c items size list within sized =
    let n = c.args.self.now in
    let from = place_of c.args.from in
    let s = server n items in
    let m = Fetch (number_of_view c.args.view) c.args.first in
    ignored n.me c.args.now (misfits n.me n.plain from m)
    (and_then n.me c.args.now s (on_message size n.me c.args.now list s from m)
    (try_open n.me c.args.now)) s [] c.args.outs.now
    (sym c.misfits_fetch.ensures ∙ c.if-misfits_fetch.true)

pub returns-clause-makes : goal.returns-clause-makes
returns-clause-makes c =
    let n = c.args.self.now in
    let from = place_of c.args.from in
    let m = Fetch (number_of_view c.args.view) c.args.first in
    on_ok_weaker c.try_open.result
    (λ opens items size list within sized. taken_then n.me c.args.now (misfits n.me n.plain from m)
    (on_message size n.me c.args.now list (server n items) from m) (server n items)
    (server n items) (server c.try_open.new.self items) n.me [] c.args.outs.now
    c.heed_fetch.new.outs c.try_open.new.outs (sym c.misfits_fetch.ensures ∙
    c.if-misfits_fetch.false)
    refl (c.in_ok-heed_fetch.ensures.makes items c.args.now size list within sized) (opens items))
    c.try_open.ensures.makes

pub returns-clause-sent : goal.returns-clause-sent
returns-clause-sent c =
    let n = c.args.self.now in
    on_ok_weaker c.try_open.result
    (λ same. subst (λ (xs : List RecordFields). StandIn (records_sent c.args.outs.now ++ n.records)
    xs) (sym same) c.in_ok-heed_fetch.ensures.sent)
    c.try_open.ensures.records

pub returns-then-misfits_fetch-clause-sent : goal.returns-then-misfits_fetch-clause-sent
returns-then-misfits_fetch-clause-sent c r h =
    Contains-append_left (records_sent c.args.outs.now) c.args.self.now.records r h
