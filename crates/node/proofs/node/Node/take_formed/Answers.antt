use Rattle.std.proofs.Common.{[], sym, ◌∙◌}
use Rattle.std.proofs.lemmas.Result.{on_ok_weaker}
use Rattle.group_rules.specs.Misfits.{misfits}
use Rattle.group_rules.specs.Names.{number_of_view, place_of}
use Rattle.group_rules.specs.Open.{and_then, try_open}
use Rattle.group_rules.specs.State.{Formed}
use Rattle.group_rules.specs.Step.{on_message}
use Rattle.node.proofs.Takes.{hears_made, ignored, taken_then}
use Rattle.node.specs.Node.{server}
use Rattle.node.proofs.node.Node.take_formed.Goals as goal

pub returns-then-misfits_formed-clause-makes : goal.returns-then-misfits_formed-clause-makes
returns-then-misfits_formed-clause-makes c items size list =
    let n = c.args.self.now in
    let from = place_of c.args.from in
    let s = server n items in
    let m = Formed (number_of_view c.args.view) c.args.lb in
    ignored n.me c.args.now (misfits n.me n.plain from m)
    (and_then n.me c.args.now s (on_message size n.me c.args.now list s from m)
    (try_open n.me c.args.now)) s [] c.args.outs.now
    (sym c.misfits_formed.ensures.test ∙ c.if-misfits_formed.true)

pub returns-clause-makes : goal.returns-clause-makes
returns-clause-makes c =
    let n = c.args.self.now in
    let from = place_of c.args.from in
    let v = number_of_view c.args.view in
    let m = Formed v c.args.lb in
    on_ok_weaker c.try_open.result
    (λ opens items size list. taken_then n.me c.args.now (misfits n.me n.plain from m)
    (on_message size n.me c.args.now list (server n items) from m) (server n items)
    (server c.formed.new.self items) (server c.try_open.new.self items) c.formed.new.self.me
    [] c.args.outs.now c.args.outs.now c.try_open.new.outs (sym c.misfits_formed.ensures.test ∙
    c.if-misfits_formed.false)
    c.formed.ensures.me
    (hears_made n.me c.args.now (server n items) (server c.formed.new.self items) from v c.args.lb
    c.args.outs.now (c.formed.ensures.state items c.args.now)) (opens items))
    c.try_open.ensures.makes
