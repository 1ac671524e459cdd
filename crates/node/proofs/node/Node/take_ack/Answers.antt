use Rattle.std.proofs.Common.{[], sym, ◌∙◌}
use Rattle.std.proofs.lemmas.Result.{on_ok_weaker}
use Rattle.group_rules.specs.Misfits.{misfits}
use Rattle.group_rules.specs.Names.{number_of_view, place_of}
use Rattle.group_rules.specs.Open.{and_then, try_open}
use Rattle.group_rules.specs.State.{Ack}
use Rattle.group_rules.specs.Step.{on_message}
use Rattle.node.proofs.Takes.{ignored, taken_then}
use Rattle.node.specs.Node.{server}
use Rattle.node.proofs.Stocks.{stocks_misfit, stocks_on, stocks_taken}
use Rattle.node.specs.Stock.{stock}
use Rattle.node.proofs.node.Node.take_ack.Goals as goal

pub returns-then-misfits_ack-clause-makes : goal.returns-then-misfits_ack-clause-makes
returns-then-misfits_ack-clause-makes c items size list =
    let n = c.args.self.now in
    let from = place_of c.args.from in
    let s = server n items in
    let m = Ack (number_of_view c.args.view) c.args.top c.args.lb c.args.until in
    ignored n.me c.args.now (misfits n.me n.plain from m)
    (and_then n.me c.args.now s (on_message size n.me c.args.now list s from m)
    (try_open n.me c.args.now)) s n.peers c.args.outs.now
    (sym c.misfits_ack.ensures.test ∙ c.if-misfits_ack.true)

pub returns-clause-makes : goal.returns-clause-makes
returns-clause-makes c =
    let n = c.args.self.now in
    let from = place_of c.args.from in
    let m = Ack (number_of_view c.args.view) c.args.top c.args.lb c.args.until in
    on_ok_weaker c.try_open.result
    (λ opens items size list. taken_then n.me c.args.now (misfits n.me n.plain from m)
    (on_message size n.me c.args.now list (server n items) from m) (server n items)
    (server c.heed_ack.new.self items) (server c.try_open.new.self items) c.heed_ack.new.self.me
    n.peers c.args.outs.now
    c.heed_ack.new.outs c.try_open.new.outs (sym c.misfits_ack.ensures.test ∙
    c.if-misfits_ack.false)
    c.heed_ack.ensures.me (c.in_ok-heed_ack.ensures.makes items c.args.now) (opens items))
    c.try_open.ensures.makes

pub returns-then-misfits_ack-clause-stock : goal.returns-then-misfits_ack-clause-stock
returns-then-misfits_ack-clause-stock c items size list =
    let n = c.args.self.now in
    let from = place_of c.args.from in
    let m = Ack (number_of_view c.args.view) c.args.top c.args.lb c.args.until in
    stocks_misfit size n.me c.args.now list (server n items) from m (misfits n.me n.plain from m)
    [] (stock n)
    (sym c.misfits_ack.ensures.test ∙ c.if-misfits_ack.true)

pub returns-clause-stock : goal.returns-clause-stock
returns-clause-stock c =
    let n = c.args.self.now in
    let from = place_of c.args.from in
    let m = Ack (number_of_view c.args.view) c.args.top c.args.lb c.args.until in
    on_ok_weaker c.try_open.result
    (λ opens items size list. stocks_taken size n.me c.args.now list (server n items) from m
    (misfits n.me n.plain from m) [] (stock n)
    (stock c.try_open.new.self) (sym c.misfits_ack.ensures.test ∙ c.if-misfits_ack.false)
    (stocks_on [] n.me (server n items)
    (on_message size n.me c.args.now list (server n items) from m) (stock n)
    (stock c.heed_ack.new.self) (stock c.try_open.new.self) (c.in_ok-heed_ack.ensures.stock items)
    opens))
    c.try_open.ensures.stock
