use Rattle.std.proofs.Common.{[], sym, ◌∙◌}
use Rattle.std.proofs.lemmas.Result.{on_ok_weaker}
use Rattle.group_rules.specs.Misfits.{misfits}
use Rattle.group_rules.specs.Names.{number_of_view, place_of}
use Rattle.group_rules.specs.Open.{and_then, try_open}
use Rattle.group_rules.specs.State.{Beat}
use Rattle.group_rules.specs.Step.{on_message}
use Rattle.node.proofs.Takes.{ignored, taken_then}
use Rattle.node.specs.Node.{server}
use Rattle.node.proofs.Stocks.{stocks_misfit, stocks_on, stocks_taken}
use Rattle.node.specs.Stock.{stock}
use Rattle.node.proofs.node.Node.take_beat.Goals as goal

pub returns-then-misfits_beat-clause-makes : goal.returns-then-misfits_beat-clause-makes
returns-then-misfits_beat-clause-makes c items size list =
    let n = c.args.self.now in
    let from = place_of c.args.from in
    let s = server n items in
    let m = Beat (number_of_view c.args.view) c.args.cp c.args.base in
    ignored n.me c.args.now (misfits n.me n.plain from m)
    (and_then n.me c.args.now s (on_message size n.me c.args.now list s from m)
    (try_open n.me c.args.now)) s [] c.args.outs.now
    (sym c.misfits_beat.ensures.test ∙ c.if-misfits_beat.true)

pub returns-clause-makes : goal.returns-clause-makes
returns-clause-makes c =
    let n = c.args.self.now in
    let from = place_of c.args.from in
    let m = Beat (number_of_view c.args.view) c.args.cp c.args.base in
    on_ok_weaker c.try_open.result
    (λ opens items size list. taken_then n.me c.args.now (misfits n.me n.plain from m)
    (on_message size n.me c.args.now list (server n items) from m) (server n items)
    (server c.heed_beat.new.self items) (server c.try_open.new.self items) c.heed_beat.new.self.me
    [] c.args.outs.now
    c.heed_beat.new.outs c.try_open.new.outs (sym c.misfits_beat.ensures.test ∙
    c.if-misfits_beat.false)
    c.heed_beat.ensures.me (c.in_ok-heed_beat.ensures.makes items from
    (c.misfits_beat.ensures.from c.if-misfits_beat.false)) (opens items))
    c.try_open.ensures.makes

pub returns-then-misfits_beat-clause-stock : goal.returns-then-misfits_beat-clause-stock
returns-then-misfits_beat-clause-stock c items size list =
    let n = c.args.self.now in
    let from = place_of c.args.from in
    let m = Beat (number_of_view c.args.view) c.args.cp c.args.base in
    stocks_misfit size n.me c.args.now list (server n items) from m (misfits n.me n.plain from m)
    [] (stock n)
    (sym c.misfits_beat.ensures.test ∙ c.if-misfits_beat.true)

pub returns-clause-stock : goal.returns-clause-stock
returns-clause-stock c =
    let n = c.args.self.now in
    let from = place_of c.args.from in
    let m = Beat (number_of_view c.args.view) c.args.cp c.args.base in
    on_ok_weaker c.try_open.result
    (λ opens items size list. stocks_taken size n.me c.args.now list (server n items) from m
    (misfits n.me n.plain from m) [] (stock n)
    (stock c.try_open.new.self) (sym c.misfits_beat.ensures.test ∙ c.if-misfits_beat.false)
    (stocks_on [] n.me (server n items)
    (on_message size n.me c.args.now list (server n items) from m) (stock n)
    (stock c.heed_beat.new.self) (stock c.try_open.new.self)
    (c.in_ok-heed_beat.ensures.stock items from) opens))
    c.try_open.ensures.stock
