use Rattle.std.proofs.Common.{◌<◌, ◌^◌, length, refl, arith}
use Rattle.trace_claims.specs.Trace.{entries}
use Rattle.trace_check.proofs.CheckerLemmas.{entries_within, kept_same, saw_more}
use Rattle.trace_check.proofs.checker.Checker.take.Goals as goal

pub returns : goal.returns
returns c before earlier s lt f v =
    let k = kept_same before earlier c.args.self.now f.rest s.kept in
    let few : length (entries before) < 2 ^ 40 = omega (arith, lt, entries_within before) in
    saw_more before c.args.line.now earlier c.args.self.now
    (record {
      tree = c.args.self.now.tree;
      history = c.take.new.self;
      asks = c.take-2.new.self;
      network = c.take-3.new.self;
      servers = c.take-4.new.self;
      clocks = c.take-6.new.self;
      under_way = c.take-5.new.self;
    }) s f v refl (record {
      history = c.in_ok-take.ensures before k.history few;
      asks = c.in_ok-take-2.ensures before k.asks;
      network = c.in_ok-take-3.ensures before k.network;
      servers = c.in_ok-take-4.ensures before k.servers;
      clocks = c.take-6.ensures before k.clocks;
      under_way = c.in_ok-take-5.ensures before k.under_way;
    })
