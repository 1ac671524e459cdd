use Rattle.std.proofs.Common.{ℕ, ◌+◌, ◌<◌, ◌^◌, arith}
use Rattle.rayon.proofs.ToStd.{nat_range-All}
use Rattle.sweep.specs.Lines.{generated}
use Rattle.sweep.proofs.RunLaws.{many_runs, if_ok}
use Rattle.sweep.proofs.runs.sweep_many.Goals as goal

pub collect-requires-clause-ready : goal.collect-requires-clause-ready
collect-requires-clause-ready g c κs within =
    let ends = c.into_par_iter.ensures in
    let fits = nat_range-All (λ run. c.args.seed + run < 2 ^ 64) 0 c.args.runs
    (λ run low high. omega (arith, high, c.requires)) in
    rw (c.map.ensures.base, c.map.ensures.f, c.with_min_len.ensures.base, ends.0, ends.1)
    (λ k d lt. (fits k d lt, λ y p. tt))

pub returns : goal.returns
returns g c =
    let ends = c.into_par_iter.ensures in
    let summary_of = λ (run : ℕ).
    g.P.Player.summary_of c.args.player.now (generated (c.args.seed + run) c.args.lines) in
    let gave = c.in_ok-collect.ensures in
    let chain =
    rw (c.map.ensures.base, c.map.ensures.f, c.with_min_len.ensures.base, ends.0, ends.1)
    at gave.1 in
    if_ok c.in_ok-collect.field-0 _ _ _
    (λ all parts. many_runs summary_of c.args.runs chain.0 gave.0 all.items parts.0 parts.2
    parts.1 chain.2 chain.1) gave.2
