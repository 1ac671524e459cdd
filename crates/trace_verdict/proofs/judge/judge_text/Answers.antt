use Rattle.std.proofs.Common.{arith, rules, subst, sym}
use Rattle.line_reader.specs.Reading.{text_left}
use Rattle.trace_verdict.specs.Judging.{AfterToldTurn}
use Rattle.trace_verdict.specs.declared.verdict.Verdict.TheVariants.{Yes}
use Rattle.trace_verdict.specs.Verdicts.{IsVerdictOn}
use Rattle.trace_verdict.proofs.Turning.{first_way, held_none}
use Rattle.trace_verdict.proofs.judge.judge_text.Goals as goal

pub loop-verdict-init : goal.loop-verdict-init
loop-verdict-init g c = record {
  few = omega (arith, c.in-Ok-new.ensures.lines);
  way = λ text e. first_way text c.in-Ok.reader (g.S.Source.left c.args.source.now)
      c.in-Ok-new.judge c.in-Ok-new.ensures c.in-Ok.ensures e;
  count = omega arith;
}

pub turn-requires : goal.turn-requires
turn-requires g c = c.loop-verdict.invariant.few

pub loop-verdict-smaller : goal.loop-verdict-smaller
loop-verdict-smaller g c =
    let more = c.turn.ensures.lines (search (rules)) in
    omega (arith, more.0, more.1)

pub loop-verdict-preserved : goal.loop-verdict-preserved
loop-verdict-preserved g c =
    let more = c.turn.ensures.lines (search (rules)) in
    let told = text_left c.turn.new.reader (g.S.Source.left c.turn.new.source) in
    record {
      few = omega (arith, more.0, more.1);
      way = λ text e. let way = c.loop-verdict.invariant.way text e in
          subst (AfterToldTurn text told c.turn.new.self) c.in-Ok-None.field-0-is
          (c.in-Ok-None.ensures.after text way.left way.told_is way.way);
      count = omega (arith, c.loop-verdict.invariant.count, c.turn.ensures.count);
    }

pub returns-in-Ok-Some-clause-verdict : goal.returns-in-Ok-Some-clause-verdict
returns-in-Ok-Some-clause-verdict g c text e =
    let told = text_left c.turn.new.reader (g.S.Source.left c.turn.new.source) in
    let way = c.loop-verdict.invariant.way text e in
    (subst (AfterToldTurn text told c.turn.new.self) c.in-Ok-Some.field-0-is
    (c.in-Ok-Some.ensures.after text way.left way.told_is way.way)).decides.is

pub returns-in-Ok-Some-clause-only : goal.returns-in-Ok-Some-clause-only
returns-in-Ok-Some-clause-only g c text e =
    let told = text_left c.turn.new.reader (g.S.Source.left c.turn.new.source) in
    let way = c.loop-verdict.invariant.way text e in
    (subst (AfterToldTurn text told c.turn.new.self) c.in-Ok-Some.field-0-is
    (c.in-Ok-Some.ensures.after text way.left way.told_is way.way)).decides.only

pub returns-in-Ok-Some-clause-yes : goal.returns-in-Ok-Some-clause-yes
returns-in-Ok-Some-clause-yes g c text e =
    let told = text_left c.turn.new.reader (g.S.Source.left c.turn.new.source) in
    let way = c.loop-verdict.invariant.way text e in
    let by = subst (AfterToldTurn text told c.turn.new.self) c.in-Ok-Some.field-0-is
    (c.in-Ok-Some.ensures.after text way.left way.told_is way.way) in
    (λ yes. subst (IsVerdictOn text) yes by.decides.is, λ right. sym (by.decides.only Yes right))

pub returns-in-Ok-Some-clause-read : goal.returns-in-Ok-Some-clause-read
returns-in-Ok-Some-clause-read g c text e is =
    let told = text_left c.turn.new.reader (g.S.Source.left c.turn.new.source) in
    let way = c.loop-verdict.invariant.way text e in
    let by = subst (AfterToldTurn text told c.turn.new.self) c.in-Ok-Some.field-0-is
    (c.in-Ok-Some.ensures.after text way.left way.told_is way.way) in
    held_none c.turn.new.reader (g.S.Source.left c.turn.new.source) (by.read cc)

pub returns-in-Ok-Some-clause-count : goal.returns-in-Ok-Some-clause-count
returns-in-Ok-Some-clause-count g c =
    omega (arith, c.loop-verdict.invariant.count, c.turn.ensures.count)

pub returns-in-Err-turn-clause-rose : goal.returns-in-Err-turn-clause-rose
returns-in-Err-turn-clause-rose g c failed = omega (
  arith,
  c.in-Err-turn.ensures.rose cc,
  c.loop-verdict.invariant.count,
)

pub returns-in-Err-turn-clause-count : goal.returns-in-Err-turn-clause-count
returns-in-Err-turn-clause-count g c =
    omega (arith, c.loop-verdict.invariant.count, c.turn.ensures.count)
