use Rattle.std.proofs.Common.{◌≡◌, ◌<◌, ◌+◌, ◌-◌, List, [], length, get_or, arith, subst, ◌∙◌}
use Rattle.harp_cells.specs.declared.change.Change.{Change}
use Rattle.overlay.specs.Overlay.{IsToldBy, changes_upto}
use Rattle.overlay.proofs.Indexing.{down_past, down_told, may_indexed, none_down}
use Rattle.overlay.proofs.Walks.{told_leaves, told_same}
use Rattle.overlay.proofs.set.last_set.Goals as goal

pub changes-requires-clause-from : goal.changes-requires-clause-from
changes-requires-clause-from g c =
    (may_indexed c.args.index.now (g.L.ChangeLog.base c.args.log.now) (g.L.ChangeLog.records c.args.log.now) c.args.cell
    c.in-Some.record c.requires.index c.in-Some.ensures.1).0

pub returns-then-not-is_empty : goal.returns-then-not-is_empty
returns-then-not-is_empty g c =
    let base = g.L.ChangeLog.base c.args.log.now in
    let records = g.L.ChangeLog.records c.args.log.now in
    let cell = c.args.cell in
    let found = c.from_last-found.result.now in
    let some : 0 < length found = grind (arith, c.is_empty.ensures, c.if-not-is_empty.true) in
    let within = may_indexed c.args.index.now base records cell c.in-Some.record c.requires.index c.in-Some.ensures.1 in
    let one : IsToldBy cell (get_or records (c.in-Some.record - (base + 1)) []) found =
    subst (λ (l : List Change). IsToldBy cell l found) c.changes.ensures c.from_last-found.ensures in
    told_same cell (changes_upto base records c.loop-record.below) (changes_upto base records c.args.upto) found
    c.loop-record.invariant.same
    (down_told c.args.index.now base records cell c.loop-record.below c.in-Some.record found c.requires.index within.0
    c.in-Some.ensures.0 c.in-Some.ensures.2 some one)

pub overflow_sub-below : goal.overflow_sub-below
overflow_sub-below g c =
    let within = may_indexed c.args.index.now (g.L.ChangeLog.base c.args.log.now) (g.L.ChangeLog.records c.args.log.now)
    c.args.cell c.in-Some.record c.requires.index c.in-Some.ensures.1 in
    omega (arith, within.0)

pub loop-record-smaller : goal.loop-record-smaller
loop-record-smaller g c =
    let within = may_indexed c.args.index.now (g.L.ChangeLog.base c.args.log.now) (g.L.ChangeLog.records c.args.log.now)
    c.args.cell c.in-Some.record c.requires.index c.in-Some.ensures.1 in
    omega (arith, within.0, c.in-Some.ensures.0)

pub loop-record-preserved : goal.loop-record-preserved
loop-record-preserved g c =
    let base = g.L.ChangeLog.base c.args.log.now in
    let records = g.L.ChangeLog.records c.args.log.now in
    let cell = c.args.cell in
    let found = c.from_last-found.result.now in
    let none : length found ≡ 0 = grind (arith, c.is_empty.ensures, c.if-not-is_empty.false) in
    let within = may_indexed c.args.index.now base records cell c.in-Some.record c.requires.index c.in-Some.ensures.1 in
    let one : IsToldBy cell (get_or records (c.in-Some.record - (base + 1)) []) found =
    subst (λ (l : List Change). IsToldBy cell l found) c.changes.ensures c.from_last-found.ensures in
    record {
      low = omega (arith, c.in-Some.ensures.0, c.loop-record.invariant.low);
      same = λ held. c.loop-record.invariant.same held
          ∙ down_past c.args.index.now base records cell c.loop-record.below c.in-Some.record c.requires.index within.0
          c.in-Some.ensures.0 c.in-Some.ensures.2
          (told_leaves cell (get_or records (c.in-Some.record - (base + 1)) []) found none one) held;
    }

pub returns : goal.returns
returns g c held = c.loop-record.invariant.same held
    ∙ none_down c.args.index.now (g.L.ChangeLog.base c.args.log.now) (g.L.ChangeLog.records c.args.log.now) c.args.cell
    c.loop-record.below c.requires.index c.in_default.ensures held
