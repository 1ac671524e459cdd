use Rattle.std.proofs.Common.{◌≤◌, List, length, arith, ap, subst}
use Rattle.std.proofs.lemmas.List.{take_all}
use Rattle.cell_cache.specs.Entries.{Kept}
use Rattle.harp_cells.specs.declared.change.Change.{Change}
use Rattle.tree_log.specs.Applying.{AreLeftBy}
use Rattle.tree_log.proofs.Forgetting.{more_left, none_left}
use Rattle.tree_log.proofs.applying.forget_changes.Goals as goal

pub loop-change-init : goal.loop-change-init
loop-change-init c = none_left c.args.cache.now.entries

pub loop-change-preserved : goal.loop-change-preserved
loop-change-preserved c =
    more_left c.args.changes.now c.loop-change.change-index c.change-item.result
    c.args.cache.now.entries c.loop-change.cache.entries c.forget.new.self.entries
    c.loop-change-test.true c.change-item.is (ap (λ (k : Kept). k.entries) c.forget.ensures.left)
    c.loop-change.invariant

pub returns : goal.returns
returns c =
    let all : length c.args.changes.now ≤ c.loop-change.change-index =
    omega (arith, c.loop-change-test.false, c.loop-change.auto.change-index-end) in
    subst (λ (l : List Change). AreLeftBy l c.args.cache.now.entries c.loop-change.cache.entries)
    (take_all c.loop-change.change-index c.args.changes.now all) c.loop-change.invariant
