use Rattle.std.proofs.Common.{sym, ap, subst, arith}
use Rattle.volatile_log.specs.Log.{LogValue}
use Rattle.tree_log.specs.Reading.{HoldsTree}
use Rattle.tree_log.specs.TreeLog.{TreeLogValue}
use Rattle.tree_log.proofs.Holding.{dropped_holds}
use Rattle.tree_log.proofs.Indexed.{IsIndexedTo, indexed_dropped}
use Rattle.tree_log.proofs.tree_log.TreeLog.drop_to.Goals as goal

pub invariant_of-self : goal.invariant_of-self
invariant_of-self c =
    let log = c.self.inside.log in
    let index = c.drop_indexed.new.index in
    let indexed = c.drop_indexed.new.indexed in
    let base = ap (λ (t : TreeLogValue). t.log.base) c.self.view_is in
    let from = c.requires.0 in
    let within = c.drop_indexed.ensures.within in
    subst (λ (g : LogValue). IsIndexedTo index indexed g) (sym c.drop_to.ensures)
    (indexed_dropped index indexed c.args.n log (omega (arith, base, from)) within.0 within.1
    c.drop_indexed.ensures.index)

pub returns-clause-tree : goal.returns-clause-tree
returns-clause-tree c list upto told h =
    let log = c.self.inside.log in
    let from = c.requires.0 in
    let to = c.requires.1 in
    let base = ap (λ (t : TreeLogValue). t.log.base) c.self.view_is in
    let lb = ap (λ (t : TreeLogValue). t.log.lb) c.self.view_is in
    let order = c.base.ensures.order in
    let is_lb = order.lb in
    let is_ap = order.ap in
    let is_cp = order.cp in
    subst (λ (g : LogValue). HoldsTree list upto g told) (sym c.drop_to.ensures)
    (dropped_holds list upto c.args.n log told (omega (arith, base, from))
    (omega (arith, lb, to, is_lb, is_ap, is_cp))
    (subst (λ (t : TreeLogValue). HoldsTree list upto t.log told) (sym c.self.view_is) h))
