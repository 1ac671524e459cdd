use Rattle.std.proofs.Common.{◌≡◌, ◌+◌, ◌≤◌, ap, sym, subst, arith}
use Rattle.tree_log.specs.Reading.{HoldsTree}
use Rattle.replica.proofs.Trees.{next_keeps}
use Rattle.replica.specs.Following.{Following}
use Rattle.volatile_log.specs.Log.{top}
use Rattle.replica.proofs.partner.Partner.take.Goals as goal

pub returns-then-get-top-clause-tree : goal.returns-then-get-top-clause-tree
returns-then-get-top-clause-tree c =
    let f = c.args.self.now in
    let tops = ap (λ (f : Following). top f.log) c.self.view_is in
    let at : c.args.item.index ≡ top f.log + 1 = omega (
      arith,
      tops,
      c.index.ensures,
      c.get.ensures.value,
      c.top-2.ensures.value,
      c.if-get-top.true,
    ) in
    next_keeps c.append.result c.args.item f.log c.append.new.self.log at
    (λ list upto told e le is update h. c.append.ensures.tree list upto told e
    (subst (λ (f : Following). upto ≤ top f.log) (sym c.self.view_is) le) is update
    (subst (λ (f : Following). HoldsTree list upto f.log told) (sym c.self.view_is) h))
