use Rattle.std.proofs.Common.{◌≡◌, [], ◌∷◌, ◌++◌, sym, ap, ◌∙◌, subst}
use Rattle.volatile_log.specs.Log.{LogValue, with_record}
use Rattle.tree_log.specs.Reading.{HoldsTree}
use Rattle.tree_log.specs.TreeLog.{TreeLogValue}
use Rattle.tree_log.proofs.Holding.{grown_holds}
use Rattle.tree_log.proofs.tree_log.TreeLog.append.Goals as goal

pub returns-clause-tree : goal.returns-clause-tree
returns-clause-tree c list upto told e le is update h =
    let log : c.append.new.self ≡ with_record c.args.self.now.log c.args.item =
    c.in-Ok.ensures.ok ∙ ap (λ (t : TreeLogValue). with_record t.log c.args.item) c.self.view_is in
    subst (λ (g : LogValue). HoldsTree (list ++ e ∷ []) upto g told) (sym log)
    (grown_holds list upto c.args.self.now.log told e c.args.item le is update h)
