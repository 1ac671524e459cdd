use Rattle.std.proofs.Common.{List, ℕ, ◌∷◌, ◌++◌, [], sym, subst, ap, ◌∙◌}
use Rattle.overlay.specs.Indices.{Ascend}
use Rattle.overlay.proofs.Ascending.{one_ascends}
use Rattle.overlay.proofs.indices.Indices.one.Goals as goal

pub invariant_of-result : goal.invariant_of-result
invariant_of-result c =
    subst Ascend (sym (c.in_ok-push_back.ensures.items
    ∙ ap (λ (l : List ℕ). l ++ c.args.index ∷ []) c.new-items.ensures.items)) (one_ascends c.args.index)
