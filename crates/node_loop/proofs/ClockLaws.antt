-- Readings of a clock, one after the other.
use Rattle.std.proofs.Common.{◌∙◌, List, [], ◌∷◌, ◌++◌, Option, None, Some, ap}
use Rattle.std.proofs.lemmas.List.{append_assoc}
use Rattle.node_link.specs.Readings.{MayTell}
use Rattle.node_link.specs.declared.clock.Reading.{Reading}
use Rattle.node_loop.specs.Turn.{MayTellAll}

pub tells-both : (r s : Reading) (a b c : Option (List Reading)) → MayTell r a b → MayTell s b c
    → MayTellAll (r ∷ s ∷ []) a c
tells-both r s a b None first then_ = tt
tells-both r s a None (Some z) first then_ = absurd then_
tells-both r s None (Some y) (Some z) first then_ = absurd first
tells-both r s (Some x) (Some y) (Some z) first then_ =
    then_ ∙ ap (λ rs. rs ++ s ∷ []) first ∙ append_assoc x (r ∷ []) (s ∷ [])
