use Rattle.std.proofs.Common.{arith, ◌==◌, ℕ, cond, true, ltb, List, rules, sym, subst, ap, ◌∙◌}
use Rattle.std.proofs.lemmas.List.Sorted.{IsPartitionPoint-from_clause}
use Rattle.overlay.specs.Indices.{Ascend, is_among}
use Rattle.overlay.proofs.Ascending.{IsNotAt, IsPlaceOf, inserted_ascends, inserted_is, parted_below}
use Rattle.overlay.proofs.indices.Indices.put.Goals as goal

pub invariant_of-self : goal.invariant_of-self
invariant_of-self c =
    let items = c.self.inside.items.items in
    let at = c.partition_point-at.result in
    let point : IsPlaceOf items c.args.index at =
    IsPartitionPoint-from_clause (λ i. ltb i c.args.index) _ _ c.partition_point-at.ensures.partitioned
    (parted_below items c.args.index c.self.invariant) (λ a r q k. search rules) in
    let none : IsNotAt items c.args.index at =
    subst (λ (l : List ℕ). IsNotAt l c.args.index at) (sym c.self.view_is) (c.stands_at.ensures.not c.if-not-stands_at.true) in
    subst Ascend (sym c.in_ok-insert.ensures.items)
    (inserted_ascends items c.args.index at (omega (arith, c.partition_point-at.ensures.bound, c.self.inside.items.ok)) c.self.invariant point none)

pub returns-in_ok-insert-clause-added : goal.returns-in_ok-insert-clause-added
returns-in_ok-insert-clause-added c i =
    ap (λ (l : List ℕ). is_among l i) c.in_ok-insert.ensures.items
    ∙ inserted_is c.self.inside.items.items c.args.index c.partition_point-at.result i
    ∙ ap (λ (l : List ℕ). cond (c.args.index == i) true (is_among l i)) c.self.view_is
