use Rattle.std.proofs.Common.{arith, ◌≡◌, ◌==◌, ◌<◌, ℕ, cond, false, get_or, length, ltb, List, rules, sym, subst, ap, ◌∙◌}
use Rattle.std.specs.Prelude.{IsSome, None, Option, Some, ◌↔◌}
use Rattle.std.specs.Option.{OnSome}
use Rattle.std.proofs.lemmas.List.Sorted.{IsPartitionPoint-from_clause}
use Rattle.overlay.specs.Indices.{Ascend, is_among}
use Rattle.overlay.proofs.Ascending.{IsNotAt, IsPlaceOf, not_there, parted_below, removed_ascends, removed_is}
use Rattle.overlay.proofs.indices.Indices.take_out.Goals as goal

falsely : IsSome {T = ℕ} None → ⊥
falsely e = cc

removed : (o : Option ℕ) (P : Type 0) (at many : ℕ) → IsSome o ↔ (at < many) → at < many → OnSome o P → P
removed None P at many there lt gone = absurd (falsely (there.1 lt))
removed (Some i) P at many there lt gone = gone

abbrev StandsAt : List ℕ → ℕ → ℕ → Type 0
StandsAt items index at = (at < length items) × (index ≡ get_or items at 0)

pub invariant_of-self : goal.invariant_of-self
invariant_of-self c =
    let items = c.self.inside.items.items in
    let at = c.partition_point-at.result in
    let there : StandsAt items c.args.index at =
    subst (λ (l : List ℕ). StandsAt l c.args.index at) (sym c.self.view_is) (c.stands_at.ensures.there c.if-stands_at.true) in
    subst Ascend (sym (removed c.remove.result _ at c.self.inside.items.len c.remove.ensures.variant
    (omega (arith, there.0, c.self.inside.items.ok)) c.remove.ensures.items))
    (removed_ascends items c.args.index at there.0 there.1 c.self.invariant)

pub returns-then-stands_at : goal.returns-then-stands_at
returns-then-stands_at c i =
    let items = c.self.inside.items.items in
    let at = c.partition_point-at.result in
    let there : StandsAt items c.args.index at =
    subst (λ (l : List ℕ). StandsAt l c.args.index at) (sym c.self.view_is) (c.stands_at.ensures.there c.if-stands_at.true) in
    ap (λ (l : List ℕ). is_among l i) (removed c.remove.result _ at c.self.inside.items.len c.remove.ensures.variant
    (omega (arith, there.0, c.self.inside.items.ok)) c.remove.ensures.items)
    ∙ removed_is items c.args.index at i there.0 there.1 c.self.invariant
    ∙ ap (λ (l : List ℕ). cond (c.args.index == i) false (is_among l i)) c.self.view_is

pub returns-else-stands_at : goal.returns-else-stands_at
returns-else-stands_at c i =
    let items = c.self.inside.items.items in
    let at = c.partition_point-at.result in
    let point : IsPlaceOf items c.args.index at =
    IsPartitionPoint-from_clause (λ j. ltb j c.args.index) _ _ c.partition_point-at.ensures.partitioned
    (parted_below items c.args.index c.self.invariant) (λ a r q k. search rules) in
    let none : IsNotAt items c.args.index at =
    subst (λ (l : List ℕ). IsNotAt l c.args.index at) (sym c.self.view_is) (c.stands_at.ensures.not c.if-stands_at.false) in
    subst (λ (l : List ℕ). is_among l i ≡ cond (c.args.index == i) false (is_among l i)) c.self.view_is
    (not_there items c.args.index at i (omega (arith, c.partition_point-at.ensures.bound, c.self.inside.items.ok)) c.self.invariant point none)
