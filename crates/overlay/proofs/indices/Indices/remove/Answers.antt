use Rattle.std.proofs.Common.{◌≡◌, ◌==◌, ◌<◌, ℕ, cond, false, get_or, length, List, sym, subst, ap, ◌∙◌}
use Rattle.overlay.specs.Indices.{Ascend, is_among}
use Rattle.overlay.proofs.Ascending.{removed_ascends, removed_is}
use Rattle.overlay.proofs.indices.Indices.remove.Goals as goal

abbrev StandsFirst : List ℕ → ℕ → Type 0
StandsFirst items index = (0 < length items) × (index ≡ get_or items 0 0)

pub invariant_of-self : goal.invariant_of-self
invariant_of-self c =
    let items = c.self.inside.items.items in
    let there : StandsFirst items c.args.index =
    subst (λ (l : List ℕ). StandsFirst l c.args.index) (sym c.self.view_is) (c.stands_at.ensures.there c.if-stands_at.true) in
    subst Ascend (sym c.pop_front.ensures.rest)
    (removed_ascends items c.args.index 0 there.0 there.1 c.self.invariant)

pub returns-then-stands_at : goal.returns-then-stands_at
returns-then-stands_at c i =
    let items = c.self.inside.items.items in
    let there : StandsFirst items c.args.index =
    subst (λ (l : List ℕ). StandsFirst l c.args.index) (sym c.self.view_is) (c.stands_at.ensures.there c.if-stands_at.true) in
    ap (λ (l : List ℕ). is_among l i) c.pop_front.ensures.rest
    ∙ removed_is items c.args.index 0 i there.0 there.1 c.self.invariant
    ∙ ap (λ (l : List ℕ). cond (c.args.index == i) false (is_among l i)) c.self.view_is
