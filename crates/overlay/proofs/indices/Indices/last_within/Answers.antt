use Rattle.std.proofs.Common.{◌≡◌, ◌<◌, ◌≤◌, zero, suc, Bor, ℕ, List, None, Option, Some, arith, get_or, leb, length, rules, refl, ap, subst, ◌∙◌}
use Rattle.std.specs.Option.{option_copied}
use Rattle.std.specs.Slice.{IsItemAt}
use Rattle.std.proofs.lemmas.List.Sorted.{IsPartitionPoint-from_clause}
use Rattle.overlay.specs.Index.{IsLast}
use Rattle.overlay.specs.Indices.{is_among}
use Rattle.overlay.proofs.Ascending.{IsBound, last_within, none_within, parted_upto}
use Rattle.overlay.proofs.indices.Indices.last_within.Goals as goal

nought : (k : ℕ) → (1 ≤ k → ⊥) → k ≡ 0
nought zero h = refl
nought (suc k) h = absurd (h (omega arith))

copied_at : (items : List ℕ) (at : ℕ) (r : Option (Bor ℕ)) → IsItemAt items at r → at < length items
    → option_copied r ≡ Some (get_or items at 0)
copied_at items at None item inside = let e = item.2 inside in absurd cc
copied_at items at (Some x) item inside = ap (λ (i : ℕ). Some i) (item.3.1 0)

pub returns-in_err-at : goal.returns-in_err-at
returns-in_err-at c =
    let items = c.self.inside.items.items in
    let point : IsBound items c.args.upto c.partition_point-after.result =
    IsPartitionPoint-from_clause (λ i. leb i c.args.upto) _ _ c.partition_point-after.ensures.partitioned
    (parted_upto items c.args.upto c.self.invariant) (λ a r q k. search rules) in
    rw c.from_residual.ensures
    (subst (λ (l : List ℕ). IsLast (is_among l) c.args.upto None) c.self.view_is
    (none_within items c.args.upto c.partition_point-after.result point
    (nought c.partition_point-after.result c.in_err-at.ensures)))

pub returns : goal.returns
returns c =
    let items = c.self.inside.items.items in
    let k = c.partition_point-after.result in
    let point : IsBound items c.args.upto k =
    IsPartitionPoint-from_clause (λ i. leb i c.args.upto) _ _ c.partition_point-after.ensures.partitioned
    (parted_upto items c.args.upto c.self.invariant) (λ a r q k. search rules) in
    let at = c.in_ok-at.ensures in
    let bound : k ≤ length items = omega (arith, c.partition_point-after.ensures.bound, c.self.inside.items.ok) in
    rw (c.copied.ensures
    ∙ copied_at items c.in_ok-at.at c.get.result c.get.ensures.item (omega (arith, at, bound)))
    (subst (λ (l : List ℕ). IsLast (is_among l) c.args.upto (Some (get_or items c.in_ok-at.at 0))) c.self.view_is
    (last_within items c.args.upto k (get_or items c.in_ok-at.at 0) c.self.invariant point bound
    (omega (arith, at)) (ap (λ (j : ℕ). get_or items j 0) at.1)))
