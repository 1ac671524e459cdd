use Rattle.std.proofs.Common.{ℕ, List, Some, subst}
use Rattle.overlay.specs.Index.{IsLast}
use Rattle.overlay.specs.Indices.{is_among}
use Rattle.overlay.proofs.Ascending.{end_by, last_is_end}
use Rattle.overlay.proofs.indices.Indices.last_upto.Goals as goal

pub returns-in-Some : goal.returns-in-Some
returns-in-Some c =
    let items = c.self.inside.items.items in
    let last = c.in-Some.last.now in
    let there = c.in-Some.ensures.item.3 in
    subst (λ (l : List ℕ). IsLast (is_among l) c.args.upto (Some last)) c.self.view_is
    (last_is_end items last c.args.upto c.self.invariant
    (end_by items last c.self.inside.items.len c.self.inside.items.ok.0 there.0 there.1) c.if-last-upto.true)
