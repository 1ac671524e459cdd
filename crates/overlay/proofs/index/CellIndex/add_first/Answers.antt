use Rattle.std.proofs.Common.{◌<◌, Some, ℕ, List, length, refl, sym, subst, arith}
use Rattle.overlay.proofs.Places.{first_index, found, none_at, one_named, still_in_use}
use Rattle.overlay.proofs.index.CellIndex.add_first.Goals as goal

pub returns-clause-added : goal.returns-clause-added
returns-clause-added c none =
    let old = c.self.inside.places.entries in
    let before = found old c.args.place in
    one_named old c.insert.new.self.entries c.args.self.now c.args.place c.args.index (Some c.in_ok-indices.indices)
    before c.self.view_is refl
    (first_index c.in_ok-indices.indices c.args.index before c.in_ok-indices.ensures
    (none_at old c.args.self.now c.args.place c.self.view_is none))
    c.in_ok-insert.ensures.updates.0

pub invariant_of-self-2 : goal.invariant_of-self-2
invariant_of-self-2 c =
    still_in_use c.args.place (Some c.in_ok-indices.indices) c.self.inside.places.entries c.insert.new.self.entries
    c.self.invariant (subst (λ (s : List ℕ). 0 < length s) (sym c.in_ok-indices.ensures) (omega arith))
    c.in_ok-insert.ensures.updates.0
