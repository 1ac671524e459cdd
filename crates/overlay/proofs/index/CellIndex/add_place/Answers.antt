use Rattle.std.proofs.Common.{Some, refl, ap, subst}
use Rattle.std.specs.Prelude.{IsSome}
use Rattle.std.proofs.lemmas.Result.{on_err_weaker, on_ok_weaker}
use Rattle.overlay.proofs.Places.{newly_named, one_named, same_indices, same_named, some_left, still_in_use}
use Rattle.overlay.proofs.index.CellIndex.add_place.Goals as goal

pub returns-in-Some-clause-added : goal.returns-in-Some-clause-added
returns-in-Some-clause-added c =
    let there = c.in-Some.ensures.value in
    on_ok_weaker c.add.result
    (λ more. one_named c.self.inside.places.entries (c.get_mut.follows.lender c.add.new.self).entries c.args.self.now
    c.args.place c.args.index (Some c.add.new.self) (Some c.in-Some.indices.now) c.self.view_is there more
    ((c.get_mut.follows.holds c.add.new.self).3 (subst IsSome there refl)).0)
    c.add.ensures.added

pub returns-in-Some-clause-same : goal.returns-in-Some-clause-same
returns-in-Some-clause-same c =
    let there = c.in-Some.ensures.value in
    on_err_weaker c.add.result
    (λ same. same_named c.self.inside.places.entries (c.get_mut.follows.lender c.add.new.self).entries c.args.self.now
    c.args.place (Some c.add.new.self) (Some c.in-Some.indices.now) c.self.view_is there
    (same_indices c.in-Some.indices.now c.add.new.self same)
    ((c.get_mut.follows.holds c.add.new.self).3 (subst IsSome there refl)).0)
    c.add.ensures.same

pub returns-in-None-clause-added : goal.returns-in-None-clause-added
returns-in-None-clause-added c =
    newly_named c.add_first.result c.self.inside.places.entries c.get_mut.follows.lender-at-none.entries
    c.add_first.new.self c.args.self.now c.args.place c.args.index (ap (λ m. m.entries) c.get_mut.follows.holds-at-none)
    c.self.view_is c.in-None.ensures.value c.add_first.ensures.added

pub invariant_of-self : goal.invariant_of-self
invariant_of-self c =
    let there = c.in-Some.ensures.value in
    let old = c.self.inside.places.entries in
    still_in_use c.args.place (Some c.add.new.self) old (c.get_mut.follows.lender c.add.new.self).entries
    c.self.invariant
    (some_left c.add.result old c.args.place c.in-Some.indices.now c.add.new.self c.self.invariant there
    c.add.ensures.some c.add.ensures.same)
    ((c.get_mut.follows.holds c.add.new.self).3 (subst IsSome there refl)).0
