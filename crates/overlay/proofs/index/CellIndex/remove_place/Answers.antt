use Rattle.std.proofs.Common.{Some, None, refl, ap, subst, arith}
use Rattle.std.specs.Prelude.{IsSome}
use Rattle.overlay.proofs.Places.{gone_after, last_index, none_gone, one_gone, still_in_use}
use Rattle.overlay.proofs.index.CellIndex.remove_place.Goals as goal

pub returns-in_default : goal.returns-in_default
returns-in_default c =
    none_gone c.self.inside.places.entries c.get_mut.follows.lender-at-none.entries c.args.self.now c.args.place
    c.args.index (ap (λ m. m.entries) c.get_mut.follows.holds-at-none) c.self.view_is c.in_default.ensures.value

pub returns-then-is_empty : goal.returns-then-is_empty
returns-then-is_empty c =
    let old = c.self.inside.places.entries in
    let there = c.in-Some.ensures.value in
    one_gone old c.remove-then-is_empty.new.self.entries c.args.self.now c.args.place c.args.index None
    (Some c.in-Some.indices.now) c.self.view_is there
    (last_index c.in-Some.indices.now c.remove.new.self c.args.index (c.is_empty.ensures.0 c.if-is_empty.true)
    c.remove.ensures)
    (gone_after c.args.place None (Some c.remove.new.self) old (c.get_mut.follows.lender c.remove.new.self).entries
    c.remove-then-is_empty.new.self.entries
    ((c.get_mut.follows.holds c.remove.new.self).3 (subst IsSome there refl)).0
    c.remove-then-is_empty.ensures.updates.0)

pub returns-else-is_empty : goal.returns-else-is_empty
returns-else-is_empty c =
    let there = c.in-Some.ensures.value in
    one_gone c.self.inside.places.entries (c.get_mut.follows.lender c.remove.new.self).entries c.args.self.now
    c.args.place c.args.index (Some c.remove.new.self) (Some c.in-Some.indices.now) c.self.view_is there
    c.remove.ensures
    ((c.get_mut.follows.holds c.remove.new.self).3 (subst IsSome there refl)).0

pub invariant_of-self-then-is_empty : goal.invariant_of-self-then-is_empty
invariant_of-self-then-is_empty c =
    let old = c.self.inside.places.entries in
    let there = c.in-Some.ensures.value in
    still_in_use c.args.place None old c.remove-then-is_empty.new.self.entries c.self.invariant tt
    (gone_after c.args.place None (Some c.remove.new.self) old (c.get_mut.follows.lender c.remove.new.self).entries
    c.remove-then-is_empty.new.self.entries
    ((c.get_mut.follows.holds c.remove.new.self).3 (subst IsSome there refl)).0
    c.remove-then-is_empty.ensures.updates.0)

pub invariant_of-self-else-is_empty : goal.invariant_of-self-else-is_empty
invariant_of-self-else-is_empty c =
    let there = c.in-Some.ensures.value in
    still_in_use c.args.place (Some c.remove.new.self) c.self.inside.places.entries
    (c.get_mut.follows.lender c.remove.new.self).entries c.self.invariant
    (grind (arith, c.is_empty.ensures, c.if-is_empty.false))
    ((c.get_mut.follows.holds c.remove.new.self).3 (subst IsSome there refl)).0
