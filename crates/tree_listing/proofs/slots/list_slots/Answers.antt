use Rattle.std.proofs.Common.{◌≡◌, length, get_or, None, arith, refl, sym, ◌∙◌}
use Rattle.inode_dirs.proofs.HeldSlots.{slot_then}
use Rattle.tree_listing.specs.Listing.{slot_listed, slots_listed}
use Rattle.tree_listing.proofs.Gathering.{grown_by, of_none, whole_at}
use Rattle.tree_listing.proofs.slots.list_slots.Goals as goal

pub loop-slot-init : goal.loop-slot-init
loop-slot-init g c = record {
  kept = refl;
  left = refl;
  count = omega arith;
  listed = λ held t. c.new-listed.ensures ∙ sym (of_none (λ i. slot_listed i (get_or held i None)));
}

pub loop-slot-preserved : goal.loop-slot-preserved
loop-slot-preserved g c = record {
  kept = c.list_slot.ensures.kept ∙ c.loop-slot.invariant.kept;
  left = c.list_slot.ensures.left ∙ c.loop-slot.invariant.left;
  count = omega (arith, c.list_slot.ensures.count, c.loop-slot.invariant.count);
  listed = λ held t.
      let at = c.loop-slot.slot in
      let told = slot_then _ _ _ _ held at c.loop-slot.invariant.kept t in
      grown_by (λ i. slot_listed i (get_or held i None)) at c.loop-slot.listed
      c.list_slot.new.listed (slot_listed at (get_or held at None))
      (c.loop-slot.invariant.listed held t) refl
      (c.in_ok-list_slot.ensures.slot (get_or held at None) told);
}

pub returns-clause-slots : goal.returns-clause-slots
unfolding slots_listed
returns-clause-slots g c held t =
    let end : c.loop-slot.slot ≡ length held =
    omega (arith, t.count, c.loop-slot-test.false, c.loop-slot.auto.slot-end) in
    whole_at (λ i. slot_listed i (get_or held i None)) c.loop-slot.slot (length held)
    c.loop-slot.listed end (c.loop-slot.invariant.listed held t)
