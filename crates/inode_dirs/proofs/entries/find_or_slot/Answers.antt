use Rattle.std.proofs.Common.{◌≡◌, ◌<◌, ◌≤◌, length, get_or, None, arith, sym, ◌∙◌}
use Rattle.inode_dirs.proofs.HeldSlots.{slot_then, slots_then}
use Rattle.inode_dirs.proofs.Searches.{entry_passes, entry_hits, entry_ends, free_passes, free_hits, free_ends}
use Rattle.inode_dirs.proofs.entries.find_or_slot.Goals as goal

pub returns-in-Some-clause-sought : goal.returns-in-Some-clause-sought
returns-in-Some-clause-sought g c held t =
    let at = c.loop-slot.slot in
    let told = slot_then _ _ _ _ held at c.loop-slot.invariant.kept t in
    let named = c.in_ok-object.ensures.found (get_or held at None) told in
    let within : at < length held = omega (arith, t.count, c.loop-slot-test.true) in
    sym (entry_hits held at c.args.name.now c.in-Some.object within (sym named ∙ c.in-Some.is)
    ∙ c.loop-slot.invariant.found held t)

pub loop-slot-preserved : goal.loop-slot-preserved
loop-slot-preserved g c = record {
  kept = c.look_at.ensures.kept ∙ c.loop-slot.invariant.kept;
  left = c.look_at.ensures.left ∙ c.loop-slot.invariant.left;
  count = omega (arith, c.look_at.ensures.count, c.loop-slot.invariant.count);
  found = λ held t.
      let at = c.loop-slot.slot in
      let told = slot_then _ _ _ _ held at c.loop-slot.invariant.kept t in
      let named = c.in_ok-object.ensures.found (get_or held at None) told in
      let within : at < length held = omega (arith, t.count, c.loop-slot-test.true) in
      entry_passes held at c.args.name.now within (sym named ∙ c.in_default.is)
      ∙ c.loop-slot.invariant.found held t;
  free = λ held t.
      let at = c.loop-slot.slot in
      let told = slot_then _ _ _ _ held at c.loop-slot.invariant.kept t in
      let free = c.in_ok-object.ensures.free (get_or held at None) told in
      let within : at < length held = omega (arith, t.count, c.loop-slot-test.true) in
      free_passes held at within (sym free ∙ c.if-is_free.false)
      ∙ c.loop-slot.invariant.free held t;
}

pub returns-then-is_free-clause-sought : goal.returns-then-is_free-clause-sought
returns-then-is_free-clause-sought g c held t =
    let at = c.loop-slot.slot in
    let told = slot_then _ _ _ _ held at c.loop-slot.invariant.kept t in
    let named = c.in_ok-object.ensures.found (get_or held at None) told in
    let free = c.in_ok-object.ensures.free (get_or held at None) told in
    let within : at < length held = omega (arith, t.count, c.loop-slot-test.true) in
    c.find_behind.ensures.sought held
    (slots_then _ _ _ _ held (c.look_at.ensures.kept ∙ c.loop-slot.invariant.kept) t)
    (free_hits held at within (sym free ∙ c.if-is_free.true) ∙ c.loop-slot.invariant.free held t)
    (entry_passes held at c.args.name.now within (sym named ∙ c.in_default.is)
    ∙ c.loop-slot.invariant.found held t)

pub returns-clause-sought : goal.returns-clause-sought
returns-clause-sought g c held t =
    let end : c.args.slots ≡ c.loop-slot.slot =
    omega (arith, c.loop-slot-test.false, c.loop-slot.auto.slot-end) in
    let past : length held ≤ c.loop-slot.slot = omega (arith, t.count, end) in (
      sym (entry_ends held c.loop-slot.slot c.args.name.now past
          ∙ c.loop-slot.invariant.found held t),
      end ∙ free_ends held c.loop-slot.slot past ∙ c.loop-slot.invariant.free held t,
    )
