use Rattle.std.proofs.Common.{◌<◌, ◌≤◌, length, get_or, None, arith, sym, ◌∙◌}
use Rattle.inode_dirs.proofs.HeldSlots.{slot_then}
use Rattle.inode_dirs.proofs.Searches.{entry_passes, entry_hits, entry_ends}
use Rattle.inode_dirs.proofs.entries.find_from.Goals as goal

pub returns-in-Some-clause-found : goal.returns-in-Some-clause-found
returns-in-Some-clause-found g c held t =
    let at = c.loop-slot.slot in
    let told = slot_then _ _ _ _ held at c.loop-slot.invariant.kept t in
    let named = c.in_ok-object.ensures.found (get_or held at None) told in
    let within : at < length held = omega (arith, t.count, c.loop-slot-test.true) in
    entry_hits held at c.args.name.now c.in-Some.object within (sym named ∙ c.in-Some.is)
    ∙ c.loop-slot.invariant.found held t

pub loop-slot-preserved : goal.loop-slot-preserved
loop-slot-preserved g c = record {
  kept = c.object_at.ensures.kept ∙ c.loop-slot.invariant.kept;
  left = c.object_at.ensures.left ∙ c.loop-slot.invariant.left;
  count = omega (arith, c.object_at.ensures.count, c.loop-slot.invariant.count);
  found = λ held t.
      let at = c.loop-slot.slot in
      let told = slot_then _ _ _ _ held at c.loop-slot.invariant.kept t in
      let named = c.in_ok-object.ensures.found (get_or held at None) told in
      let within : at < length held = omega (arith, t.count, c.loop-slot-test.true) in
      entry_passes held at c.args.name.now within (sym named ∙ c.in_default.is)
      ∙ c.loop-slot.invariant.found held t;
}

pub returns-clause-found : goal.returns-clause-found
returns-clause-found g c held t =
    let past : length held ≤ c.loop-slot.slot = omega (arith, t.count, c.loop-slot-test.false) in
    entry_ends held c.loop-slot.slot c.args.name.now past ∙ c.loop-slot.invariant.found held t
