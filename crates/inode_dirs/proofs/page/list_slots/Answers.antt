use Rattle.std.proofs.Common.{◌+◌, ◌<◌, ◌≤◌, length, get_or, drop, None, arith, refl, sym, ◌∙◌}
use Rattle.file_tree.specs.Outcome.{entries_from}
use Rattle.inode_dirs.proofs.HeldSlots.{slot_then}
use Rattle.inode_dirs.proofs.PageSteps.{after_skipped, after_slots, after_next}
use Rattle.inode_dirs.proofs.page.list_slots.Goals as goal

pub loop-slot-init : goal.loop-slot-init
loop-slot-init g c = record {
  kept = refl;
  left = refl;
  count = omega arith;
  page = λ held t fits.
      let page = c.args.page.now in
      rw c.saturating_sub-slot.ensures (after_skipped page.entries.items page.above page.room held);
}

pub returns-then-not-branch-clause-page : goal.returns-then-not-branch-clause-page
returns-then-not-branch-clause-page g c held t fits =
    let page = c.loop-slot.page in
    let at = c.loop-slot.slot in
    let told = slot_then _ _ _ _ held at c.loop-slot.invariant.kept t in
    let is = c.in_ok-entry.ensures.entry (get_or held at None) told
    (omega (arith, fits, c.loop-slot-test.true)) in
    let within : at < length held = omega (arith, t.count, c.loop-slot-test.true) in
    let more = entries_from (at + 1 + 3) (drop (at + 1) held) in
    let offered = rw c.if-not-branch.true at (c.in_ok-offer_some.ensures.page more) in
    sym (c.loop-slot.invariant.page held t fits)
    ∙ after_next page.entries.items page.above page.room held at c.in_ok-entry.entry within is
    ∙ offered

pub loop-slot-preserved : goal.loop-slot-preserved
loop-slot-preserved g c = record {
  kept = c.entry_of_slot.ensures.kept ∙ c.loop-slot.invariant.kept;
  left = c.entry_of_slot.ensures.left ∙ c.loop-slot.invariant.left;
  count = omega (arith, c.entry_of_slot.ensures.count, c.loop-slot.invariant.count);
  page = λ held t fits.
      let page = c.loop-slot.page in
      let at = c.loop-slot.slot in
      let told = slot_then _ _ _ _ held at c.loop-slot.invariant.kept t in
      let is = c.in_ok-entry.ensures.entry (get_or held at None) told
      (omega (arith, fits, c.loop-slot-test.true)) in
      let within : at < length held = omega (arith, t.count, c.loop-slot-test.true) in
      let more = entries_from (at + 1 + 3) (drop (at + 1) held) in
      let offered = rw c.if-not-branch.false at (c.in_ok-offer_some.ensures.page more) in
      sym offered
      ∙ sym (after_next page.entries.items page.above page.room held at c.in_ok-entry.entry within
      is)
      ∙ c.loop-slot.invariant.page held t fits;
}

pub returns-clause-page : goal.returns-clause-page
returns-clause-page g c held t fits =
    let page = c.loop-slot.page in
    let past : length held ≤ c.loop-slot.slot = omega (arith, t.count, c.loop-slot-test.false) in
    sym (c.loop-slot.invariant.page held t fits)
    ∙ after_slots page.entries.items page.above page.room held c.loop-slot.slot past
