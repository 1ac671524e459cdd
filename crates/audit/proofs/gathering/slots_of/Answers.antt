use Rattle.std.proofs.Common.{◌+◌, List, [], ◌∷◌, ◌++◌, Option, sym, subst, ap, ◌∙◌, arith}
use Rattle.harp_cells.specs.declared.cell.Cell.TheVariants as cell
use Rattle.harp_cells.specs.declared.value.Value.{Value}
use Rattle.audit.specs.Pictures.{AreSlots, slot_read, slots_by}
use Rattle.audit.proofs.Shape.{one_slot_more}
use Rattle.audit.proofs.Steps.{fetched, slots_more}
use Rattle.audit.proofs.gathering.slots_of.Goals as goal

pub loop-slot-preserved : goal.loop-slot-preserved
loop-slot-preserved g c = record {
  kept = c.fetch.ensures.kept ∙ c.loop-slot.invariant.kept;
  left = c.fetch.ensures.left ∙ c.loop-slot.invariant.left;
  count = omega (arith, c.fetch.ensures.count, c.loop-slot.invariant.count);
  form = subst (AreSlots (c.loop-slot.slot + 1)) (sym c.in_ok-push.ensures.ok)
      (one_slot_more c.loop-slot.slot c.loop-slot.slots c.in_ok-value.value
      c.loop-slot.invariant.form c.in_ok-value.ensures.form);
  slots = λ held told.
      let number = c.args.number in
      let at = c.loop-slot.slot in
      c.in_ok-push.ensures.ok
      ∙ ap (λ (s : List (Option Value)). s ++ c.in_ok-value.value ∷ [])
      (c.loop-slot.invariant.slots held told)
      ∙ ap (λ (v : Option Value). slots_by held number at ++ v ∷ [])
      (c.in_ok-value.ensures.value ∙ ap slot_read (fetched _ held (cell.Slot number at) _
      (c.loop-slot.invariant.kept ∙ told) c.in_ok-fetch.ensures.found))
      ∙ sym (slots_more held number at);
}
