use Rattle.std.proofs.Common.{ℕ, Bor, List, Option, sym, ap, ◌∙◌}
use Rattle.std.specs.Option.{option_map}
use Rattle.file_tree.specs.declared.object.Slot.{Slot}
use Rattle.audit.proofs.Twins.{found_twin, no_names, no_twin, step_none, step_some}
use Rattle.audit.proofs.flaws.has_twins.Goals as goal
use Rattle.audit.proofs.flaws.has_twins.Goals.{in-None}
use Rattle.audit.proofs.flaws.has_twins.Goals.{in-Some+in_ok-insert-in-Some+else-not-branch}

abbrev shown : Option (ℕ × Bor (List ℕ)) → Option Slot
shown e = option_map (λ (p : ℕ × Bor (List ℕ)).
    let s : Slot = record { name = p.1.now; number = p.0 } in s) e

pub loop-slot-init : goal.loop-slot-init
loop-slot-init c = no_names c.new-seen.result.keys c.new-seen.ensures.empty

pub returns-then-not-branch : goal.returns-then-not-branch
returns-then-not-branch c =
    found_twin c.args.slots.now c.loop-slot.slot-index c.in-Some.field-0-0 c.slot-item.result
    c.in-Some.name c.loop-slot.seen c.in_ok-insert-in-Some.field-0 c.loop-slot-test.true
    c.slot-item.is (sym c.entry_in.ensures ∙ ap shown c.in-Some.is)
    c.in_ok-insert-in-Some.ensures.added c.if-not-branch.true c.loop-slot.invariant

pub loop-slot-preserved : goal.loop-slot-preserved
loop-slot-preserved c = elim c.match-entry_in.branch [
  | in-None w ↦
      step_none c.args.slots.now c.loop-slot.slot-index c.slot-item.result c.loop-slot.seen
      c.match-entry_in.seen c.loop-slot-test.true c.slot-item.is
      (sym c.entry_in.ensures ∙ ap shown w.in-None.is) w.seen-is c.loop-slot.invariant
  | in-Some+in_ok-insert-in-Some+else-not-branch w ↦
      step_some c.args.slots.now c.loop-slot.slot-index w.in-Some.field-0-0 c.slot-item.result
      w.in-Some.name c.loop-slot.seen w.insert.new.self c.match-entry_in.seen
      w.in_ok-insert-in-Some.field-0
      c.loop-slot-test.true c.slot-item.is (sym c.entry_in.ensures ∙ ap shown w.in-Some.is)
      w.in_ok-insert-in-Some.ensures.added w.if-not-branch.false
      w.in_ok-insert-in-Some.ensures.keys w.seen-is c.loop-slot.invariant
]

pub returns : goal.returns
returns c =
    no_twin c.args.slots.now c.loop-slot.slot-index c.loop-slot.seen.keys c.loop-slot-test.false
    c.loop-slot.invariant
