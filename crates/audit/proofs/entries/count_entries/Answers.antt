use Rattle.std.proofs.Common.{ℕ, List, Option, ◌++◌, refl, sym, ap, subst, ◌∙◌, take}
use Rattle.std.specs.List.{flat_map}
use Rattle.std.proofs.lemmas.List.{append-nil}
use Rattle.harp_cells.specs.declared.value.Value.{Value}
use Rattle.audit.specs.Entries.{AreNamed, entry_at}
use Rattle.audit.specs.Flaws.{entry_in}
use Rattle.audit.specs.Pictures.{is_directory_kind}
use Rattle.audit.specs.declared.attributes.Attributes.{Attributes}
use Rattle.audit.proofs.Said.{named_by_no_directory}
use Rattle.audit.proofs.Steps.{entries_of_directory, flat_done, flat_more}
use Rattle.audit.proofs.entries.count_entries.Goals as goal

pub loop-slot-init : goal.loop-slot-init
loop-slot-init c entries named =
    subst (λ (es : List (ℕ × ℕ)). AreNamed c.args.objects.now es c.args.names.now.items)
    (sym (append-nil entries)) named

pub loop-slot-preserved : goal.loop-slot-preserved
loop-slot-preserved c entries named =
    let f : Option Value → List (ℕ × ℕ) = λ s. entry_at c.args.object.now.number (entry_in s) in
    let slots = c.as_slice-slot-items.result.now in
    let before = entries ++ flat_map f (take c.loop-slot.slot-index slots) in
    subst (λ (es : List (ℕ × ℕ)). AreNamed c.args.objects.now es c.count_entry.new.names.items)
    (flat_more f entries before (before ++ f c.slot-item.result) slots c.loop-slot.slot-index
    c.slot-item.result c.loop-slot-test.true c.slot-item.is refl refl)
    (c.count_entry.ensures before (c.loop-slot.invariant entries named))

pub returns-then-not-is_directory : goal.returns-then-not-is_directory
returns-then-not-is_directory c entries named =
    named_by_no_directory c.args.objects.now entries c.args.names.now.items c.args.object.now
    (c.if-not-is_directory.ensures
    ∙ ap (λ (a : Attributes). is_directory_kind a.kind) c.attributes_in.ensures) named

pub returns : goal.returns
returns c entries named =
    let f : Option Value → List (ℕ × ℕ) = λ s. entry_at c.args.object.now.number (entry_in s) in
    let slots = c.as_slice-slot-items.result.now in
    let all = entries ++ flat_map f (take c.loop-slot.slot-index slots) in
    subst (λ (es : List (ℕ × ℕ)). AreNamed c.args.objects.now es c.loop-slot.names.items)
    (entries_of_directory c.args.object.now slots all entries
    (c.if-not-is_directory.ensures
    ∙ ap (λ (a : Attributes). is_directory_kind a.kind) c.attributes_in.ensures)
    c.as_slice-slot-items.ensures
    (flat_done f entries all slots c.loop-slot.slot-index c.loop-slot-test.false refl))
    (c.loop-slot.invariant entries named)
