use Rattle.std.proofs.Common.{ℕ, List, ◌++◌, [], false, length, refl, ap, subst, take}
use Rattle.std.proofs.lemmas.List.{take_all}
use Rattle.audit.specs.Entries.{AreNamed, entries_by, entries_in}
use Rattle.audit.proofs.Said.{nothing_said}
use Rattle.audit.proofs.Steps.{flat_more}
use Rattle.audit.proofs.entries.names_by.Goals as goal

pub loop-object-init : goal.loop-object-init
unfolding entries_in
loop-object-init c =
    nothing_said c.args.objects.now (record { count = 0; held = false }) c.in_ok-names.names.items
    (length c.args.objects.now) refl refl refl
    (c.in_ok-names.ensures.items_if_clones_equal (λ y h. h))

pub loop-object-preserved : goal.loop-object-preserved
unfolding entries_in
loop-object-preserved c =
    let before = entries_in (take c.loop-object.object-index c.args.some.now) in
    subst (λ (es : List (ℕ × ℕ)). AreNamed c.args.objects.now es c.count_entries.new.names.items)
    (flat_more entries_by [] before (before ++ entries_by c.object-item.result) c.args.some.now
    c.loop-object.object-index c.object-item.result c.loop-object-test.true c.object-item.is
    refl refl)
    (c.count_entries.ensures before c.loop-object.invariant)

pub returns : goal.returns
returns c =
    subst (λ (es : List (ℕ × ℕ)). AreNamed c.args.objects.now es c.loop-object.names.items)
    (ap entries_in (take_all c.loop-object.object-index c.args.some.now c.loop-object-test.false))
    c.loop-object.invariant
