-- A further entry, by its place.
use Rattle.std.proofs.Common.{◌≡◌, ℕ, suc, ◌+◌, ◌<◌, ◌≤◌, [], ◌∷◌, ◌++◌, length, set, Some, None, refl, ap, ◌∙◌, arith}
use Rattle.file_tree.specs.declared.object.Slot.{Slot}
use Rattle.file_tree.specs.Tree.{Slots, free_from, with_entry}

-- the first free place from i on, where the first slot has an entry
next_free : (i j : ℕ) (slots : Slots) → free_from (i + j) slots ≡ i + free_from j slots
unfolding free_from
next_free i j [] = refl
next_free i j (None ∷ slots) = refl
next_free i j (Some s ∷ slots) = let e : i + j + 1 ≡ i + (j + 1) = omega arith in
    rw e (next_free i (j + 1) slots)

-- an entry takes the first free slot
pub with_entry_set : (slots : Slots) (s : Slot) → free_from 0 slots < length slots
    → set slots (free_from 0 slots) (Some s) ≡ with_entry slots s
unfolding free_from with_entry
with_entry_set [] s lt = absurd (omega arith)
with_entry_set (None ∷ slots) s lt = refl
with_entry_set (Some t ∷ slots) s lt =
    let e : free_from (0 + 1) slots ≡ suc (free_from 0 slots) = next_free 1 0 slots ∙ omega arith in
    rw e (ap (λ (ss : Slots). Some t ∷ ss) (with_entry_set slots s (omega (arith, e, lt))))

-- or else a new last one
pub with_entry_push : (slots : Slots) (s : Slot) → length slots ≤ free_from 0 slots
    → slots ++ Some s ∷ [] ≡ with_entry slots s
unfolding free_from with_entry
with_entry_push [] s le = refl
with_entry_push (None ∷ slots) s le = absurd (omega arith)
with_entry_push (Some t ∷ slots) s le =
    let e : free_from (0 + 1) slots ≡ suc (free_from 0 slots) = next_free 1 0 slots ∙ omega arith in
    ap (λ (ss : Slots). Some t ∷ ss) (with_entry_push slots s (omega (arith, e, le)))

pub ruleset further_entries = (with_entry_set, with_entry_push)
