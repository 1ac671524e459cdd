-- The parts of a step's calls that an error leaves are some first ones of them.
use Rattle.std.proofs.Common.{◌≡◌, ℕ, zero, suc, List, [], ◌∷◌, ◌++◌, map, take, Option, refl, sym, ◌∙◌, inl, inr, arith}
use Rattle.harp_cells.specs.declared.change.Change.{Change}
use Rattle.harp_store.specs.Disk.{Moments, after_changes, after_step, changed_by}
use Rattle.power_save.specs.Saved.{puts_of}
use Rattle.store_laws.specs.Calls.{Makes, StoreCall, Syncs, Writes, told_after}
use Rattle.store_laws.specs.Laws.{PartsAreFirstChanges, PartsAreFirstFlushes, PartsAreFirstMarks, PartsAreFirstSaves}
use Rattle.store_laws.proofs.Calls.{first_changes}

-- first changes, with other calls behind them
first_of : (n : ℕ) (changes : List Change) (more : List StoreCall) (told : Option Moments)
    → (k : ℕ) × (after_changes (take n changes) told
    ≡ told_after (take k (map Makes changes ++ more)) told)
unfolding told_after after_changes
first_of zero changes more told = (0, refl)
first_of (suc n) [] more told = (0, refl)
first_of (suc n) (x ∷ changes) more told =
    let rest = first_of n changes more (after_step (changed_by x) told) in
    (suc rest.0, rest.1)

-- all changes, and first ones of the calls behind them
behind : (changes : List Change) (more : List StoreCall) (k : ℕ) (told : Option Moments)
    → (n : ℕ) × (told_after (take k more) (after_changes changes told)
    ≡ told_after (take n (map Makes changes ++ more)) told)
unfolding told_after after_changes
behind [] more k told = (k, refl)
behind (x ∷ changes) more k told =
    let rest = behind changes more k (after_step (changed_by x) told) in
    (suc rest.0, rest.1)

pub parts_are_changes : PartsAreFirstChanges
parts_are_changes changes old new (n, e) = (n, e ∙ sym (first_changes n changes old))

pub parts_are_flushes : PartsAreFirstFlushes
unfolding told_after
parts_are_flushes mark old new (inl e) = (0, e)
parts_are_flushes mark old new (inr (inl e)) = (1, e)
parts_are_flushes mark old new (inr (inr e)) = (2, e)

pub parts_are_saves : PartsAreFirstSaves
unfolding told_after
parts_are_saves log mark old new (inl (n, e)) =
    let first = first_of n (puts_of log.records) (Syncs ∷ Writes mark ∷ []) old in
    (first.0, e ∙ first.1)
parts_are_saves log mark old new (inr (inl e)) =
    let first = behind (puts_of log.records) (Syncs ∷ Writes mark ∷ []) 1 old in
    (first.0, e ∙ first.1)
parts_are_saves log mark old new (inr (inr e)) =
    let first = behind (puts_of log.records) (Syncs ∷ Writes mark ∷ []) 2 old in
    (first.0, e ∙ first.1)

pub parts_are_marks : PartsAreFirstMarks
unfolding told_after
parts_are_marks mark old new (inl e) = (0, omega arith, e)
parts_are_marks mark old new (inr e) = (1, omega arith, e)
