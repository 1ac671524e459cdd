-- What a store tells after a whole step.
use Rattle.std.proofs.Common.{◌≡◌, Bool, true, false, List, [], ◌∷◌, ◌++◌, map, Option, refl, sym, subst, if◌then◌else◌}
use Rattle.fuzzy_cells.specs.Disk.{Disk}
use Rattle.group_trace.specs.DiskCalls.{Changing, DiskCall, Marking, Syncing, after_calls, measures_of, saved_puts}
use Rattle.group_trace.specs.DiskRun.{calls_at}
use Rattle.group_rules.specs.Disk.{flush_tests, settled_tests}
use Rattle.group_rules.specs.Places.{all_of}
use Rattle.group_rules.specs.Step.{Apply, Does, Flush, Power, list_of, saves, step_of}
use Rattle.harp_cells.specs.declared.change.Change.{Change}
use Rattle.harp_store.specs.Disk.{Moments, after_changes, after_step, changed_by, synced_whole, with_mark}
use Rattle.harp_store.specs.Mark.{MarkFields}
use Rattle.power_save.specs.Saved.{puts_of}
use Rattle.store_laws.specs.Calls.{HaveFewBlocks, IsCallOf, Makes, StoreCall, Syncs, Writes, save_calls, told_after}
use Rattle.store_laws.specs.Steps.{StepsLeave, any_marks, applied_by}
use Rattle.store_laws.specs.Told.{IsToldOf, OneForOne}
use Rattle.store_laws.proofs.Calls.{all_follow, changes_are_of_calls, save_is_calls, saves_are_told}
use Rattle.store_laws.proofs.StepCalls.{steps_make_calls}

-- calls that are made where a test holds
tested : (told : Option Moments) (r : Disk) (made calls : List DiskCall) (new : Option Moments)
    (mine : List StoreCall) (b : Bool) → made ≡ (if b then calls else []) → IsToldOf told r
    → HaveFewBlocks made r → told_after mine told ≡ new → OneForOne IsCallOf mine calls
    → IsToldOf (if b then new else told) (after_calls made r)
unfolding after_calls
tested told r made calls new mine true e h few is one =
    subst (λ (cs : List DiskCall). IsToldOf new (after_calls cs r)) (sym e)
    (subst (λ (t : Option Moments). IsToldOf t (after_calls calls r)) is
    (all_follow told r mine calls h one
    (subst (λ (cs : List DiskCall). HaveFewBlocks cs r) e few)))
tested told r made calls new mine false e h few is one =
    subst (λ (cs : List DiskCall). IsToldOf told (after_calls cs r)) (sym e) h

changes_told : (changes : List Change) (told : Option Moments)
    → told_after (map Makes changes) told ≡ after_changes changes told
unfolding told_after after_changes
changes_told [] told = refl
changes_told (x ∷ changes) told = changes_told changes (after_step (changed_by x) told)

flush_told : (mark : MarkFields) (told : Option Moments) → told_after (Syncs ∷ Writes mark ∷ [])
    told ≡ after_step (with_mark mark) (after_step synced_whole told)
unfolding told_after
flush_told mark told = refl

mark_told : (mark : MarkFields) (told : Option Moments) → told_after (Writes mark ∷ []) told ≡
    after_step (with_mark mark) told
unfolding told_after
mark_told mark told = refl

pub steps_leave : StepsLeave
steps_leave f g q told r h = record {
  apply = λ n made one few. tested told r (calls_at f g q (Does (Apply n)))
      (map Changing (applied_by g q n)) (after_changes made told) (map Makes made)
      (all_of (settled_tests q (g.server q))) ((steps_make_calls f g q).apply n) h few
      (changes_told made told) (changes_are_of_calls made (applied_by g q n) one);
  flush = λ mark few. tested told r (calls_at f g q (Does Flush)) (Syncing ∷ Marking ∷ [])
      (after_step (with_mark mark) (after_step synced_whole told)) (Syncs ∷ Writes mark ∷ [])
      (all_of (flush_tests q (g.server q))) (steps_make_calls f g q).flush h few
      (flush_told mark told) (tt, (tt, tt));
  power = λ log mark numbered entries few. tested told r (calls_at f g q (Does Power))
      (map Changing (saved_puts f (list_of g q) (g.server q).base (g.server q).items)
      ++ Syncing ∷ Marking ∷ [])
      (after_step (with_mark mark) (after_step synced_whole
      (after_changes (puts_of log.records) told))) (save_calls log mark)
      (saves (g.server q).held (g.server q).saved) (steps_make_calls f g q).power h few
      (saves_are_told log mark told)
      (save_is_calls f (list_of g q) (g.server q) log mark numbered entries);
  other = λ i mark e few. tested told r (calls_at f g q i) (Marking ∷ [])
      (after_step (with_mark mark) told) (Writes mark ∷ [])
      (any_marks (step_of (measures_of f).size g q i)) ((steps_make_calls f g q).other i e) h few
      (mark_told mark told) (tt, tt);
}
