-- The moments of a save.
use Rattle.std.proofs.Common.{◌≡◌, ◌+◌, List, take, refl, sym, subst, ap, ◌∙◌, Option, Some, None, inl, inr}
use Rattle.harp_cells.specs.declared.change.Change.{Change}
use Rattle.harp_cells.specs.declared.value.Value.{Value}
use Rattle.harp_store.specs.Mark.{MarkFields}
use Rattle.harp_store.specs.Disk.{AfterPart, AtEachMoment, Disk, Moments, IsAfterPart, MayHaveMade, Now, after_changes, after_step, changed_by_all, reads, set_by, synced_whole, then_disk, with_mark}
use Rattle.harp_store.proofs.Changes.{reads_changed_all}
use Rattle.harp_store.proofs.Moments.{follows, may_step, runs_join}
use Rattle.harp_store.proofs.Runs.{after_none, after_some, all_is_part, mark_stays, moments_of_part}
use Rattle.power_save.specs.Saved.{AllFit, HasRecord, IsUnsaved, IsUnsavedOrSaved, SavedOn, SavesInPart, cell_in, puts_of}
use Rattle.power_save.proofs.Saves.{puts_hold}
use Rattle.std.specs.Prelude.{slice_index_or}
use Rattle.volatile_log.specs.Log.{IsLog, LogValue, room}

module _ (log : LogValue) (mark : MarkFields) where
  -- the disk after a save
  saved_on : (d : Disk) → IsLog log → AllFit log.records
      → SavedOn log (with_mark mark (synced_whole (changed_by_all
      (puts_of log.records) d)))
  unfolding reads set_by
  saved_on d order fit = record {
    synced = refl;
    held = λ k e lt. let put = puts_hold log.records log.base (reads d) order.numbered order.few fit
        k e lt in record {
          meant = subst (λ (v : Option Value). HasRecord v (slice_index_or log.records k e))
              (sym (reads_changed_all (puts_of log.records) d (cell_in room (log.base + 1 + k)))) put.meant;
          its = put.its;
        };
  }

  saved_at : (h k : Moments) → k.now ≡ changed_by_all (puts_of log.records) h.now
      → IsLog log → AllFit log.records
      → SavedOn log (with_mark mark (synced_whole k.now))
  saved_at h k e order fit = subst (λ (d : Disk). SavedOn log
      (with_mark mark (synced_whole d))) (sym e) (saved_on h.now order fit)

  pub saved_now : (old new : Option Moments) → new
      ≡ after_step (with_mark mark) (after_step synced_whole (after_changes
      (puts_of log.records) old))
      → IsLog log → AllFit log.records
      → Now (SavedOn log) new
  saved_now None new e order fit =
      subst (Now (SavedOn log))
      (sym (e ∙ ap (λ (o : Option Moments). after_step (with_mark mark)
      (after_step synced_whole o)) (after_none (puts_of log.records)))) tt
  saved_now (Some h) new e order fit =
      let k = after_some (puts_of log.records) h in
      subst (Now (SavedOn log))
      (sym (e ∙ ap (λ (o : Option Moments). after_step (with_mark mark)
      (after_step synced_whole o)) k.1)) (saved_at h k.0 k.2 order fit)

  -- ---- moments

  unsaved_part : (changes : List Change) (d e : Disk) → IsUnsaved d.mark
      → IsAfterPart changes d e → IsUnsavedOrSaved log e
  unsaved_part changes d e u (n, is) = inl (subst IsUnsaved (sym (ap (λ (x : Disk). x.mark) is
      ∙ mark_stays (take n changes) d)) u)

  -- while records are put
  pub puts_safe : (old new : Option Moments)
      → AfterPart (puts_of log.records) old new → (h : Moments) → old ≡ Some h
      → IsUnsaved h.now.mark
      → AtEachMoment (IsUnsavedOrSaved log) old new
  puts_safe old new part h is u =
      follows (IsAfterPart (puts_of log.records) h.now)
      (IsUnsavedOrSaved log) old new
      (λ e. unsaved_part (puts_of log.records) h.now e u) (moments_of_part
      (puts_of log.records) old new part h is)

  unsaved_after : (h k : Moments) → k.now
      ≡ changed_by_all (puts_of log.records) h.now → IsUnsaved h.now.mark
      → IsUnsaved k.now.mark
  unsaved_after h k e u = subst IsUnsaved (sym (ap (λ (x : Disk). x.mark) e
      ∙ mark_stays (puts_of log.records) h.now)) u

  -- the sync after them
  pub sync_safe : (old mid new : Option Moments) → mid
      ≡ after_changes (puts_of log.records) old → MayHaveMade synced_whole mid new
      → (h : Moments) → old ≡ Some h
      → IsUnsaved h.now.mark → AtEachMoment (IsUnsavedOrSaved log) old new
  sync_safe old mid new e made h is u =
      let k = after_some (puts_of log.records) h in
      let at : mid ≡ Some k.0 = e ∙ ap (after_changes (puts_of log.records)) is ∙ k.1 in
      let unsaved : IsUnsaved k.0.now.mark = unsaved_after h k.0 k.2 u in
      runs_join (IsUnsavedOrSaved log) old mid new
      (puts_safe old mid (all_is_part (puts_of log.records) old mid e) h is u)
      (subst (λ (o : Option Moments). AtEachMoment
      (IsUnsavedOrSaved log) o new) (sym at)
      (may_step (IsUnsavedOrSaved log) synced_whole k.0 new (inl unsaved)
      (inl unsaved)
      (subst (λ (o : Option Moments). MayHaveMade synced_whole o new) at made)))

  -- the mark after the sync
  pub mark_safe : (old mid last new : Option Moments) → mid
      ≡ after_changes (puts_of log.records) old → last ≡ after_step synced_whole mid
      → MayHaveMade (with_mark mark) last new → IsLog log → AllFit log.records → (h : Moments) → old ≡ Some h
      → IsUnsaved h.now.mark → AtEachMoment (IsUnsavedOrSaved log) old new
  mark_safe old mid last new e f made order fit h is u =
      let k = after_some (puts_of log.records) h in
      let at : mid ≡ Some k.0 = e ∙ ap (after_changes (puts_of log.records)) is ∙ k.1 in
      let behind : last ≡ Some (then_disk (synced_whole k.0.now) k.0) = f
      ∙ ap (after_step synced_whole) at in
      let unsaved : IsUnsaved k.0.now.mark = unsaved_after h k.0 k.2 u in
      runs_join (IsUnsavedOrSaved log) old last new
      (sync_safe old mid last e (inr f) h is u)
      (subst (λ (o : Option Moments). AtEachMoment
      (IsUnsavedOrSaved log) o new) (sym behind)
      (may_step (IsUnsavedOrSaved log) (with_mark mark) (then_disk
      (synced_whole k.0.now) k.0) new (inl unsaved) (inr (saved_at h k.0 k.2 order fit))
      (subst (λ (o : Option Moments). MayHaveMade (with_mark mark) o new) behind made)))

  -- ---- the parts of a save

  pub sync_part : (old mid new : Option Moments) → mid ≡ after_changes (puts_of log.records) old
      → MayHaveMade synced_whole mid new → SavesInPart log mark old new
  sync_part old mid new e (inl h) = inl (all_is_part (puts_of log.records) old new (h ∙ e))
  sync_part old mid new e (inr h) = inr (inl (h ∙ ap (after_step synced_whole) e))

  pub mark_part : (old mid last new : Option Moments)
      → mid ≡ after_changes (puts_of log.records) old → last ≡ after_step synced_whole mid
      → MayHaveMade (with_mark mark) last new → SavesInPart log mark old new
  mark_part old mid last new e f (inl h) =
      inr (inl (h ∙ f ∙ ap (after_step synced_whole) e))
  mark_part old mid last new e f (inr h) =
      inr (inr (h ∙ ap (after_step (with_mark mark)) (f ∙ ap (after_step synced_whole) e)))
