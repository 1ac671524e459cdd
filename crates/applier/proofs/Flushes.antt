-- The parts of a flush.
use Rattle.std.proofs.Common.{◌≡◌, Option, Some, refl, sym, ap, subst, ◌∙◌, inl, inr}
use Rattle.harp_store.specs.Disk.{AtEachMoment, Disk, MayHaveMade, Moments, after_step, cells_told, synced_whole, then_disk, with_mark}
use Rattle.harp_store.specs.Mark.{MarkFields}
use Rattle.harp_store.proofs.Moments.{may_step, runs_join}
use Rattle.applier.specs.Applied.{FlushesInPart, IsOldOrSynced, PartsFlushAtOnce, flushed}
use Rattle.applier.proofs.Fuzzy.{mark_reads, sync_reads}

-- ---- what each call leaves

-- a sync that was made or wasn't
pub synced_part : (mark : MarkFields) (old new : Option Moments) → MayHaveMade synced_whole old new
    → FlushesInPart mark old new
synced_part mark old new (inl e) = inl e
synced_part mark old new (inr e) = inr (inl e)

-- and then a mark that was written or wasn't
pub marked_part : (mark : MarkFields) (old mid new : Option Moments)
    → mid ≡ after_step synced_whole old → MayHaveMade (with_mark mark) mid new
    → FlushesInPart mark old new
marked_part mark old mid new is (inl e) = inr (inl (e ∙ is))
marked_part mark old mid new is (inr e) = inr (inr (e ∙ ap (after_step (with_mark mark)) is))

-- ---- what holds after each part

module _ (mark : MarkFields) (h : Moments) where
  abbrev P : Disk → Type 0
  P d = IsOldOrSynced h.now.mark d

  at_sync : (new : Option Moments) → MayHaveMade synced_whole (Some h) new
      → AtEachMoment P (Some h) new
  at_sync new made = may_step P synced_whole h new (inl refl) (inl refl) made

  at_mark : (new : Option Moments) → new ≡ flushed mark (Some h) → AtEachMoment P (Some h) new
  at_mark new e =
      let mid : Moments = then_disk (synced_whole h.now) h in
      runs_join P (Some h) (Some mid) new (at_sync (Some mid) (inr refl))
      (may_step P (with_mark mark) mid new (inl refl) (inr refl) (inr e))

  at_each : (new : Option Moments) → FlushesInPart mark (Some h) new → AtEachMoment P (Some h) new
  at_each new (inl e) = at_sync new (inl e)
  at_each new (inr (inl e)) = at_sync new (inr e)
  at_each new (inr (inr e)) = at_mark new e

part_reads : (mark : MarkFields) (old new : Option Moments) → FlushesInPart mark old new
    → cells_told new ≡ cells_told old
part_reads mark old new (inl e) = sync_reads old new (inl e)
part_reads mark old new (inr (inl e)) = sync_reads old new (inr e)
part_reads mark old new (inr (inr e)) =
    mark_reads mark old (after_step synced_whole old) new refl (inr e)

pub parts_flush : PartsFlushAtOnce
parts_flush mark old new part = record {
  cells = part_reads mark old new part;
  moments = λ h is. subst (λ (o : Option Moments). AtEachMoment (IsOldOrSynced h.now.mark) o new)
      (sym is) (at_each mark h new
      (subst (λ (o : Option Moments). FlushesInPart mark o new) is part));
}
