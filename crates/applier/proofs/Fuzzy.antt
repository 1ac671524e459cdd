-- Applying and flushing leave a disk fuzzy.
use Rattle.std.proofs.Common.{◌≡◌, ℕ, ◌+◌, ◌-◌, ◌≤◌, List, length, take, drop, max, Option, None, Some, refl, sym, ap as along, ◌∙◌, subst, inl, inr, arith}
use Rattle.std.proofs.lemmas.List.{drop-drop, drop-take, take-take}
use Rattle.harp_cells.specs.declared.change.Change.{Change}
use Rattle.harp_cells.specs.Effect.{Cells}
use Rattle.harp_store.specs.Mark.{MarkFields}
use Rattle.harp_store.specs.Disk.{AfterPart, AtEachMoment, CrashesLeave, Disk, IsAfterPart, MayHaveMade, Moments, Now, after_changes, after_step, cells_told, changed_by_all, reads, set_by, synced_whole, then_disk, with_mark}
use Rattle.harp_store.proofs.Moments.{follows, images_are_of, may_step, runs_join}
use Rattle.harp_store.proofs.Runs.{after_some, moments_of_part}
use Rattle.fuzzy_cells.specs.History.{AllSetOnce, History, between, in_a_row}
use Rattle.fuzzy_cells.specs.Fuzzy.{IsFuzzy}
use Rattle.applier.specs.FuzzyDisk.{AreRecordsOf, IsFuzzyByMark, IsFuzzyDisk, lb_of}
use Rattle.applier.proofs.FuzzyDisks.{applied, cut_off, exact, images, marked, synced}
use Rattle.applier.specs.Applied.{changes_between, lower}
use Rattle.applier.specs.Fuzzy.{IsFuzzyTo, StaysFuzzy}

-- the changes of a log's records are those of the history
pub records_between : (history : History) (base : ℕ) (records : History) (from to : ℕ)
    → AreRecordsOf history base records → base ≤ from → from ≤ to → to ≤ base + length records
    → changes_between base records from to ≡ between history from to
records_between history base records from to are low order high =
    let skip = from - base in
    let rest = length records - skip in
    let long : length records ≡ skip + rest = omega (arith, low, order, high) in
    let at : base + skip ≡ from = omega (arith, low) in
    along (λ (rs : History). in_a_row (take (to - from) rs))
    (along (drop skip) are ∙ along (λ (n : ℕ). drop skip (take n (drop base history))) long
    ∙ drop-take skip rest (drop base history)
    ∙ along (take rest) (drop-drop skip base history)
    ∙ along (λ (n : ℕ). take rest (drop n history)) at)
    ∙ along in_a_row (take-take (to - from) rest (drop from history) (omega (arith, low, order, high)))

module _ (history : History) (base : ℕ) (records : History) (from to lb m : ℕ) (h : Moments)
    (once : AllSetOnce history) (are : AreRecordsOf history base records)
    (fuzzy : IsFuzzyDisk history lb from m h.now) (low : base ≤ from) (order : from ≤ to)
    (high : to ≤ base + length records) where
  the_changes : changes_between base records from to ≡ between history from to
  the_changes = records_between history base records from to are low order high

  at_moments : (old new : Option Moments) → old ≡ Some h
      → AfterPart (changes_between base records from to) old new
      → AtEachMoment (IsFuzzyDisk history lb from (max m to)) (Some h) new
  at_moments old new is part =
      follows (IsAfterPart (changes_between base records from to) h.now)
      (IsFuzzyDisk history lb from (max m to)) (Some h) new
      (λ e p. cut_off history lb from m to h.now e once fuzzy order
      (subst (λ (cs : List Change). IsAfterPart cs h.now e) the_changes p))
      (subst (λ (o : Option Moments). AtEachMoment
      (IsAfterPart (changes_between base records from to) h.now) o new) is
      (moments_of_part (changes_between base records from to) old new part h is))

  at_crashes : (new : Option Moments)
      → AtEachMoment (IsFuzzyDisk history lb from (max m to)) (Some h) new
      → CrashesLeave (λ image. IsFuzzy history lb (max m to) image.cells) h new
  at_crashes None moments = tt
  at_crashes (Some new) moments = λ image left.
      let found = images_are_of (IsFuzzyDisk history lb from (max m to)) h new image moments left in
      images history lb from (max m to) found.0 image found.1 found.2

  pub stays_fuzzy : (old new : Option Moments) → old ≡ Some h
      → AfterPart (changes_between base records from to) old new
      → StaysFuzzy history lb from to m h new
  stays_fuzzy old new is part =
      let moments = at_moments old new is part in
      record { moments = moments; crashes = at_crashes new moments }

  pub gets_fuzzy : (old new : Option Moments) → old ≡ Some h
      → new ≡ after_changes (changes_between base records from to) old
      → Now (IsFuzzyTo history lb to m) new
  gets_fuzzy old new is e =
      let changes = changes_between base records from to in
      let k = after_some changes h in
      let disk : IsFuzzyDisk history lb to (max m to) k.0.now =
      subst (λ (d : Disk). IsFuzzyDisk history lb to (max m to) d)
      (along (λ (cs : List Change). changed_by_all cs h.now) (sym the_changes) ∙ sym k.2)
      (applied history lb from m to h.now once fuzzy order) in
      subst (Now (IsFuzzyTo history lb to m)) (sym (e ∙ along (after_changes changes) is ∙ k.1))
      (record {
        disk = disk;
        exact = λ le. exact history lb to (max m to) k.0.now disk (omega (arith, le));
      })

-- ---- flushing

module _ (history : History) (ap' m : ℕ) (h : Moments) (mark : MarkFields)
    (here : h.now.mark ≡ Some mark) (fuzzy : IsFuzzyDisk history mark.lb ap' m h.now) where
  the_lb : mark.lb ≡ lb_of h.now.mark
  the_lb = sym (along lb_of here)

  old_fuzzy : IsFuzzyByMark history ap' m h.now
  old_fuzzy = subst (λ (n : ℕ). IsFuzzyDisk history n ap' m h.now) the_lb fuzzy

  synced_fuzzy : IsFuzzyByMark history ap' m (synced_whole h.now)
  synced_fuzzy = (synced history (lb_of h.now.mark) ap' m h.now old_fuzzy).0

  pub flush_synced : (old new : Option Moments) → old ≡ Some h
      → MayHaveMade synced_whole old new
      → AtEachMoment (IsFuzzyByMark history ap' m) old new
  flush_synced old new is made =
      subst (λ (o : Option Moments). AtEachMoment (IsFuzzyByMark history ap' m) o new) (sym is)
      (may_step (IsFuzzyByMark history ap' m) synced_whole h new old_fuzzy synced_fuzzy
      (subst (λ (o : Option Moments). MayHaveMade synced_whole o new) is made))

  marked_at : (old mid new : Option Moments) → old ≡ Some h
      → mid ≡ after_step synced_whole old → MayHaveMade (with_mark (lower ap' mark)) mid new
      → AtEachMoment (IsFuzzyByMark history ap' m) old new
  marked_at old mid new is e made =
      let there : mid ≡ Some (then_disk (synced_whole h.now) h) =
      e ∙ along (after_step synced_whole) is in
      let low : IsFuzzyDisk history ap' ap' m (synced_whole h.now) =
      (synced history (lb_of h.now.mark) ap' m h.now old_fuzzy).1 in
      runs_join (IsFuzzyByMark history ap' m) old mid new
      (flush_synced old mid is (inr e))
      (subst (λ (o : Option Moments). AtEachMoment (IsFuzzyByMark history ap' m) o new) (sym there)
      (may_step (IsFuzzyByMark history ap' m) (with_mark (lower ap' mark))
      (then_disk (synced_whole h.now) h) new synced_fuzzy
      (marked history ap' ap' m (lower ap' mark) (synced_whole h.now) low)
      (subst (λ (o : Option Moments). MayHaveMade (with_mark (lower ap' mark)) o new) there made)))

  pub flush_marked : (written : MarkFields) → written ≡ lower ap' mark
      → (old mid new : Option Moments) → old ≡ Some h → mid ≡ after_step synced_whole old
      → MayHaveMade (with_mark written) mid new → AtEachMoment (IsFuzzyByMark history ap' m) old new
  flush_marked written same old mid new is e made =
      marked_at old mid new is e
      (subst (λ (w : MarkFields). MayHaveMade (with_mark w) mid new) same made)

-- ---- cells stay

reads_synced : (d : Disk) → reads (synced_whole d) ≡ reads d
unfolding reads set_by
reads_synced d = refl

reads_marked : (mark : MarkFields) (d : Disk) → reads (with_mark mark d) ≡ reads d
unfolding reads
reads_marked mark d = refl

-- a step that leaves what reads give, be it made or not
step_reads : (step : Disk → Disk) (old new : Option Moments)
    → ((d : Disk) → reads (step d) ≡ reads d) → MayHaveMade step old new
    → cells_told new ≡ cells_told old
step_reads step old new same (inl e) = along cells_told e
step_reads step None new same (inr e) = along cells_told e
step_reads step (Some h) new same (inr e) =
    along cells_told e ∙ along (λ (cells : Cells). Some cells) (same h.now)

pub sync_reads : (old new : Option Moments) → MayHaveMade synced_whole old new
    → cells_told new ≡ cells_told old
sync_reads old new = step_reads synced_whole old new reads_synced

pub mark_reads : (mark : MarkFields) (old mid new : Option Moments)
    → mid ≡ after_step synced_whole old → MayHaveMade (with_mark mark) mid new
    → cells_told new ≡ cells_told old
mark_reads mark old mid new e made =
    step_reads (with_mark mark) mid new (reads_marked mark) made ∙ sync_reads old mid (inr e)
