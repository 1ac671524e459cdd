-- The laws of a disk whose cells are fuzzy.
use Rattle.std.proofs.Common.{◌≡◌, ℕ, zero, suc, ◌-◌, ◌≤◌, ◌<◌, true, false, List, [], ◌∷◌, ◌++◌, length, take, max, Option, refl, sym, ap as along, ◌∙◌, subst, ⊎_elim, arith, le_refl, le_trans}
use Rattle.std.specs.Prelude.{fold}
use Rattle.std.specs.List.{list_all}
use Rattle.std.proofs.lemmas.Bool.{and_parts, cases_lt}
use Rattle.std.proofs.lemmas.List.{length-take, take-append-le, take-take, take_all}
use Rattle.std.proofs.lemmas.List.Sums.{fold-append}
use Rattle.harp_cells.specs.declared.cell.Cell.{Cell}
use Rattle.harp_cells.specs.declared.cell.Cell.TheVariants as cell
use Rattle.harp_cells.specs.declared.value.Value.{Value}
use Rattle.harp_cells.specs.declared.change.Change.{Change}
use Rattle.harp_cells.specs.declared.change.Change.TheVariants as change
use Rattle.harp_cells.specs.Effect.{Cells, after, changed, is_cell}
use Rattle.fuzzy_cells.specs.History.{History, between, no_cells}
use Rattle.fuzzy_cells.specs.Fuzzy.{IsFuzzy, IsOfMoment, is_saved}
use Rattle.fuzzy_cells.specs.Disk.{Disk, IsBetween, changes_saved, reads, synced_to, with_changes}
use Rattle.fuzzy_cells.specs.DiskLaws.{AppliedIsBetween, CrashedIsBetween, CutIsBetween, DiskIsProlonged, NewDisksAreBetween, SavedIsBetween, SyncedIsBetween}
use Rattle.fuzzy_cells.proofs.Spans.{take_none, take_past}
use Rattle.fuzzy_cells.proofs.Fuzzy.{applies_on, each_moment, is_prolonged, is_wider, left_is_between}

-- cells that are the same as others at each place
alike_fuzzy : (history : History) (a b : ℕ) (cells others : Cells)
    → ((c : Cell) → is_saved c ≡ false → others c ≡ cells c) → IsFuzzy history a b cells
    → IsFuzzy history a b others
alike_fuzzy history a b cells others same fuzzy c s =
    subst (λ (v : Option Value). IsOfMoment history a b c v) (sym (same c s)) (fuzzy c s)

-- a disk whose changes are all synced
all_synced : (history : History) (lb ap m : ℕ) (cells : Cells) → lb ≤ ap → ap ≤ m
    → IsFuzzy history ap m cells → IsBetween history lb ap m (synced_to cells)
all_synced history lb ap m cells low high fuzzy = record {
  lb_ap = low;
  ap_m = high;
  moments = λ n. alike_fuzzy history lb m cells (after (take n []) cells)
      (λ c s. along (λ (l : List Change). after l cells c) (take_none n))
      (is_wider history ap m lb m cells fuzzy low (le_refl m));
  now = fuzzy;
}

pub new_disks : NewDisksAreBetween
new_disks history = all_synced history 0 0 0 no_cells (le_refl 0) (le_refl 0)
    (λ c s. record { count = 0; from = le_refl 0; to = le_refl 0; is = refl })

-- what it reads as with more changes
reads_more : (disk : Disk) (more : List Change) (c : Cell) → reads (with_changes disk more) c ≡
    after more (reads disk) c
reads_more disk more c = fold-append (changed c) (disk.synced c) disk.changes more

-- the moments with more changes are those before, and then those of the new ones
moments_more : (history : History) (lb m high : ℕ) (disk : Disk) (more : List Change)
    → ((n : ℕ) → IsFuzzy history lb m (after (take n disk.changes) disk.synced)) → m ≤ high
    → ((n : ℕ) → IsFuzzy history lb high (after (take n more) (reads disk))) → (n : ℕ)
    → IsFuzzy history lb high (after (take n (disk.changes ++ more)) disk.synced)
moments_more history lb m high disk more old le new n = ⊎_elim
    (λ (past : length disk.changes < n).
    let k = n - length disk.changes in
    alike_fuzzy history lb high (after (take k more) (reads disk))
    (after (take n (disk.changes ++ more)) disk.synced)
    (λ c s. along (λ (l : List Change). after l disk.synced c) (take_past disk.changes more n k
    (omega arith)) ∙ reads_more disk (take k more) c) (new k))
    (λ (within : n ≤ length disk.changes).
    alike_fuzzy history lb high (after (take n disk.changes) disk.synced)
    (after (take n (disk.changes ++ more)) disk.synced)
    (λ c s. along (λ (l : List Change). after l disk.synced c)
    (take-append-le n disk.changes more within))
    (is_wider history lb m lb high (after (take n disk.changes) disk.synced) (old n)
    (le_refl lb) le))
    (cases_lt (length disk.changes) n)

-- a first part of a first part
take_part : (n m : ℕ) (xs : List Change) (P : List Change → Type 0) → ((k : ℕ) → P (take k xs))
    → P (take n (take m xs))
take_part n m xs P all = ⊎_elim
    (λ (past : m < n). subst P (sym (take_all n (take m xs) (let l = length-take m xs in
    omega arith))) (all m))
    (λ (within : n ≤ m). subst P (sym (take-take n m xs within)) (all n))
    (cases_lt m n)

pub applied : AppliedIsBetween
applied history lb ap m k disk once h le =
    let more = between history ap k in
    record {
      lb_ap = le_trans h.lb_ap le;
      ap_m = omega arith;
      moments = moments_more history lb m (max m k) disk more h.moments (omega arith)
          (λ n. is_wider history ap (max m k) lb (max m k) (after (take n more) (reads disk))
          (each_moment history ap m k (reads disk) once h.now le n) h.lb_ap
          (le_refl (max m k)));
      now = alike_fuzzy history k (max m k) (after more (reads disk))
          (reads (with_changes disk more)) (λ c s. reads_more disk more c)
          (applies_on history ap m k (reads disk) h.now le);
    }

pub cut_off : CutIsBetween
cut_off history lb ap m k n disk once h le =
    let all = between history ap k in
    let more = take n all in
    let high = h.ap_m in
    let moment : (j : ℕ) → IsFuzzy history ap (max m k) (after (take j all) (reads disk)) =
    λ j. each_moment history ap m k (reads disk) once h.now le j in
    record {
      lb_ap = h.lb_ap;
      ap_m = omega arith;
      moments = moments_more history lb m (max m k) disk more h.moments (omega arith)
          (λ j. is_wider history ap (max m k) lb (max m k) (after (take j more) (reads disk))
          (take_part j n all (λ l. IsFuzzy history ap (max m k) (after l (reads disk))) moment)
          h.lb_ap (le_refl (max m k)));
      now = alike_fuzzy history ap (max m k) (after more (reads disk))
          (reads (with_changes disk more)) (λ c s. reads_more disk more c) (moment n);
    }

pub synced : SyncedIsBetween
synced history lb ap m disk h = (
  all_synced history lb ap m (reads disk) h.lb_ap h.ap_m h.now,
  all_synced history ap ap m (reads disk) (le_refl ap) h.ap_m h.now,
)

pub crashed : CrashedIsBetween
crashed history lb ap m disk left h may = all_synced history lb lb m left (le_refl lb)
    (le_trans h.lb_ap h.ap_m)
    (left_is_between history lb m disk.synced disk.changes left h.moments may)

-- ---- changes of cells of saved logs

saved_leaves : (c : Cell) (x : Change) (v : Option Value) → is_saved c ≡ false → changes_saved x ≡
    true → changed c v x ≡ v
unfolding is_cell
saved_leaves cell.Meta (change.Put (cell.Saved p) w) v s h = refl
saved_leaves (cell.Object o) (change.Put (cell.Saved p) w) v s h = refl
saved_leaves (cell.Block o b) (change.Put (cell.Saved p) w) v s h = refl
saved_leaves (cell.Slot o i) (change.Put (cell.Saved p) w) v s h = refl
saved_leaves (cell.Client i) (change.Put (cell.Saved p) w) v s h = refl
saved_leaves (cell.Saved q) (change.Put (cell.Saved p) w) v s h = absurd cc
saved_leaves cell.Meta (change.Erase (cell.Saved p)) v s h = refl
saved_leaves (cell.Object o) (change.Erase (cell.Saved p)) v s h = refl
saved_leaves (cell.Block o b) (change.Erase (cell.Saved p)) v s h = refl
saved_leaves (cell.Slot o i) (change.Erase (cell.Saved p)) v s h = refl
saved_leaves (cell.Client i) (change.Erase (cell.Saved p)) v s h = refl
saved_leaves (cell.Saved q) (change.Erase (cell.Saved p)) v s h = absurd cc
saved_leaves c (change.Put cell.Meta w) v s h = absurd cc
saved_leaves c (change.Put (cell.Object o) w) v s h = absurd cc
saved_leaves c (change.Put (cell.Block o b) w) v s h = absurd cc
saved_leaves c (change.Put (cell.Slot o i) w) v s h = absurd cc
saved_leaves c (change.Put (cell.Client i) w) v s h = absurd cc
saved_leaves c (change.Erase cell.Meta) v s h = absurd cc
saved_leaves c (change.Erase (cell.Object o)) v s h = absurd cc
saved_leaves c (change.Erase (cell.Block o b)) v s h = absurd cc
saved_leaves c (change.Erase (cell.Slot o i)) v s h = absurd cc
saved_leaves c (change.Erase (cell.Client i)) v s h = absurd cc
saved_leaves c (change.EraseFrom o first) v s h = absurd cc

saved_leave : (more : List Change) (n : ℕ) (c : Cell) (v : Option Value) → is_saved c ≡ false
    → list_all changes_saved more ≡ true → fold (changed c) v (take n more) ≡ v
saved_leave more zero c v s h = refl
saved_leave [] (suc n) c v s h = refl
saved_leave (x ∷ more) (suc n) c v s h =
    let both = and_parts (changes_saved x) (list_all changes_saved more) h in
    saved_leave more n c (changed c v x) s both.1 ∙ saved_leaves c x v s both.0

pub saved : SavedIsBetween
saved history lb ap m disk more h all =
    let stays : (n : ℕ) (c : Cell) → is_saved c ≡ false → after (take n more) (reads disk) c ≡
    reads disk c = λ n c s. saved_leave more n c (reads disk c) s all in
    let whole : (c : Cell) → is_saved c ≡ false → after more (reads disk) c ≡ reads disk c = λ c s.
    along (λ (l : List Change). after l (reads disk) c)
    (sym (take_all (length more) more (le_refl (length more))))
    ∙ stays (length more) c s in
    record {
      lb_ap = h.lb_ap;
      ap_m = h.ap_m;
      moments = moments_more history lb m m disk more h.moments (le_refl m)
          (λ n. alike_fuzzy history lb m (reads disk) (after (take n more) (reads disk)) (stays n)
          (is_wider history ap m lb m (reads disk) h.now h.lb_ap (le_refl m)));
      now = alike_fuzzy history ap m (reads disk) (reads (with_changes disk more))
          (λ c s. reads_more disk more c ∙ whole c s) h.now;
    }

pub prolonged : DiskIsProlonged
prolonged history other lb ap m disk h same = record {
  lb_ap = h.lb_ap;
  ap_m = h.ap_m;
  moments = λ n. is_prolonged history other lb m (after (take n disk.changes) disk.synced)
      (h.moments n) same;
  now = is_prolonged history other ap m (reads disk) h.now same;
}
