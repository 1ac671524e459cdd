-- The laws of disks whose cells are fuzzy.
use Rattle.std.proofs.Common.{◌≡◌, ℕ, zero, suc, ◌≤◌, true, false, List, [], ◌∷◌, length, take, max, Option, None, refl, sym, ap as along, ◌∙◌, subst, inl, inr, arith, le_refl, le_trans}
use Rattle.std.specs.Prelude.{fold}
use Rattle.std.specs.List.{list_all}
use Rattle.std.proofs.lemmas.Bool.{and_parts}
use Rattle.std.proofs.lemmas.List.{take_all, take-take}
use Rattle.harp_cells.specs.declared.cell.Cell.{Cell}
use Rattle.harp_cells.specs.declared.cell.Cell.TheVariants as cell
use Rattle.harp_cells.specs.declared.value.Value.{Value}
use Rattle.harp_cells.specs.declared.change.Change.{Change}
use Rattle.harp_cells.specs.declared.change.Change.TheVariants as change
use Rattle.harp_cells.specs.Effect.{after, changed, is_cell}
use Rattle.harp_store.specs.Disk.{Disk, IsSynced, MayHold, MayHoldInPart, changed_by_all, reads, set_by, values_of}
use Rattle.harp_store.specs.declared.layers.Unsynced.{Unsynced}
use Rattle.harp_store.proofs.Changes.{holds_changed_all, reads_changed_all}
use Rattle.harp_store.proofs.Crashes.{only_one}
use Rattle.harp_store.proofs.Runs.{part_in_part}
use Rattle.fuzzy_cells.specs.History.{History, between, cells_at, in_a_row}
use Rattle.fuzzy_cells.specs.Fuzzy.{IsFuzzy, IsOfMoment, is_saved}
use Rattle.fuzzy_cells.specs.Disk.{changes_saved}
use Rattle.fuzzy_cells.proofs.Fuzzy.{applies_on, each_moment, is_prolonged}
use Rattle.applier.specs.FuzzyDisk.{IsFuzzyDisk}
use Rattle.applier.specs.FuzzyLaws.{AppliedDisksAreFuzzy, CrashedDisksAreFuzzy, CutDisksAreFuzzy, DisksAreProlonged, GoneOverIsExact, ImagesAreFuzzy, MarkedDisksAreFuzzy, NewDisksAreFuzzy, SavedDisksAreFuzzy, SyncedDisksAreFuzzy}

-- the points of a cell's value may lie further apart
wider : (history : History) (a b low high : ℕ) (c : Cell) (v : Option Value)
    → IsOfMoment history a b c v → low ≤ a → b ≤ high → IsOfMoment history low high c v
wider history a b low high c v m l h = record {
  count = m.count;
  from = le_trans l m.from;
  to = le_trans m.to h;
  is = m.is;
}

-- the same of a value that is told to be this one
same_value : (history : History) (a b : ℕ) (c : Cell) (v w : Option Value) → w ≡ v
    → IsOfMoment history a b c v → IsOfMoment history a b c w
same_value history a b c v w e m =
    subst (λ (x : Option Value). IsOfMoment history a b c x) (sym e) m

-- ---- new disks

pub new_disks : NewDisksAreFuzzy
unfolding reads set_by values_of
new_disks history mark = record {
  lb_ap = le_refl 0;
  ap_m = le_refl 0;
  now = λ c s. record { count = 0; from = le_refl 0; to = le_refl 0; is = refl };
  left = λ c v s h. same_value history 0 0 c (cells_at history 0 c) v (only_one v
      (cells_at history 0 c) h) (record { count = 0; from = le_refl 0; to = le_refl 0; is = refl });
}

-- ---- applying

-- what may be left in the middle of changes that keep all moments fuzzy
left_in_part : (history : History) (lb ap m high : ℕ) (d : Disk) (changes : List Change)
    → IsFuzzyDisk history lb ap m d → m ≤ high
    → ((n : ℕ) → IsFuzzy history ap high (after (take n changes) (reads d))) → (c : Cell)
    (v : Option Value) → is_saved c ≡ false → MayHoldInPart changes d c v
    → IsOfMoment history lb high c v
left_in_part history lb ap m high d changes h le moments c v s (inl may) =
    wider history lb m lb high c v (h.left c v s may) (le_refl lb) le
left_in_part history lb ap m high d changes h le moments c v s (inr (n, few, e)) =
    same_value history lb high c (after (take n changes) (reads d) c) v e
    (wider history ap high lb high c (after (take n changes) (reads d) c) (moments n c s)
    h.lb_ap (le_refl high))

-- a disk after a first part of changes that keep all moments fuzzy
after_part : (history : History) (lb ap m high : ℕ) (d : Disk) (changes : List Change) (n : ℕ)
    → IsFuzzyDisk history lb ap m d → m ≤ high
    → ((j : ℕ) → IsFuzzy history ap high (after (take j changes) (reads d)))
    → IsFuzzyDisk history lb ap high (changed_by_all (take n changes) d)
after_part history lb ap m high d changes n h le moments = record {
  lb_ap = h.lb_ap;
  ap_m = le_trans h.ap_m le;
  now = λ c s. same_value history ap high c (after (take n changes) (reads d) c)
      (reads (changed_by_all (take n changes) d) c) (reads_changed_all (take n changes) d c)
      (moments n c s);
  left = λ c v s may. left_in_part history lb ap m high d changes h le moments c v s
      (part_in_part changes n d c v (holds_changed_all (take n changes) d c v may));
}

pub cut_off : CutDisksAreFuzzy
cut_off history lb ap m k d e once h le (n, is) =
    subst (λ (x : Disk). IsFuzzyDisk history lb ap (max m k) x) (sym is)
    (after_part history lb ap m (max m k) d (between history ap k) n h (omega arith)
    (each_moment history ap m k (reads d) once h.now le))

pub applied : AppliedDisksAreFuzzy
applied history lb ap m k d once h le =
    let changes = between history ap k in
    let low = h.lb_ap in
    let part = cut_off history lb ap m k d (changed_by_all (take (length changes) changes) d) once h
    le (length changes, refl) in
    let whole : IsFuzzyDisk history lb ap (max m k) (changed_by_all changes d) = subst
    (λ (cs : List Change). IsFuzzyDisk history lb ap (max m k) (changed_by_all cs d))
    (take_all (length changes) changes (le_refl (length changes))) part in
    record {
      lb_ap = le_trans low le;
      ap_m = omega arith;
      now = λ c s. same_value history k (max m k) c (after changes (reads d) c)
          (reads (changed_by_all changes d) c) (reads_changed_all changes d c)
          (applies_on history ap m k (reads d) h.now le c s);
      left = whole.left;
    }

pub exact : GoneOverIsExact
exact history lb ap m d h le c s =
    let is = h.now c s in
    let low = is.from in
    let high = is.to in
    let same : is.count ≡ ap = omega (arith, low, high, le) in
    is.is ∙ along (λ (n : ℕ). cells_at history n c) same

-- ---- syncs, marks and crashes

pub synced : SyncedDisksAreFuzzy
unfolding reads set_by values_of
synced history lb ap m d h = (
  record {
    lb_ap = h.lb_ap;
    ap_m = h.ap_m;
    now = h.now;
    left = λ c v s may. same_value history lb m c (reads d c) v (only_one v (reads d c) may)
        (wider history ap m lb m c (reads d c) (h.now c s) h.lb_ap (le_refl m));
  },
  record {
    lb_ap = le_refl ap;
    ap_m = h.ap_m;
    now = h.now;
    left = λ c v s may. same_value history ap m c (reads d c) v (only_one v (reads d c) may)
        (h.now c s);
  },
)

pub marked : MarkedDisksAreFuzzy
unfolding reads
marked history lb ap m mark d h = record {
  lb_ap = h.lb_ap;
  ap_m = h.ap_m;
  now = h.now;
  left = h.left;
}

pub images : ImagesAreFuzzy
images history lb ap m d image h may c s = h.left c (image.cells c) s (may.cells c)

-- a disk with nothing unsynced
settled : (history : History) (lb m : ℕ) (left : Disk) → lb ≤ m → IsSynced left
    → IsFuzzy history lb m left.synced → IsFuzzyDisk history lb lb m left
unfolding reads set_by values_of
settled history lb m left le none fuzzy = record {
  lb_ap = le_refl lb;
  ap_m = le;
  now = λ c s. subst (λ (us : List Unsynced). IsOfMoment history lb m c (set_by c us
      (left.synced c))) (sym none) (fuzzy c s);
  left = λ c v s may. same_value history lb m c (left.synced c) v (only_one v (left.synced c)
      (subst (λ (us : List Unsynced). MayHold (record left { unsynced = us }) c v) none may))
      (fuzzy c s);
}

pub crashed : CrashedDisksAreFuzzy
crashed history lb ap m d left h is =
    settled history lb m left (le_trans h.lb_ap h.ap_m) is.synced
    (λ c s. h.left c (left.synced c) s (is.image.cells c))

-- ---- saved logs

saved_leaves : (c : Cell) (x : Change) (v : Option Value) → is_saved c ≡ false
    → changes_saved x ≡ true → changed c v x ≡ v
unfolding is_cell
saved_leaves cell.Meta (change.Put (cell.Saved p) w) v s h = refl
saved_leaves (cell.Object o) (change.Put (cell.Saved p) w) v s h = refl
saved_leaves (cell.Block o b) (change.Put (cell.Saved p) w) v s h = refl
saved_leaves (cell.Slot o i) (change.Put (cell.Saved p) w) v s h = refl
saved_leaves (cell.Client i) (change.Put (cell.Saved p) w) v s h = refl
saved_leaves (cell.Saved q) (change.Put (cell.Saved p) w) v s h = absurd cc
saved_leaves cell.Meta (change.Erase (cell.Saved p)) v s h = refl
saved_leaves (cell.Object o) (change.Erase (cell.Saved p)) v s h = refl
saved_leaves (cell.Block o b) (change.Erase (cell.Saved p)) v s h = refl
saved_leaves (cell.Slot o i) (change.Erase (cell.Saved p)) v s h = refl
saved_leaves (cell.Client i) (change.Erase (cell.Saved p)) v s h = refl
saved_leaves (cell.Saved q) (change.Erase (cell.Saved p)) v s h = absurd cc
saved_leaves c (change.Put cell.Meta w) v s h = absurd cc
saved_leaves c (change.Put (cell.Object o) w) v s h = absurd cc
saved_leaves c (change.Put (cell.Block o b) w) v s h = absurd cc
saved_leaves c (change.Put (cell.Slot o i) w) v s h = absurd cc
saved_leaves c (change.Put (cell.Client i) w) v s h = absurd cc
saved_leaves c (change.Erase cell.Meta) v s h = absurd cc
saved_leaves c (change.Erase (cell.Object o)) v s h = absurd cc
saved_leaves c (change.Erase (cell.Block o b)) v s h = absurd cc
saved_leaves c (change.Erase (cell.Slot o i)) v s h = absurd cc
saved_leaves c (change.Erase (cell.Client i)) v s h = absurd cc
saved_leaves c (change.EraseFrom o first) v s h = absurd cc

saved_leave : (more : List Change) (n : ℕ) (c : Cell) (v : Option Value) → is_saved c ≡ false
    → list_all changes_saved more ≡ true → fold (changed c) v (take n more) ≡ v
saved_leave more zero c v s h = refl
saved_leave [] (suc n) c v s h = refl
saved_leave (x ∷ more) (suc n) c v s h =
    let both = and_parts (changes_saved x) (list_all changes_saved more) h in
    saved_leave more n c (changed c v x) s both.1 ∙ saved_leaves c x v s both.0

pub saved : SavedDisksAreFuzzy
saved history lb ap m changes d e all h (n, is) =
    subst (λ (x : Disk). IsFuzzyDisk history lb ap m x) (sym is)
    (after_part history lb ap m m d changes n h (le_refl m)
    (λ j c s. same_value history ap m c (reads d c) (after (take j changes) (reads d) c)
    (saved_leave changes j c (reads d c) s all) (h.now c s)))

-- ---- other histories

prolonged_cell : (history other : History) (a b : ℕ) (c : Cell) (v : Option Value)
    → IsOfMoment history a b c v → take b history ≡ take b other → IsOfMoment other a b c v
prolonged_cell history other a b c v m same =
    let front : take m.count history ≡ take m.count other =
    sym (take-take m.count b history m.to)
    ∙ along (λ (h : History). take m.count h) same ∙ take-take m.count b other m.to in
    record {
      count = m.count;
      from = m.from;
      to = m.to;
      is = m.is ∙ along (λ (h : History). fold (changed c) None (in_a_row h)) front;
    }

pub prolonged : DisksAreProlonged
prolonged history other lb ap m d h same = record {
  lb_ap = h.lb_ap;
  ap_m = h.ap_m;
  now = is_prolonged history other ap m (reads d) h.now same;
  left = λ c v s may. prolonged_cell history other lb m c v (h.left c v s may) same;
}
