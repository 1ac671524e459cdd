-- The disk of a store and that of a run, after changes, a sync, a mark and a crash.
use Rattle.std.proofs.Common.{◌≡◌, ℕ, zero, suc, ◌+◌, ◌-◌, ◌≤◌, max, Bool, true, false, List, [], ◌∷◌, ◌++◌, Option, Some, None, refl, sym, ap, subst, ◌∙◌, arith, append-nil, append_assoc, true≢false, if◌then◌else◌}
use Rattle.std.specs.Prelude.{fold}
use Rattle.trace_laws.specs.DiskLaws.{HasFewBlocks}
use Rattle.trace_laws.proofs.DiskKeeping.{picks_keep}
use Rattle.fuzzy_cells.specs.Disk.{Disk, reads, with_changes}
use Rattle.fuzzy_cells.specs.Fuzzy.{is_saved}
use Rattle.group_trace.specs.Picks.{all_counted, counted, kept, most_blocks}
use Rattle.harp_cells.proofs.CellLemmas.{is_cell_true}
use Rattle.harp_cells.specs.Effect.{Cells, after, changed, is_block_from, is_cell}
use Rattle.harp_cells.specs.declared.cell.Cell.{Cell}
use Rattle.harp_cells.specs.declared.cell.Cell.TheVariants as cell
use Rattle.harp_cells.specs.declared.change.Change.{Change}
use Rattle.harp_cells.specs.declared.change.Change.TheVariants as change
use Rattle.harp_cells.specs.declared.value.Value.{Value}
use Rattle.harp_store.specs.Disk.{Disk as ToldDisk, block_numbers, blocks_there, changed_by, changed_by_all, erasures, reads as told_reads, set_by}
use Rattle.harp_store.specs.Memory.{kept as told_kept}
use Rattle.harp_types.specs.Picks.{is_kept}
use Rattle.harp_store.specs.declared.layers.Unsynced.{Unsynced}
use Rattle.store_laws.specs.Calls.{IsChangeOf}
use Rattle.store_laws.specs.Laws.{AreNumbered, ChangesFollow, CrashesFollow, EqualChangesAre, MarksFollow, NewDisksAre, ReadsAreAlike, SyncsFollow}
use Rattle.store_laws.specs.Told.{IsDiskOf, IsUnsyncedOf, OneForOne}
use Rattle.store_laws.proofs.Blocks.{all_erased, all_low, bare, bare_alike, erased_alike, few_before, few_read, high_behind, high_from, none_saved, within_numbers, IsHigh}
use Rattle.store_laws.proofs.Lists.{both}
use Rattle.harp_types.specs.declared.pick.Pick.{Pick}
use Rattle.harp_types.specs.declared.pick.Pick.TheVariants as pick

-- ---- what changes make of a cell that isn't of a saved log

one_set : (u : Unsynced) (x : Change) (c : Cell) (a b : Option Value) → is_saved c ≡ false
    → IsUnsyncedOf u x → a ≡ b → (if is_cell u.cell c then u.value else a) ≡ changed c b x
one_set u (change.Put d v) c a b s h e =
    ap (λ (n : Cell). if is_cell n c then u.value else a) h.0 ∙ by (is_cell d c) refl
  where
    by : (q : Bool) → is_cell d c ≡ q → (if q then u.value else a) ≡ (if q then Some v else b)
    by true t = h.1 (ap is_saved (is_cell_true d c t) ∙ s)
    by false t = e
one_set u (change.Erase d) c a b s h e =
    ap (λ (n : Cell). if is_cell n c then u.value else a) h.0 ∙ by (is_cell d c) refl
  where
    by : (q : Bool) → is_cell d c ≡ q → (if q then u.value else a) ≡ (if q then None else b)
    by true t = h.1 (ap is_saved (is_cell_true d c t) ∙ s)
    by false t = e
one_set u (change.EraseFrom object first) c a b s h e = absurd h

all_set : (us : List Unsynced) (xs : List Change) (c : Cell) (a b : Option Value)
    → is_saved c ≡ false → OneForOne IsUnsyncedOf us xs → a ≡ b
    → set_by c us a ≡ fold (changed c) b xs
unfolding set_by
all_set [] [] c a b s h e = e
all_set (u ∷ us) (x ∷ xs) c a b s h e = all_set us xs c _ (changed c b x) s h.1
    (one_set u x c a b s h.0 e)
all_set [] (x ∷ xs) c a b s h e = absurd h
all_set (u ∷ us) [] c a b s h e = absurd h

-- ---- crashes

-- the places of changes are counted alike
kept_alike : (p : Pick) (k j : ℕ) (us : List Unsynced) (xs : List Change) → k ≡ j
    → OneForOne IsUnsyncedOf us xs
    → OneForOne IsUnsyncedOf (told_kept (is_kept p) k us) (kept p j xs)
unfolding told_kept kept
kept_alike p k j [] [] e h = tt
kept_alike p k j (u ∷ us) (x ∷ xs) e h = by (is_kept p k) (is_kept p j)
    (ap (is_kept p) e)
    (kept_alike p (k + 1) (suc j) us xs (omega (arith, e)) h.1)
  where
    vs : List Unsynced
    vs = told_kept (is_kept p) (k + 1) us

    ys : List Change
    ys = kept p (suc j) xs

    by : (a b : Bool) → a ≡ b → OneForOne IsUnsyncedOf vs ys
        → OneForOne IsUnsyncedOf (if a then u ∷ vs else vs) (if b then x ∷ ys else ys)
    by true true e rest = (h.0, rest)
    by false false e rest = rest
    by true false e rest = absurd (true≢false e)
    by false true e rest = absurd (true≢false (sym e))
kept_alike p k j [] (x ∷ xs) e h = absurd h
kept_alike p k j (u ∷ us) [] e h = absurd h

pub crashes_follow : CrashesFollow
unfolding told_reads all_counted
crashes_follow d r p h = record {
  synced = λ c s. all_set (told_kept (is_kept p) 0 d.unsynced)
      (kept p 0 (all_counted r.synced r.changes)) c (d.synced c) (r.synced c) s
      (kept_alike p 0 0 d.unsynced (all_counted r.synced r.changes) refl h.unsynced) (h.synced c s);
  unsynced = tt;
}

-- ---- reads

all_kept : (k : ℕ) (us : List Unsynced) → told_kept (is_kept pick.All) k us ≡ us
unfolding told_kept
all_kept k [] = refl
all_kept k (u ∷ us) = ap (λ (vs : List Unsynced). u ∷ vs) (all_kept (k + 1) us)

pub reads_are_alike : ReadsAreAlike
unfolding told_reads
reads_are_alike d r h few c s =
    ap (λ (us : List Unsynced). set_by c us (d.synced c)) (sym (all_kept 0 d.unsynced))
    ∙ (crashes_follow d r pick.All h).synced c s ∙ picks_keep.all r few c

-- ---- new disks, syncs and marks

pub new_disks_are : NewDisksAre
unfolding all_counted
new_disks_are q = record { synced = λ c s. refl; unsynced = tt }

pub syncs_follow : SyncsFollow
unfolding all_counted
syncs_follow d r h few = record { synced = reads_are_alike d r h few; unsynced = tt }

pub marks_follow : MarksFollow
marks_follow d r mark h = record { synced = h.synced; unsynced = h.unsynced }

pub are_numbered : AreNumbered
are_numbered d r h few = record {
  synced = λ c e. none c (high_behind c e);
  unsynced = all_erased d.unsynced (all_counted r.synced r.changes) h.unsynced
      (all_low r.changes r.synced few);
}
  where
    none : (c : Cell) → IsHigh c → d.synced c ≡ None
    none c high = h.synced c (none_saved c high) ∙ ap r.synced high.is
        ∙ few 0 high.object high.block high.high

-- ---- changes

counted_both : (xs ys : List Change) (cells : Cells) → all_counted cells (xs ++ ys) ≡
    all_counted cells xs ++ all_counted (after xs cells) ys
unfolding all_counted
counted_both [] ys cells = refl
counted_both (x ∷ xs) ys cells =
    ap (λ (l : List Change). counted cells x ++ l) (counted_both xs ys (after (x ∷ []) cells))
    ∙ sym (append_assoc (counted cells x) (all_counted (after (x ∷ []) cells) xs)
    (all_counted (after (x ∷ xs) cells) ys))

counted_more : (r : Disk) (x : Change) → all_counted r.synced (r.changes ++ x ∷ []) ≡
    all_counted r.synced r.changes ++ counted (reads r) x
unfolding all_counted
counted_more r x = counted_both r.changes (x ∷ []) r.synced
    ∙ ap (λ (l : List Change). all_counted r.synced r.changes ++ l)
    (append-nil (counted (reads r) x))

-- changes of a store behind those before, beside one of a run
put_behind : (r : Disk) (us more : List Unsynced) (x : Change)
    → OneForOne IsUnsyncedOf us (all_counted r.synced r.changes)
    → OneForOne IsUnsyncedOf more (counted (reads r) x)
    → OneForOne IsUnsyncedOf (us ++ more) (all_counted r.synced (r.changes ++ x ∷ []))
put_behind r us more x h k =
    subst (λ (l : List Change). OneForOne IsUnsyncedOf (us ++ more) l) (sym (counted_more r x))
    (both IsUnsyncedOf us more (all_counted r.synced r.changes) (counted (reads r) x) h k)

-- all blocks from a number on are erased
erases_from : (d : ToldDisk) (r : Disk) (object first : ℕ) → IsDiskOf d r → HasFewBlocks r
    → IsDiskOf (changed_by (change.EraseFrom object first) d)
    (with_changes r (change.EraseFrom object first ∷ []))
erases_from d r object first h few =
    let low = within_numbers in
    let from = max first block_numbers in
    let le : most_blocks ≤ from = omega (arith, low) in
    let same = reads_are_alike d r h few in
    record {
      synced = λ c s. bared from le c s (is_block_from object from c) refl;
      unsynced = put_behind r (bare object from d.unsynced)
          (erasures object (blocks_there (block_numbers - first) (told_reads d) object first))
          (change.EraseFrom object first)
          (bare_alike object from le d.unsynced (all_counted r.synced r.changes) h.unsynced
          (all_low r.changes r.synced few))
          (erased_alike (block_numbers - first) (most_blocks - first) object first (told_reads d)
          (reads r) (omega (arith, low)) (λ x. same (cell.Block object x) refl)
          (λ x past. same (cell.Block object x) refl
          ∙ few_read r few object x (omega (arith, past))));
    }
  where
    bared : (from : ℕ) → most_blocks ≤ from → (c : Cell) → is_saved c ≡ false → (b : Bool)
        → is_block_from object from c ≡ b → (if b then None else d.synced c) ≡ r.synced c
    bared from le c s true e =
        let high = high_from object from c le e in
        sym (ap r.synced high.is ∙ few 0 high.object high.block high.high)
    bared from le c s false e = h.synced c s

pub one_follows : (d : ToldDisk) (r : Disk) (x y : Change) → IsDiskOf d r → IsChangeOf x y
    → HasFewBlocks r → IsDiskOf (changed_by x d) (with_changes r (y ∷ []))
one_follows d r (change.Put c v) (change.Put b w) h e few = record {
  synced = h.synced;
  unsynced = put_behind r d.unsynced (record { cell = c; value = Some v } ∷ []) (change.Put b w)
      h.unsynced ((e.0, λ s. ap (λ (z : Value). Some z) (e.1 s)), tt);
}
one_follows d r (change.Put c v) y h e few = absurd e
one_follows d r (change.Erase c) y h e few =
    subst (λ (z : Change). IsDiskOf (changed_by (change.Erase c) d) (with_changes r (z ∷ [])))
    (sym e) (record {
      synced = h.synced;
      unsynced = put_behind r d.unsynced (record { cell = c; value = None } ∷ []) (change.Erase c)
          h.unsynced ((refl, λ s. refl), tt);
    })
one_follows d r (change.EraseFrom object first) y h e few =
    subst (λ (z : Change). IsDiskOf (changed_by (change.EraseFrom object first) d)
    (with_changes r (z ∷ []))) (sym e) (erases_from d r object first h few)

pub equal_changes : EqualChangesAre
equal_changes [] = tt
equal_changes (change.Put c v ∷ changes) = ((refl, λ s. refl), equal_changes changes)
equal_changes (change.Erase c ∷ changes) = (refl, equal_changes changes)
equal_changes (change.EraseFrom object first ∷ changes) = (refl, equal_changes changes)

-- more changes are made one after the other
one_then : (r : Disk) (x : Change) (xs : List Change) → with_changes (with_changes r (x ∷ [])) xs ≡
    with_changes r (x ∷ xs)
one_then r x xs = ap (λ (l : List Change). let d : Disk = record {
  synced = r.synced;
  changes = l;
} in d) (append_assoc r.changes (x ∷ []) xs)

none_then : (r : Disk) → r ≡ with_changes r []
none_then r = ap (λ (l : List Change). let d : Disk = record {
  synced = r.synced;
  changes = l;
} in d) (sym (append-nil r.changes))

pub changes_follow : ChangesFollow
unfolding changed_by_all
changes_follow d r [] [] h e few = subst (λ (x : Disk). IsDiskOf d x) (none_then r) h
changes_follow d r (x ∷ made) (y ∷ changes) h e few =
    let rest = subst (λ (z : Disk). HasFewBlocks z) (sym (one_then r y changes)) few in
    subst (λ (z : Disk). IsDiskOf (changed_by_all made (changed_by x d)) z)
    (one_then r y changes)
    (changes_follow (changed_by x d) (with_changes r (y ∷ [])) made changes
    (one_follows d r x y h e.0 (few_before r (y ∷ changes) few)) e.1 rest)
changes_follow d r [] (y ∷ changes) h e few = absurd e
changes_follow d r (x ∷ made) [] h e few = absurd e
