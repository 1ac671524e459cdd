-- Blocks behind the last one of a file, which a run's disk doesn't hold.
use Rattle.std.proofs.Common.{◌≡◌, ℕ, zero, suc, ◌+◌, ◌-◌, ◌<◌, ◌≤◌, ◌==◌, Bool, true, false, List, [], ◌∷◌, ◌++◌, length, map, take, Option, Some, None, is_some, refl, sym, ap, subst, ◌∙◌, ⊎_elim, arith, le_refl, true≢false, if◌then◌else◌}
use Rattle.std.specs.Prelude.{⊤, All, nat_le}
use Rattle.std.specs.List.{AllByRecursion}
use Rattle.std.proofs.lemmas.Bool.{and_parts, cases_lt, leb-true}
use Rattle.std.proofs.lemmas.List.{take-append-le, take_all}
use Rattle.std.proofs.lemmas.List.Elements.{All-cons, All-nil}
use Rattle.trace_laws.specs.DiskLaws.{HasFewBlocks}
use Rattle.fuzzy_cells.specs.Disk.{Disk, reads, with_changes}
use Rattle.fuzzy_cells.specs.Fuzzy.{is_saved}
use Rattle.group_trace.specs.Picks.{all_counted, counted, erases_there, most_blocks}
use Rattle.harp_cells.proofs.CellLemmas.{is_block_key_parts, is_cell_itself}
use Rattle.harp_cells.specs.Effect.{Cells, after, is_block_from}
use Rattle.harp_cells.specs.declared.cell.Cell.{Cell}
use Rattle.harp_cells.specs.declared.cell.Cell.TheVariants as cell
use Rattle.harp_cells.specs.declared.change.Change.{Change}
use Rattle.harp_cells.specs.declared.change.Change.TheVariants as change
use Rattle.harp_cells.specs.declared.value.Value.{Value}
use Rattle.harp_store.specs.Disk.{block_numbers, blocks_there, erasures}
use Rattle.harp_store.specs.Laws.{is_behind}
use Rattle.harp_store.specs.declared.layers.Unsynced.{Unsynced}
use Rattle.store_laws.specs.Told.{IsUnsyncedOf, OneForOne}

-- ---- which cells they are

-- a block that no file has
pub record IsHigh (c : Cell) : Type 0 where
  pub object : ℕ
  pub block : ℕ
  pub is : c ≡ cell.Block object block
  pub high : most_blocks ≤ block

-- a block from so high a number on
pub high_from : (object first : ℕ) (c : Cell) → most_blocks ≤ first
    → is_block_from object first c ≡ true → IsHigh c
unfolding is_block_from
high_from object first (cell.Block o b) le e =
    let parts = is_block_key_parts object first (3, o, b) e in
    let from = parts.2 in
    record { object = o; block = b; is = refl; high = omega (arith, le, from) }
high_from object first cell.Meta le e = absurd (true≢false (sym e))
high_from object first (cell.Object o) le e = absurd (true≢false (sym e))
high_from object first (cell.Slot o i) le e = absurd (true≢false (sym e))
high_from object first (cell.Client i) le e = absurd (true≢false (sym e))
high_from object first (cell.Saved i) le e = absurd (true≢false (sym e))

-- the numbers of a store go on behind the blocks of a file
pub within_numbers : most_blocks ≤ block_numbers
unfolding most_blocks block_numbers
within_numbers = omega arith

pub high_behind : (c : Cell) → is_behind c ≡ true → IsHigh c
unfolding is_behind
high_behind (cell.Block o b) e =
    let parts = and_parts (3 == 3) (nat_le block_numbers b) e in
    let from = leb-true block_numbers b parts.1 in
    let low = within_numbers in
    record { object = o; block = b; is = refl; high = omega (arith, low, from) }
high_behind cell.Meta e = absurd (true≢false (sym e))
high_behind (cell.Object o) e = absurd (true≢false (sym e))
high_behind (cell.Slot o i) e = absurd (true≢false (sym e))
high_behind (cell.Client i) e = absurd (true≢false (sym e))
high_behind (cell.Saved i) e = absurd (true≢false (sym e))

pub none_saved : (c : Cell) → IsHigh c → is_saved c ≡ false
none_saved c h = ap is_saved h.is

-- ---- which a run's disk doesn't hold

-- nothing in such a block, at each moment of changes
abbrev pub StaysLow : Cells → List Change → Type 0
StaysLow cells changes = (n object block : ℕ) → most_blocks ≤ block
    → after (take n changes) cells (cell.Block object block) ≡ None

-- a change puts nothing in one
abbrev pub PutsLow : Change → Type 0
PutsLow (change.Put c v) = IsHigh c → ⊥
PutsLow (change.Erase c) = ⊤
PutsLow (change.EraseFrom object first) = ⊤

each_both : (xs ys : List Change) → AllByRecursion PutsLow xs → AllByRecursion PutsLow ys
    → AllByRecursion PutsLow (xs ++ ys)
each_both [] ys h k = k
each_both (x ∷ xs) ys h k = (h.0, each_both xs ys h.1 k)

-- the erasures of blocks put nothing
erases_low : (n object block : ℕ) (cells : Cells)
    → AllByRecursion PutsLow (erases_there n cells object block)
unfolding erases_there
erases_low zero object block cells = tt
erases_low (suc n) object block cells = by (is_some (cells (cell.Block object block)))
    (erases_low n object (suc block) cells)
  where
    by : (b : Bool) → AllByRecursion PutsLow (erases_there n cells object (suc block))
        → AllByRecursion PutsLow (if b then change.Erase (cell.Block object block)
        ∷ erases_there n cells object (suc block) else erases_there n cells object (suc block))
    by true h = (tt, h)
    by false h = h

counted_low : (x : Change) (cells : Cells) → StaysLow cells (x ∷ [])
    → AllByRecursion PutsLow (counted cells x)
counted_low (change.Put c v) cells few = (λ h. absurd (wrong h), tt)
  where
    -- it would hold the value
    wrong : IsHigh c → ⊥
    wrong h =
        let at : Cell = cell.Block h.object h.block in
        let put : Some v ≡ None =
        ap (λ (b : Bool). if b then Some v else cells at) (sym (is_cell_itself c at h.is))
        ∙ few 1 h.object h.block h.high in
        cc
counted_low (change.Erase c) cells few = (tt, tt)
counted_low (change.EraseFrom object first) cells few =
    erases_low (most_blocks - first) object first cells

pub all_low : (changes : List Change) (cells : Cells) → StaysLow cells changes
    → AllByRecursion PutsLow (all_counted cells changes)
unfolding all_counted
all_low [] cells few = tt
all_low (x ∷ changes) cells few =
    each_both (counted cells x) (all_counted (after (x ∷ []) cells) changes)
    (counted_low x cells (first few)) (all_low changes (after (x ∷ []) cells) (λ n. few (suc n)))
  where
    first : StaysLow cells (x ∷ changes) → StaysLow cells (x ∷ [])
    first h zero = h 0
    first h (suc zero) = h 1
    first h (suc (suc n)) = h 1

-- ---- so an unsynced change of one is an erasure

pub is_erased : (u : Unsynced) (x : Change) → IsUnsyncedOf u x → PutsLow x → IsHigh u.cell
    → u.value ≡ None
is_erased u (change.Put c v) h low high =
    absurd (low (record {
      object = high.object;
      block = high.block;
      is = sym h.0 ∙ high.is;
      high = high.high;
    }))
is_erased u (change.Erase c) h low high = h.1 (ap is_saved (sym h.0) ∙ none_saved u.cell high)
is_erased u (change.EraseFrom object first) h low high = absurd h

pub all_erased : (us : List Unsynced) (xs : List Change) → OneForOne IsUnsyncedOf us xs
    → AllByRecursion PutsLow xs → All (λ u. is_behind u.cell ≡ true → u.value ≡ None) us
all_erased [] [] h low = All-nil (λ u. is_behind u.cell ≡ true → u.value ≡ None)
all_erased (u ∷ us) (x ∷ xs) h low = All-cons (λ u. is_behind u.cell ≡ true → u.value ≡ None) u us
    (λ e. is_erased u x h.0 low.0 (high_behind u.cell e)) (all_erased us xs h.1 low.1)
all_erased [] (x ∷ xs) h low = absurd h
all_erased (u ∷ us) [] h low = absurd h

-- as if none had ever held a value
abbrev pub bare : ℕ → ℕ → List Unsynced → List Unsynced
bare object first us = map (λ u. record {
  cell = u.cell;
  value = if is_block_from object first u.cell then None else u.value;
}) us

pub bare_alike : (object first : ℕ) → most_blocks ≤ first → (us : List Unsynced)
    (xs : List Change) → OneForOne IsUnsyncedOf us xs → AllByRecursion PutsLow xs
    → OneForOne IsUnsyncedOf (bare object first us) xs
bare_alike object first le [] [] h low = tt
bare_alike object first le (u ∷ us) (x ∷ xs) h low = (
  one x h.0 low.0,
  bare_alike object first le us xs h.1 low.1,
)
  where
    same : (w : Option Value) → u.value ≡ w
        → (is_block_from object first u.cell ≡ true → u.value ≡ None)
        → (if is_block_from object first u.cell then None else u.value) ≡ w
    same w e none = by (is_block_from object first u.cell) none
      where
        by : (b : Bool) → (b ≡ true → u.value ≡ None) → (if b then None else u.value) ≡ w
        by true none = sym (none refl) ∙ e
        by false none = e

    one : (x : Change) → IsUnsyncedOf u x → PutsLow x → IsUnsyncedOf (record {
      cell = u.cell;
      value = if is_block_from object first u.cell then None else u.value;
    }) x
    one (change.Put c v) k low = (
      k.0,
      λ s. same (Some v) (k.1 s)
          (λ e. is_erased u (change.Put c v) k low (high_from object first u.cell le e)),
    )
    one (change.Erase c) k low = (
      k.0,
      λ s. same None (k.1 s)
          (λ e. is_erased u (change.Erase c) k low (high_from object first u.cell le e)),
    )
    one (change.EraseFrom o f) k low = absurd k
bare_alike object first le [] (x ∷ xs) h low = absurd h
bare_alike object first le (u ∷ us) [] h low = absurd h

-- ---- and an erasure of blocks is one of the same blocks

none_there : (n object b : ℕ) (cells : Cells)
    → ((x : ℕ) → b ≤ x → cells (cell.Block object x) ≡ None) → blocks_there n cells object b ≡ []
unfolding blocks_there
none_there zero object b cells h = refl
none_there (suc n) object b cells h =
    ap (λ (q : Bool). if q then b ∷ blocks_there n cells object (suc b) else blocks_there n cells
    object (suc b)) (ap is_some (h b (omega arith)))
    ∙ none_there n object (suc b) cells (λ x le. h x (omega (arith, le)))

pub erased_alike : (n m object b : ℕ) (told cells : Cells) → m ≤ n
    → ((x : ℕ) → told (cell.Block object x) ≡ cells (cell.Block object x))
    → ((x : ℕ) → b + m ≤ x → told (cell.Block object x) ≡ None)
    → OneForOne IsUnsyncedOf (erasures object (blocks_there n told object b))
    (erases_there m cells object b)
unfolding blocks_there erases_there
erased_alike n zero object b told cells le same none =
    subst (λ (bs : List ℕ). OneForOne IsUnsyncedOf (erasures object bs) [])
    (sym (none_there n object b told (λ x from. none x (omega (arith, from))))) tt
erased_alike zero (suc m) object b told cells le same none = absurd (omega (arith, le))
erased_alike (suc n) (suc m) object b told cells le same none =
    by (is_some (told (cell.Block object b))) (is_some (cells (cell.Block object b)))
    (ap is_some (same b))
    (erased_alike n m object (suc b) told cells (omega (arith, le)) same
    (λ x from. none x (omega (arith, from))))
  where
    bs : List ℕ
    bs = blocks_there n told object (suc b)

    es : List Change
    es = erases_there m cells object (suc b)

    by : (p q : Bool) → p ≡ q → OneForOne IsUnsyncedOf (erasures object bs) es
        → OneForOne IsUnsyncedOf (erasures object (if p then b ∷ bs else bs))
        (if q then change.Erase (cell.Block object b) ∷ es else es)
    by true true e h = ((refl, λ s. refl), h)
    by false false e h = h
    by true false e h = absurd (true≢false e)
    by false true e h = absurd (true≢false (sym e))

-- ---- fewer changes

-- with fewer changes a disk has few blocks too
pub few_before : (r : Disk) (more : List Change) → HasFewBlocks (with_changes r more)
    → HasFewBlocks r
few_before r more few n object block le = ⊎_elim
    (λ (past : length r.changes < n).
    ap (λ (xs : List Change). after xs r.synced (cell.Block object block))
    (take_all n r.changes (omega (arith, past))
    ∙ sym (take_all (length r.changes) r.changes (le_refl (length r.changes)))
    ∙ sym (take-append-le (length r.changes) r.changes more (le_refl (length r.changes))))
    ∙ few (length r.changes) object block le)
    (λ (within : n ≤ length r.changes).
    ap (λ (xs : List Change). after xs r.synced (cell.Block object block))
    (sym (take-append-le n r.changes more within)) ∙ few n object block le)
    (cases_lt (length r.changes) n)

-- and reads give nothing there
pub few_read : (r : Disk) → HasFewBlocks r → (object block : ℕ) → most_blocks ≤ block
    → reads r (cell.Block object block) ≡ None
few_read r few object block le =
    ap (λ (xs : List Change). after xs r.synced (cell.Block object block))
    (sym (take_all (length r.changes) r.changes (le_refl (length r.changes))))
    ∙ few (length r.changes) object block le
