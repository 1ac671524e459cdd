-- What a crash leaves that keeps nothing, or all.
use Rattle.std.proofs.Common.{◌≡◌, ℕ, zero, suc, ◌+◌, ◌-◌, ◌≤◌, ◌&&◌, ◌==◌, nat_le, Bool, true, false, List, [], ◌∷◌, take, Option, Some, None, refl, sym, ap, ◌∙◌, arith, le_refl, true≢false, if◌then◌else◌}
use Rattle.std.specs.Prelude.{fold, is_some}
use Rattle.std.proofs.lemmas.Bool.{eq-eqb, eqb-true}
use Rattle.std.proofs.lemmas.Bool.Decides.{nat_tests}
use Rattle.std.proofs.lemmas.List.Sums.{fold-append}
use mathlib.Core.Path.{fun_ext}
use Rattle.harp_types.specs.declared.pick.Pick.TheVariants as pick
use Rattle.harp_cells.specs.declared.cell.Cell.{Cell}
use Rattle.harp_cells.specs.declared.cell.Cell.TheVariants as cell
use Rattle.harp_cells.specs.declared.value.Value.{Value}
use Rattle.harp_cells.specs.declared.change.Change.{Change}
use Rattle.harp_cells.specs.declared.change.Change.TheVariants as change
use Rattle.harp_cells.specs.Effect.{Cells, after, changed, is_block_from, is_cell}
use Rattle.harp_cells.proofs.CellLemmas.{is_cell_true}
use Rattle.record_changes.proofs.Targets.{from_block}
use Rattle.trace_laws.specs.DiskLaws.{PicksKeep}
use Rattle.group_trace.specs.Picks.{all_counted, counted, erases_there, kept, most_blocks}
use Rattle.trace_laws.proofs.Crashes.{is_block_itself, same_blocks}

none_kept : (k : ℕ) (xs : List Change) → kept pick.None k xs ≡ []
unfolding kept
none_kept k [] = refl
none_kept k (x ∷ xs) = none_kept (suc k) xs

all_kept : (k : ℕ) (xs : List Change) → kept pick.All k xs ≡ xs
unfolding kept
all_kept k [] = refl
all_kept k (x ∷ xs) = ap (λ l. x ∷ l) (all_kept (suc k) xs)

-- ---- erasing each block that is there

-- a block from one on is that one or one from the next on
next_block : (object first : ℕ) (c : Cell) → is_cell (cell.Block object first) c ≡ false
    → is_block_from object first c ≡ is_block_from object (suc first) c
unfolding is_cell is_block_from
next_block object first (cell.Block o b) e = by (o == object) refl
  where
    apart : (first == b) ≡ false → nat_le first b ≡ nat_le (suc first) b
    apart n = grind (arith, nat_tests)

    second : (x y : Bool) → x ≡ true → (x && y) ≡ false → y ≡ false
    second true y t n = n
    second false y t n = absurd (true≢false (sym t))

    by : (x : Bool) → (o == object) ≡ x → (x && nat_le first b) ≡ (x && nat_le (suc first) b)
    by false same = refl
    by true same =
        apart (second (object == o) (first == b) (eq-eqb object o (sym (eqb-true o object same)))
        e)
next_block object first cell.Meta e = refl
next_block object first (cell.Object o) e = refl
next_block object first (cell.Slot o i) e = refl
next_block object first (cell.Client i) e = refl
next_block object first (cell.Saved i) e = refl

-- what is erased where all blocks that are there, below a bound, are erased one by one
each_erased : (cells : Cells) (object n first : ℕ) (c : Cell) (held : Option Value)
    → ((block : ℕ) → first + n ≤ block → cells (cell.Block object block) ≡ None)
    → (is_block_from object first c ≡ true → cells c ≡ None → held ≡ None)
    → fold (changed c) held (erases_there n cells object first) ≡
    (if is_block_from object first c then None else held)
unfolding erases_there
each_erased cells object zero first c held bound h = by (is_block_from object first c) refl
  where
    by : (b : Bool) → is_block_from object first c ≡ b → held ≡ (if b then None else held)
    by true e = h e (from_block cells object first (λ block l. bound block (omega arith)) c e)
    by false e = refl
each_erased cells object (suc n) first c held bound h =
    there (is_some (cells (cell.Block object first))) refl
    (λ v k. each_erased cells object n (suc first) c v (λ block l. bound block (omega arith)) k)
  where
    Rest : Type 0
    Rest = (v : Option Value) → (is_block_from object (suc first) c ≡ true → cells c ≡ None
        → v ≡ None)
        → fold (changed c) v (erases_there n cells object (suc first)) ≡
        (if is_block_from object (suc first) c then None else v)

    same : is_cell (cell.Block object first) c ≡ true → is_block_from object first c ≡ true
    same e = sym (same_blocks object first (cell.Block object first) c e)
        ∙ is_block_itself object first first (le_refl first)

    -- either way nothing
    neither : (b : Bool) (v : Option Value) → (if b then v else v) ≡ v
    neither true v = refl
    neither false v = refl

    put : (b : Bool) → is_cell (cell.Block object first) c ≡ b → Rest
        → fold (changed c) (if b then None else held) (erases_there n cells object (suc first)) ≡
        (if is_block_from object first c then None else held)
    put true e rest = rest None (λ x y. refl) ∙ neither (is_block_from object (suc first) c) None
        ∙ sym (ap (λ (b : Bool). if b then None else held) (same e))
    put false e rest = rest held (λ x y. h (next_block object first c e ∙ x) y)
        ∙ sym (ap (λ (b : Bool). if b then None else held) (next_block object first c e))

    left : (b : Bool) → is_cell (cell.Block object first) c ≡ b → cells (cell.Block object first) ≡
        None → Rest
        → fold (changed c) held (erases_there n cells object (suc first)) ≡
        (if is_block_from object first c then None else held)
    left true e none rest =
        let gone : held ≡ None =
        h (same e) (ap cells (sym (is_cell_true (cell.Block object first) c e)) ∙ none) in
        rest held (λ x y. gone)
        ∙ ap (λ (v : Option Value). if is_block_from object (suc first) c then None else
        v) gone
        ∙ neither (is_block_from object (suc first) c) None
        ∙ sym (ap (λ (b : Bool). if b then None else held) (same e))
    left false e none rest = rest held (λ x y. h (next_block object first c e ∙ x) y)
        ∙ sym (ap (λ (b : Bool). if b then None else held) (next_block object first c e))

    absent : (o : Option Value) → is_some o ≡ false → o ≡ None
    absent None e = refl
    absent (Some v) e = absurd (true≢false e)

    there : (b : Bool) → is_some (cells (cell.Block object first)) ≡ b → Rest
        → fold (changed c) held (if b then change.Erase (cell.Block object first)
        ∷ erases_there n cells object (suc first) else erases_there n cells object (suc first))
        ≡ (if is_block_from object first c then None else held)
    there true e rest = put (is_cell (cell.Block object first) c) refl rest
    there false e rest = left (is_cell (cell.Block object first) c) refl
        (absent (cells (cell.Block object first)) e) rest

one_same : (cells : Cells) → ((object block : ℕ) → most_blocks ≤ block
    → cells (cell.Block object block) ≡ None) → (x : Change) (c : Cell)
    → after (counted cells x) cells c ≡ after (x ∷ []) cells c
one_same cells few (change.Put d v) c = refl
one_same cells few (change.Erase d) c = refl
one_same cells few (change.EraseFrom object first) c =
    each_erased cells object (most_blocks - first) first c (cells c)
    (λ block l. few object block (omega arith)) (λ x y. y)

all_same : (xs : List Change) (cells : Cells) → ((n object block : ℕ) → most_blocks ≤ block
    → after (take n xs) cells (cell.Block object block) ≡ None) → (c : Cell)
    → after (all_counted cells xs) cells c ≡ after xs cells c
unfolding all_counted
all_same [] cells few c = refl
all_same (x ∷ xs) cells few c =
    let more = all_counted (after (x ∷ []) cells) xs in
    let one : after (counted cells x) cells ≡ after (x ∷ []) cells =
    fun_ext (λ d. one_same cells (few 0) x d) in
    fold-append (changed c) (cells c) (counted cells x) more
    ∙ ap (λ made. after more made c) one
    ∙ all_same xs (after (x ∷ []) cells) (λ n. few (suc n)) c

pub picks_keep : PicksKeep
unfolding kept
picks_keep = record {
  nothing = λ disk c. ap (λ l. after l disk.synced c)
      (none_kept 0 (all_counted disk.synced disk.changes));
  all = λ disk few c. ap (λ l. after l disk.synced c)
      (all_kept 0 (all_counted disk.synced disk.changes))
      ∙ all_same disk.changes disk.synced few c;
  bits = λ x y z. refl;
}
