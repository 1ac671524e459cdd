-- What a crash by a pick leaves is what a crash may leave.
use Rattle.std.proofs.Common.{◌≡◌, ◌⊎◌, ℕ, zero, suc, ◌-◌, ◌≤◌, ◌&&◌, ◌==◌, nat_le, Bool, true, false, List, [], ◌∷◌, ◌++◌, take, Option, Some, None, refl, sym, ap, ◌∙◌, inl, inr, ⊎_elim, arith, le_refl, if◌then◌else◌}
use Rattle.std.specs.Prelude.{fold, is_some}
use Rattle.std.proofs.lemmas.List.Sums.{fold-append}
use Rattle.harp_types.specs.declared.pick.Pick.{Pick}
use Rattle.harp_cells.specs.declared.cell.Cell.{Cell}
use Rattle.harp_cells.specs.declared.cell.Cell.TheVariants as cell
use Rattle.harp_cells.specs.declared.value.Value.{Value}
use Rattle.harp_cells.specs.declared.change.Change.{Change}
use Rattle.harp_cells.specs.declared.change.Change.TheVariants as change
use Rattle.harp_cells.specs.Effect.{Cells, after, changed, is_block_from, is_cell}
use Rattle.harp_cells.proofs.CellLemmas.{is_cell_true}
use Rattle.std.proofs.lemmas.Bool.{and_from, eq-eqb, le-leb}
use Rattle.trace_laws.specs.DiskLaws.{PicksAreParts}
use Rattle.group_trace.specs.Picks.{all_counted, counted, erases_there, kept, most_blocks}
use Rattle.harp_types.specs.Picks.{is_kept}

-- what is kept of two lists, the second one's places going on from the first one's
kept_both : (p : Pick) (k : ℕ) (xs ys : List Change) → (j : ℕ) × (kept p k (xs ++ ys) ≡ kept p k xs
    ++ kept p j ys)
unfolding kept
kept_both p k [] ys = (k, refl)
kept_both p k (x ∷ xs) ys = let r = kept_both p (suc k) xs ys in (r.0, by r.0 r.1 (is_kept p k))
  where
    by : (j : ℕ) → kept p (suc k) (xs ++ ys) ≡ kept p (suc k) xs ++ kept p j ys → (b : Bool)
        → (if b then x ∷ kept p (suc k) (xs ++ ys) else kept p (suc k) (xs ++ ys)) ≡
        (if b then x ∷ kept p (suc k) xs else kept p (suc k) xs) ++ kept p j ys
    by j e true = ap (λ (l : List Change). x ∷ l) e
    by j e false = e

-- ---- one change

put_or_not : (b : Bool) (w held other : Option Value) → ((if b then w else held) ≡ held)
    ⊎ ((if b then w else held) ≡ (if b then w else other))
put_or_not true w held other = inr refl
put_or_not false w held other = inl refl

-- cells that are the same are both blocks from one on, or neither is
pub same_blocks : (object first : ℕ) (a b : Cell) → is_cell a b ≡ true
    → is_block_from object first a ≡ is_block_from object first b
same_blocks object first a b h = ap (is_block_from object first) (is_cell_true a b h)

pub is_block_itself : (object first block : ℕ) → first ≤ block
    → is_block_from object first (cell.Block object block) ≡ true
unfolding is_block_from
is_block_itself object first block h = and_from ((3 == 3) && (object == object))
    (nat_le first block) (eq-eqb object object refl) (le-leb first block h)

-- erasures that are kept of the blocks from one on leave what a cell held, or nothing in a block
-- from there on
erased : (p : Pick) (c : Cell) (cells : Cells) (object first n block k : ℕ) (held : Option Value)
    → first ≤ block
    → (fold (changed c) held (kept p k (erases_there n cells object block)) ≡ held)
    ⊎ ((is_block_from object first c ≡ true)
    × (fold (changed c) held (kept p k (erases_there n cells object block)) ≡ None))
unfolding kept erases_there
erased p c cells object first zero block k held le = inl refl
erased p c cells object first (suc n) block k held le =
    there (is_some (cells (cell.Block object block))) (λ j v. erased p c cells object first n
    (suc block) j v (omega arith))
  where
    Then : Option Value → List Change → Type 0
    Then v xs = (fold (changed c) v xs ≡ v) ⊎ ((is_block_from object first c ≡ true)
        × (fold (changed c) v xs ≡ None))

    rest : List Change
    rest = erases_there n cells object (suc block)

    -- the block of this number is erased, or the cell is another one
    one : (b : Bool) → is_cell (cell.Block object block) c ≡ b → (j : ℕ)
        → ((j : ℕ) (v : Option Value) → Then v (kept p j rest))
        → (fold (changed c) (if b then None else held) (kept p j rest) ≡ held)
        ⊎ ((is_block_from object first c ≡ true)
        × (fold (changed c) (if b then None else held) (kept p j rest) ≡ None))
    one false e j more = more j held
    one true e j more =
        let its : is_block_from object first c ≡ true =
        sym (same_blocks object first (cell.Block object block) c e)
        ∙ is_block_itself object first block le in
        ⊎_elim (λ x. inr (its, x)) (λ x. inr x) (more j None)

    keep : (b : Bool) → ((j : ℕ) (v : Option Value) → Then v (kept p j rest))
        → Then held (if b then change.Erase (cell.Block object block) ∷ kept p (suc k) rest else
        kept p (suc k) rest)
    keep true more = one (is_cell (cell.Block object block) c) refl (suc k) more
    keep false more = more (suc k) held

    there : (b : Bool) → ((j : ℕ) (v : Option Value) → Then v (kept p j rest))
        → Then held (kept p k (if b then change.Erase (cell.Block object block) ∷ rest else rest))
    there true more = keep (is_kept p k) more
    there false more = more k held

-- a change that is kept or not leaves what a cell held, or what the change makes of it
touched : (p : Pick) (k : ℕ) (x : Change) (cells left : Cells) (c : Cell)
    → (after (kept p k (counted cells x)) left c ≡ left c)
    ⊎ (after (kept p k (counted cells x)) left c ≡ after (x ∷ []) cells c)
unfolding kept
touched p k (change.Put d v) cells left c = by (is_kept p k)
  where
    by : (b : Bool) → (after (if b then change.Put d v ∷ [] else []) left c ≡ left c)
        ⊎ (after (if b then change.Put d v ∷ [] else []) left c ≡
        after (change.Put d v ∷ []) cells c)
    by true = put_or_not (is_cell d c) (Some v) (left c) (cells c)
    by false = inl refl
touched p k (change.Erase d) cells left c = by (is_kept p k)
  where
    by : (b : Bool) → (after (if b then change.Erase d ∷ [] else []) left c ≡ left c)
        ⊎ (after (if b then change.Erase d ∷ [] else []) left c ≡
        after (change.Erase d ∷ []) cells c)
    by true = put_or_not (is_cell d c) None (left c) (cells c)
    by false = inl refl
touched p k (change.EraseFrom object first) cells left c = ⊎_elim (λ x. inl x)
    (λ x. inr (x.1 ∙ sym (ap (λ (b : Bool). if b then None else cells c) x.0)))
    (erased p c cells object first (most_blocks - first) first k (left c) (le_refl first))

-- ---- all of them

parted : (p : Pick) (xs : List Change) (k : ℕ) (cells left : Cells) (c : Cell)
    → (after (kept p k (all_counted cells xs)) left c ≡ left c)
    ⊎ ((n : ℕ) × (after (kept p k (all_counted cells xs)) left c ≡ after (take n xs) cells c))
unfolding kept all_counted
parted p [] k cells left c = inl refl
parted p (x ∷ xs) k cells left c =
    let first = counted cells x in
    let more = all_counted (after (x ∷ []) cells) xs in
    let both = kept_both p k first more in
    let left1 = after (kept p k first) left in
    let whole : after (kept p k (first ++ more)) left c ≡ after (kept p both.0 more) left1 c =
    ap (λ (l : List Change). after l left c) both.1 ∙ fold-append (changed c) (left c)
    (kept p k first) (kept p both.0 more) in
    ⊎_elim
    (λ stays. ⊎_elim (λ e. inl (whole ∙ stays ∙ e)) (λ e. inr (1, whole ∙ stays ∙ e))
    (touched p k x cells left c))
    (λ later. inr (suc later.0, whole ∙ later.1))
    (parted p xs both.0 (after (x ∷ []) cells) left1 c)

pub are_parts : PicksAreParts
are_parts pick disk c = ⊎_elim (λ e. (0, e))
    (λ e. e) (parted pick disk.changes 0 disk.synced disk.synced c)
