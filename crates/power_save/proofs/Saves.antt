-- What the puts of a log's records make of the cells.
use Rattle.std.proofs.Common.{◌≡◌, ℕ, zero, suc, ◌+◌, ◌<◌, ◌≤◌, ◌%◌, Bool, true, false, List, [], ◌∷◌, length, take, arith, refl, sym, subst, ap, ◌∙◌, Option, Some, inl, inr}
use Rattle.std.specs.Prelude.{◌⊎◌, fold, slice_index_or}
use Rattle.std.specs.Bool.{if◌then◌else◌}
use Rattle.std.proofs.lemmas.Bool.{cases_lt}
use Rattle.std.proofs.lemmas.List.{get_or-map, get_or_default, length-map}
use Rattle.event_record.specs.Bytes.{record_bytes}
use Rattle.event_record.specs.declared.record.RecordFields.{RecordFields}
use Rattle.harp_cells.specs.declared.cell.Cell.{Cell}
use Rattle.harp_cells.specs.declared.cell.Cell.TheVariants as cell
use Rattle.harp_cells.specs.declared.value.Value.{Value}
use Rattle.harp_cells.specs.declared.value.Value.TheVariants.{SavedCred}
use Rattle.harp_cells.specs.Effect.{Cells, after, changed, is_cell}
use Rattle.harp_cells.proofs.CellLemmas.{is_cell_true, is_cell_itself}
use Rattle.harp_store.specs.Disk.{AfterPart, Moments, MayHaveMade, after_changes, after_step, changed_by}
use Rattle.harp_store.proofs.Runs.{item_made, item_part}
use Rattle.power_save.specs.Saved.{AllFit, HasRecord, HoldRecords, cell_in, put_of, puts_of}
use Rattle.power_save.proofs.Records.{index_at}
use Rattle.volatile_log.specs.Log.{AreNumberedAfter, room}

-- ---- one put after the other

put_is : (items : List RecordFields) (i : ℕ) (x : RecordFields) → i < length items
    → x ≡ slice_index_or items i x
    → put_of x ≡ slice_index_or (puts_of items) i (put_of x)
put_is items i x lt is = ap put_of is ∙ sym (get_or-map put_of items i x (put_of x) lt)

puts_long : (items : List RecordFields) (i : ℕ) → i < length items → i < length (puts_of items)
puts_long items i lt = rw length-map lt

pub record_put : (items : List RecordFields) (i : ℕ) (x : RecordFields) (old mid new : Option Moments)
    → i < length items → x ≡ slice_index_or items i x
    → mid ≡ after_changes (take i (puts_of items)) old
    → new ≡ after_step (changed_by (put_of x)) mid
    → new ≡ after_changes (take (i + 1) (puts_of items)) old
record_put items i x old mid new lt is e h =
    item_made (puts_of items) i (put_of x) old mid new (puts_long items i lt) (put_is items i x lt is) e h

pub record_part : (items : List RecordFields) (i : ℕ) (x : RecordFields) (old mid new : Option Moments)
    → i < length items → x ≡ slice_index_or items i x
    → mid ≡ after_changes (take i (puts_of items)) old
    → MayHaveMade (changed_by (put_of x)) mid new → AfterPart (puts_of items) old new
record_part items i x old mid new lt is e h =
    item_part (puts_of items) i (put_of x) old mid new (puts_long items i lt) (put_is items i x lt is) e h

-- what holds of the elements so far, and of the next one
pub one_further : {R : Type 0} (P : R → Type 0) (items : List R) (i : ℕ) (x : R)
    → i < length items → x ≡ slice_index_or items i x
    → ((k : ℕ) (d : R) → k < i → P (slice_index_or items k d)) → P x → (k : ℕ) (d : R)
    → k < i + 1 → P (slice_index_or items k d)
one_further {R} P items i x lt is h p k d less = by (cases_lt k i)
  where
    by : (k < i) ⊎ (i ≤ k) → P (slice_index_or items k d)
    by (inl below) = h k d below
    by (inr above) =
        let same : i ≡ k = omega (arith, above, less) in
        subst (λ (n : ℕ). P (slice_index_or items n d)) same (subst P (is
        ∙ get_or_default items i x d lt) p)

-- ---- the cells after them

place_of : Cell → ℕ
place_of cell.Meta = 0
place_of (cell.Object object) = 0
place_of (cell.Block object block) = 0
place_of (cell.Slot object slot) = 0
place_of (cell.Client client) = 0
place_of (cell.Saved place) = place

apart : (i j : ℕ) → i < j → j < i + room → (j % room) ≡ (i % room) → ⊥
apart i j lt le e = omega (arith, lt, le, e)

-- cells of indices less than a whole round apart are others
other : (i j : ℕ) → i < j → j < i + room → (b : Bool) → is_cell (cell_in room j) (cell_in room i)
    ≡ b → b ≡ false
unfolding place_of
other i j lt le true e = absurd (apart i j lt le (ap place_of (is_cell_true (cell_in room j)
    (cell_in room i) e)))
other i j lt le false e = refl

-- records of other indices leave a cell
puts_leave : (items : List RecordFields) (base i : ℕ) (v : Option Value) → AreNumberedAfter base items
    → i ≤ base → base + length items < i + room
    → fold (changed (cell_in room i)) v (puts_of items) ≡ v
puts_leave [] base i v h le few = refl
puts_leave (x ∷ items) base i v h le few =
    let first : x.index ≡ base + 1 = h.0 in
    let off : is_cell (cell_in room x.index) (cell_in room i) ≡ false =
    other i x.index (omega (arith, first, le)) (omega (arith, first, few)) (is_cell
    (cell_in room x.index) (cell_in room i)) refl in
    ap (λ (b : Bool). fold (changed (cell_in room i)) (if b then Some
    (SavedCred (record_bytes x)) else v) (puts_of items)) off
    ∙ puts_leave items (base + 1) i v h.1 (omega (arith, le)) (omega (arith, few))

-- the cell of each index holds its record
puts_set : (items : List RecordFields) (base k : ℕ) (d : RecordFields) (v : Option Value)
    → AreNumberedAfter base items → length items ≤ room → k < length items
    → fold (changed (cell_in room (base + 1 + k))) v (puts_of items)
    ≡ Some (SavedCred (record_bytes (slice_index_or items k d)))
puts_set [] base k d v h few lt = absurd (omega (arith, lt))
puts_set (x ∷ items) base zero d v h few lt =
    let first : x.index ≡ base + 1 + 0 = omega (arith, h.0) in
    ap (λ (b : Bool). fold (changed (cell_in room (base + 1 + 0))) (if b then Some
    (SavedCred (record_bytes x)) else v) (puts_of items))
    (is_cell_itself (cell_in room x.index) (cell_in room (base + 1 + 0)) (ap (cell_in room) first))
    ∙ puts_leave items (base + 1) (base + 1 + 0) (Some (SavedCred (record_bytes x))) h.1
    (omega arith) (omega (arith, few))
puts_set (x ∷ items) base (suc k) d v h few lt =
    let at : base + 1 + 1 + k ≡ base + 1 + suc k = omega arith in
    subst (λ (m : ℕ). fold (changed (cell_in room m)) (changed (cell_in room m) v (put_of x))
    (puts_of items) ≡ Some (SavedCred (record_bytes (slice_index_or items k d)))) at
    (puts_set items (base + 1) k d (changed (cell_in room (base + 1 + 1 + k)) v (put_of x)) h.1
    (omega (arith, few)) (omega (arith, lt)))

-- the cells hold the records
pub puts_hold : (items : List RecordFields) (base : ℕ) (cells : Cells)
    → AreNumberedAfter base items → length items ≤ room → AllFit items
    → HoldRecords room (after (puts_of items) cells) base items
puts_hold items base cells h few fit k d lt = record {
  meant = subst (λ (v : Option Value). HasRecord v (slice_index_or items k d)) (sym (puts_set items
      base k d (cells (cell_in room (base + 1 + k))) h few lt)) (refl, fit k d lt);
  its = index_at base items k d h lt;
}
