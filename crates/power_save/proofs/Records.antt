-- Records of a log, one after the other.
use Rattle.std.proofs.Common.{◌≡◌, ℕ, zero, suc, ◌+◌, ◌-◌, ◌<◌, ◌≤◌, List, [], ◌∷◌, ◌++◌, length, arith, refl, sym, subst, ap, ◌∙◌, Option, Some, None, true, inl, inr, true≢false}
use Rattle.std.specs.Prelude.{slice_index_or}
use Rattle.harp_cells.specs.Effect.{Cells}
use Rattle.harp_store.specs.Mark.{MarkFields, SavedNumbers}
use Rattle.event_record.specs.declared.record.RecordFields.{RecordFields}
use Rattle.power_save.specs.Saved.{HoldRecords, IsNotSaved, IsSavedAs, LacksRecord, cell_in, fits_log}
use Rattle.power_save.proofs.Values.{one_record}
use Rattle.volatile_log.proofs.Numbers.{numbered_more}
use Rattle.volatile_log.specs.Log.{AreNumberedAfter}

-- what holds of each element with its place, after one more
pub push_each : {R : Type 0} (P : ℕ → R → Type 0) (xs : List R) (x : R) → ((k : ℕ) (d : R)
    → k < length xs → P k (slice_index_or xs k d)) → P (length xs) x
    → (k : ℕ) (d : R) → k < length (xs ++ x ∷ []) → P k (slice_index_or (xs ++ x ∷ []) k d)
push_each P [] x h p zero d lt = p
push_each P [] x h p (suc n) d lt = absurd (omega (arith, lt))
push_each P (y ∷ xs) x h p zero d lt = h 0 d (omega arith)
push_each P (y ∷ xs) x h p (suc n) d lt = push_each (λ k. P (suc k)) xs x (λ k e l. h (suc k) e
    (omega (arith, l))) p n d (omega (arith, lt))

-- the same of a list that is told to be so
pub pushed : {R : Type 0} (P : ℕ → R → Type 0) (xs ys : List R) (x : R) → ys ≡ xs ++ x ∷ []
    → ((k : ℕ) (d : R) → k < length xs → P k (slice_index_or xs k d)) → P (length xs) x
    → (k : ℕ) (d : R) → k < length ys → P k (slice_index_or ys k d)
pushed {R} P xs ys x e h p = subst (λ (zs : List R). (k : ℕ) (d : R) → k < length zs
    → P k (slice_index_or zs k d)) (sym e) (push_each P xs x h p)

-- an element, with what holds of it at its place
pub some_at : {R : Type 0} (P : ℕ → R → Type 0) (xs : List R) (k : ℕ) → k < length xs
    → ((i : ℕ) (d : R) → i < length xs → P i (slice_index_or xs i d)) → (x : R) × P k x
some_at P [] k lt h = absurd (omega (arith, lt))
some_at P (x ∷ xs) k lt h = (slice_index_or (x ∷ xs) k x, h k x lt)

-- lists of as many elements are equal where each place fixes its element
pub same_each : {R : Type 0} (P : ℕ → R → Type 0) (xs ys : List R) → ((k : ℕ) (x y : R) → P k x
    → P k y → x ≡ y) → length xs ≡ length ys
    → ((k : ℕ) (d : R) → k < length xs → P k (slice_index_or xs k d)) → ((k : ℕ) (d : R)
    → k < length ys → P k (slice_index_or ys k d)) → xs ≡ ys
same_each P [] [] one e h g = refl
same_each P [] (y ∷ ys) one e h g = absurd (omega (arith, e))
same_each P (x ∷ xs) [] one e h g = absurd (omega (arith, e))
same_each {R} P (x ∷ xs) (y ∷ ys) one e h g =
    ap (λ (z : R). z ∷ xs) (one 0 x y (h 0 x (omega arith)) (g 0 y (omega arith)))
    ∙ ap (λ (zs : List R). y ∷ zs)
    (same_each (λ k. P (suc k)) xs ys (λ k. one (suc k)) (omega (arith, e)) (λ k d lt. h
    (suc k) d (omega (arith, lt))) (λ k d lt. g (suc k) d (omega (arith, lt))))

-- ---- records of a log

-- the record of a place has the place's index
pub index_at : (n : ℕ) (rs : List RecordFields) (k : ℕ) (d : RecordFields) → AreNumberedAfter n rs
    → k < length rs → (slice_index_or rs k d).index ≡ n + 1 + k
index_at n [] k d h lt = absurd (omega (arith, lt))
index_at n (r ∷ rs) zero d h lt = omega (arith, h.0)
index_at n (r ∷ rs) (suc k) d h lt =
    omega (arith, index_at (n + 1) rs k d h.1 (omega (arith, lt)))

-- with one more record
pub numbered_by : (n : ℕ) (rs more : List RecordFields) (r : RecordFields) → more ≡ rs ++ r ∷ []
    → AreNumberedAfter n rs → r.index ≡ n + length rs + 1 → AreNumberedAfter n more
numbered_by n rs more r e h is = subst (AreNumberedAfter n) (sym e) (numbered_more n rs r h is)

-- ---- saved logs

-- each index of the records has one in its cell
pub held_at : (ring : ℕ) (cells : Cells) (base : ℕ) (records : List RecordFields) (index : ℕ)
    → HoldRecords ring cells base records
    → base < index → index ≤ base + length records → (r : RecordFields)
    × IsSavedAs ring cells index r
held_at ring cells base records index h lt le =
    let found = some_at (λ k r. IsSavedAs ring cells (base + 1 + k) r) records
    (index - (base + 1)) (omega (arith, lt, le)) h in
    let at : base + 1 + (index - (base + 1)) ≡ index = omega (arith, lt) in
    (found.0, subst (λ (n : ℕ). IsSavedAs ring cells n found.0) at found.1)

-- the same cells hold the same log
pub same_log : (ring : ℕ) (cells : Cells) (base : ℕ) (xs ys : List RecordFields)
    → length xs ≡ length ys → HoldRecords ring cells base xs
    → HoldRecords ring cells base ys → xs ≡ ys
same_log ring cells base xs ys e h g =
    same_each (λ k r. IsSavedAs ring cells (base + 1 + k) r) xs ys
    (λ k x y p q. one_record (cells (cell_in ring (base + 1 + k))) x y p.meant q.meant) e h g

-- a whole log lacks no record
pub lacks_none : (cells : Cells) (s : SavedNumbers) (records : List RecordFields)
    → HoldRecords s.ring cells s.base records
    → s.base + length records ≡ s.top → LacksRecord cells (Some s) → ⊥
lacks_none cells s records h long (index, lt, le, none) =
    let found = held_at s.ring cells s.base records index h lt (omega (arith, le, long)) in
    none found.0 found.1

the_numbers : Option SavedNumbers → SavedNumbers
the_numbers None = record { base = 0; cp = 0; top = 0; ring = 0 }
the_numbers (Some s) = s

-- the numbers of the mark are those that were saved
pub numbers_are : (s t : SavedNumbers) (saved : Option SavedNumbers) → saved ≡ Some s
    → saved ≡ Some t → s ≡ t
unfolding the_numbers
numbers_are s t saved e is = ap the_numbers (sym e ∙ is)

-- a log that was read is saved
pub is_saved : (cells : Cells) (s : SavedNumbers) (mark : MarkFields) (records : List RecordFields)
    → mark.saved ≡ Some s
    → fits_log mark.lb (Some s) ≡ true → HoldRecords s.ring cells s.base records
    → s.base + length records ≡ s.top → IsNotSaved cells mark → ⊥
is_saved cells s mark records e fits h long (inl misfit) =
    true≢false (sym fits ∙ ap (fits_log mark.lb) (sym e) ∙ misfit)
is_saved cells s mark records e fits h long (inr lacks) =
    lacks_none cells s records h long (subst (LacksRecord cells) e lacks)
