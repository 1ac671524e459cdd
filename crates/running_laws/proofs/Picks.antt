-- Whatever a crash may leave of a disk, a pick leaves it: of each cell it keeps the one change
-- whose value was left, or none.
use Rattle.std.proofs.Common.{◌≡◌, ℕ, zero, suc, ◌+◌, ◌-◌, ◌<◌, ◌==◌, Bool, true, false, List, [], ◌∷◌, ◌++◌, length, length-append, slice_index_or, Option, refl, sym, ap, ◌∙◌, subst, arith, append_assoc, mod-eq_of_lt, if◌then◌else◌}
use Rattle.std.proofs.lemmas.Bool.Decides.{nat_tests}
use mathlib.Core.Path.{fun_ext}
use Rattle.group_rules.proofs.Tests.{if_is, if_not}
use Rattle.harp_cells.proofs.CellLemmas.{is_cell_true}
use Rattle.harp_cells.specs.Effect.{Cells, is_cell}
use Rattle.harp_cells.specs.declared.cell.Cell.{Cell}
use Rattle.harp_cells.specs.declared.value.Value.{Value}
use Rattle.harp_store.specs.Disk.{Disk, IsLeftOf, IsSynced, reads, set_by, values_of}
use Rattle.harp_store.specs.Mark.{MarkFields}
use Rattle.harp_store.specs.Memory.{crashed_by, kept}
use Rattle.harp_store.specs.declared.layers.Unsynced.{Unsynced}
use Rattle.harp_types.specs.Picks.{is_kept}
use Rattle.harp_types.specs.declared.pick.Pick.{Pick}
use Rattle.harp_types.specs.declared.pick.Pick.TheVariants as pick

-- ---- which value is left of a cell

-- the k-th of what was held and of these values is this one
IsAt : ℕ → Option Value → List (Option Value) → Option Value → Type 0
IsAt zero held vs v = held ≡ v
IsAt (suc k) held [] v = ⊥
IsAt (suc k) held (x ∷ vs) v = IsAt k x vs v

at_any : (k : ℕ) (held : Option Value) (vs : List (Option Value)) (x v : Option Value)
    → k < length (held ∷ vs) → slice_index_or (held ∷ vs) k x ≡ x → x ≡ v → IsAt k held vs v
unfolding IsAt
at_any zero held vs x v lt is e = is ∙ e
at_any (suc k) held [] x v lt is e = absurd (omega (arith, lt))
at_any (suc k) held (y ∷ vs) x v lt is e = at_any k y vs x v (omega (arith, lt)) is e

-- what was held doesn't matter where it isn't the one
at_other : (k : ℕ) (a b : Option Value) (vs : List (Option Value)) (v : Option Value)
    → IsAt (suc k) a vs v → IsAt (suc k) b vs v
unfolding IsAt
at_other k a b [] v h = h
at_other k a b (x ∷ vs) v h = h

-- ---- the bits

-- how many changes of each cell come before the one to keep, that one counted too; 0 where none is
-- to be kept any more
abbrev next_count : (Cell → ℕ) → Cell → Cell → ℕ
next_count counts cell c = if is_cell cell c then counts c - 1 else counts c

bits_for : (Cell → ℕ) → List Unsynced → List Bool
bits_for counts [] = []
bits_for counts (u ∷ us) = (counts u.cell == 1) ∷ bits_for (next_count counts u.cell) us

-- the changes that such bits keep
kept_by : List Bool → List Unsynced → List Unsynced
kept_by [] us = []
kept_by (b ∷ bs) [] = []
kept_by (b ∷ bs) (u ∷ us) = if b then u ∷ kept_by bs us else kept_by bs us

-- ---- they leave the value

-- one change of another cell
other_set : (c : Cell) (u : Unsynced) (us : List Unsynced) (held : Option Value) (b : Bool)
    → is_cell u.cell c ≡ false
    → set_by c (if b then u ∷ us else us) held ≡ set_by c us held
unfolding set_by
other_set c u us held true e = ap (λ x. set_by c us (if x then u.value else held)) e
other_set c u us held false e = refl

own_set : (c : Cell) (u : Unsynced) (us : List Unsynced) (held : Option Value)
    → is_cell u.cell c ≡ true → set_by c (u ∷ us) held ≡ set_by c us u.value
unfolding set_by
own_set c u us held e = ap (λ x. set_by c us (if x then u.value else held)) e

not_one : (k : ℕ) → (suc (suc k) == 1) ≡ false
not_one k = grind (arith, nat_tests)

-- nothing is left to come, and what is held is the value
none_come : (k : ℕ) (held v : Option Value) → IsAt k held [] v → held ≡ v
unfolding IsAt
none_come zero held v h = h
none_come (suc k) held v h = absurd h

next_own : (counts : Cell → ℕ) (cell c : Cell) (k : ℕ) → is_cell cell c ≡ true → counts c ≡ k
    → next_count counts cell c ≡ k - 1
next_own counts cell c k is e = if_is (is_cell cell c) (counts c - 1) (counts c) is
    ∙ ap (λ n. n - 1) e

next_other : (counts : Cell → ℕ) (cell c : Cell) → is_cell cell c ≡ false
    → next_count counts cell c ≡ counts c
next_other counts cell c is = if_not (is_cell cell c) (counts c - 1) (counts c) is

-- a change of this cell, with so many changes before the one to keep
own_left : (k : ℕ) (u : Unsynced) (rest : List Unsynced) (vs : List (Option Value)) (c : Cell)
    (held v : Option Value) → is_cell u.cell c ≡ true
    → ((held : Option Value) → IsAt (k - 1) held vs v → set_by c rest held ≡ v)
    → IsAt k held (u.value ∷ vs) v → set_by c (if k == 1 then u ∷ rest else rest) held ≡ v
unfolding IsAt
own_left zero u rest vs c held v is after at = after held at
own_left (suc zero) u rest vs c held v is after at =
    own_set c u rest held is ∙ after u.value at
own_left (suc (suc k)) u rest vs c held v is after at =
    let less : suc (suc k) - 1 ≡ suc k = omega arith in
    ap (λ b. set_by c (if b then u ∷ rest else rest) held) (not_one k)
    ∙ after held (subst (λ n. IsAt n held vs v) (sym less) (at_other k u.value held vs v at))

one_left : (counts : Cell → ℕ) (u : Unsynced) (rest : List Unsynced) (vs : List (Option Value))
    (c : Cell) (held v : Option Value)
    → ((held : Option Value) → IsAt (next_count counts u.cell c) held vs v
    → set_by c rest held ≡ v)
    → (b : Bool) → is_cell u.cell c ≡ b → IsAt (counts c) held (if b then u.value ∷ vs else vs) v
    → set_by c (if counts u.cell == 1 then u ∷ rest else rest) held ≡ v
one_left counts u rest vs c held v after true is at =
    let same : u.cell ≡ c = is_cell_true u.cell c is in
    subst (λ (d : Cell). set_by c (if counts d == 1 then u ∷ rest else rest) held ≡ v) (sym same)
    (own_left (counts c) u rest vs c held v is
    (λ x h. after x (subst (λ n. IsAt n x vs v) (sym (next_own counts u.cell c (counts c) is refl))
    h)) at)
one_left counts u rest vs c held v after false is at =
    other_set c u rest held (counts u.cell == 1) is
    ∙ after held (subst (λ n. IsAt n held vs v) (sym (next_other counts u.cell c is)) at)

leaves : (counts : Cell → ℕ) (us : List Unsynced) (c : Cell) (held v : Option Value)
    → IsAt (counts c) held (values_of c us) v
    → set_by c (kept_by (bits_for counts us) us) held ≡ v
unfolding bits_for kept_by values_of set_by
leaves counts [] c held v h = none_come (counts c) held v h
leaves counts (u ∷ us) c held v h =
    let next = next_count counts u.cell in
    one_left counts u (kept_by (bits_for next us) us) (values_of c us) c held v
    (λ x. leaves next us c x v) (is_cell u.cell c) refl h

-- ---- the pick has these bits

bits_long : (counts : Cell → ℕ) (us : List Unsynced) → length (bits_for counts us) ≡ length us
unfolding bits_for
bits_long counts [] = refl
bits_long counts (u ∷ us) = ap suc (bits_long (next_count counts u.cell) us)

stands_at : (xs ys : List Bool) (x d : Bool) → slice_index_or (xs ++ (x ∷ ys)) (length xs) d ≡ x
stands_at [] ys x d = refl
stands_at (y ∷ xs) ys x d = stands_at xs ys x d

-- of the bits from some place on, the place itself
bit_at : (front bits : List Bool) (b : Bool)
    → is_kept (pick.Bits (front ++ (b ∷ bits))) (length front) ≡ b
bit_at front bits b =
    let all = front ++ (b ∷ bits) in
    let long = length-append front (b ∷ bits) in
    let less : length front < length all = omega (arith, long) in
    ap (λ n. slice_index_or all n false) (mod-eq_of_lt less) ∙ stands_at front bits b false

kept_is : (front bits : List Bool) (us : List Unsynced) → length bits ≡ length us
    → kept (is_kept (pick.Bits (front ++ bits))) (length front) us ≡ kept_by bits us
unfolding kept kept_by
kept_is front [] [] e = refl
kept_is front [] (u ∷ us) e = absurd (omega (arith, e))
kept_is front (b ∷ bits) [] e = refl
kept_is front (b ∷ bits) (u ∷ us) e =
    let all = front ++ (b ∷ bits) in
    let keeps = is_kept (pick.Bits all) in
    let more : length front + 1 ≡ length (front ++ b ∷ []) =
    let long = length-append front (b ∷ []) in omega (arith, long) in
    let rest : kept keeps (length front + 1) us ≡ kept_by bits us =
    ap (λ n. kept keeps n us) more
    ∙ ap (λ bs. kept (is_kept (pick.Bits bs)) (length (front ++ b ∷ [])) us)
    (sym (append_assoc front (b ∷ []) bits))
    ∙ kept_is (front ++ b ∷ []) bits us (omega (arith, e)) in
    ap (λ x. if x then u ∷ kept keeps (length front + 1) us else kept keeps (length front + 1) us)
    (bit_at front bits b)
    ∙ ap (λ xs. if b then u ∷ xs else xs) rest

-- ---- all of it

-- which of the values of a cell was left
which_left : (d left : Disk) → IsLeftOf d left → Cell → ℕ
which_left d left h c = (h.image.cells c).0

cells_left : (d left : Disk) (h : IsLeftOf d left) (c : Cell)
    → set_by c (kept_by (bits_for (which_left d left h) d.unsynced) d.unsynced) (d.synced c)
    ≡ left.synced c
unfolding which_left
cells_left d left h c =
    let any = h.image.cells c in
    leaves (which_left d left h) d.unsynced c (d.synced c) (left.synced c)
    (at_any any.0 (d.synced c) (values_of c d.unsynced) any.1 (left.synced c) any.2 any.3 any.4)

-- WHAT A CRASH LEFT of a disk, a pick leaves of it
pub pick_of_left : (d left : Disk) → IsLeftOf d left → (by : Pick) × (left ≡ crashed_by by d)
unfolding reads
pick_of_left d left h =
    let bits = bits_for (which_left d left h) d.unsynced in
    let keeps : kept (is_kept (pick.Bits bits)) 0 d.unsynced ≡ kept_by bits d.unsynced =
    kept_is [] bits d.unsynced (bits_long (which_left d left h) d.unsynced) in
    let cells : left.synced ≡ (λ c. set_by c (kept (is_kept (pick.Bits bits)) 0 d.unsynced)
    (d.synced c)) =
    fun_ext (λ c. sym (ap (λ us. set_by c us (d.synced c)) keeps ∙ cells_left d left h c)) in (
      pick.Bits bits,
      ap (λ (us : List Unsynced). record {
        synced = left.synced;
        unsynced = us;
        mark = left.mark;
      }) h.synced
          ∙ ap (λ (cs : Cells). record { synced = cs; unsynced = []; mark = left.mark }) cells
          ∙ ap (λ (m : Option MarkFields). record {
            synced = λ c. set_by c (kept (is_kept (pick.Bits bits)) 0 d.unsynced) (d.synced c);
            unsynced = [];
            mark = m;
          }) h.image.mark,
    )

-- ---- a disk that is synced

crashed_synced : (by : Pick) (d : Disk) → IsSynced d → crashed_by by d ≡ d
unfolding reads set_by kept
crashed_synced by d none = ap (λ (us : List Unsynced). crashed_by by (record {
  synced = d.synced;
  unsynced = us;
  mark = d.mark;
})) none
    ∙ ap (λ (us : List Unsynced). record { synced = d.synced; unsynced = us; mark = d.mark })
    (sym none)

-- of a synced disk all is left
pub left_of_synced : (d left : Disk) → IsSynced d → IsLeftOf d left → left ≡ d
left_of_synced d left synced h =
    let picked = pick_of_left d left h in picked.1 ∙ crashed_synced picked.0 d synced
