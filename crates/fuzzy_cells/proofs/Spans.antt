-- Changes in a row: what they make of one cell, and of which records they are.
use Rattle.std.proofs.Common.{◌≡◌, ◌⊎◌, ℕ, zero, suc, ◌+◌, ◌-◌, ◌≤◌, ◌<◌, Bool, true, false, List, [], ◌∷◌, ◌++◌, length, take, drop, Option, Some, None, refl, sym, ap, ◌∙◌, inl, inr, ⊎_elim, arith, zero-le, if◌then◌else◌}
use Rattle.std.specs.Prelude.{fold}
use Rattle.std.proofs.lemmas.List.{append-nil, take-append-drop, take-append-le, take-take, drop-take, drop-drop}
use Rattle.std.proofs.lemmas.List.Concat.{flat_map-append}
use Rattle.std.proofs.lemmas.List.Sums.{fold-append}
use Rattle.std.proofs.lemmas.Bool.{cases_lt}
use Rattle.harp_cells.specs.declared.cell.Cell.{Cell}
use Rattle.harp_cells.specs.declared.value.Value.{Value}
use Rattle.harp_cells.specs.declared.change.Change.{Change}
use Rattle.harp_cells.specs.declared.change.Change.TheVariants as change
use Rattle.harp_cells.specs.Effect.{Cells, after, changed, is_block_from, is_cell}
use Rattle.fuzzy_cells.specs.History.{AllSetOnce, History, between, cells_at, in_a_row}

-- ---- one cell

-- changes leave a cell whatever it holds, or set it to one value
abbrev pub Settles : (Option Value → Option Value) → Type 0
Settles f = ((v : Option Value) → f v ≡ v) ⊎ ((w : Option Value) × ((v : Option Value) → f v ≡ w))

by_test : (b : Bool) (w : Option Value) → Settles (λ v. if b then w else v)
by_test true w = inr (w, λ v. refl)
by_test false w = inl (λ v. refl)

one_settles : (c : Cell) (x : Change) → Settles (λ v. changed c v x)
one_settles c (change.Put d value) = by_test (is_cell d c) (Some value)
one_settles c (change.Erase d) = by_test (is_cell d c) None
one_settles c (change.EraseFrom object first) = by_test (is_block_from object first c) None

pub settles : (c : Cell) (changes : List Change) → Settles (λ v. fold (changed c) v changes)
settles c [] = inl (λ v. refl)
settles c (x ∷ changes) = ⊎_elim
    (λ (k : (v : Option Value) → fold (changed c) v changes ≡ v). ⊎_elim
    (λ (j : (v : Option Value) → changed c v x ≡ v). inl (λ v. k (changed c v x) ∙ j v))
    (λ (j : (w : Option Value) × ((v : Option Value) → changed c v x ≡ w)). inr (
      j.0,
      λ v. k (changed c v x) ∙ j.1 v,
    ))
    (one_settles c x))
    (λ (k : (w : Option Value) × ((v : Option Value) → fold (changed c) v changes ≡ w)). inr (
      k.0,
      λ v. k.1 (changed c v x),
    ))
    (settles c changes)

-- made again they change nothing
pub again : (c : Cell) (changes : List Change) (v : Option Value)
    → fold (changed c) (fold (changed c) v changes) changes ≡ fold (changed c) v changes
again c changes v = ⊎_elim
    (λ (k : (v : Option Value) → fold (changed c) v changes ≡ v). k (fold (changed c) v changes))
    (λ (k : (w : Option Value) × ((v : Option Value) → fold (changed c) v changes ≡ w)). k.1
    (fold (changed c) v changes) ∙ sym (k.1 v))
    (settles c changes)

-- ---- records of a history

take_split : {A : Type 0} (a b : ℕ) (xs : List A) → a ≤ b → take b xs ≡ take a xs
    ++ take (b - a) (drop a xs)
take_split a b xs le =
    let e : a + (b - a) ≡ b = omega arith in
    let d : drop a (take b xs) ≡ take (b - a) (drop a xs) = ap (λ (n : ℕ). drop a (take n xs))
    (sym e) ∙ drop-take a (b - a) xs in
    sym (take-append-drop a (take b xs)) ∙ ap (λ (ys : List _). ys ++ drop a (take b xs))
    (take-take a b xs le) ∙ ap (λ (ys : List _). take a xs ++ ys) d

-- the records from a to k are those from a to i, and then those from i to k
pub between_split : (history : History) (a i k : ℕ) → a ≤ i → i ≤ k → between history a k ≡
    between history a i ++ between history i k
between_split history a i k l m =
    let e : a + (i - a) ≡ i = omega arith in
    let n : (k - a) - (i - a) ≡ k - i = omega arith in
    let d : drop (i - a) (drop a history) ≡ drop i history = drop-drop (i - a) a history
    ∙ ap (λ (j : ℕ). drop j history) e in
    ap (λ (h : History). in_a_row h) (take_split (i - a) (k - a) (drop a history) (omega arith)
    ∙ ap (λ (h : History). take (i - a) (drop a history) ++ take ((k - a) - (i - a)) h) d
    ∙ ap (λ (j : ℕ). take (i - a) (drop a history) ++ take j (drop i history)) n)
    ∙ flat_map-append (λ changes. changes) (take (i - a) (drop a history))
    (take (k - i) (drop i history))

-- the cells after k records, from those after a
pub cells_from : (history : History) (a k : ℕ) (c : Cell) → a ≤ k → cells_at history k c ≡
    fold (changed c) (cells_at history a c) (between history a k)
cells_from history a k c le =
    ap (λ (h : History). fold (changed c) None (in_a_row h)) (take_split a k history le)
    ∙ ap (λ (l : List Change). fold (changed c) None l) (flat_map-append (λ changes. changes)
    (take a history) (take (k - a) (drop a history)))
    ∙ fold-append (changed c) None (in_a_row (take a history)) (between history a k)

-- ---- moments

pub take_past : {A : Type 0} (xs ys : List A) (n m : ℕ) → n ≡ length xs + m → take n (xs ++ ys) ≡
    xs ++ take m ys
take_past [] ys n m e = ap (λ (k : ℕ). take k ys) (let f : n ≡ m = omega (arith, e) in f)
take_past (x ∷ xs) ys zero m e = absurd (omega (arith, e))
take_past (x ∷ xs) ys (suc n) m e =
    ap (λ (zs : List _). x ∷ zs) (take_past xs ys n m (omega (arith, e)))

pub take_none : {A : Type 0} (n : ℕ) → take {A = A} n [] ≡ []
take_none zero = refl
take_none (suc n) = refl

-- at each moment a cell holds what it holds after some whole number of the records
pub whole_records : (history : History) → AllSetOnce history → (n : ℕ) (cells : Cells) (c : Cell)
    → (p : ℕ) × (p ≤ length history) × (after (take n (in_a_row history)) cells c ≡
    after (in_a_row (take p history)) cells c)
whole_records [] once n cells c = (
  0,
  zero-le,
  ap (λ (l : List Change). after l cells c) (take_none n),
)
whole_records (r ∷ rs) once n cells c = ⊎_elim
    (λ (past : length r < n).
    let m = n - length r in
    let e : n ≡ length r + m = omega arith in
    let more = whole_records rs once.1 m (after r cells) c in (
      suc more.0,
      (let l = more.1 in omega arith),
      ap (λ (l : List Change). after l cells c) (take_past r (in_a_row rs) n m e)
          ∙ fold-append (changed c) (cells c) r (take m (in_a_row rs)) ∙ more.2
          ∙ sym (fold-append (changed c) (cells c) r (in_a_row (take more.0 rs))),
    ))
    (λ (within : n ≤ length r).
    let front = ap (λ (l : List Change). after l cells c)
    (take-append-le n r (in_a_row rs) within) in
    ⊎_elim
    (λ (e : after (take n r) cells c ≡ cells c). (0, zero-le, front ∙ e))
    (λ (e : after (take n r) cells c ≡ after r cells c). (
      1,
      (let z : 0 ≤ length rs = zero-le in omega arith),
      front ∙ e ∙ ap (λ (l : List Change). after l cells c) (sym (append-nil r)),
    ))
    (once.0 n cells c))
    (cases_lt (length r) n)

-- a part of a history sets cells once too
pub part_once : (history : History) (a n : ℕ) → AllSetOnce history
    → AllSetOnce (take n (drop a history))
part_once [] zero zero once = tt
part_once [] zero (suc n) once = tt
part_once [] (suc a) zero once = tt
part_once [] (suc a) (suc n) once = tt
part_once (r ∷ rs) zero zero once = tt
part_once (r ∷ rs) zero (suc n) once = (once.0, part_once rs zero n once.1)
part_once (r ∷ rs) (suc a) n once = part_once rs a n once.1
