-- What the records of a log make of one cell.
use Rattle.std.proofs.Common.{◌≡◌, ℕ, zero, suc, ◌+◌, ◌-◌, ◌≤◌, ◌<◌, List, [], ◌∷◌, ◌++◌, length, get_or, take, drop, Option, refl, sym, ap, subst, ◌∙◌, inl, inr, arith, append-nil}
use Rattle.std.specs.Prelude.{fold}
use Rattle.std.proofs.lemmas.Bool.{cases_eq}
use Rattle.std.proofs.lemmas.List.{drop_more, take-append-drop, take-take}
use Rattle.std.proofs.lemmas.List.Sums.{fold-append}
use Rattle.harp_cells.specs.declared.cell.Cell.{Cell}
use Rattle.harp_cells.specs.declared.value.Value.{Value}
use Rattle.harp_cells.specs.declared.change.Change.{Change}
use Rattle.harp_cells.specs.Effect.{after, changed}
use Rattle.fuzzy_cells.specs.History.{History, between, in_a_row}
use Rattle.fuzzy_cells.proofs.Fuzzy.{gives_exactly}
use Rattle.overlay.specs.Laws.{IsLogOf, ReadsExactly}
use Rattle.overlay.specs.Overlay.{IsToldBy, Leaves, Sets, changes_upto, value_of}

-- the records of a log up to an index are those of its history from the base on
upto_is : (history : History) (base : ℕ) (records : History) (upto : ℕ) → IsLogOf history base records
    → upto ≤ base + length records → changes_upto base records upto ≡ between history base upto
upto_is history base records upto log le = ap (λ (h : History). in_a_row h)
    (ap (λ (h : History). take (upto - base) h) log.are
    ∙ take-take (upto - base) (length records) (drop base history) (omega arith))

pub reads_exactly : ReadsExactly
reads_exactly history base records a m upto under log fuzzy low order high le c s =
    ap (λ (l : List Change). after l under c) (upto_is history base records upto log le)
    ∙ gives_exactly history base a m upto under fuzzy low order high c s

-- what a cell holds after the first n records
abbrev pub made_by : Cell → Option Value → History → Option Value
made_by c held records = fold (changed c) held (in_a_row records)

-- after one more
one_more : (records : History) (n : ℕ) (c : Cell) (held : Option Value)
    → made_by c held (take (suc n) records)
    ≡ fold (changed c) (made_by c held (take n records)) (get_or records n [])
one_more [] zero c held = refl
one_more [] (suc n) c held = refl
one_more (r ∷ records) zero c held = ap (λ (l : List Change). fold (changed c) held l) (append-nil r)
one_more (r ∷ records) (suc n) c held =
    fold-append (changed c) held r (in_a_row (take (suc n) records))
    ∙ one_more records n c (fold (changed c) held r)
    ∙ ap (λ (v : Option Value). fold (changed c) v (get_or records n []))
    (sym (fold-append (changed c) held r (in_a_row (take n records))))

-- records that leave a cell make nothing of it
pub skipped : (records : History) (c : Cell) (k n : ℕ) → k ≤ n
    → ((j : ℕ) → k ≤ j → j < n → Leaves c (get_or records j [])) → (held : Option Value)
    → made_by c held (take n records) ≡ made_by c held (take k records)
skipped records c k zero le h held =
    let none : zero ≡ k = omega (arith, le) in
    ap (λ (m : ℕ). made_by c held (take m records)) none
skipped records c k (suc n) le h held = elim (cases_eq k (suc n)) [
  | inl e ↦ ap (λ (m : ℕ). made_by c held (take m records)) (sym e)
  | inr other ↦
      let low : k ≤ n = omega (arith, le, other) in
      one_more records n c held
      ∙ h n low (omega arith) (made_by c held (take n records))
      ∙ skipped records c k n low (λ j from to. h j from (omega (arith, to))) held
]

-- what is told of a record, behind which the records leave the cell
pub told_at : (records : History) (c : Cell) (k : ℕ) (found : List Change) → 0 < length found
    → IsToldBy c (get_or records k []) found → IsToldBy c (in_a_row (take (suc k) records)) found
told_at records c k [] some told = absurd (omega (arith, some))
told_at records c k (x ∷ found) some told = λ held.
    one_more records k c held ∙ told (made_by c held (take k records))

-- an empty part tells that the changes leave the cell
pub told_leaves : (c : Cell) (changes found : List Change) → length found ≡ 0 → IsToldBy c changes found
    → Leaves c changes
told_leaves c changes [] none told = told
told_leaves c changes (x ∷ found) none told = absurd (omega (arith, none))

-- changes that make the same of the cell are told by the same
pub told_same : (c : Cell) (changes others found : List Change)
    → ((held : Option Value) → fold (changed c) held others ≡ fold (changed c) held changes)
    → IsToldBy c changes found → IsToldBy c others found
told_same c changes others [] same told = λ held. same held ∙ told held
told_same c changes others (x ∷ found) same told = λ held. same held ∙ told held

-- one change more in front, which leaves the cell as those behind it do
pub one_more_leaves : (c : Cell) (changes : List Change) (at : ℕ) (d : Change) → at < length changes
    → Leaves c (get_or changes at d ∷ []) → Leaves c (drop (at + 1) changes) → Leaves c (drop at changes)
one_more_leaves c changes at d lt one rest = λ held.
    ap (λ (l : List Change). fold (changed c) held l) (drop_more changes at d lt)
    ∙ ap (λ (v : Option Value). fold (changed c) v (drop (at + 1) changes)) (one held)
    ∙ rest held

-- a change sets the cell, and those behind it leave it
pub told_from : (c : Cell) (changes : List Change) (at : ℕ) (d : Change) → at < length changes
    → Sets c (get_or changes at d ∷ []) (value_of (get_or changes at d)) → Leaves c (drop (at + 1) changes)
    → IsToldBy c changes (drop at changes)
told_from c changes at d lt one rest =
    let x = get_or changes at d in
    subst (λ (l : List Change). IsToldBy c changes l) (sym (drop_more changes at d lt)) (λ held.
    ap (λ (l : List Change). fold (changed c) held l)
    (sym (take-append-drop at changes) ∙ ap (λ (l : List Change). take at changes ++ l) (drop_more changes at d lt))
    ∙ fold-append (changed c) held (take at changes) (x ∷ drop (at + 1) changes)
    ∙ ap (λ (v : Option Value). fold (changed c) v (drop (at + 1) changes))
    (one (fold (changed c) held (take at changes)))
    ∙ rest (value_of x))
