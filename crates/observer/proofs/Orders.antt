-- Which cells are still to come in the phases of a copy.
use Rattle.std.proofs.Common.{◌≡◌, ℕ, ◌+◌, ◌<◌, ◌≤◌, ◌==◌, ◌||◌, ◌⊎◌, true, false, refl, sym, ap}
use Rattle.std.proofs.Common.{◌∙◌, arith, inl, inr}
use Rattle.std.specs.Prelude.{nat_lt, nat_le}
use Rattle.std.proofs.lemmas.Bool.{and_from, and_parts, both_ways, cases_lt, eq-eqb, eqb-true}
use Rattle.std.proofs.lemmas.Bool.{false_from_ne_true, le-leb, le-ltb, leb-true, lt-ltb, ltb-true}
use Rattle.std.proofs.lemmas.Bool.{or_cases, or_left, or_parts, or_right}
use Rattle.harp_cells.specs.declared.cell.Cell.{Cell}
use Rattle.harp_cells.specs.declared.cell.Cell.TheVariants as cell
use Rattle.harp_cells.specs.Effect.{is_cell}
use Rattle.harp_cells.proofs.CellLemmas.{is_cell_itself}
use Rattle.observer.specs.declared.phase.Part.{Part}
use Rattle.observer.specs.declared.phase.Part.TheVariants as part
use Rattle.observer.specs.Phases.{is_of_later, is_part_from, is_to_come, is_within, object_from}
use Rattle.observer.specs.Phases.{part_cell, parts_from}

-- ---- numbers within

pub within : (from next n : ℕ) → is_within from next n ≡ true → (from ≤ n) × (n < next)
within from next n h =
    let parts = and_parts (nat_le from n) (nat_lt n next) h in
    (leb-true from n parts.0, ltb-true n next parts.1)

pub is_in : (from next n : ℕ) → from ≤ n → n < next → is_within from next n ≡ true
is_in from next n low high =
    and_from (nat_le from n) (nat_lt n next) (le-leb from n low) (lt-ltb n next high)

pub outside : (from next n : ℕ) → is_within from next n ≡ false → (n < from) ⊎ (next ≤ n)
outside from next n h = elim (cases_lt n from) [
  | inl lt ↦ inl lt
  | inr le ↦ elim (cases_lt n next) [
    | inl lt ↦ absurd (both_ways (is_within from next n) h (is_in from next n le lt))
    | inr past ↦ inr past
  ]
]

pub not_in : (from next n : ℕ) → (from ≤ n → n < next → ⊥) → is_within from next n ≡ false
not_in from next n h = false_from_ne_true (is_within from next n)
    (λ t. let both = within from next n t in h both.0 both.1)

-- ---- what comes from an object on

none_in : (from next n : ℕ) → next ≤ from → is_within from next n ≡ false
none_in from next n le = not_in from next n (λ low high. omega (arith, le, low, high))

later_none : (from next : ℕ) (c : Cell) → next ≤ from → is_of_later from next c ≡ false
later_none from next cell.Meta le = refl
later_none from next (cell.Object n) le = none_in from next n le
later_none from next (cell.Block n i) le = none_in from next n le
later_none from next (cell.Slot n i) le = none_in from next n le
later_none from next (cell.Client n) le = refl
later_none from next (cell.Saved n) le = refl

pub objects_come : (n next : ℕ) (c : Cell)
    → is_to_come (object_from n next) c ≡ is_of_later n next c
objects_come n next c = elim (cases_lt n next) [
  | inl lt ↦ let t : nat_lt n next ≡ true = lt-ltb n next lt in rw t refl
  | inr le ↦
      let t : nat_lt n next ≡ false = le-ltb n next le in
      rw t (sym (later_none n next c le))
]

-- objects behind one come with it
pub later_more : (n next : ℕ) (c : Cell) → is_of_later (n + 1) next c ≡ true
    → is_of_later n next c ≡ true
later_more n next cell.Meta h = absurd cc
later_more n next (cell.Object k) h =
    let range = within (n + 1) next k h in is_in n next k (omega (arith, range.0)) range.1
later_more n next (cell.Block k i) h =
    let range = within (n + 1) next k h in is_in n next k (omega (arith, range.0)) range.1
later_more n next (cell.Slot k i) h =
    let range = within (n + 1) next k h in is_in n next k (omega (arith, range.0)) range.1
later_more n next (cell.Client k) h = absurd cc
later_more n next (cell.Saved k) h = absurd cc

-- ---- what comes from a part on

-- a part from one on, of so many
record IsPart (p : Part) (n at count : ℕ) (c : Cell) : Type 0 where
  place : ℕ
  is : c ≡ part_cell p n place
  low : at ≤ place
  high : place < count

which_part : (p : Part) (n at count : ℕ) (c : Cell) → is_part_from p n at count c ≡ true
    → IsPart p n at count c
which_part part.Slot n at count (cell.Slot k i) h =
    let parts = and_parts (k == n) (is_within at count i) h in
    let range = within at count i parts.1 in
    record {
      place = i;
      is = ap (λ (x : ℕ). cell.Slot x i) (eqb-true k n parts.0);
      low = range.0;
      high = range.1;
    }
which_part part.Slot n at count cell.Meta h = absurd cc
which_part part.Slot n at count (cell.Object k) h = absurd cc
which_part part.Slot n at count (cell.Block k i) h = absurd cc
which_part part.Slot n at count (cell.Client k) h = absurd cc
which_part part.Slot n at count (cell.Saved k) h = absurd cc
which_part part.Block n at count (cell.Block k i) h =
    let parts = and_parts (k == n) (is_within at count i) h in
    let range = within at count i parts.1 in
    record {
      place = i;
      is = ap (λ (x : ℕ). cell.Block x i) (eqb-true k n parts.0);
      low = range.0;
      high = range.1;
    }
which_part part.Block n at count cell.Meta h = absurd cc
which_part part.Block n at count (cell.Object k) h = absurd cc
which_part part.Block n at count (cell.Slot k i) h = absurd cc
which_part part.Block n at count (cell.Client k) h = absurd cc
which_part part.Block n at count (cell.Saved k) h = absurd cc

pub is_part : (p : Part) (n at count place : ℕ) → at ≤ place → place < count
    → is_part_from p n at count (part_cell p n place) ≡ true
is_part part.Slot n at count place low high =
    and_from (n == n) (is_within at count place) (eq-eqb n n refl) (is_in at count place low high)
is_part part.Block n at count place low high =
    and_from (n == n) (is_within at count place) (eq-eqb n n refl) (is_in at count place low high)

part_later : (p : Part) (n next place : ℕ) → n < next
    → is_of_later n next (part_cell p n place) ≡ true
part_later part.Slot n next place lt = is_in n next n (omega arith) lt
part_later part.Block n next place lt = is_in n next n (omega arith) lt

parts_none : (p : Part) (n at count : ℕ) (c : Cell) → count ≤ at
    → is_part_from p n at count c ≡ false
parts_none p n at count c le = false_from_ne_true (is_part_from p n at count c) (λ t.
    let w = which_part p n at count c t in omega (arith, le, w.low, w.high))

pub parts_come : (p : Part) (n next at count : ℕ) (c : Cell)
    → is_to_come (parts_from p n next at count) c
    ≡ (is_part_from p n at count c || is_of_later (n + 1) next c)
parts_come p n next at count c = elim (cases_lt at count) [
  | inl lt ↦ let t : nat_lt at count ≡ true = lt-ltb at count lt in rw t refl
  | inr le ↦
      let t : nat_lt at count ≡ false = le-ltb at count le in
      let none = parts_none p n at count c le in
      rw (t, none) (objects_come (n + 1) next c)
]

-- ---- one step of a phase

only_part : (p : Part) (n at count : ℕ) (c : Cell) → is_part_from p n at count c ≡ true
    → is_part_from p n (at + 1) count c ≡ false → is_cell (part_cell p n at) c ≡ true
only_part p n at count c here gone =
    let w = which_part p n at count c here in
    elim (cases_lt at w.place) [
      | inl lt ↦
          let still : is_part_from p n (at + 1) count c ≡ true =
          ap (is_part_from p n (at + 1) count) w.is
          ∙ is_part p n (at + 1) count w.place (omega (arith, lt)) w.high in
          absurd (both_ways (is_part_from p n (at + 1) count c) gone still)
      | inr le ↦
          let same : at ≡ w.place = omega (arith, le, w.low) in
          is_cell_itself (part_cell p n at) c (ap (part_cell p n) same ∙ sym w.is)
    ]

-- the next part: only the wanted one comes no more
pub part_step : (p : Part) (n next at count : ℕ) (c : Cell)
    → (is_part_from p n at count c || is_of_later (n + 1) next c) ≡ true
    → (is_part_from p n (at + 1) count c || is_of_later (n + 1) next c) ≡ false
    → is_cell (part_cell p n at) c ≡ true
part_step p n next at count c old new =
    let gone = or_parts (is_part_from p n (at + 1) count c) (is_of_later (n + 1) next c) new in
    elim (or_cases (is_part_from p n at count c) (is_of_later (n + 1) next c) old) [
      | inr later ↦ absurd (both_ways (is_of_later (n + 1) next c) gone.1 later)
      | inl here ↦ only_part p n at count c here gone.0
    ]

-- nothing comes anew
pub parts_on : (p : Part) (n next at count : ℕ) (c : Cell)
    → (is_part_from p n (at + 1) count c || is_of_later (n + 1) next c) ≡ true
    → (is_part_from p n at count c || is_of_later (n + 1) next c) ≡ true
parts_on p n next at count c h =
    elim (or_cases (is_part_from p n (at + 1) count c) (is_of_later (n + 1) next c) h) [
      | inl here ↦
          let w = which_part p n (at + 1) count c here in
          or_left (is_part_from p n at count c) (is_of_later (n + 1) next c)
          (ap (is_part_from p n at count) w.is
          ∙ is_part p n at count w.place (omega (arith, w.low)) w.high)
      | inr later ↦ or_right (is_part_from p n at count c) (is_of_later (n + 1) next c) later
    ]

-- the parts of an object, and what comes behind it, come with it
pub parts_behind : (p : Part) (n next at count : ℕ) (c : Cell) → n < next
    → (is_part_from p n at count c || is_of_later (n + 1) next c) ≡ true
    → is_of_later n next c ≡ true
parts_behind p n next at count c lt h =
    elim (or_cases (is_part_from p n at count c) (is_of_later (n + 1) next c) h) [
      | inl here ↦
          let w = which_part p n at count c here in
          ap (is_of_later n next) w.is ∙ part_later p n next w.place lt
      | inr later ↦ later_more n next c later
    ]
