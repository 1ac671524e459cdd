-- Slots that are entered, cleared and renamed.
use Rattle.std.proofs.Common.{◌≡◌, ℕ, suc, ◌+◌, ◌<◌, ◌≤◌, ◌==◌, false, cond, List, [], ◌∷◌, length, get_or, set, sum_by, count_by, Option, Some, None, Ok, refl, sym, ap, ◌∙◌, subst, arith, inl, inr}
use Rattle.std.specs.List.{All}
use Rattle.std.specs.Str.{bytes_eq}
use Rattle.std.proofs.lemmas.Bool.{cases_lt, cases_Bool}
use Rattle.std.proofs.lemmas.Slice.Eq.{bytes_eq-Decides}
use Rattle.std.proofs.lemmas.List.{set_past}
use Rattle.std.proofs.lemmas.List.Elements.{All-cons, All-head, All-tail, All-nil, All-set, All-get_or}
use Rattle.std.proofs.lemmas.List.Sums.{sum_by-cons, sum_by-set}
use Rattle.file_tree.specs.declared.object.Slot.{Slot}
use Rattle.file_tree.specs.Tree.{Slots, names_it, names_in, entry_from, entry, with_entry}
use Rattle.file_tree.specs.Tries.{entry_name, is_some}
use Rattle.file_tree.specs.Outcome.{has_entry}
use Rattle.file_tree.specs.Sound.{IsRightlyNamed, has_name, AreSound}

-- 1 where two numbers are one
abbrev pub one : ℕ → ℕ → ℕ
one number k = cond (number == k) 1 0

-- 1 where a slot names an object, and where it has a name
abbrev pub share : ℕ → Option Slot → ℕ
share number s = cond (names_it number s) 1 0

abbrev pub name_share : List ℕ → Option Slot → ℕ
name_share name s = cond (has_name name s) 1 0

pub sum_by-with_entry : (f : Option Slot → ℕ) (slots : Slots) (s : Slot) → f None ≡ 0
    → sum_by f (with_entry slots s) ≡ sum_by f slots + f (Some s)
unfolding with_entry
sum_by-with_entry f [] s z = omega (arith, sum_by-cons f (Some s) [])
sum_by-with_entry f (None ∷ slots) s z =
    omega (arith, z, sum_by-cons f (Some s) slots, sum_by-cons f None slots)
sum_by-with_entry f (Some t ∷ slots) s z =
    omega (
      arith,
      sum_by-cons f (Some t) (with_entry slots s),
      sum_by-cons f (Some t) slots,
      sum_by-with_entry f slots s z,
    )

All-with_entry : (P : Option Slot → Type 0) (slots : Slots) (s : Slot) → P (Some s) → All P slots
    → All P (with_entry slots s)
unfolding with_entry
All-with_entry P [] s p all = All-cons P (Some s) [] p (All-nil P)
All-with_entry P (None ∷ slots) s p all = All-cons P (Some s) slots p (All-tail P None slots all)
All-with_entry P (Some t ∷ slots) s p all =
    All-cons P (Some t) (with_entry slots s) (All-head P (Some t) slots all)
    (All-with_entry P slots s p (All-tail P (Some t) slots all))

pub names_entered : (slots : Slots) (s : Slot) (k : ℕ)
    → names_in k (with_entry slots s) ≡ names_in k slots + one s.number k
names_entered slots s k = sum_by-with_entry (share k) slots s refl

pub names_set : (slots : Slots) (i : ℕ) (s : Option Slot) (k : ℕ) → i < length slots
    → names_in k (set slots i s) + share k (get_or slots i None) ≡ names_in k slots + share k s
names_set slots i s k lt = sum_by-set (share k) slots i s None lt

-- a search finds a slot with that name and number
pub found_from : (i : ℕ) (slots : Slots) (name : List ℕ) (x : ℕ × ℕ)
    → entry_from i slots name ≡ Some x
    → (j : ℕ) × (s : Slot) × (x.0 ≡ i + j) × (j < length slots) × (get_or slots j None ≡ Some s)
    × (s.name ≡ name) × (s.number ≡ x.1)
unfolding entry_from
found_from i [] name x e = absurd cc
found_from i (None ∷ slots) name x e =
    let r = found_from (i + 1) slots name x e in
    (suc r.0, r.1, omega (arith, r.2), omega (arith, r.3), r.4, r.5, r.6)
found_from i (Some s ∷ slots) name x e = elim (cases_Bool (bytes_eq s.name name)) [
  | inl t ↦
      let here : (i, s.number) ≡ x = let e' = rw t at e in cc in (
        0,
        s,
        sym (ap (λ (y : ℕ × ℕ). y.0) here)
            ∙ omega arith,
        omega arith,
        refl,
        (bytes_eq-Decides s.name name).0 t,
        ap (λ (y : ℕ × ℕ). y.1) here,
      )
  | inr t ↦
      let r = found_from (i + 1) slots name x (rw t at e) in
      (suc r.0, r.1, omega (arith, r.2), omega (arith, r.3), r.4, r.5, r.6)
]

-- the slot of an entry
pub record IsFound (slots : Slots) (name : List ℕ) (x : ℕ × ℕ) : Type 0 where
  pub slot : Slot
  pub within : x.0 < length slots
  pub at : get_or slots x.0 None ≡ Some slot
  pub named : slot.name ≡ name
  pub number : slot.number ≡ x.1

pub found : (slots : Slots) (name : List ℕ) (x : ℕ × ℕ) → entry slots name ≡ Some x
    → IsFound slots name x
found slots name x e =
    let r = found_from 0 slots name x e in
    let place : r.0 ≡ x.0 = omega (arith, r.2) in
    record {
      slot = r.1;
      within = omega (arith, place, r.3);
      at = ap (λ (i : ℕ). get_or slots i None) (sym place) ∙ r.4;
      named = r.5;
      number = r.6;
    }

not_found : (i : ℕ) (slots : Slots) (name : List ℕ) → entry_from i slots name ≡ None
    → count_by (has_name name) slots ≡ 0
unfolding entry_from
not_found i [] name e = refl
not_found i (None ∷ slots) name e =
    omega (arith, sum_by-cons (name_share name) None slots, not_found (i + 1) slots name e)
not_found i (Some s ∷ slots) name e = elim (cases_Bool (bytes_eq s.name name)) [
  | inl t ↦ let e' = rw t at e in absurd cc
  | inr t ↦
      let z : name_share name (Some s) ≡ 0 = rw t refl in
      omega (
        arith,
        z,
        sum_by-cons (name_share name) (Some s) slots,
        not_found (i + 1) slots name (rw t at e),
      )
]

-- where a search finds nothing, no slot has the name
pub none_named : (slots : Slots) (name : List ℕ) → entry slots name ≡ None
    → count_by (has_name name) slots ≡ 0
none_named slots name e = not_found 0 slots name e

is_none : (x : Option (ℕ × ℕ)) → is_some x ≡ false → x ≡ None
is_none None e = refl
is_none (Some x) e = absurd cc

pub no_entry : (slots : Slots) (name : List ℕ) → has_entry slots name ≡ false
    → count_by (has_name name) slots ≡ 0
no_entry slots name e = none_named slots name (is_none (entry slots name) e)

pub names_cleared : (slots : Slots) (i : ℕ) (name : List ℕ)
    → count_by (has_name name) (set slots i None) ≤ count_by (has_name name) slots
names_cleared slots i name = elim (cases_lt i (length slots)) [
  | inl lt ↦ omega (arith, sum_by-set (name_share name) slots i None None lt)
  | inr le ↦ rw (set_past slots i None le) (omega arith)
]

-- sound slots stay sound where one is freed
pub sound_cleared : (slots : Slots) (i : ℕ) → AreSound slots → AreSound (set slots i None)
sound_cleared slots i is = record {
  names = All-set IsRightlyNamed slots i None tt is.names;
  once = λ name. omega (arith, names_cleared slots i name, is.once name);
}

-- and where an entry names another object
pub sound_renamed : (slots : Slots) (i : ℕ) (s t : Slot) → AreSound slots → i < length slots
    → get_or slots i None ≡ Some s → t.name ≡ s.name
    → AreSound (set slots i (Some t))
sound_renamed slots i s t is lt at same = record {
  names =
      let right : entry_name s.name ≡ Ok tt =
      rw at at (All-get_or IsRightlyNamed slots i None lt is.names) in
      All-set IsRightlyNamed slots i (Some t) (rw same right) is.names;
  once = λ name.
      let old : name_share name (get_or slots i None) ≡ name_share name (Some s) =
      ap (name_share name) at in
      let new : name_share name (Some t) ≡ name_share name (Some s) =
      ap (λ (n : List ℕ). cond (bytes_eq n name) 1 0) same in
      omega (arith, old, new, sum_by-set (name_share name) slots i (Some t) None lt, is.once name);
}

-- and where a name that none has is entered
pub sound_entered : (slots : Slots) (s : Slot) → AreSound slots → entry_name s.name ≡ Ok tt
    → count_by (has_name s.name) slots ≡ 0 → AreSound (with_entry slots s)
sound_entered slots s is right new = record {
  names = All-with_entry IsRightlyNamed slots s right is.names;
  once = λ name.
      let more = sum_by-with_entry (name_share name) slots s refl in
      elim (cases_Bool (bytes_eq s.name name)) [
        | inl t ↦
            let here : name_share name (Some s) ≡ 1 = rw t refl in
            let none : count_by (has_name name) slots ≡ 0 =
            subst (λ (n : List ℕ). count_by (has_name n) slots ≡ 0)
            ((bytes_eq-Decides s.name name).0 t) new in
            omega (arith, more, here, none)
        | inr t ↦
            let here : name_share name (Some s) ≡ 0 = rw t refl in
            omega (arith, more, here, is.once name)
      ];
}

pub no_slots_sound : AreSound []
no_slots_sound = record { names = All-nil IsRightlyNamed; once = λ name. omega arith }
