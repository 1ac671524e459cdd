-- Right names, and names that stand once.
use Rattle.std.proofs.Common.{◌≡◌, ℕ, ◌+◌, ◌≤◌, ◌==◌, ◌||◌, ◌⊎◌, not, Bool, true, false, List, []}
use Rattle.std.proofs.Common.{◌∷◌, Some, None, refl, subst, ◌∙◌, arith, inl, inr}
use Rattle.std.specs.List.{AllByRecursion, list_any}
use Rattle.std.specs.Prelude.{count_by, Ok, Err, cond}
use Rattle.std.specs.Str.{bytes_eq}
use Rattle.std.proofs.lemmas.Bool.{cases_Bool, or_parts, or_from, both_ways, eq-eqb, eqb-false}
use Rattle.std.proofs.lemmas.Bool.{ne_eqb, not-false, not_from_true, false_from_ne_true}
use Rattle.std.proofs.lemmas.List.Sums.{sum_by-cons}
use Rattle.std.proofs.lemmas.Slice.Eq.{bytes_eq-Decides}
use Rattle.file_tree.specs.declared.object.Slot.{Slot}
use Rattle.file_tree.specs.Sound.{IsRightlyNamed, has_name}
use Rattle.file_tree.specs.Tree.{Slots, names_in, names_it}
use Rattle.file_tree.specs.Tries.{Tried, entry_name, is_some}
use Rattle.audit.specs.declared.picture.Portrait.{Portrait}
use Rattle.audit.specs.Flaws.{has_twins, is_bad_entry, is_refused, portrait_at}

-- ---- counts of what some pass

-- one for what passes
abbrev pub weight : Bool → ℕ
weight b = cond b 1 0

pub counted : {X : Type 0} (p : X → Bool) (x : X) (xs : List X)
    → count_by p (x ∷ xs) ≡ weight (p x) + count_by p xs
counted p x xs = sum_by-cons (λ y. cond (p y) 1 0) x xs

pub none_counted : {X : Type 0} (p : X → Bool) (xs : List X) → list_any p xs ≡ false
    → count_by p xs ≡ 0
none_counted p [] h = refl
none_counted p (x ∷ xs) h =
    let parts = or_parts (p x) (list_any p xs) h in
    let here : weight (p x) ≡ 0 = rw parts.0 refl in
    omega (arith, here, none_counted p xs parts.1, counted p x xs)

pub none_passes : {X : Type 0} (p : X → Bool) (xs : List X) → count_by p xs ≡ 0
    → list_any p xs ≡ false
none_passes p [] h = refl
none_passes p (x ∷ xs) h =
    let sum = counted p x xs in
    let first : p x ≡ false = false_from_ne_true (p x) (λ t.
    let one : weight (p x) ≡ 1 = rw t refl in omega (arith, one, sum, h)) in
    or_from (p x) (list_any p xs) first (none_passes p xs (omega (arith, sum, h)))

-- ---- names that stand once

name_same : (s : Slot) (name : List ℕ) → bytes_eq s.name name ≡ true → s.name ≡ name
name_same s name h = (bytes_eq-Decides s.name name).0 h

name_itself : (s : Slot) → bytes_eq s.name s.name ≡ true
name_itself s = (bytes_eq-Decides s.name s.name).1 refl

pub once_each : (slots : Slots) → has_twins slots ≡ false → (name : List ℕ)
    → count_by (has_name name) slots ≤ 1
unfolding has_twins
once_each [] h name = omega arith
once_each (None ∷ slots) h name =
    omega (
      arith,
      once_each slots h name,
      counted (has_name name) None slots,
    )
once_each (Some s ∷ slots) h name =
    let parts = or_parts (list_any (has_name s.name) slots) (has_twins slots) h in
    let sum = counted (has_name name) (Some s) slots in
    elim (cases_Bool (bytes_eq s.name name)) [
      | inl t ↦
          let others : list_any (has_name name) slots ≡ false =
          subst (λ (n : List ℕ). list_any (has_name n) slots ≡ false) (name_same s name t)
          parts.0 in
          let one : weight (bytes_eq s.name name) ≡ 1 = rw t refl in
          omega (arith, sum, one, none_counted (has_name name) slots others)
      | inr f ↦
          let zero : weight (bytes_eq s.name name) ≡ 0 = rw f refl in
          omega (arith, sum, zero, once_each slots parts.1 name)
    ]

pub no_twins : (slots : Slots) → ((name : List ℕ) → count_by (has_name name) slots ≤ 1)
    → has_twins slots ≡ false
unfolding has_twins
no_twins [] once = refl
no_twins (None ∷ slots) once =
    no_twins slots (λ name. omega (
      arith,
      once name,
      counted (has_name name) None slots,
    ))
no_twins (Some s ∷ slots) once =
    let sum = λ (name : List ℕ).
    counted (has_name name) (Some s) slots in
    let here : weight (bytes_eq s.name s.name) ≡ 1 = rw (name_itself s) refl in
    or_from (list_any (has_name s.name) slots) (has_twins slots)
    (none_passes (has_name s.name) slots (omega (arith, sum s.name, once s.name, here)))
    (no_twins slots (λ name. omega (arith, sum name, once name)))

-- ---- entries

tried : (t : Tried (Unit {0})) → is_refused t ≡ false → t ≡ Ok tt
tried (Ok x) h = refl
tried (Err status) h = absurd cc

pub rightly_named : (objects : List Portrait) (slots : Slots)
    → list_any (is_bad_entry objects) slots ≡ false → AllByRecursion IsRightlyNamed slots
rightly_named objects [] h = tt
rightly_named objects (None ∷ slots) h = (tt, rightly_named objects slots h)
rightly_named objects (Some s ∷ slots) h =
    let parts = or_parts (is_bad_entry objects (Some s)) (list_any (is_bad_entry objects) slots) h in
    let own = or_parts (s.number == 1)
    (not (is_some (portrait_at objects s.number)) || is_refused (entry_name s.name)) parts.0 in
    let two = or_parts (not (is_some (portrait_at objects s.number)))
    (is_refused (entry_name s.name)) own.1 in
    (tried (entry_name s.name) two.1, rightly_named objects slots parts.1)

-- no entry names the root or what isn't there
pub unnamed : (objects : List Portrait) (n : ℕ) (slots : Slots)
    → list_any (is_bad_entry objects) slots ≡ false
    → (n ≡ 1) ⊎ (is_some (portrait_at objects n) ≡ false) → names_in n slots ≡ 0
unnamed objects n [] h odd = refl
unnamed objects n (None ∷ slots) h odd =
    omega (
      arith,
      unnamed objects n slots h odd,
      counted (names_it n) None slots,
    )
unnamed objects n (Some s ∷ slots) h odd =
    let parts = or_parts (is_bad_entry objects (Some s)) (list_any (is_bad_entry objects) slots) h in
    let own = or_parts (s.number == 1)
    (not (is_some (portrait_at objects s.number)) || is_refused (entry_name s.name)) parts.0 in
    let two = or_parts (not (is_some (portrait_at objects s.number)))
    (is_refused (entry_name s.name)) own.1 in
    let other : (s.number == n) ≡ false = ne_eqb s.number n (λ e. elim odd [
      | inl one ↦ eqb-false s.number 1 own.0 (e ∙ one)
      | inr dead ↦ both_ways (is_some (portrait_at objects n)) dead
          (subst (λ (k : ℕ). is_some (portrait_at objects k) ≡ true) e
          (not-false (is_some (portrait_at objects s.number)) two.0))
    ]) in
    let zero : weight (s.number == n) ≡ 0 = rw other refl in
    omega (
      arith,
      zero,
      unnamed objects n slots parts.1 odd,
      counted (names_it n) (Some s) slots,
    )

-- entries with right names, of which each names an object that is there and not the root
pub good_entries : (objects : List Portrait) (slots : Slots)
    → ((n : ℕ) → 1 ≤ names_in n slots → (n ≡ 1 → ⊥) × (is_some (portrait_at objects n) ≡ true))
    → AllByRecursion IsRightlyNamed slots → list_any (is_bad_entry objects) slots ≡ false
good_entries objects [] live named = refl
good_entries objects (None ∷ slots) live named =
    good_entries objects slots
    (λ n h. live n (omega (
      arith,
      h,
      counted (names_it n) None slots,
    )))
    named.1
good_entries objects (Some s ∷ slots) live named =
    let sum = λ (n : ℕ).
    counted (names_it n) (Some s) slots in
    let itself : weight (s.number == s.number) ≡ 1 =
    rw (eq-eqb s.number s.number refl) refl in
    let own = live s.number (omega (arith, sum s.number, itself)) in
    let right : is_refused (entry_name s.name) ≡ false = rw named.0 refl in
    or_from (is_bad_entry objects (Some s)) (list_any (is_bad_entry objects) slots)
    (or_from (s.number == 1)
    (not (is_some (portrait_at objects s.number)) || is_refused (entry_name s.name))
    (ne_eqb s.number 1 own.0)
    (or_from (not (is_some (portrait_at objects s.number))) (is_refused (entry_name s.name))
    (not_from_true (is_some (portrait_at objects s.number)) own.1) right))
    (good_entries objects slots (λ n h. live n (omega (arith, sum n, h))) named.1)
