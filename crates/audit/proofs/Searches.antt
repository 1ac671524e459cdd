-- Look-ups in sorted objects, and what their entries say.
use Rattle.std.proofs.Common.{◌≡◌, ℕ, zero, suc, ◌+◌, ◌<◌, ◌≤◌, ◌==◌, ◌&&◌, ◌||◌, not, Bool}
use Rattle.std.proofs.Common.{true, false, cond, List, [], ◌∷◌, length, get_or, Option, Some, None}
use Rattle.std.proofs.Common.{refl, sym, ap, subst, ◌∙◌, arith, inl, inr}
use Rattle.std.specs.List.{flat_map, list_any}
use Rattle.std.specs.List.Sorted.{IsNonDecreasingBy, IsPartitionPoint, IsSortedBy}
use Rattle.std.specs.Ordering.{is_lt, nat_cmp, ordering_index}
use Rattle.std.specs.Prelude.{count_by, nat_lt}
use Rattle.std.specs.declared.cmp.Ordering.{Ordering}
use Rattle.std.specs.declared.cmp.Ordering.TheVariants.{Less, Equal, Greater}
use Rattle.std.proofs.lemmas.Bool.{and_from, and_right, cases_Bool, cases_eq, cases_lt, eq-eqb}
use Rattle.std.proofs.lemmas.Bool.{le-ltb, ne_eqb, not_from_false, or_from, or_left}
use Rattle.std.proofs.lemmas.Cmp.{nat_cmp_total, ranked, tied_itself}
use Rattle.std.proofs.lemmas.List.{get_or_default}
use Rattle.std.proofs.lemmas.List.Folds.{list_any-append}
use Rattle.std.proofs.lemmas.List.Sorted.{searchable_from_sorted}
use Rattle.std.proofs.lemmas.List.Sums.{sum_by-append, sum_by-cons}
use Rattle.file_tree.specs.Tree.{Slots, names_in, names_it}
use Rattle.audit.specs.declared.picture.Portrait.{Portrait}
use Rattle.audit.specs.Entries.{IsPlace, entries_by, entries_in, entry_at, is_entry}
use Rattle.audit.specs.Flaws.{is_directory, names_by, names_of, names_shown, portrait_at, slots_in}
use Rattle.audit.specs.Pictures.{AreInOrder}
use Rattle.audit.proofs.Lookups.{at_head, behind_head}
use Rattle.audit.proofs.Names.{counted, weight}

-- ---- objects by place

pub at_place : (from next : ℕ) (xs : List Portrait) (i : ℕ) (d : Portrait) → AreInOrder from next xs
    → i < length xs → (from ≤ (get_or xs i d).number)
    × (portrait_at xs (get_or xs i d).number ≡ Some (get_or xs i d))
at_place from next [] i d h lt = absurd (omega (arith, lt))
at_place from next (x ∷ xs) zero d h lt = (h.0, at_head x xs x.number refl)
at_place from next (x ∷ xs) (suc i) d h lt =
    let r = at_place (x.number + 1) next xs i d h.3 (omega (arith, lt)) in (
      omega (arith, r.0, h.0),
      behind_head x xs (get_or xs i d).number (λ e. omega (arith, e, r.0)) ∙ r.1,
    )

-- two places have two numbers
pub two_places : (from next : ℕ) (xs : List Portrait) (i j : ℕ) (d : Portrait)
    → AreInOrder from next xs → i < j → j < length xs
    → (get_or xs i d).number < (get_or xs j d).number
two_places from next [] i j d h lt end = absurd (omega (arith, end))
two_places from next (x ∷ xs) i zero d h lt end = absurd (omega (arith, lt))
two_places from next (x ∷ xs) zero (suc j) d h lt end =
    let r = at_place (x.number + 1) next xs j d h.3 (omega (arith, end)) in omega (arith, r.0)
two_places from next (x ∷ xs) (suc i) (suc j) d h lt end =
    two_places (x.number + 1) next xs i j d h.3 (omega (arith, lt)) (omega (arith, end))

not_less : (a b : ℕ) → a < b → is_lt (nat_cmp b a) ≡ false
not_less a b lt =
    let t : nat_lt b a ≡ false = le-ltb b a (omega (arith, lt)) in
    let u : (b == a) ≡ false = ne_eqb b a (λ e. omega (arith, e, lt)) in
    rw (t, u) refl

sorted_objects : (from next : ℕ) (xs : List Portrait) → AreInOrder from next xs
    → IsSortedBy (λ a b. is_lt (nat_cmp a.number b.number)) xs
sorted_objects from next xs h k d low lt =
    not_less (get_or xs k d).number (get_or xs (k + 1) d).number
    (two_places from next xs k (k + 1) d h (omega arith) lt)

tied : (a b : ℕ) → nat_cmp a b ≡ Equal → a ≡ b
tied a b h = ranked a b Equal (sym h)

apart : (a b : ℕ) (o : Ordering) → nat_cmp a b ≡ o → (o ≡ Equal → ⊥) → a ≡ b → ⊥
apart a b o h ne e =
    let same : nat_cmp a b ≡ Equal =
    ap (λ (x : ℕ). nat_cmp x b) e ∙ tied_itself nat_cmp_total b in
    ne (sym h ∙ same)

none_where : (xs : List Portrait) (n : ℕ)
    → ((k : ℕ) (d : Portrait) → k < length xs → (get_or xs k d).number ≡ n → ⊥)
    → portrait_at xs n ≡ None
unfolding portrait_at
none_where [] n other = refl
none_where (x ∷ xs) n other =
    behind_head x xs n (λ e. other zero x (omega arith) e)
    ∙ none_where xs n (λ k d lt e. other (suc k) d (omega (arith, lt)) e)

pub place_found : (from next : ℕ) (xs : List Portrait) (n i : ℕ) → AreInOrder from next xs
    → i < length xs → ((d : Portrait) → nat_cmp (get_or xs i d).number n ≡ Equal)
    → IsPlace xs n (Some i)
place_found from next xs n i h lt same = (
  lt,
  λ d.
      subst (λ (m : ℕ). portrait_at xs m ≡ Some (get_or xs i d))
      (tied (get_or xs i d).number n (same d)) (at_place from next xs i d h lt).1,
)

pub place_read : (from next : ℕ) (xs : List Portrait) (n i : ℕ) (x : Portrait)
    → AreInOrder from next xs → i < length xs → x ≡ get_or xs i x → x.number ≡ n
    → IsPlace xs n (Some i)
place_read from next xs n i x h lt read same = (
  lt,
  λ d.
      let number : (get_or xs i d).number ≡ n =
      ap (λ (y : Portrait). y.number) (sym (read ∙ get_or_default xs i x d lt)) ∙ same in
      subst (λ (m : ℕ). portrait_at xs m ≡ Some (get_or xs i d)) number
      (at_place from next xs i d h lt).1,
)

pub no_place : (from next : ℕ) (xs : List Portrait) (n i : ℕ) → AreInOrder from next xs
    → (IsNonDecreasingBy (λ y. ordering_index (nat_cmp y.number n)) xs
    → IsPartitionPoint (λ y. nat_cmp y.number n ≡ Less) (λ y. nat_cmp y.number n ≡ Greater) xs i)
    → IsPlace xs n None
no_place from next xs n i h parted =
    let point = parted (searchable_from_sorted nat_cmp_total (λ (y : Portrait). y.number) xs n
    (sorted_objects from next xs h)) in
    none_where xs n (λ k d lt e. elim (cases_lt k i) [
      | inl before ↦
          apart (get_or xs k d).number n Less (point.0 k d (omega arith) before) (λ f. cc) e
      | inr behind ↦ apart (get_or xs k d).number n Greater (point.1 k d behind lt) (λ f. cc) e
    ])

-- ---- counts of entries

count_slots : (n dir : ℕ) (slots : Slots)
    → count_by (λ e. e.0 == n) (flat_map (entry_at dir) slots) ≡ names_in n slots
count_slots n dir [] = refl
count_slots n dir (None ∷ slots) =
    omega (arith, count_slots n dir slots, counted (names_it n) None slots)
count_slots n dir (Some s ∷ slots) =
    omega (
      arith,
      count_slots n dir slots,
      counted (names_it n) (Some s) slots,
      counted (λ (e : ℕ × ℕ). e.0 == n) (s.number, dir) (flat_map (entry_at dir) slots),
    )

count_by_object : (n : ℕ) (x : Portrait)
    → count_by (λ e. e.0 == n) (entries_by x) ≡ names_by n x
count_by_object n x = elim (cases_Bool (is_directory x)) [
  | inl d ↦ rw d (count_slots n x.number (slots_in x))
  | inr d ↦ rw d refl
]

pub names_counted : (n : ℕ) (xs : List Portrait)
    → count_by (λ e. e.0 == n) (entries_in xs) ≡ names_of xs n
unfolding entries_in names_of
names_counted n [] = refl
names_counted n (x ∷ xs) =
    omega (
      arith,
      names_counted n xs,
      count_by_object n x,
      sum_by-append (λ (e : ℕ × ℕ). cond (e.0 == n) 1 0) (entries_by x) (flat_map entries_by xs),
      sum_by-cons (names_by n) x xs,
    )

-- ---- one entry

any_slot : (n dir : ℕ) (slots : Slots)
    → list_any (is_entry n dir) (flat_map (entry_at dir) slots) ≡ not (names_in n slots == 0)
any_slot n dir [] = refl
any_slot n dir (None ∷ slots) =
    any_slot n dir slots
    ∙ ap (λ (c : ℕ). not (c == 0)) (let s = counted (names_it n) None slots in omega (arith, s))
any_slot n dir (Some s ∷ slots) =
    let sum = counted (names_it n) (Some s) slots in
    let own : (dir == dir) ≡ true = eq-eqb dir dir refl in
    elim (cases_Bool (s.number == n)) [
      | inl t ↦
          let one : weight (s.number == n) ≡ 1 = rw t refl in
          let some : (names_in n (Some s ∷ slots) == 0) ≡ false =
          ne_eqb (names_in n (Some s ∷ slots)) 0 (λ z. omega (arith, z, sum, one)) in
          or_left ((s.number == n) && (dir == dir))
          (list_any (is_entry n dir) (flat_map (entry_at dir) slots))
          (and_from (s.number == n) (dir == dir) t own)
          ∙ sym (not_from_false (names_in n (Some s ∷ slots) == 0) some)
      | inr f ↦
          let zero : weight (s.number == n) ≡ 0 = rw f refl in
          let same : names_in n slots ≡ names_in n (Some s ∷ slots) = omega (arith, sum, zero) in
          rw f (any_slot n dir slots) ∙ ap (λ (c : ℕ). not (c == 0)) same
    ]

-- of an object the entries have its number as their directory
other_dir : (n dir own : ℕ) (slots : Slots) → (own ≡ dir → ⊥)
    → list_any (is_entry n dir) (flat_map (entry_at own) slots) ≡ false
other_dir n dir own [] ne = refl
other_dir n dir own (None ∷ slots) ne = other_dir n dir own slots ne
other_dir n dir own (Some s ∷ slots) ne =
    or_from ((s.number == n) && (own == dir))
    (list_any (is_entry n dir) (flat_map (entry_at own) slots))
    (and_right (s.number == n) (own == dir) (ne_eqb own dir ne)) (other_dir n dir own slots ne)

not_by_object : (n dir : ℕ) (x : Portrait) → (x.number ≡ dir → ⊥)
    → list_any (is_entry n dir) (entries_by x) ≡ false
not_by_object n dir x ne = elim (cases_Bool (is_directory x)) [
  | inl d ↦ rw d (other_dir n dir x.number (slots_in x) ne)
  | inr d ↦ rw d refl
]

by_object : (n : ℕ) (x : Portrait)
    → list_any (is_entry n x.number) (entries_by x) ≡ not (names_by n x == 0)
by_object n x = elim (cases_Bool (is_directory x)) [
  | inl d ↦ rw d (any_slot n x.number (slots_in x))
  | inr d ↦ rw d refl
]

none_behind : (n dir from next : ℕ) (xs : List Portrait) → AreInOrder from next xs → dir < from
    → list_any (is_entry n dir) (entries_in xs) ≡ false
unfolding entries_in
none_behind n dir from next [] h lt = refl
none_behind n dir from next (x ∷ xs) h lt =
    list_any-append (is_entry n dir) (entries_by x) (flat_map entries_by xs)
    ∙ or_from (list_any (is_entry n dir) (entries_by x))
    (list_any (is_entry n dir) (flat_map entries_by xs))
    (not_by_object n dir x (λ e. omega (arith, e, lt, h.0)))
    (none_behind n dir (x.number + 1) next xs h.3 (omega (arith, lt, h.0)))

pub or_false : (b : Bool) → (b || false) ≡ b
or_false true = refl
or_false false = refl

pub listed : (n dir from next : ℕ) (xs : List Portrait) → AreInOrder from next xs
    → list_any (is_entry n dir) (entries_in xs)
    ≡ not (names_shown n (portrait_at xs dir) == 0)
unfolding entries_in portrait_at
listed n dir from next [] h = refl
listed n dir from next (x ∷ xs) h = elim (cases_eq x.number dir) [
  | inl e ↦
      let rest = none_behind n dir (x.number + 1) next xs h.3 (omega (arith, e)) in
      let here : list_any (is_entry n dir) (entries_by x) ≡ not (names_by n x == 0) =
      subst (λ (m : ℕ). list_any (is_entry n m) (entries_by x) ≡ not (names_by n x == 0)) e
      (by_object n x) in
      list_any-append (is_entry n dir) (entries_by x) (flat_map entries_by xs)
      ∙ ap (λ (b : Bool). list_any (is_entry n dir) (entries_by x) || b) rest
      ∙ or_false (list_any (is_entry n dir) (entries_by x)) ∙ here
      ∙ sym (ap (λ (o : Option Portrait). not (names_shown n o == 0)) (at_head x xs dir e))
  | inr ne ↦
      list_any-append (is_entry n dir) (entries_by x) (flat_map entries_by xs)
      ∙ ap (λ (b : Bool). b || list_any (is_entry n dir) (flat_map entries_by xs))
      (not_by_object n dir x ne)
      ∙ listed n dir (x.number + 1) next xs h.3
      ∙ sym (ap (λ (o : Option Portrait). not (names_shown n o == 0)) (behind_head x xs dir ne))
]
