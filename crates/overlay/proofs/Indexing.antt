-- The index and the records of its log.
use Rattle.std.proofs.Common.{◌≡◌, ℕ, zero, suc, ◌+◌, ◌-◌, ◌≤◌, ◌<◌, Bool, true, false, ◌&&◌, ◌||◌, ◌==◌, List, [], ◌∷◌, ◌++◌, length, get_or, take, drop, Option, Some, None, refl, sym, ap, ◌∙◌, subst, inl, inr, arith}
use Rattle.std.specs.Prelude.{fold, nat_lt, nat_le, not}
use Rattle.std.specs.Bool.{if◌then◌else◌}
use Rattle.std.specs.List.{list_any}
use Rattle.std.proofs.lemmas.Bool.{cases_Bool, cases_eq, cases_lt, and_parts, or_cases, or_parts, eqb-true, eq-eqb, ne_eqb, lt-ltb, le-ltb}
use Rattle.std.proofs.lemmas.List.Folds.{list_any_more}
use Rattle.std.proofs.lemmas.List.{get_or_past, get_or-drop, get_or_append_left, get_or-append_right}
use Rattle.harp_cells.specs.declared.cell.Cell.{Cell}
use Rattle.harp_cells.specs.declared.cell.Cell.TheVariants as cell
use Rattle.harp_cells.specs.declared.value.Value.{Value}
use Rattle.harp_cells.specs.declared.change.Change.{Change}
use Rattle.harp_cells.specs.declared.change.Change.TheVariants as change
use Rattle.harp_cells.specs.Effect.{changed, is_block_from, is_cell, is_key, key}
use Rattle.fuzzy_cells.specs.History.{History, in_a_row}
use Rattle.overlay.specs.Index.{Entries, IsIndexOf, IsLast, IsPartAddedTo, Place, blocks_of, changes_at, may_set, names, place_of, record_at}
use Rattle.overlay.specs.Overlay.{IsToldBy, Leaves, changes_upto}
use Rattle.overlay.proofs.Walks.{skipped, told_at, told_same}

-- ---- changes that are of other places leave a cell

-- a change of blocks of the cell's object is of this place too
Covers : Place → Cell → Type 0
Covers p c = (object first : ℕ) → is_block_from object first c ≡ true → is_key (blocks_of object) p ≡ true

leaves_one : (c : Cell) (p : Place) (x : Change) → Covers p c → is_key (place_of x) (key c) ≡ false
    → is_key (place_of x) p ≡ false → (held : Option Value) → changed c held x ≡ held
unfolding Covers is_cell
leaves_one c p (change.Put d v) covers own other held = ap (λ (b : Bool). if b then Some v else held) own
leaves_one c p (change.Erase d) covers own other held = ap (λ (b : Bool). if b then None else held) own
leaves_one c p (change.EraseFrom object first) covers own other held = elim (cases_Bool (is_block_from object first c)) [
  | inl is ↦ absurd (cc (covers object first is, other))
  | inr not ↦ ap (λ (b : Bool). if b then None else held) not
]

leaves_all : (c : Cell) (p : Place) (changes : List Change) → Covers p c → changes_at changes (key c) ≡ false
    → changes_at changes p ≡ false → Leaves c changes
unfolding changes_at
leaves_all c p [] covers own other held = refl
leaves_all c p (x ∷ changes) covers own other held =
    let o = or_parts (is_key (place_of x) (key c)) (changes_at changes (key c)) own in
    let q = or_parts (is_key (place_of x) p) (changes_at changes p) other in
    ap (λ (v : Option Value). fold (changed c) v changes) (leaves_one c p x covers o.0 q.0 held)
    ∙ leaves_all c p changes covers o.1 q.1 held

covers_block : (object block : ℕ) → Covers (blocks_of object) (cell.Block object block)
unfolding Covers is_block_from
covers_block object block other first is =
    let both = and_parts ((3 == 3) && (object == other)) (nat_le first block) is in
    let same : object ≡ other = eqb-true object other both.0 in
    grind (arith, eq-eqb other object (sym same))

covers_self : (c : Cell) → ((object first : ℕ) → is_block_from object first c ≡ false) → Covers (key c) c
unfolding Covers
covers_self c h object first is = absurd (cc (h object first, is))

-- the changes may set the cell
abbrev changes_may : List Change → Cell → Bool
changes_may changes cell.Meta = changes_at changes (key cell.Meta)
changes_may changes (cell.Object object) = changes_at changes (key (cell.Object object))
changes_may changes (cell.Block object block) =
    changes_at changes (key (cell.Block object block)) || changes_at changes (blocks_of object)
changes_may changes (cell.Slot object slot) = changes_at changes (key (cell.Slot object slot))
changes_may changes (cell.Client client) = changes_at changes (key (cell.Client client))
changes_may changes (cell.Saved place) = changes_at changes (key (cell.Saved place))

leaves_own : (c : Cell) (changes : List Change) → ((object first : ℕ) → is_block_from object first c ≡ false)
    → changes_at changes (key c) ≡ false → Leaves c changes
leaves_own c changes h may = leaves_all c (key c) changes (covers_self c h) may may

leaves : (c : Cell) (changes : List Change) → changes_may changes c ≡ false → Leaves c changes
unfolding is_block_from
leaves cell.Meta changes may = leaves_own cell.Meta changes (λ o f. refl) may
leaves (cell.Object object) changes may = leaves_own (cell.Object object) changes (λ o f. refl) may
leaves (cell.Block object block) changes may =
    let both = or_parts (changes_at changes (key (cell.Block object block))) (changes_at changes (blocks_of object)) may in
    leaves_all (cell.Block object block) (blocks_of object) changes (covers_block object block) both.0 both.1
leaves (cell.Slot object slot) changes may = leaves_own (cell.Slot object slot) changes (λ o f. refl) may
leaves (cell.Client client) changes may = leaves_own (cell.Client client) changes (λ o f. refl) may
leaves (cell.Saved place) changes may = leaves_own (cell.Saved place) changes (λ o f. refl) may

-- ---- records by index

pub at_above : (base : ℕ) (records : History) (i : ℕ) → base < i → record_at base records i ≡ get_or records (i - (base + 1)) []
at_above base records i lt = ap (λ (b : Bool). if b then get_or records (i - (base + 1)) [] else []) (lt-ltb base i lt)

at_below : (base : ℕ) (records : History) (i : ℕ) → i ≤ base → record_at base records i ≡ []
at_below base records i le = ap (λ (b : Bool). if b then get_or records (i - (base + 1)) [] else []) (le-ltb base i le)

at_past : (base : ℕ) (records : History) (i : ℕ) → base + length records < i → record_at base records i ≡ []
at_past base records i lt = at_above base records i (omega (arith, lt))
    ∙ get_or_past records (i - (base + 1)) [] (omega (arith, lt))

nothing_at : (changes : List Change) (p : Place) → changes ≡ [] → changes_at changes p ≡ false
unfolding changes_at
nothing_at changes p e = ap (λ (l : List Change). list_any (λ c. is_key (place_of c) p) l) e

-- what the index names is a record
pub indexed : (entries : Entries) (base : ℕ) (records : History) (p : Place) (i : ℕ) → IsIndexOf entries base records
    → names entries p i ≡ true → (base < i) × (i ≤ base + length records)
indexed entries base records p i is named = elim (cases_lt base i) [
  | inr le ↦ absurd (cc (named, is p i ∙ nothing_at (record_at base records i) p (at_below base records i le)))
  | inl lt ↦ elim (cases_lt (base + length records) i) [
    | inl past ↦ absurd (cc (named, is p i ∙ nothing_at (record_at base records i) p (at_past base records i past)))
    | inr le ↦ (lt, le)
  ]
]

pub may_indexed : (entries : Entries) (base : ℕ) (records : History) (c : Cell) (i : ℕ) → IsIndexOf entries base records
    → may_set entries c i ≡ true → (base < i) × (i ≤ base + length records)
may_indexed entries base records cell.Meta i is may = indexed entries base records (key cell.Meta) i is may
may_indexed entries base records (cell.Object object) i is may = indexed entries base records (key (cell.Object object)) i is may
may_indexed entries base records (cell.Block object block) i is may =
    elim (or_cases (names entries (key (cell.Block object block)) i) (names entries (blocks_of object) i) may) [
      | inl own ↦ indexed entries base records (key (cell.Block object block)) i is own
      | inr other ↦ indexed entries base records (blocks_of object) i is other
    ]
may_indexed entries base records (cell.Slot object slot) i is may = indexed entries base records (key (cell.Slot object slot)) i is may
may_indexed entries base records (cell.Client client) i is may = indexed entries base records (key (cell.Client client)) i is may
may_indexed entries base records (cell.Saved place) i is may = indexed entries base records (key (cell.Saved place)) i is may

may_is : (entries : Entries) (base : ℕ) (records : History) (c : Cell) (i : ℕ) → IsIndexOf entries base records
    → may_set entries c i ≡ changes_may (record_at base records i) c
may_is entries base records cell.Meta i is = is (key cell.Meta) i
may_is entries base records (cell.Object object) i is = is (key (cell.Object object)) i
may_is entries base records (cell.Block object block) i is =
    ap (λ (b : Bool). b || names entries (blocks_of object) i) (is (key (cell.Block object block)) i)
    ∙ ap (λ (b : Bool). changes_at (record_at base records i) (key (cell.Block object block)) || b) (is (blocks_of object) i)
may_is entries base records (cell.Slot object slot) i is = is (key (cell.Slot object slot)) i
may_is entries base records (cell.Client client) i is = is (key (cell.Client client)) i
may_is entries base records (cell.Saved place) i is = is (key (cell.Saved place)) i

-- a record that the index doesn't name leaves the cell
pub unnamed_leaves : (entries : Entries) (base : ℕ) (records : History) (c : Cell) (i : ℕ) → IsIndexOf entries base records
    → base < i → may_set entries c i ≡ false → Leaves c (get_or records (i - (base + 1)) [])
unnamed_leaves entries base records c i is lt may =
    leaves c (get_or records (i - (base + 1)) [])
    (subst (λ (l : List Change). changes_may l c ≡ false) (at_above base records i lt)
    (sym (may_is entries base records c i is) ∙ may))

-- the last one that may set a block
pub last_of_block : (entries inside : Entries) (c : Cell) (object block upto : ℕ) (own other : Place) (r : Option ℕ)
    → inside ≡ entries → c ≡ cell.Block object block → own ≡ key c → other ≡ blocks_of object
    → IsLast (λ j. names inside own j || names inside other j) upto r → IsLast (may_set entries c) upto r
last_of_block entries inside c object block upto own other r is at k b last =
    subst (λ (x : Cell). IsLast (may_set entries x) upto r) (sym at)
    (subst (λ (es : Entries). IsLast (may_set es (cell.Block object block)) upto r) is
    (subst (λ (p : Place). IsLast (λ j. names inside (key (cell.Block object block)) j || names inside p j) upto r) b
    (subst (λ (p : Place). IsLast (λ j. names inside p j || names inside other j) upto r) (k ∙ ap key at) last)))

-- ---- on the way down

-- the record at a place, by its index
at_index : (base j : ℕ) → j + base + 1 - (base + 1) ≡ j
at_index base j = omega arith

named_leaves : (entries : Entries) (base : ℕ) (records : History) (c : Cell) (j : ℕ) → IsIndexOf entries base records
    → may_set entries c (j + base + 1) ≡ false → Leaves c (get_or records j [])
named_leaves entries base records c j is may =
    subst (λ (n : ℕ). Leaves c (get_or records n [])) (at_index base j)
    (unnamed_leaves entries base records c (j + base + 1) is (omega arith) may)

-- none of the records up to there sets the cell
pub none_down : (entries : Entries) (base : ℕ) (records : History) (c : Cell) (below : ℕ) → IsIndexOf entries base records
    → ((j : ℕ) → j ≤ below → may_set entries c j ≡ false) → (held : Option Value)
    → fold (changed c) held (changes_upto base records below) ≡ held
none_down entries base records c below is none held =
    skipped records c 0 (below - base) (omega arith)
    (λ j from to. named_leaves entries base records c j is (none (j + base + 1) (omega (arith, to)))) held

-- none of those above a record does
pub down_to : (entries : Entries) (base : ℕ) (records : History) (c : Cell) (below i : ℕ) → IsIndexOf entries base records
    → base < i → i ≤ below → ((j : ℕ) → i < j → j ≤ below → may_set entries c j ≡ false) → (held : Option Value)
    → fold (changed c) held (changes_upto base records below) ≡ fold (changed c) held (changes_upto base records i)
down_to entries base records c below i is low le none held =
    skipped records c (i - base) (below - base) (omega (arith, low, le))
    (λ j from to. named_leaves entries base records c j is
    (none (j + base + 1) (omega (arith, from, low)) (omega (arith, to)))) held

-- nor that record
pub down_past : (entries : Entries) (base : ℕ) (records : History) (c : Cell) (below i : ℕ) → IsIndexOf entries base records
    → base < i → i ≤ below → ((j : ℕ) → i < j → j ≤ below → may_set entries c j ≡ false)
    → Leaves c (get_or records (i - (base + 1)) []) → (held : Option Value)
    → fold (changed c) held (changes_upto base records below) ≡ fold (changed c) held (changes_upto base records (i - 1))
down_past entries base records c below i is low le none here held =
    down_to entries base records c below i is low le none held
    ∙ skipped records c (i - 1 - base) (i - base) (omega (arith, low))
    (λ j from to. let same : i - (base + 1) ≡ j = omega (arith, from, to, low) in
    subst (λ (n : ℕ). Leaves c (get_or records n [])) same here) held

-- that record does
pub down_told : (entries : Entries) (base : ℕ) (records : History) (c : Cell) (below i : ℕ) (found : List Change)
    → IsIndexOf entries base records → base < i → i ≤ below
    → ((j : ℕ) → i < j → j ≤ below → may_set entries c j ≡ false) → 0 < length found
    → IsToldBy c (get_or records (i - (base + 1)) []) found → IsToldBy c (changes_upto base records below) found
down_told entries base records c below i found is low le none some told =
    let count : suc (i - (base + 1)) ≡ i - base = omega (arith, low) in
    told_same c (changes_upto base records i) (changes_upto base records below) found
    (down_to entries base records c below i is low le none)
    (subst (λ (n : ℕ). IsToldBy c (in_a_row (take n records)) found) count
    (told_at records c (i - (base + 1)) found some told))

-- ---- records that come and go

pick_true : (b x y : Bool) → b ≡ true → y ≡ false → (b && x || y) ≡ x
pick_true true true y e z = refl
pick_true true false y e z = z
pick_true false x y e z = absurd cc

pick_false : (b x y : Bool) → b ≡ false → (b && x || y) ≡ y
pick_false true x y e = absurd cc
pick_false false x y e = refl

first_of : (base index : ℕ) (records : History) → index ≡ base + length records + 1
    → index - (base + 1) - length records ≡ 0
first_of base index records e = omega (arith, e)

added_here : (base index : ℕ) (records : History) (changes : List Change) → index ≡ base + length records + 1
    → record_at base (records ++ changes ∷ []) index ≡ changes
added_here base index records changes e =
    at_above base (records ++ changes ∷ []) index (omega (arith, e))
    ∙ get_or-append_right records (changes ∷ []) (length records) (index - (base + 1)) [] refl (omega (arith, e))
    ∙ ap (λ (n : ℕ). get_or (changes ∷ []) n []) (first_of base index records e)

added_apart : (base i : ℕ) (records : History) (changes : List Change) → (i ≡ base + length records + 1 → ⊥)
    → record_at base (records ++ changes ∷ []) i ≡ record_at base records i
added_apart base i records changes other = elim (cases_lt base i) [
  | inr le ↦ at_below base (records ++ changes ∷ []) i le ∙ sym (at_below base records i le)
  | inl lt ↦ elim (cases_lt (i - (base + 1)) (length records)) [
    | inl here ↦ at_above base (records ++ changes ∷ []) i lt
        ∙ get_or_append_left records (changes ∷ []) [] (i - (base + 1)) here
        ∙ sym (at_above base records i lt)
    | inr past ↦
        let more : length records + 1 ≤ i - (base + 1) = omega (arith, lt, past, other) in
        at_above base (records ++ changes ∷ []) i lt
        ∙ get_or-append_right records (changes ∷ []) (length records) (i - (base + 1)) [] refl past
        ∙ get_or_past (changes ∷ []) (i - (base + 1) - length records) [] (omega (arith, more))
        ∙ sym (at_above base records i lt ∙ get_or_past records (i - (base + 1)) [] past)
  ]
]

pub added_follows : (old new : Entries) (base index : ℕ) (records : History) (changes : List Change)
    → ((p : Place) (i : ℕ) → names new p i ≡ ((index == i) && changes_at changes p || names old p i))
    → IsIndexOf old base records → index ≡ base + length records + 1 → IsIndexOf new base (records ++ changes ∷ [])
added_follows old new base index records changes h is at p i =
    h p i ∙ ap (λ (b : Bool). (index == i) && changes_at changes p || b) (is p i)
    ∙ elim (cases_eq index i) [
      | inl e ↦
          pick_true (index == i) (changes_at changes p) (changes_at (record_at base records i) p) (eq-eqb index i e)
          (nothing_at (record_at base records i) p (at_past base records i (omega (arith, at, e))))
          ∙ ap (λ (l : List Change). changes_at l p) (sym (added_here base i records changes (sym e ∙ at)))
      | inr other ↦
          pick_false (index == i) (changes_at changes p) (changes_at (record_at base records i) p) (ne_eqb index i other)
          ∙ ap (λ (l : List Change). changes_at l p)
          (sym (added_apart base i records changes (λ e. other (at ∙ sym e))))
    ]

left_at : (base n i : ℕ) (records : History) → base ≤ n → n < i
    → record_at n (drop (n - base) records) i ≡ record_at base records i
left_at base n i records le lt =
    at_above n (drop (n - base) records) i lt
    ∙ get_or-drop (n - base) records (i - (n + 1)) []
    ∙ ap (λ (k : ℕ). get_or records k []) (omega (arith, le, lt))
    ∙ sym (at_above base records i (omega (arith, le, lt)))

pub dropped_follows : (old new : Entries) (base n : ℕ) (records : History)
    → ((p : Place) (i : ℕ) → names new p i ≡ (nat_lt n i && names old p i))
    → IsIndexOf old base records → base ≤ n → IsIndexOf new n (drop (n - base) records)
dropped_follows old new base n records h is le p i = elim (cases_lt n i) [
  | inl lt ↦ h p i ∙ ap (λ (b : Bool). b && names old p i) (lt-ltb n i lt) ∙ is p i
      ∙ ap (λ (l : List Change). changes_at l p) (sym (left_at base n i records le lt))
  | inr low ↦ h p i ∙ ap (λ (b : Bool). b && names old p i) (le-ltb n i low)
      ∙ sym (nothing_at (record_at n (drop (n - base) records) i) p (at_below n (drop (n - base) records) i low))
]

nothing_named : (p : Place) (i : ℕ) → names [] p i ≡ false
unfolding names
nothing_named p i = refl

nothing_in : (base i : ℕ) → record_at base [] i ≡ []
nothing_in base i = elim (cases_lt base i) [
  | inl lt ↦ at_above base [] i lt
  | inr le ↦ at_below base [] i le
]

pub empty_follows : (entries : Entries) (base : ℕ) → entries ≡ [] → IsIndexOf entries base []
empty_follows entries base e p i =
    ap (λ (es : Entries). names es p i) e ∙ nothing_named p i
    ∙ sym (nothing_at (record_at base [] i) p (nothing_in base i))

-- ---- the changes of a record, one after the other

pub none_added : (old : Entries) (index : ℕ) (p : Place) (i : ℕ)
    → names old p i ≡ ((index == i) && changes_at [] p || names old p i)
unfolding changes_at
none_added old index p i = elim (index == i) as (λ b. names old p i ≡ (b && false || names old p i)) [
  | true ↦ refl
  | false ↦ refl
]

one_added : (a t k o : Bool) → ((k && a) || ((a && t) || o)) ≡ ((a && (t || k)) || o)
one_added true true true o = refl
one_added true true false o = refl
one_added true false true o = refl
one_added true false false o = refl
one_added false t true o = refl
one_added false t false o = refl

pub more_added : (old mid new : Entries) (index k : ℕ) (changes : List Change) (d : Change) (at : Place) (p : Place) (i : ℕ)
    → k < length changes → at ≡ place_of (get_or changes k d)
    → names new p i ≡ ((is_key at p && (index == i)) || names mid p i)
    → names mid p i ≡ ((index == i) && changes_at (take k changes) p || names old p i)
    → names new p i ≡ ((index == i) && changes_at (take (k + 1) changes) p || names old p i)
unfolding changes_at
more_added old mid new index k changes d at p i lt is step before =
    step
    ∙ ap (λ (x : Place). (is_key x p && (index == i)) || names mid p i) is
    ∙ ap (λ (b : Bool). (is_key (place_of (get_or changes k d)) p && (index == i)) || b) before
    ∙ one_added (index == i) (list_any (λ c. is_key (place_of c) p) (take k changes)) (is_key (place_of (get_or changes k d)) p) (names old p i)
    ∙ ap (λ (b : Bool). (index == i) && b || names old p i) (sym (list_any_more (λ c. is_key (place_of c) p) changes k d lt))

-- ---- changes that are taken back

one_back : (a t k o : Bool) → (not (k && a) && (not (a && t) && o)) ≡ (not (a && (t || k)) && o)
one_back true true true o = refl
one_back true true false o = refl
one_back true false true o = refl
one_back true false false o = refl
one_back false t true o = refl
one_back false t false o = refl

pub none_back : (old : Entries) (index : ℕ) (p : Place) (i : ℕ)
    → names old p i ≡ (not ((index == i) && changes_at [] p) && names old p i)
unfolding changes_at
none_back old index p i = elim (index == i) as (λ b. names old p i ≡ (not (b && false) && names old p i)) [
  | true ↦ refl
  | false ↦ refl
]

pub more_back : (old mid new : Entries) (index k : ℕ) (changes : List Change) (d : Change) (at : Place) (p : Place) (i : ℕ)
    → k < length changes → at ≡ place_of (get_or changes k d)
    → names new p i ≡ (not (is_key at p && (index == i)) && names mid p i)
    → names mid p i ≡ (not ((index == i) && changes_at (take k changes) p) && names old p i)
    → names new p i ≡ (not ((index == i) && changes_at (take (k + 1) changes) p) && names old p i)
unfolding changes_at
more_back old mid new index k changes d at p i lt is step before =
    step
    ∙ ap (λ (x : Place). not (is_key x p && (index == i)) && names mid p i) is
    ∙ ap (λ (b : Bool). not (is_key (place_of (get_or changes k d)) p && (index == i)) && b) before
    ∙ one_back (index == i) (list_any (λ c. is_key (place_of c) p) (take k changes)) (is_key (place_of (get_or changes k d)) p) (names old p i)
    ∙ ap (λ (b : Bool). not ((index == i) && b) && names old p i) (sym (list_any_more (λ c. is_key (place_of c) p) changes k d lt))

part_of_all : (q : Change → Bool) (n : ℕ) (changes : List Change) → list_any q changes ≡ false
    → list_any q (take n changes) ≡ false
part_of_all q zero changes none = refl
part_of_all q (suc n) [] none = refl
part_of_all q (suc n) (x ∷ changes) none =
    let both = or_parts (q x) (list_any q changes) none in
    ap (λ (b : Bool). b || list_any q (take n changes)) both.0 ∙ part_of_all q n changes both.1

part_at : (n : ℕ) (changes : List Change) (p : Place) → changes_at changes p ≡ false
    → changes_at (take n changes) p ≡ false
unfolding changes_at
part_at n changes p none = part_of_all (λ c. is_key (place_of c) p) n changes none

-- what was there before stays, where the record had no place
back_again : (here all part o : Bool) → (all ≡ false → part ≡ false) → (here ≡ true → o ≡ false)
    → (not (here && all) && (here && part || o)) ≡ o
back_again true true part o h none = sym (none refl)
back_again true false true o h none = absurd (cc (h refl))
back_again true false false o h none = refl
back_again false all part o h none = refl

pub kept_back : (old mid new : Entries) (base index : ℕ) (records : History) (changes : List Change)
    → IsPartAddedTo old index changes mid
    → ((p : Place) (i : ℕ) → names new p i ≡ (not ((index == i) && changes_at changes p) && names mid p i))
    → IsIndexOf old base records → index ≡ base + length records + 1 → IsIndexOf new base records
kept_back old mid new base index records changes (n, part) back is at p i =
    back p i
    ∙ ap (λ (b : Bool). not ((index == i) && changes_at changes p) && b) (part p i)
    ∙ back_again (index == i) (changes_at changes p) (changes_at (take n changes) p) (names old p i)
    (part_at n changes p)
    (λ here. let same : index ≡ i = eqb-true index i here in
    is p i ∙ nothing_at (record_at base records i) p (at_past base records i (omega (arith, at, same))))
    ∙ is p i
