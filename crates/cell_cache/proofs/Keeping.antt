-- Entries that are the cells' stay so.
use Rattle.std.proofs.Common.{rules, arith, ◌≡◌, ℕ, ◌-◌, Bool, true, false, not, cond, ◌<◌, length, take, [], ◌∷◌, Option, Some, None, Contains, inl, inr, refl, sym, ap, ◌∙◌, subst}
use Rattle.std.specs.Option.{is_some, option_map, option_map_or}
use Rattle.std.specs.Bool.{if◌then◌else◌}
use Rattle.std.specs.Map.{lookup, lookup_entry, remove_entry}
use Rattle.std.proofs.lemmas.Bool.{cases_Bool, eq-eqb}
use Rattle.std.proofs.Math.Path.{fun_ext}
use Rattle.harp_cells.specs.declared.change.Change.{Change}
use Rattle.harp_cells.specs.declared.change.Change.TheVariants as change
use Rattle.lru.specs.LruCache.{LruCache, promoted, put_entries}
use Rattle.lru.proofs.CallerLemmas.{Contains-lookup_entry, Contains-promoted, Contains-put_entries}
use Rattle.lru.proofs.Splits.{Contains-head, Contains-tail, Contains-cons, Contains-nil}
use Rattle.lru.proofs.Pairs.{lookup-lookup_entry}
use Rattle.harp_cells.specs.declared.cell.Cell.{Cell}
use Rattle.harp_cells.specs.declared.cell.Cell.TheVariants as cell
use Rattle.harp_cells.specs.declared.value.Value.{Value}
use Rattle.harp_cells.specs.contracts.cell.CellPartialEq.TheImpl.{eq-value}
use Rattle.harp_cells.specs.Effect.{Cells, Reads, after, is_cell, sets}
use Rattle.harp_cells.proofs.CellLemmas.{is_cell_itself, is_cell_true}
use Rattle.cell_cache.specs.Entries.{AreOf, Entries, IsUsed, Kept, has_entry, left_by, newest_of}

-- `==` of cells
abbrev pub equal : Cell → Cell → Bool
equal = eq-value.it

-- equal cells are the same
pub equal_same : (c d : Cell) → equal c d ≡ true → c ≡ d
equal_same cell.Meta cell.Meta e = refl
equal_same cell.Meta (cell.Object x) e = search rules
equal_same cell.Meta (cell.Block x y) e = search rules
equal_same cell.Meta (cell.Slot x y) e = search rules
equal_same cell.Meta (cell.Client x) e = search rules
equal_same cell.Meta (cell.Saved x) e = search rules
equal_same (cell.Object a) cell.Meta e = search rules
equal_same (cell.Object a) (cell.Object x) e = grind arith
equal_same (cell.Object a) (cell.Block x y) e = search rules
equal_same (cell.Object a) (cell.Slot x y) e = search rules
equal_same (cell.Object a) (cell.Client x) e = search rules
equal_same (cell.Object a) (cell.Saved x) e = search rules
equal_same (cell.Block a b) cell.Meta e = search rules
equal_same (cell.Block a b) (cell.Object x) e = search rules
equal_same (cell.Block a b) (cell.Block x y) e = grind arith
equal_same (cell.Block a b) (cell.Slot x y) e = search rules
equal_same (cell.Block a b) (cell.Client x) e = search rules
equal_same (cell.Block a b) (cell.Saved x) e = search rules
equal_same (cell.Slot a b) cell.Meta e = search rules
equal_same (cell.Slot a b) (cell.Object x) e = search rules
equal_same (cell.Slot a b) (cell.Block x y) e = search rules
equal_same (cell.Slot a b) (cell.Slot x y) e = grind arith
equal_same (cell.Slot a b) (cell.Client x) e = search rules
equal_same (cell.Slot a b) (cell.Saved x) e = search rules
equal_same (cell.Client a) cell.Meta e = search rules
equal_same (cell.Client a) (cell.Object x) e = search rules
equal_same (cell.Client a) (cell.Block x y) e = search rules
equal_same (cell.Client a) (cell.Slot x y) e = search rules
equal_same (cell.Client a) (cell.Client x) e = grind arith
equal_same (cell.Client a) (cell.Saved x) e = search rules
equal_same (cell.Saved a) cell.Meta e = search rules
equal_same (cell.Saved a) (cell.Object x) e = search rules
equal_same (cell.Saved a) (cell.Block x y) e = search rules
equal_same (cell.Saved a) (cell.Slot x y) e = search rules
equal_same (cell.Saved a) (cell.Client x) e = search rules
equal_same (cell.Saved a) (cell.Saved x) e = grind arith

abbrev pub record_of : Entries → ℕ → Kept
record_of entries places = record { entries = entries; places = places }

pub promoted_are : (told : Option Cells) (c : Cell) (es : Entries) → AreOf told es → AreOf told (promoted (equal c) es)
promoted_are told c es are cells is e in_promoted = are cells is e (Contains-promoted (equal c) es e in_promoted)

-- with the cell's entry as the first
newest_is : (cells : Cells) (c : Cell) (es : Entries) (o : Option (Cell × Option Value)) → lookup_entry (equal c) es ≡ o
    → is_some o ≡ true → AreOf (Some cells) es → newest_of (option_map_or (λ e. e ∷ remove_entry (equal c) es) o es) ≡ cells c
newest_is cells c es None h some are = search rules
newest_is cells c es (Some e) h some are =
    let in_es = Contains-lookup_entry (equal c) es e h in
    are cells refl e in_es.0 ∙ ap cells (sym (equal_same c e.0 in_es.1))

some_entry : (o : Option (Cell × Option Value)) → is_some (option_map (λ e. e.1) o) ≡ true → is_some o ≡ true
some_entry None e = search rules
some_entry (Some x) e = refl

pub newest_reads : (told : Option Cells) (c : Cell) (es : Entries) → is_some (lookup (equal c) es) ≡ true → AreOf told es → Reads told c (newest_of (promoted (equal c) es))
newest_reads None c es some are = tt
newest_reads (Some cells) c es some are = newest_is cells c es (lookup_entry (equal c) es) refl (some_entry (lookup_entry (equal c) es) (rw (lookup-lookup_entry (equal c) es) some)) are

-- the entries after a put
pub put_are : (told : Option Cells) (c : Cell) (v : Option Value) (cache : LruCache Cell (Option Value)) → AreOf told cache.entries → Reads told c v → AreOf told (put_entries equal cache c v)
put_are None c v cache are reads cells is e in_put = search rules
put_are (Some held) c v cache are reads cells is e in_put = elim (Contains-put_entries equal cache c v e in_put) [
  | inl was ↦ are cells is e was
  | inr put ↦
      let same : held ≡ cells = ap (λ o. elim o [ None ↦ held | Some x ↦ x ]) is in
      let key : c ≡ e.0 = elim put.1 [ inl k ↦ sym k | inr w ↦ equal_same c e.0 w.2 ] in
      put.0 ∙ reads ∙ ap (λ (h : Cells). h c) same ∙ ap cells key
]

-- ---- which entry stands first

equal_self : (c : Cell) → equal c c ≡ true
equal_self cell.Meta = refl
equal_self (cell.Object a) = grind (arith, eq-eqb a a refl)
equal_self (cell.Block a b) = grind (arith, eq-eqb a a refl, eq-eqb b b refl)
equal_self (cell.Slot a b) = grind (arith, eq-eqb a a refl, eq-eqb b b refl)
equal_self (cell.Client a) = grind (arith, eq-eqb a a refl)
equal_self (cell.Saved a) = grind (arith, eq-eqb a a refl)

agree : (a b : Bool) → (a ≡ true → b ≡ true) → (b ≡ true → a ≡ true) → a ≡ b
agree true b h k = sym (h refl)
agree false true h k = k refl
agree false false h k = refl

equal_is : (c d : Cell) → equal c d ≡ is_cell c d
equal_is c d = agree (equal c d) (is_cell c d) (λ e. is_cell_itself c d (equal_same c d e))
    (λ e. subst (λ (x : Cell). equal c x ≡ true) (is_cell_true c d e) (equal_self c))

pub same_test : (c : Cell) → equal c ≡ is_cell c
same_test c = fun_ext (λ d. equal_is c d)

pub has_by_test : (c : Cell) (es : Entries) → is_some (lookup (equal c) es) ≡ has_entry c es
has_by_test c es = ap (λ (t : Cell → Bool). is_some (lookup t es)) (same_test c)

some_value : (o : Option (Cell × Option Value)) → is_some (option_map (λ e. e.1) o) ≡ is_some o
some_value None = refl
some_value (Some e) = refl

has_looked_up : (c : Cell) (es : Entries) → has_entry c es ≡ is_some (lookup_entry (is_cell c) es)
has_looked_up c es = sym (ap is_some (lookup-lookup_entry (is_cell c) es)) ∙ some_value (lookup_entry (is_cell c) es)

first_by : (c : Cell) (es : Entries) (o : Option (Cell × Option Value)) → lookup_entry (is_cell c) es ≡ o
    → is_some o ≡ true
    → option_map_or (λ e. e ∷ remove_entry (is_cell c) es) o es
    ≡ (c, newest_of (option_map_or (λ e. e ∷ remove_entry (is_cell c) es) o es)) ∷ remove_entry (is_cell c) es
first_by c es None h some = absurd cc
first_by c es (Some e) h some =
    ap (λ (k : Cell). (k, e.1) ∷ remove_entry (is_cell c) es)
    (sym (is_cell_true c e.0 (Contains-lookup_entry (is_cell c) es e h).1))

by_has : (c : Cell) (b : Bool) (v : Option Value) (gone cut : Entries) → b ≡ true
    → (c, v) ∷ gone ≡ (c, v) ∷ (if b then gone else cut)
by_has c true v gone cut e = refl
by_has c false v gone cut e = absurd cc

by_none : (c : Cell) (b : Bool) (v : Option Value) (gone cut : Entries) → b ≡ false
    → (c, v) ∷ cut ≡ (c, v) ∷ (if b then gone else cut)
by_none c true v gone cut e = absurd cc
by_none c false v gone cut e = refl

-- an entry that is there goes first
used_there : (c : Cell) (es : Entries) (places : ℕ) → has_entry c es ≡ true
    → IsUsed c (record { entries = es; places = places }) (record { entries = promoted (is_cell c) es; places = places })
used_there c es places has =
    ap (λ (l : Entries). record_of l places)
    (first_by c es (lookup_entry (is_cell c) es) refl (sym (has_looked_up c es) ∙ has)
    ∙ by_has c (has_entry c es) (newest_of (promoted (is_cell c) es)) (remove_entry (is_cell c) es) (take (places - 1) es) has)

pub promote_used : (c : Cell) (es : Entries) (places : ℕ) → is_some (lookup (equal c) es) ≡ true
    → IsUsed c (record { entries = es; places = places }) (record { entries = promoted (equal c) es; places = places })
promote_used c es places has =
    subst (λ (t : Cell → Bool). IsUsed c (record { entries = es; places = places }) (record { entries = promoted t es; places = places }))
    (sym (same_test c)) (used_there c es places (sym (has_by_test c es) ∙ has))

kept_by : (test : Cell → Bool) (es : Entries) (o : Option (Cell × Option Value)) → is_some o ≡ false
    → option_map_or (λ e. e ∷ remove_entry test es) o es ≡ es
kept_by test es None h = refl
kept_by test es (Some e) h = absurd cc

-- where there is none, nothing moves
pub promote_still : (c : Cell) (es : Entries) → is_some (lookup (equal c) es) ≡ false → promoted (equal c) es ≡ es
promote_still c es none = kept_by (equal c) es (lookup_entry (equal c) es)
    (sym (some_value (lookup_entry (equal c) es)) ∙ ap is_some (lookup-lookup_entry (equal c) es) ∙ none)

put_by : (c : Cell) (v : Option Value) (gone es cut : Entries) (o : Option (Cell × Option Value)) → is_some o ≡ false
    → option_map_or (λ e. (e.0, v) ∷ gone) o ((c, v) ∷ cut) ≡ (c, v) ∷ cut
put_by c v gone es cut None h = refl
put_by c v gone es cut (Some e) h = absurd cc

-- a new one stands first too
pub put_used : (c : Cell) (v : Option Value) (cache : LruCache Cell (Option Value)) → has_entry c cache.entries ≡ false
    → IsUsed c (record { entries = cache.entries; places = cache.cap })
    (record { entries = put_entries equal cache c v; places = cache.cap })
put_used c v cache none =
    let put : put_entries equal cache c v ≡ (c, v) ∷ take (cache.cap - 1) cache.entries =
    put_by c v (remove_entry (equal c) cache.entries) cache.entries (take (cache.cap - 1) cache.entries)
    (lookup_entry (equal c) cache.entries)
    (sym (some_value (lookup_entry (equal c) cache.entries))
    ∙ ap is_some (lookup-lookup_entry (equal c) cache.entries) ∙ has_by_test c cache.entries ∙ none) in
    subst (λ (l : Entries). IsUsed c (record { entries = cache.entries; places = cache.cap }) (record_of l cache.cap)) (sym put)
    (ap (λ (l : Entries). record_of l cache.cap)
    (by_none c (has_entry c cache.entries) v (remove_entry (is_cell c) cache.entries) (take (cache.cap - 1) cache.entries) none))

-- ---- entries that are forgotten

forget_one : (c : Cell) (x : Change) (es : Entries) → sets x c ≡ true
    → left_by x (remove_entry (equal c) es) ≡ left_by x es
unfolding left_by
forget_one c x [] set = refl
forget_one c x (e ∷ es) set = elim (cases_Bool (equal c e.0)) [
  | inl is ↦
      let gone : sets x e.0 ≡ true = subst (λ (d : Cell). sets x d ≡ true) (equal_same c e.0 is) set in
      rw is (rw gone refl)
  | inr other ↦ rw other (ap (λ (l : Entries). if not (sets x e.0) then e ∷ l else l) (forget_one c x es set))
]

pub forgotten : (c : Cell) (x : Change) (es : Entries) → sets x c ≡ true
    → left_by x (remove_entry (is_cell c) es) ≡ left_by x es
forgotten c x es set = subst (λ (t : Cell → Bool). left_by x (remove_entry t es) ≡ left_by x es) (same_test c)
    (forget_one c x es set)

pub removed : (c : Cell) (es : Entries) → remove_entry (equal c) es ≡ remove_entry (is_cell c) es
removed c es = ap (λ (t : Cell → Bool). remove_entry t es) (same_test c)

fewer_has : (c : Cell) (e : Cell × Option Value) (es : Entries) → is_cell c e.0 ≡ false → has_entry c (e ∷ es) ≡ true
    → has_entry c es ≡ true
fewer_has c e es other has = sym (ap (λ (b : Bool). is_some (cond b (Some e.1) (lookup (is_cell c) es))) other) ∙ has

pub fewer : (c : Cell) (es : Entries) → has_entry c es ≡ true → length (remove_entry (is_cell c) es) < length es
fewer c [] has = absurd cc
fewer c (e ∷ es) has = elim (cases_Bool (is_cell c e.0)) [
  | inl is ↦ rw is (omega arith)
  | inr other ↦
      let more : length (remove_entry (is_cell c) es) < length es = fewer c es (fewer_has c e es other has) in
      rw other (omega (arith, more))
]

-- the entries that a walk goes over
pub set_later : (x : Change) (e : Cell × Option Value) (es : Entries) → sets x e.0 ≡ false → left_by x es ≡ es
    → left_by x (e ∷ es) ≡ e ∷ es
unfolding left_by
set_later x e es not_set h =
    ap (λ (b : Bool). if not b then e ∷ left_by x es else left_by x es) not_set ∙ ap (λ (l : Entries). e ∷ l) h

pub none_left : (x : Change) → left_by x [] ≡ []
unfolding left_by
none_left x = refl

-- a put and an erasure of a cell drop the same entries
pub put_left : (c : Cell) (v : Value) (es : Entries) → left_by (change.Erase c) es ≡ left_by (change.Put c v) es
unfolding left_by sets
put_left c v es = refl

pub erased_itself : (c : Cell) → sets (change.Erase c) c ≡ true
unfolding sets
erased_itself c = is_cell_itself c c refl

-- where the cell has no entry, an erasure of it drops none
pub none_erased : (c : Cell) (es : Entries) → has_entry c es ≡ false → left_by (change.Erase c) es ≡ es
unfolding sets
none_erased c [] none = none_left (change.Erase c)
none_erased c (e ∷ es) none = elim (cases_Bool (is_cell c e.0)) [
  | inl is ↦
      let bad : true ≡ false = sym (ap (λ (b : Bool). is_some (cond b (Some e.1) (lookup (is_cell c) es))) is) ∙ none in
      absurd cc
  | inr other ↦ set_later (change.Erase c) e es other
      (none_erased c es (sym (ap (λ (b : Bool). is_some (cond b (Some e.1) (lookup (is_cell c) es))) other) ∙ none))
]

pub has_later : (c : Cell) (e : Cell × Option Value) (es : Entries) → has_entry c es ≡ true → has_entry c (e ∷ es) ≡ true
has_later c e es has = elim (cases_Bool (is_cell c e.0)) [
  | inl is ↦ rw is refl
  | inr other ↦ rw other has
]

pub has_first : (e : Cell × Option Value) (es : Entries) → has_entry e.0 (e ∷ es) ≡ true
has_first e es = rw (is_cell_itself e.0 e.0 refl) refl

-- each entry that is left is that of a cell that the change leaves
kept_one : (x : Change) (cells : Cells) (e : Cell × Option Value) → sets x e.0 ≡ false → e.1 ≡ cells e.0
    → e.1 ≡ after (x ∷ []) cells e.0
unfolding sets
kept_one (change.Put d v) cells e not_set are = are ∙ ap (λ (b : Bool). if b then Some v else cells e.0) (sym not_set)
kept_one (change.Erase d) cells e not_set are = are ∙ ap (λ (b : Bool). if b then None else cells e.0) (sym not_set)
kept_one (change.EraseFrom object first) cells e not_set are =
    are ∙ ap (λ (b : Bool). if b then None else cells e.0) (sym not_set)

-- what is left was there, and its cell isn't set
pub in_left : (x : Change) (es : Entries) (e : Cell × Option Value) → Contains (left_by x es) e
    → Contains es e × (sets x e.0 ≡ false)
unfolding left_by
in_left x [] e h = absurd (Contains-nil e h)
in_left x (f ∷ es) e h = elim (cases_Bool (sets x f.0)) [
  | inl set ↦
      let rest = in_left x es e (subst (λ (b : Bool). Contains (if not b then f ∷ left_by x es else left_by x es) e) set h) in
      (Contains-tail f es e rest.0, rest.1)
  | inr not_set ↦
      elim (Contains-cons f (left_by x es) e (subst (λ (b : Bool). Contains (if not b then f ∷ left_by x es else left_by x es) e) not_set h)) [
        | inl same ↦ (subst (Contains (f ∷ es)) same (Contains-head f es), subst (λ (g : Cell × Option Value). sets x g.0 ≡ false) same not_set)
        | inr later ↦ let rest = in_left x es e later in (Contains-tail f es e rest.0, rest.1)
      ]
]

pub left_are : (x : Change) (es : Entries) (cells : Cells) → AreOf (Some cells) es → AreOf (Some (after (x ∷ []) cells)) (left_by x es)
left_are x es cells are others is e h =
    let both = in_left x es e h in
    kept_one x cells e both.1 (are cells refl e both.0)
    ∙ ap (λ (o : Option Cells). elim o [ None ↦ e.1 | Some held ↦ held e.0 ]) is

pub kept_is : (k : Kept) (l : Entries) (n : ℕ) → k.entries ≡ l → k.places ≡ n → k ≡ record_of l n
kept_is k l n e p = subst (λ (x : Entries). k ≡ record_of x n) e (subst (λ (x : ℕ). k ≡ record_of k.entries x) p refl)

pub left_after : (x : Change) (old new : Kept) → new ≡ record_of (left_by x old.entries) old.places
    → (cells : Cells) → AreOf (Some cells) old.entries → AreOf (Some (after (x ∷ []) cells)) new.entries
left_after x old new is cells are =
    subst (λ (k : Kept). AreOf (Some (after (x ∷ []) cells)) k.entries) (sym is) (left_are x old.entries cells are)
