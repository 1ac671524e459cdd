-- Which blocks have entries, and how those of an object go one by one.
use Rattle.std.proofs.Common.{arith, ◌≡◌, ◌≤◌, ◌<◌, ℕ, ◌+◌, true, false, not, ◌==◌, ◌&&◌, [], ◌∷◌, Option, Contains, inl, inr, refl, sym, ap, subst, ◌∙◌}
use Rattle.std.specs.Prelude.{nat_le}
use Rattle.std.specs.Bool.{if◌then◌else◌}
use Rattle.std.specs.Map.{remove_entry}
use Rattle.std.proofs.lemmas.Bool.{and_from, cases_Bool, eq-eqb, le-leb}
use Rattle.lru.specs.LruCache.{LruCache, promoted, put_entries}
use Rattle.lru.proofs.CallerLemmas.{Contains-promoted, Contains-put_entries, Contains-remove_entry}
use Rattle.lru.proofs.Splits.{Contains-head, Contains-tail}
use Rattle.harp_cells.specs.declared.cell.Cell.{Cell}
use Rattle.harp_cells.specs.declared.cell.Cell.TheVariants as cell
use Rattle.harp_cells.specs.declared.change.Change.{Change}
use Rattle.harp_cells.specs.declared.change.Change.TheVariants as change
use Rattle.harp_cells.specs.declared.value.Value.{Value}
use Rattle.harp_cells.specs.Effect.{is_block_from, sets}
use Rattle.harp_cells.proofs.CellLemmas.{is_block_key_parts, is_cell_itself, is_cell_true}
use Rattle.cell_cache.specs.Entries.{AreUpTo, Entries, IsUpTo, Kept, left_by}
use Rattle.cell_cache.proofs.Keeping.{equal, equal_same, in_left, kept_is, none_left, record_of, set_later}

-- ---- the greatest number

pub promoted_up_to : (last : ℕ) (c : Cell) (es : Entries) → AreUpTo last es
    → AreUpTo last (promoted (equal c) es)
promoted_up_to last c es up e in_promoted = up e (Contains-promoted (equal c) es e in_promoted)

pub removed_up_to : (last : ℕ) (c : Cell) (es : Entries) → AreUpTo last es
    → AreUpTo last (remove_entry (equal c) es)
removed_up_to last c es up e in_rest = up e (Contains-remove_entry (equal c) es e in_rest)

pub put_up_to : (last more : ℕ) (c : Cell) (v : Option Value) (cache : LruCache Cell (Option Value))
    → AreUpTo last cache.entries → last ≤ more → IsUpTo more c
    → AreUpTo more (put_entries equal cache c v)
put_up_to last more c v cache up grows is e in_put object block same =
    elim (Contains-put_entries equal cache c v e in_put) [
      | inl was ↦ let held = up e was object block same in omega (arith, held, grows)
      | inr put ↦
          let key : c ≡ e.0 = elim put.1 [ inl k ↦ sym k | inr w ↦ equal_same c e.0 w.2 ] in
          is object block (key ∙ same)
    ]

left_up_to : (last : ℕ) (x : Change) (es : Entries) → AreUpTo last es → AreUpTo last (left_by x es)
left_up_to last x es up e in_rest = up e (in_left x es e in_rest).0

-- ---- one block after the other

erased_is : (c d : Cell) → sets (change.Erase c) d ≡ true → c ≡ d
unfolding sets
erased_is c d h = is_cell_true c d h

erased_left : (c : Cell) (x : Change) (es : Entries) → sets x c ≡ true
    → left_by x (left_by (change.Erase c) es) ≡ left_by x es
unfolding left_by
erased_left c x [] set = refl
erased_left c x (e ∷ es) set = elim (cases_Bool (sets (change.Erase c) e.0)) [
  | inl is ↦
      let gone : sets x e.0 ≡ true =
      subst (λ (d : Cell). sets x d ≡ true) (erased_is c e.0 is) set in
      rw is (rw gone (erased_left c x es set))
  | inr other ↦ rw other
      (ap (λ (l : Entries). if not (sets x e.0) then e ∷ l else l) (erased_left c x es set))
]

block_set : (object first at : ℕ) → first ≤ at
    → sets (change.EraseFrom object first) (cell.Block object at) ≡ true
unfolding sets is_block_from
block_set object first at h =
    and_from ((3 == 3) && (object == object)) (nat_le first at) (eq-eqb object object refl)
    (le-leb first at h)

-- a cell that the change sets is a block
block_of : (object first : ℕ) (c : Cell) → sets (change.EraseFrom object first) c ≡ true
    → (block : ℕ) × (c ≡ cell.Block object block) × (first ≤ block)
unfolding sets is_block_from
block_of object first cell.Meta h =
    let p = (is_block_key_parts object first (1, 0, 0) h).0 in absurd cc
block_of object first (cell.Object a) h =
    let p = (is_block_key_parts object first (2, a, 0) h).0 in absurd cc
block_of object first (cell.Block a b) h =
    let p = is_block_key_parts object first (3, a, b) h in
    (b, ap (λ (o : ℕ). cell.Block o b) p.1, p.2)
block_of object first (cell.Slot a b) h =
    let p = (is_block_key_parts object first (4, a, b) h).0 in absurd cc
block_of object first (cell.Client a) h =
    let p = (is_block_key_parts object first (5, a, 0) h).0 in absurd cc
block_of object first (cell.Saved a) h =
    let p = (is_block_key_parts object first (6, a, 0) h).0 in absurd cc

-- the entries that a change sets are of blocks from this one on
abbrev AreFrom : ℕ → ℕ → ℕ → Entries → Type 0
AreFrom object first at es = (e : Cell × Option Value) → Contains es e
    → sets (change.EraseFrom object first) e.0 ≡ true → sets (change.EraseFrom object at) e.0 ≡ true

later : (at block : ℕ) → at ≤ block → (at ≡ block → ⊥) → at + 1 ≤ block
later at block le other = omega (arith, le, other)

next_from : (object first at : ℕ) (es : Entries) → AreFrom object first at es
    → AreFrom object first (at + 1) (left_by (change.Erase (cell.Block object at)) es)
unfolding sets
next_from object first at es from e in_rest set =
    let was = in_left (change.Erase (cell.Block object at)) es e in_rest in
    let held = block_of object at e.0 (from e was.0 set) in
    let other : at ≡ held.0 → ⊥ = λ same.
    let itself : cell.Block object at ≡ e.0 = ap (cell.Block object) same ∙ sym held.1 in
    let bad : true ≡ false =
    sym (is_cell_itself (cell.Block object at) e.0 itself) ∙ was.1 in absurd cc in
    subst (λ (c : Cell). sets (change.EraseFrom object (at + 1)) c ≡ true) (sym held.1)
    (block_set object (at + 1) held.0 (later at held.0 held.2 other))

none_set : (x : Change) (es : Entries)
    → ((e : Cell × Option Value) → Contains es e → sets x e.0 ≡ false) → left_by x es ≡ es
none_set x [] h = none_left x
none_set x (e ∷ es) h = set_later x e es (h e (Contains-head e es))
    (none_set x es (λ f in_es. h f (Contains-tail e es f in_es)))

-- behind the greatest number none is left
none_from : (object first at last : ℕ) (es : Entries) → AreFrom object first at es
    → AreUpTo last es → last < at → left_by (change.EraseFrom object first) es ≡ es
none_from object first at last es from up behind =
    none_set (change.EraseFrom object first) es (λ e in_es. elim (cases_Bool (sets (change.EraseFrom object first) e.0)) [
      | inl set ↦
          let held = block_of object at e.0 (from e in_es set) in
          let below : held.0 ≤ last = up e in_es object held.0 held.1 in
          absurd (omega (arith, below, behind, held.2))
      | inr not_set ↦ not_set
    ])

-- the blocks from the first to before this one are forgotten, and nothing else
pub record AreForgotten (object first at last : ℕ) (old new : Kept) : Type 0 where
  pub left : left_by (change.EraseFrom object first) new.entries
      ≡ left_by (change.EraseFrom object first) old.entries
  pub places : new.places ≡ old.places
  pub up_to : AreUpTo last new.entries
  pub from : AreFrom object first at new.entries

pub one_forgotten : (object first at last : ℕ) (old now new : Kept) → first ≤ at
    → AreForgotten object first at last old now
    → new ≡ record_of (left_by (change.Erase (cell.Block object at)) now.entries) now.places
    → AreForgotten object first (at + 1) last old new
one_forgotten object first at last old now new behind so_far is =
    let block = cell.Block object at in
    subst (AreForgotten object first (at + 1) last old) (sym is) (record {
      left = erased_left block (change.EraseFrom object first) now.entries
          (block_set object first at behind) ∙ so_far.left;
      places = so_far.places;
      up_to = left_up_to last (change.Erase block) now.entries so_far.up_to;
      from = next_from object first at now.entries so_far.from;
    })

pub all_forgotten : (object first at last : ℕ) (old new : Kept)
    → AreForgotten object first at last old new → last < at
    → new ≡ record_of (left_by (change.EraseFrom object first) old.entries) old.places
all_forgotten object first at last old new so_far behind = kept_is new _ _
    (sym (none_from object first at last new.entries so_far.from so_far.up_to behind)
    ∙ so_far.left) so_far.places
