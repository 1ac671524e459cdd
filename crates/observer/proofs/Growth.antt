-- Observers, as the book goes on.
use Rattle.std.proofs.Common.{◌≡◌, ℕ, ◌+◌, ◌≤◌, ◌==◌, Bool, true, false, max, List, ◌++◌, length}
use Rattle.std.proofs.Common.{take, drop, ◌-◌, Option, Some, None, refl, sym, ap, ◌∙◌, arith}
use Rattle.std.specs.Prelude.{nat_le, if◌then◌else◌, ◌&&◌}
use Rattle.std.proofs.lemmas.Bool.{and_parts, leb-true}
use Rattle.std.proofs.lemmas.List.{drop-take, length-append, take-append-le}
use Rattle.file_tree.specs.Book.{Entry}
use Rattle.fuzzy_cells.specs.Fuzzy.{IsOfMoment}
use Rattle.fuzzy_cells.specs.History.{History, cells_at, in_a_row, no_cells}
use Rattle.harp_cells.specs.declared.cell.Cell.{Cell}
use Rattle.harp_cells.specs.declared.value.Value.{Value}
use Rattle.harp_cells.specs.Effect.{Cells, after}
use Rattle.harp_cells.specs.Memory.{held}
use Rattle.record_changes.specs.Records.{history_of}
use Rattle.record_changes.proofs.Histories.{as_long, fronts}
use Rattle.observer.specs.declared.progress.Copied.{Copied}
use Rattle.shown.specs.declared.shown.Shown.TheVariants as shown
use Rattle.observer.specs.Laws.{BooksGoOn, IsNoOlder, ShownStaysTrue, TopsNeverFall}
use Rattle.observer.specs.Phases.{has_cells}
use Rattle.observer.specs.Progress.{after_cell, after_records, follows, is_not_past, is_ripe_copy}
use Rattle.observer.specs.Progress.{ripened_with, taken_cell, taken_records, wants_cell}
use Rattle.observer.specs.Sound.{IsSoundCopy, IsSoundFinished}

-- ---- a longer book

longer : (entries more : List Entry) → length (history_of entries)
    ≤ length (history_of (entries ++ more))
longer entries more =
    omega (arith, as_long entries, as_long (entries ++ more), length-append entries more)

same_front : (entries more : List Entry) (n : ℕ) → n ≤ length (history_of entries)
    → take n (history_of entries) ≡ take n (history_of (entries ++ more))
same_front entries more n le =
    fronts entries n
    ∙ ap history_of (sym (take-append-le n entries more (omega (arith, le, as_long entries))))
    ∙ sym (fronts (entries ++ more) n)

same_cells : (entries more : List Entry) (n : ℕ) (c : Cell) → n ≤ length (history_of entries)
    → cells_at (history_of entries) n c ≡ cells_at (history_of (entries ++ more)) n c
same_cells entries more n c le =
    ap (λ (h : History). after (in_a_row h) no_cells c) (same_front entries more n le)

grown_moment : (entries more : List Entry) (a b : ℕ) (c : Cell) (v : Option Value)
    → b ≤ length (history_of entries) → IsOfMoment (history_of entries) a b c v
    → IsOfMoment (history_of (entries ++ more)) a b c v
grown_moment entries more a b c v le m = record {
  count = m.count;
  from = m.from;
  to = m.to;
  is = m.is ∙ same_cells entries more m.count c (omega (arith, le, m.to));
}

grown_finished : (entries more : List Entry) (finished : Option ℕ) (cells : Cells)
    → IsSoundFinished (history_of entries) finished cells
    → IsSoundFinished (history_of (entries ++ more)) finished cells
grown_finished entries more None cells h = tt
grown_finished entries more (Some top) cells h = (
  omega (arith, h.0, longer entries more),
  λ c of_tree. h.1 c of_tree ∙ same_cells entries more top c h.0,
)

grown_copy : (entries more : List Entry) (copy : Option Copied) (cells : Cells)
    → IsSoundCopy (history_of entries) copy cells
    → IsSoundCopy (history_of (entries ++ more)) copy cells
grown_copy entries more None cells h = tt
grown_copy entries more (Some p) cells h = record {
  phase = h.phase;
  order = h.order;
  within = omega (arith, h.within, longer entries more);
  cell = λ c of_tree past. grown_moment entries more p.top (max p.greatest p.top) c (cells c)
      h.within (h.cell c of_tree past);
  rest = h.rest;
}

pub books_go_on : BooksGoOn
books_go_on entries more o h = record {
  finished = grown_finished entries more o.progress.finished (held o.finished) h.finished;
  copy = grown_copy entries more o.progress.copy (held o.copied) h.copy;
}

-- ---- what was shown

same_part : (entries more : List Entry) (m n : ℕ) → m + n ≤ length (history_of entries)
    → take n (drop m (history_of entries)) ≡ take n (drop m (history_of (entries ++ more)))
same_part entries more m n le =
    sym (drop-take m n (history_of entries))
    ∙ ap (λ (h : History). drop m h) (same_front entries more (m + n) le)
    ∙ drop-take m n (history_of (entries ++ more))

pub shown_stays_true : ShownStaysTrue
shown_stays_true entries more (shown.Cell c v cp) h = (
  omega (arith, h.0, longer entries more),
  λ unsaved. h.1 unsaved ∙ same_cells entries more cp c h.0,
)
shown_stays_true entries more (shown.Records first records) h = (
  h.0,
  omega (arith, h.1, longer entries more),
  h.2 ∙ same_part entries more (first - 1) (length records) h.1,
)
shown_stays_true entries more (shown.Gone base) h = tt

-- ---- tops

itself : (finished : Option ℕ) → IsNoOlder finished finished
itself None = tt
itself (Some top) = omega arith

not_past : (finished : Option ℕ) (top : ℕ) → is_not_past finished top ≡ true
    → IsNoOlder finished (Some top)
not_past None top h = tt
not_past (Some before) top h = leb-true before top h

ripened_on : (finished : Option ℕ) (p : Copied)
    → IsNoOlder finished (ripened_with finished p).finished
ripened_on finished p = by (is_ripe_copy finished (Some p)) refl
  where
    by : (b : Bool) → is_ripe_copy finished (Some p) ≡ b
        → IsNoOlder finished (ripened_with finished p).finished
    by true e =
        let parts = and_parts (has_cells p.phase)
        (nat_le p.greatest p.top && is_not_past finished p.top) e in
        let last = and_parts (nat_le p.greatest p.top) (is_not_past finished p.top) parts.1 in
        rw e (not_past finished p.top last.1)
    by false e = rw e (itself finished)

cell_on : (finished : Option ℕ) (copy : Option Copied) (c : Cell) (v : Option Value) (cp : ℕ)
    → IsNoOlder finished (taken_cell finished copy c v cp).finished
cell_on finished None c v cp = itself finished
cell_on finished (Some p) c v cp = by (wants_cell p c) refl
  where
    by : (b : Bool) → wants_cell p c ≡ b
        → IsNoOlder finished (taken_cell finished (Some p) c v cp).finished
    by true e = rw e (ripened_on finished (after_cell p v cp))
    by false e = rw e (itself finished)

records_on : (finished : Option ℕ) (copy : Option Copied) (first count : ℕ)
    → IsNoOlder finished (taken_records finished copy first count).finished
records_on finished (Some p) first count = by (follows p first) refl
  where
    by : (b : Bool) → follows p first ≡ b
        → IsNoOlder finished (taken_records finished (Some p) first count).finished
    by true e = rw e (ripened_on finished (after_records p count))
    by false e = rw e (itself finished)
records_on None None first count = tt
records_on (Some top) None first count = by (first == top + 1)
  where
    by : (b : Bool) → top ≤ (if b then top + count else top)
    by true = omega arith
    by false = omega arith

pub tops_never_fall : TopsNeverFall
tops_never_fall o (shown.Cell c v cp) = cell_on o.finished o.copy c v cp
tops_never_fall o (shown.Records first records) =
    records_on o.finished o.copy first (length records)
tops_never_fall o (shown.Gone base) = itself o.finished
