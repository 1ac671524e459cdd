-- No observer is past the updates of the group, nor is anything that was shown to it.
use Rattle.std.proofs.Common.{◌≡◌, ℕ, zero, suc, ◌+◌, ◌-◌, ◌≤◌, ◌==◌, ◌&&◌, ◌||◌, nat_le, nat_lt, min, true, List, [], ◌∷◌, ◌++◌, length, take, drop, arith, Option, Some, None, if◌then◌else◌}
use Rattle.std.specs.Prelude.{option_map, slice_get}
use Rattle.std.specs.List.{AllByRecursion}
use Rattle.std.proofs.lemmas.List.{length-take}
use Rattle.std.proofs.lemmas.Bool.{and_parts, eqb-true, leb-true}
use Rattle.harp_cells.specs.declared.cell.Cell.{Cell}
use Rattle.harp_cells.specs.declared.value.Value.{Value}
use Rattle.file_tree.specs.Book.{Entry}
use Rattle.group_rules.proofs.Tests.{by_if, each_of, neither, not_lt}
use Rattle.group_rules.specs.Disk.{settled_tests}
use Rattle.group_rules.specs.Limits.{is_log}
use Rattle.group_rules.specs.Names.{place_of}
use Rattle.group_rules.specs.Places.{Place, all_of}
use Rattle.group_rules.specs.Serving.{asked_for, front, one_or_more}
use Rattle.group_rules.specs.State.{Group, Log, Server}
use Rattle.group_rules.specs.Step.{list_of}
use Rattle.group_safety.proofs.Modes.{settled_is}
use Rattle.group_safety.proofs.Moving.{its}
use Rattle.group_safety.proofs.Quiet.{log_is}
use Rattle.group_safety.proofs.Safe.{good_of}
use Rattle.group_safety.specs.Laws.{Whole}
use Rattle.group_trace.specs.Scene.{Measures}
use Rattle.harp_types.specs.declared.server.ServerId.{ServerId}
use Rattle.observer.specs.declared.phase.Phase.{Phase}
use Rattle.observer.specs.declared.progress.Copied.{Copied}
use Rattle.observer.specs.declared.progress.Progress.{Progress}
use Rattle.observer.specs.Laws.{IsNoOlder}
use Rattle.observer.specs.Phases.{has_cells, is_first}
use Rattle.observer.specs.Progress.{after_cell, after_records, follows, is_not_past, is_ripe_copy, ripened_with, taken_cell, taken_records, top_with, want_of, wants_cell}
use Rattle.shown.specs.Rule.{CellAt, EntriesFrom, GoneTo, Outline, entries_from, shown_by}
use Rattle.shown.specs.declared.shown.Want.{Want}
use Rattle.shown.specs.declared.shown.Want.TheVariants as want
use Rattle.observe_laws.specs.Run.{shown_in, shown_where}
use Rattle.observe_laws.specs.Scene.{CellShown, GoneShown, ObservedScene, RecordsShown, Showing, filled, taken_by}

-- ---- within a number of updates

abbrev pub IsTopWithin : ℕ → Option ℕ → Type 0
IsTopWithin n None = Unit {0}
IsTopWithin n (Some top) = top ≤ n

abbrev pub IsCopyWithin : ℕ → Option Copied → Type 0
IsCopyWithin n None = Unit {0}
IsCopyWithin n (Some p) = p.top ≤ n

abbrev pub IsWithin : ℕ → Progress → Type 0
IsWithin n o = IsTopWithin n o.finished × IsCopyWithin n o.copy

abbrev pub IsShownWithin : ℕ → Showing → Type 0
IsShownWithin n (CellShown c v cp) = cp ≤ n
IsShownWithin n (RecordsShown first count) = first - 1 + count ≤ n
IsShownWithin n (GoneShown base) = Unit {0}

abbrev pub AreShownWithin : ℕ → List Showing → Type 0
AreShownWithin n xs = AllByRecursion (IsShownWithin n) xs

-- ---- as updates come

top_grows : (n k : ℕ) → n ≤ k → (o : Option ℕ) → IsTopWithin n o → IsTopWithin k o
top_grows n k le None h = tt
top_grows n k le (Some top) h = omega (arith, le, h)

copy_grows : (n k : ℕ) → n ≤ k → (o : Option Copied) → IsCopyWithin n o → IsCopyWithin k o
copy_grows n k le None h = tt
copy_grows n k le (Some p) h = omega (arith, le, h)

pub progress_grows : (n k : ℕ) → n ≤ k → (o : Progress) → IsWithin n o → IsWithin k o
progress_grows n k le o h = (top_grows n k le o.finished h.0, copy_grows n k le o.copy h.1)

showing_grows : (n k : ℕ) → n ≤ k → (x : Showing) → IsShownWithin n x → IsShownWithin k x
showing_grows n k le (CellShown c v cp) h = omega (arith, le, h)
showing_grows n k le (RecordsShown first count) h = omega (arith, le, h)
showing_grows n k le (GoneShown base) h = tt

pub shown_grow : (n k : ℕ) → n ≤ k → (xs : List Showing) → AreShownWithin n xs
    → AreShownWithin k xs
shown_grow n k le [] h = tt
shown_grow n k le (x ∷ xs) h = (showing_grows n k le x h.0, shown_grow n k le xs h.1)

pub shown_one_more : (n : ℕ) (xs : List Showing) (x : Showing) → AreShownWithin n xs
    → IsShownWithin n x → AreShownWithin n (xs ++ x ∷ [])
shown_one_more n [] x h i = (i, tt)
shown_one_more n (y ∷ xs) x h i = (h.0, shown_one_more n xs x h.1 i)

-- ---- what is taken

ripened_within : (n : ℕ) (finished : Option ℕ) (p : Copied) → IsTopWithin n finished → p.top ≤ n
    → IsWithin n (ripened_with finished p)
ripened_within n finished p f c =
    by_if (IsWithin n) (is_ripe_copy finished (Some p)) _ _ (λ t. (c, tt)) (λ t. (f, c))

top_within : (n : ℕ) (p : Phase) (top cp : ℕ) → top ≤ n → cp ≤ n → top_with p top cp ≤ n
top_within n p top cp t c =
    by_if (λ (k : ℕ). k ≤ n) (is_first p) cp (min top cp) (λ e. c) (λ e. omega (arith, t))

cell_within : (n : ℕ) (finished : Option ℕ) (copy : Option Copied) (c : Cell) (v : Option Value)
    (cp : ℕ) → IsTopWithin n finished → IsCopyWithin n copy → cp ≤ n
    → IsWithin n (taken_cell finished copy c v cp)
cell_within n finished None c v cp f h low = (f, tt)
cell_within n finished (Some p) c v cp f h low =
    by_if (IsWithin n) (wants_cell p c) _ _
    (λ t. ripened_within n finished (after_cell p v cp) f (top_within n p.phase p.top cp h low))
    (λ t. (f, h))

records_within : (n : ℕ) (finished : Option ℕ) (copy : Option Copied) (first count : ℕ)
    → IsTopWithin n finished → IsCopyWithin n copy → first - 1 + count ≤ n
    → IsWithin n (taken_records finished copy first count)
records_within n finished (Some p) first count f h low =
    by_if (IsWithin n) (follows p first) _ _
    (λ t.
    let is = eqb-true first (p.top + 1) (and_parts (has_cells p.phase) (first == p.top + 1) t).1 in
    ripened_within n finished (after_records p count) f (omega (arith, is, low)))
    (λ t. (f, h))
records_within n None None first count f h low = (tt, tt)
records_within n (Some top) None first count f h low = (
  by_if (λ (k : ℕ). k ≤ n) (first == top + 1) (top + count) top
      (λ t. let is = eqb-true first (top + 1) t in omega (arith, is, low)) (λ t. f),
  tt,
)

pub taken_within : (n : ℕ) (o : Progress) (x : Showing) → IsWithin n o → IsShownWithin n x
    → IsWithin n (taken_by o x)
taken_within n o (CellShown c v cp) h i = cell_within n o.finished o.copy c v cp h.0 h.1 i
taken_within n o (RecordsShown first count) h i =
    records_within n o.finished o.copy first count h.0 h.1 i
taken_within n o (GoneShown base) h i = h

-- ---- tops never fall

itself : (finished : Option ℕ) → IsNoOlder finished finished
itself None = tt
itself (Some top) = omega arith

not_past : (finished : Option ℕ) (top : ℕ) → is_not_past finished top ≡ true
    → IsNoOlder finished (Some top)
not_past None top h = tt
not_past (Some before) top h = leb-true before top h

abbrev IsOn : Option ℕ → Progress → Type 0
IsOn finished o = IsNoOlder finished o.finished

ripened_on : (finished : Option ℕ) (p : Copied) → IsOn finished (ripened_with finished p)
ripened_on finished p =
    by_if (IsOn finished) (is_ripe_copy finished (Some p)) _ _
    (λ t. let parts = and_parts (has_cells p.phase)
    (nat_le p.greatest p.top && is_not_past finished p.top) t in
    not_past finished p.top
    (and_parts (nat_le p.greatest p.top) (is_not_past finished p.top) parts.1).1)
    (λ t. itself finished)

cell_on : (finished : Option ℕ) (copy : Option Copied) (c : Cell) (v : Option Value) (cp : ℕ)
    → IsOn finished (taken_cell finished copy c v cp)
cell_on finished None c v cp = itself finished
cell_on finished (Some p) c v cp =
    by_if (IsOn finished) (wants_cell p c) _ _
    (λ t. ripened_on finished (after_cell p v cp)) (λ t. itself finished)

records_on : (finished : Option ℕ) (copy : Option Copied) (first count : ℕ)
    → IsOn finished (taken_records finished copy first count)
records_on finished (Some p) first count =
    by_if (IsOn finished) (follows p first) _ _
    (λ t. ripened_on finished (after_records p count)) (λ t. itself finished)
records_on None None first count = tt
records_on (Some top) None first count =
    by_if (λ (k : ℕ). top ≤ k) (first == top + 1) (top + count) top (λ t. omega arith)
    (λ t. omega arith)

pub taken_on : (o : Progress) (x : Showing) → IsNoOlder o.finished (taken_by o x).finished
taken_on o (CellShown c v cp) = cell_on o.finished o.copy c v cp
taken_on o (RecordsShown first count) = records_on o.finished o.copy first count
taken_on o (GoneShown base) = itself o.finished

-- ---- what is shown

front_few : (size : List Entry → Entry → ℕ) (before : List Entry) (used : ℕ) (es : List Entry)
    → length (front size before used es) ≤ length es
front_few size before used [] = omega arith
front_few size before used (e ∷ es) =
    by_if (λ (xs : List Entry). length xs ≤ length (e ∷ es)) (nat_le (used + size before e) _) _ []
    (λ t. let rest = front_few size (before ++ e ∷ []) (used + size before e) es in
    omega (arith, rest))
    (λ t. omega arith)

few_given : (size : List Entry → Entry → ℕ) (before es : List Entry)
    → length (one_or_more size before es) ≤ length es
few_given size before [] = omega arith
few_given size before (e ∷ es) =
    let rest = front_few size (before ++ e ∷ []) (size before e) es in omega (arith, rest)

-- of an outline
abbrev IsOutlineWithin : ℕ → Option Outline → Type 0
IsOutlineWithin n None = Unit {0}
IsOutlineWithin n (Some (CellAt c cp)) = cp ≤ n
IsOutlineWithin n (Some (EntriesFrom first entries)) = first - 1 + length entries ≤ n
IsOutlineWithin n (Some (GoneTo base)) = Unit {0}

held_low : (g : Group Entry) → Whole g → (q : Place) → (g.server q).held ≡ Log
    → (g.server q).cp ≤ length g.committed
held_low g w q held = ((its (good_of g w q)).logs.log held).sure.in_book

cell_low : (g : Group Entry) → Whole g → (q : Place) (c : Cell)
    → IsOutlineWithin (length g.committed)
    (if all_of (settled_tests q (g.server q)) then Some (CellAt c (g.server q).cp) else None)
cell_low g w q c =
    by_if (IsOutlineWithin (length g.committed)) (all_of (settled_tests q (g.server q))) _ None
    (λ t.
    let active = settled_is (g.server q).mode (each_of (settled_tests q (g.server q)) t).0 in
    held_low g w q ((its (good_of g w q)).modes.active active).0)
    (λ t. tt)

entries_low : (size : List Entry → Entry → ℕ) (n : ℕ) (s : Server Entry) (list : List Entry)
    (first : ℕ) → s.cp ≤ n → IsOutlineWithin n (entries_from size s list first)
entries_low size n s list first low =
    by_if (IsOutlineWithin n) (first == 0 || nat_lt s.cp first) None _ (λ t. tt)
    (λ t.
    let within = not_lt s.cp first (neither (first == 0) (nat_lt s.cp first) t).1 in
    by_if (IsOutlineWithin n) (nat_le first s.base) (Some (GoneTo s.base)) _ (λ u. tt)
    (λ u.
    let asked = asked_for s first s.cp in
    let few = few_given size (take (first - 1) list) asked in
    let long = length-take (s.cp - (first - 1)) (drop (first - 1 - s.base) s.items) in
    omega (arith, within, few, long, low)))

shown_low : (size : List Entry → Entry → ℕ) (g : Group Entry) → Whole g → (q : Place) (x : Want)
    → IsOutlineWithin (length g.committed) (shown_by size g q x)
shown_low size g w q (want.Cell c) = cell_low g w q c
shown_low size g w q (want.Records first) =
    by_if (IsOutlineWithin (length g.committed)) (is_log (g.server q).held) _ None
    (λ t. entries_low size (length g.committed) (g.server q) (list_of g q) first
    (held_low g w q (log_is (g.server q).held t)))
    (λ t. tt)

abbrev pub IsOneWithin : ℕ → Option Showing → Type 0
IsOneWithin n None = Unit {0}
IsOneWithin n (Some x) = IsShownWithin n x

filled_low : (n : ℕ) (updates : List Entry) (o : Option Outline) → IsOutlineWithin n o
    → IsOneWithin n (option_map (filled updates) o)
filled_low n updates None h = tt
filled_low n updates (Some (CellAt c cp)) h = h
filled_low n updates (Some (EntriesFrom first entries)) h = h
filled_low n updates (Some (GoneTo base)) h = tt

where_low : (m : Measures) (w : ObservedScene) → Whole w.scene.group → (server : ServerId)
    (o : Option Want) → IsOneWithin (length w.scene.group.committed) (shown_where m w server o)
where_low m w h server None = tt
where_low m w h server (Some x) =
    filled_low (length w.scene.group.committed) w.scene.group.committed
    (shown_by m.size w.scene.group (place_of server) x)
    (shown_low m.size w.scene.group h (place_of server) x)

pub shown_within : (m : Measures) (w : ObservedScene) → Whole w.scene.group → (server : ServerId)
    → IsOneWithin (length w.scene.group.committed) (shown_in m w server)
shown_within m w h server = where_low m w h server (want_of w.progress)

-- what stands at a place of what was shown
pub at_within : (n : ℕ) (xs : List Showing) (k : ℕ) → AreShownWithin n xs
    → IsOneWithin n (slice_get xs k)
at_within n [] k h = tt
at_within n (x ∷ xs) zero h = h.0
at_within n (x ∷ xs) (suc k) h = at_within n xs k h.1
