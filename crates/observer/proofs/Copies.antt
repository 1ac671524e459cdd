-- A copy stays what it can be, whatever it is shown truly.
use Rattle.std.proofs.Common.{◌≡◌, ℕ, ◌+◌, ◌-◌, ◌<◌, ◌≤◌, ◌&&◌, max, Bool, true, false, List}
use Rattle.std.proofs.Common.{[], ◌∷◌, ◌++◌, length, map, get_or, take, drop, Option, Some, None}
use Rattle.std.proofs.Common.{refl, sym, ap, subst, ◌∙◌, arith, inl, inr}
use Rattle.std.specs.Prelude.{nat_le, if◌then◌else◌}
use Rattle.std.specs.List.{fold}
use Rattle.std.proofs.lemmas.Bool.{and_parts, both_ways, cases_Bool, leb-true}
use Rattle.std.proofs.lemmas.Grind.{fold-append}
use Rattle.std.proofs.lemmas.List.{append-nil, map-append, take_all, take_more}
use Rattle.std.proofs.lemmas.List.Concat.{flat_map-append}
use Rattle.event_record.specs.declared.record.RecordFields.{RecordFields}
use Rattle.harp_cells.specs.declared.cell.Cell.{Cell}
use Rattle.harp_cells.specs.declared.cell.Cell.TheVariants as cell
use Rattle.harp_cells.specs.declared.change.Change.{Change}
use Rattle.harp_cells.specs.declared.value.Value.{Value}
use Rattle.harp_cells.specs.Effect.{Cells, after, changed, is_cell}
use Rattle.harp_cells.specs.Memory.{BecomesBy, Keyed, held}
use Rattle.harp_cells.proofs.CellLemmas.{is_cell_true}
use Rattle.cell_changes.specs.Short.{is_of_tree}
use Rattle.cell_changes.specs.TreeCells.{TreeCells}
use Rattle.file_tree.specs.Tree.{Tree}
use Rattle.harp_cells.specs.CellsOfTree.{StandForTree, stands_for}
use Rattle.file_tree.specs.Book.{Entry}
use Rattle.fuzzy_cells.specs.Fuzzy.{IsFuzzy, IsOfMoment, is_saved}
use Rattle.fuzzy_cells.specs.History.{History, between, cells_at, in_a_row}
use Rattle.fuzzy_cells.proofs.Fuzzy.{applies_on}
use Rattle.fuzzy_cells.proofs.Spans.{cells_from}
use Rattle.record_changes.specs.Records.{AreUpdates, history_of}
use Rattle.observer.specs.declared.phase.Part.{Part}
use Rattle.observer.specs.declared.phase.Part.TheVariants as part
use Rattle.observer.specs.declared.phase.Phase.{Phase}
use Rattle.observer.specs.declared.phase.Phase.TheVariants as phase
use Rattle.observer.specs.declared.progress.Copied.{Copied}
use Rattle.observer.specs.declared.progress.Progress.{Progress}
use Rattle.shown.specs.declared.shown.Shown.TheVariants as shown
use Rattle.shown.specs.Truth.{IsShownOf}
use Rattle.observer.specs.Phases.{has_cells, is_to_come, part_cell, phase_after, wanted_in}
use Rattle.observer.specs.Progress.{after_cell, after_records}
use Rattle.observer.specs.Progress.{greatest_with, is_not_past, is_ripe_copy, is_wanted}
use Rattle.observer.specs.Progress.{ripened_with, top_with, wants_cell}
use Rattle.observer.specs.Sound.{IsExact, IsSoundCopy, IsSoundFinished, IsSoundObserver, IsUnderWay}
use Rattle.observer.specs.Sound.{IsWith, ObserverValue}
use Rattle.observer.proofs.Moments.{moment}
use Rattle.observer.proofs.Ruled.{phases, ruled_out, shown_once, stays, the_cell}

-- ---- the least and the greatest CP, with one more

low_with : (p : Phase) (top cp : ℕ) → top_with p top cp ≤ cp
low_with phase.Whole top cp = omega arith
low_with (phase.Object n next) top cp = omega arith
low_with (phase.Part k n next at count) top cp = omega arith
low_with phase.Records top cp = omega arith

high_with : (p : Phase) (greatest cp : ℕ) → cp ≤ greatest_with p greatest cp
high_with phase.Whole greatest cp = omega arith
high_with (phase.Object n next) greatest cp = omega arith
high_with (phase.Part k n next at count) greatest cp = omega arith
high_with phase.Records greatest cp = omega arith

-- once something was shown, the ends go further apart
low_before : (p : Phase) (top cp : ℕ) (c : Cell) → is_to_come p c ≡ false → top_with p top cp ≤ top
low_before phase.Whole top cp c h = absurd cc
low_before (phase.Object n next) top cp c h = omega arith
low_before (phase.Part k n next at count) top cp c h = omega arith
low_before phase.Records top cp c h = omega arith

high_before : (p : Phase) (greatest cp : ℕ) (c : Cell) → is_to_come p c ≡ false
    → greatest ≤ greatest_with p greatest cp
high_before phase.Whole greatest cp c h = absurd cc
high_before (phase.Object n next) greatest cp c h = omega arith
high_before (phase.Part k n next at count) greatest cp c h = omega arith
high_before phase.Records greatest cp c h = omega arith

high_fits : (p : Phase) (greatest cp most : ℕ) → greatest ≤ most → cp ≤ most
    → greatest_with p greatest cp ≤ most
high_fits phase.Whole greatest cp most a b = b
high_fits (phase.Object n next) greatest cp most a b = omega (arith, a, b)
high_fits (phase.Part k n next at count) greatest cp most a b = omega (arith, a, b)
high_fits phase.Records greatest cp most a b = omega (arith, a, b)

-- ---- a cell

wanting : (p : Phase) (d : Cell) → wanted_in p ≡ Some d → has_cells p ≡ false
wanting phase.Whole d e = refl
wanting (phase.Object n next) d e = refl
wanting (phase.Part k n next at count) d e = refl
wanting phase.Records d e = absurd cc

no_saved : (p : Part) (n at : ℕ) → is_saved (part_cell p n at) ≡ false
no_saved part.Slot n at = refl
no_saved part.Block n at = refl

unsaved_wanted : (p : Phase) (d : Cell) → wanted_in p ≡ Some d → is_saved d ≡ false
unsaved_wanted phase.Whole d e = ap is_saved (sym (the_cell cell.Meta d e))
unsaved_wanted (phase.Object n next) d e = ap is_saved (sym (the_cell (cell.Object n) d e))
unsaved_wanted (phase.Part k n next at count) d e =
    ap is_saved (sym (the_cell (part_cell k n at) d e)) ∙ no_saved k n at
unsaved_wanted phase.Records d e = absurd cc

-- a cell of the new copy that isn't to come any more
record Taken (entries : List Entry) (p : Copied) (d : Cell) (v : Option Value) (cp : ℕ)
    (old : Cells) : Type 0 where
  updates : AreUpdates entries
  wanted : wanted_in p.phase ≡ Some d
  most : cp ≤ length (history_of entries)
  is : v ≡ cells_at (history_of entries) cp d
  under : IsUnderWay (history_of entries) p old

other_cell : (entries : List Entry) (p : Copied) (d c : Cell) (v : Option Value) (cp : ℕ)
    (old : Cells) → Taken entries p d v cp old → is_of_tree c ≡ true → is_cell d c ≡ false
    → is_to_come (phase_after p.phase v) c ≡ false
    → IsOfMoment (history_of entries) (top_with p.phase p.top cp)
    (max (greatest_with p.phase p.greatest cp) (top_with p.phase p.top cp)) c (old c)
other_cell entries p d c v cp old t of_tree other gone =
    let history = history_of entries in
    elim (cases_Bool (is_to_come p.phase c)) [
      | inl here ↦
          let absent : cells_at history cp c ≡ None =
          ruled_out (moment entries cp t.updates) p.phase c d t.wanted of_tree other here
          (ap (λ (w : Option Value). is_to_come (phase_after p.phase w) c) (sym t.is) ∙ gone) in
          record {
            count = cp;
            from = low_with p.phase p.top cp;
            to = omega (arith, high_with p.phase p.greatest cp);
            is = t.under.rest c of_tree here ∙ sym absent;
          }
      | inr past ↦
          let m = t.under.cell c of_tree past in
          let order = t.under.order (wanting p.phase d t.wanted) in
          record {
            count = m.count;
            from = omega (arith, m.from, low_before p.phase p.top cp c past);
            to = omega (arith, m.to, order, high_before p.phase p.greatest cp c past);
            is = m.is;
          }
    ]

taken_moment : (entries : List Entry) (p : Copied) (d c : Cell) (v : Option Value) (cp : ℕ)
    (old : Cells) (b : Bool) → Taken entries p d v cp old → is_of_tree c ≡ true → is_cell d c ≡ b
    → is_to_come (phase_after p.phase v) c ≡ false
    → IsOfMoment (history_of entries) (top_with p.phase p.top cp)
    (max (greatest_with p.phase p.greatest cp) (top_with p.phase p.top cp)) c
    (if b then v else old c)
taken_moment entries p d c v cp old true t of_tree same gone = record {
  count = cp;
  from = low_with p.phase p.top cp;
  to = omega (arith, high_with p.phase p.greatest cp);
  is = t.is ∙ ap (cells_at (history_of entries) cp) (is_cell_true d c same);
}
taken_moment entries p d c v cp old false t of_tree other gone =
    other_cell entries p d c v cp old t of_tree other gone

taken_open : (entries : List Entry) (p : Copied) (d c : Cell) (v : Option Value) (cp : ℕ)
    (old : Cells) (b : Bool) → Taken entries p d v cp old → is_of_tree c ≡ true → is_cell d c ≡ b
    → is_to_come (phase_after p.phase v) c ≡ true → (if b then v else old c) ≡ None
taken_open entries p d c v cp old true t of_tree same here =
    let gone : is_to_come (phase_after p.phase v) c ≡ false =
    shown_once p.phase v c (t.wanted ∙ ap Some (is_cell_true d c same)) in
    absurd (both_ways (is_to_come (phase_after p.phase v) c) gone here)
taken_open entries p d c v cp old false t of_tree other here =
    t.under.rest c of_tree (stays p.phase v c t.under.phase here)

-- THE WANTED CELL WAS SHOWN
pub cell_taken : (entries : List Entry) (p : Copied) (d : Cell) (v : Option Value) (cp : ℕ)
    (old new : Keyed) → AreUpdates entries → wanted_in p.phase ≡ Some d
    → IsShownOf (history_of entries) (shown.Cell d v cp)
    → IsUnderWay (history_of entries) p (held old) → IsWith d v old new
    → IsUnderWay (history_of entries) (after_cell p v cp) (held new)
cell_taken entries p d v cp old new updates wanted told under made =
    let history = history_of entries in
    let t : Taken entries p d v cp (held old) = record {
      updates = updates;
      wanted = wanted;
      most = told.0;
      is = told.1 (unsaved_wanted p.phase d wanted);
      under = under;
    } in
    let top = top_with p.phase p.top cp in
    let greatest = greatest_with p.phase p.greatest cp in
    record {
      phase = phases p.phase v under.phase;
      order = λ h. omega (arith, low_with p.phase p.top cp, high_with p.phase p.greatest cp);
      within = omega (
        arith,
        low_with p.phase p.top cp,
        told.0,
        high_fits p.phase p.greatest cp (length history) (omega (arith, under.within)) told.0,
      );
      cell = λ c of_tree gone.
          subst (IsOfMoment history top (max greatest top) c) (sym (made c))
          (taken_moment entries p d c v cp (held old) (is_cell d c) t of_tree refl gone);
      rest = λ c of_tree here. made c
          ∙ taken_open entries p d c v cp (held old) (is_cell d c) t of_tree refl here;
    }

-- ---- records

-- of a cell of the tree alone
abbrev lent : History → ℕ → Cells → Cells
lent history a cells c = if is_of_tree c then cells c else cells_at history a c

lent_fuzzy : (history : History) (a b : ℕ) (cells : Cells) → a ≤ b
    → ((c : Cell) → is_of_tree c ≡ true → IsOfMoment history a b c (cells c))
    → IsFuzzy history a b (lent history a cells)
lent_fuzzy history a b cells le each c unsaved =
    by (is_of_tree c) refl
  where
    by : (t : Bool) → is_of_tree c ≡ t
        → IsOfMoment history a b c (if t then cells c else cells_at history a c)
    by true e = each c e
    by false e = record { count = a; from = omega arith; to = le; is = refl }

unsaved_of_tree : (c : Cell) → is_of_tree c ≡ true → is_saved c ≡ false
unsaved_of_tree cell.Meta h = refl
unsaved_of_tree (cell.Object n) h = refl
unsaved_of_tree (cell.Block n i) h = refl
unsaved_of_tree (cell.Slot n i) h = refl
unsaved_of_tree (cell.Client n) h = absurd cc
unsaved_of_tree (cell.Saved n) h = absurd cc

pub moved_on : (history : History) (a b k : ℕ) (cells : Cells) → a ≤ b → a ≤ k
    → ((c : Cell) → is_of_tree c ≡ true → IsOfMoment history a b c (cells c))
    → (c : Cell) → is_of_tree c ≡ true
    → IsOfMoment history k (max b k) c (after (between history a k) cells c)
moved_on history a b k cells le on each c of_tree =
    let m = applies_on history a b k (lent history a cells)
    (lent_fuzzy history a b cells le each) on c (unsaved_of_tree c of_tree) in
    subst (λ (t : Bool). IsOfMoment history k (max b k) c (fold (changed c)
    (if t then cells c else cells_at history a c) (between history a k))) of_tree m

-- the shown records are those of the history
records_between : (history : History) (first : ℕ) (records : List RecordFields)
    → IsShownOf history (shown.Records (first + 1) records)
    → in_a_row (map (λ r. r.changes) records) ≡ between history first (first + length records)
records_between history first records told =
    let from : first + 1 - 1 ≡ first = omega arith in
    let many : length records ≡ first + length records - first = omega arith in
    ap in_a_row (told.2 ∙ ap (λ (n : ℕ). take (length records) (drop n history)) from
    ∙ ap (λ (n : ℕ). take n (drop first history)) many)

no_more : (p : Phase) (c : Cell) → has_cells p ≡ true → is_to_come p c ≡ false
no_more phase.Whole c h = absurd cc
no_more (phase.Object n next) c h = absurd cc
no_more (phase.Part k n next at count) c h = absurd cc
no_more phase.Records c h = refl

-- RECORDS FOLLOW ON A COPY
pub records_taken : (history : History) (p : Copied) (records : List RecordFields)
    (old new : Keyed) → has_cells p.phase ≡ true
    → IsShownOf history (shown.Records (p.top + 1) records) → IsUnderWay history p (held old)
    → BecomesBy (in_a_row (map (λ r. r.changes) records)) old new
    → IsUnderWay history (after_records p (length records)) (held new)
records_taken history p records old new all told under made =
    let k = p.top + length records in
    let changes = between history p.top k in
    let same = records_between history p.top records told in
    let most : k ≤ length history = omega (arith, told.1) in
    let each = moved_on history p.top (max p.greatest p.top) k (held old) (omega arith)
    (omega arith) (λ c of_tree. under.cell c of_tree (no_more p.phase c all)) in
    record {
      phase = under.phase;
      order = λ h. absurd (both_ways (has_cells p.phase) h all);
      within = omega (arith, under.within, most);
      cell = λ c of_tree gone.
          let m = each c of_tree in
          record {
            count = m.count;
            from = m.from;
            to = omega (arith, m.to);
            is = made c ∙ ap (λ (l : List Change). after l (held old) c) same ∙ m.is;
          };
      rest = λ c of_tree here.
          absurd (both_ways (is_to_come p.phase c) (no_more p.phase c all) here);
    }

-- RECORDS FOLLOW ON THE FINISHED COPY
pub records_after : (history : History) (top : ℕ) (records : List RecordFields) (old new : Keyed)
    → IsShownOf history (shown.Records (top + 1) records)
    → IsExact history top (held old)
    → BecomesBy (in_a_row (map (λ r. r.changes) records)) old new
    → IsExact history (top + length records) (held new)
records_after history top records old new told exact made c of_tree =
    let k = top + length records in
    made c ∙ ap (λ (l : List Change). after l (held old) c)
    (records_between history top records told)
    ∙ ap (λ (v : Option Value). fold (changed c) v (between history top k)) (exact c of_tree)
    ∙ sym (cells_from history top k c (omega arith))

-- ---- ripe

-- A RIPE COPY IS EXACT
pub ripe_is_exact : (history : History) (finished : Option ℕ) (p : Copied) (cells : Cells)
    → is_ripe_copy finished (Some p) ≡ true → IsUnderWay history p cells
    → (p.top ≤ length history) × IsExact history p.top cells
ripe_is_exact history finished p cells ripe under =
    let parts = and_parts (has_cells p.phase)
    (nat_le p.greatest p.top && is_not_past finished p.top) ripe in
    let far : p.greatest ≤ p.top = leb-true p.greatest p.top
    (and_parts (nat_le p.greatest p.top) (is_not_past finished p.top) parts.1).0 in (
      omega (arith, under.within),
      λ c of_tree.
          let m = under.cell c of_tree (no_more p.phase c parts.0) in
          let at : m.count ≡ p.top = omega (arith, m.from, m.to, far) in
          m.is ∙ ap (λ (n : ℕ). cells_at history n c) at,
    )

-- ---- the observer

pub gone_on : (history : History) (p : Copied) (old new : ObserverValue)
    → IsSoundFinished history old.progress.finished (held old.finished)
    → IsUnderWay history p (held old.copied)
    → new.progress ≡ ripened_with old.progress.finished p
    → (is_ripe_copy old.progress.finished (Some p) ≡ true → new.finished ≡ old.copied)
    → (is_ripe_copy old.progress.finished (Some p) ≡ false
    → (new.finished ≡ old.finished) × (new.copied ≡ old.copied))
    → IsSoundObserver history new
gone_on history p old new finished under progress ripe unripe =
    by (is_ripe_copy old.progress.finished (Some p)) refl
  where
    by : (b : Bool) → is_ripe_copy old.progress.finished (Some p) ≡ b → IsSoundObserver history new
    by true e =
        let is : new.progress ≡ record { finished = Some p.top; copy = None } =
        progress ∙ ap (λ (b : Bool). ripened_by b) e in
        record {
          finished = subst
              (λ (o : Progress). IsSoundFinished history o.finished (held new.finished)) (sym is)
              (subst (λ (k : Keyed). (p.top ≤ length history) × IsExact history p.top (held k))
              (sym (ripe e))
              (ripe_is_exact history old.progress.finished p (held old.copied) e under));
          copy = subst (λ (o : Progress). IsSoundCopy history o.copy (held new.copied)) (sym is) tt;
        }
      where
        ripened_by : Bool → Progress
        ripened_by b =
            if b then record { finished = Some p.top; copy = None }
            else record { finished = old.progress.finished; copy = Some p }
    by false e =
        let is : new.progress ≡ record { finished = old.progress.finished; copy = Some p } =
        progress ∙ ap (λ (b : Bool). ripened_by b) e in
        let same = unripe e in
        record {
          finished = subst
              (λ (o : Progress). IsSoundFinished history o.finished (held new.finished)) (sym is)
              (subst (λ (k : Keyed). IsSoundFinished history old.progress.finished (held k))
              (sym same.0) finished);
          copy = subst (λ (o : Progress). IsSoundCopy history o.copy (held new.copied)) (sym is)
              (subst (λ (k : Keyed). IsUnderWay history p (held k)) (sym same.1) under);
        }
      where
        ripened_by : Bool → Progress
        ripened_by b =
            if b then record { finished = Some p.top; copy = None }
            else record { finished = old.progress.finished; copy = Some p }

-- ---- the copy of an observer

pub copy_of : (history : History) (o : ObserverValue) (p : Copied)
    → o.progress.copy ≡ Some p → IsSoundObserver history o → IsUnderWay history p (held o.copied)
copy_of history o p is h =
    subst (λ (x : Option Copied). IsSoundCopy history x (held o.copied)) is h.copy

-- the changes of records, one record after the other
pub changes_more : (records : List RecordFields) (i : ℕ) (r : RecordFields) (first now new : Keyed)
    (changes : List Change) → i < length records → r ≡ get_or records i r → changes ≡ r.changes
    → BecomesBy (in_a_row (map (λ r. r.changes) (take i records))) first now
    → BecomesBy changes now new
    → BecomesBy (in_a_row (map (λ r. r.changes) (take (i + 1) records))) first new
changes_more records i r first now new changes lt read same before made c =
    let done = in_a_row (map (λ (x : RecordFields). x.changes) (take i records)) in
    let all : in_a_row (map (λ (x : RecordFields). x.changes) (take (i + 1) records))
    ≡ done ++ changes =
    ap (λ (l : List RecordFields). in_a_row (map (λ x. x.changes) l))
    (take_more records i r lt)
    ∙ ap in_a_row (map-append (λ (x : RecordFields). x.changes) (take i records)
    (get_or records i r ∷ []))
    ∙ flat_map-append (λ (l : List Change). l) (map (λ x. x.changes) (take i records))
    ((get_or records i r).changes ∷ [])
    ∙ ap (λ (l : List Change). done ++ l) (append-nil (get_or records i r).changes
    ∙ ap (λ (x : RecordFields). x.changes) (sym read) ∙ sym same) in
    made c ∙ ap (λ (v : Option Value). fold (changed c) v changes) (before c)
    ∙ sym (fold-append (changed c) (held first c) done changes)
    ∙ ap (λ (l : List Change). fold (changed c) (held first c) l) (sym all)

pub changes_done : (items records : List RecordFields) (i : ℕ) (first now : Keyed)
    → length items ≤ i → items ≡ records
    → BecomesBy (in_a_row (map (λ r. r.changes) (take i items))) first now
    → BecomesBy (in_a_row (map (λ r. r.changes) records)) first now
changes_done items records i first now le same h =
    subst (λ (l : List RecordFields). BecomesBy (in_a_row (map (λ r. r.changes) l)) first now)
    (take_all i items le ∙ same) h

-- the cell that a copy wants
pub wanted_is : (p : Copied) (c : Cell) → wants_cell p c ≡ true → wanted_in p.phase ≡ Some c
wanted_is p c h = by (wanted_in p.phase) h
  where
    by : (w : Option Cell) → is_wanted w c ≡ true → w ≡ Some c
    by None h = absurd cc
    by (Some d) h = ap Some (is_cell_true d c h)

-- a copy that goes on, of an observer whose cells are these now
pub went_on : (history : History) (p q : Copied) (progress : Progress) (finished old now : Keyed)
    (new : ObserverValue)
    → IsSoundFinished history progress.finished (held finished) → IsUnderWay history q (held now)
    → p ≡ q → new.progress ≡ ripened_with progress.finished p
    → (is_ripe_copy progress.finished (Some p) ≡ true → new.finished ≡ now)
    → (is_ripe_copy progress.finished (Some p) ≡ false
    → (new.finished ≡ finished) × (new.copied ≡ now)) → IsSoundObserver history new
went_on history p q progress finished old now new sound under same made ripe unripe =
    gone_on history p (record { progress = progress; finished = finished; copied = now }) new sound
    (subst (λ (x : Copied). IsUnderWay history x (held now)) (sym same) under) made ripe unripe

-- the finished copy with records
pub followed : (history : History) (o : ObserverValue) (top : ℕ) (records : List RecordFields)
    (count : ℕ) (new copied : Keyed) (copy : Option Copied)
    → o.progress ≡ record { finished = Some top; copy = None }
    → count ≡ length records → copy ≡ None
    → IsShownOf history (shown.Records (top + 1) records) → IsSoundObserver history o
    → BecomesBy (in_a_row (map (λ r. r.changes) records)) o.finished new
    → IsSoundObserver history (record {
      progress = record { finished = Some (top + count); copy = copy };
      finished = new;
      copied = copied;
    })
followed history o top records count new copied copy is many none told sound made = record {
  finished = (
    omega (arith, told.1, many),
    subst (λ (n : ℕ). IsExact history (top + n) (held new)) (sym many)
        (records_after history top records o.finished new told exact made),
  );
  copy = subst (λ (c : Option Copied). IsSoundCopy history c (held copied)) (sym none) tt;
}
  where
    exact : IsExact history top (held o.finished)
    exact = (subst (λ (x : Progress). IsSoundFinished history x.finished (held o.finished)) is
        sound.finished).1

-- ---- what the finished copy answers

pub exact_stands : (history : History) (top : ℕ) (cells : Cells) (tree : Tree) (stamp : ℕ)
    → IsExact history top cells → StandForTree (cells_at history top) tree stamp
    → StandForTree cells tree stamp
exact_stands history top cells tree stamp exact h = record {
  meta = ap (stands_for tree cell.Meta) (exact cell.Meta refl) ∙ h.meta;
  object = λ n. ap (stands_for tree (cell.Object n)) (exact (cell.Object n) refl) ∙ h.object n;
  block = λ n i. ap (stands_for tree (cell.Block n i)) (exact (cell.Block n i) refl) ∙ h.block n i;
  ends = λ n i past. exact (cell.Block n i) refl ∙ h.ends n i past;
  slot = λ n i. ap (stands_for tree (cell.Slot n i)) (exact (cell.Slot n i) refl) ∙ h.slot n i;
}

-- its cells stand for the tree after as many updates
abbrev pub tree_cells : (entries : List Entry) (top : ℕ) (cells : Cells) → AreUpdates entries
    → IsExact (history_of entries) top cells → TreeCells
tree_cells entries top cells updates exact =
    let t = moment entries top updates in
    record {
      cells = cells;
      tree = t.tree;
      stamp = t.stamp;
      stand = exact_stands (history_of entries) top cells t.tree t.stamp exact t.stand;
      sound = t.sound;
    }

pub exact_finished : (history : History) (o : ObserverValue) (top : ℕ)
    → o.progress.finished ≡ Some top → IsSoundObserver history o
    → IsExact history top (held o.finished)
exact_finished history o top is sound =
    (subst (λ (x : Option ℕ). IsSoundFinished history x (held o.finished)) is sound.finished).1
