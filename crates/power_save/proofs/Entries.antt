-- A saved log by its entries.
use Rattle.std.proofs.Common.{◌≡◌, ℕ, ◌+◌, ◌-◌, List, [], ◌∷◌, length, map, refl, sym, subst, ap, ◌∙◌, Option, Some, None, Bool, true, false, arith}
use Rattle.std.specs.Prelude.{nat_le, ◌&&◌, slice_index_or}
use Rattle.std.proofs.lemmas.List.{length-map}
use Rattle.event_record.specs.Record.{entry_of}
use Rattle.event_record.specs.declared.record.RecordFields.{RecordFields}
use Rattle.file_tree.specs.Book.{Entry}
use Rattle.group_rules.specs.Effects.{load_tests}
use Rattle.group_rules.specs.Limits.{room as log_room}
use Rattle.group_rules.specs.Places.{all_of}
use Rattle.group_rules.specs.State.{Saved}
use Rattle.harp_cells.specs.Effect.{Cells}
use Rattle.harp_cells.specs.declared.value.Value.{Value}
use Rattle.harp_store.specs.Disk.{Disk, Image, MayLeave, Moments, Now, after_step, with_mark}
use Rattle.harp_store.specs.Mark.{MarkFields, SavedNumbers}
use Rattle.harp_store.proofs.Crashes.{synced_stay}
use Rattle.power_save.specs.Entries.{HasSaved, HoldEntries, saved_entries}
use Rattle.power_save.specs.Saved.{HasRecord, HoldRecords, SavedOn, cell_in, fits_log, saved_mark}
use Rattle.power_save.proofs.Records.{numbers_are, same_log}
use Rattle.volatile_log.specs.Log.{LogValue, room, top}

-- ---- saving

-- the numbers of a saved log
abbrev pub numbers : Saved Entry → ℕ → SavedNumbers
numbers saved ring = record {
  base = saved.base;
  cp = saved.cp;
  top = saved.base + length saved.items;
  ring = ring;
}

pub has_saved : (log : LogValue) (before : MarkFields) (d : Disk) → SavedOn log d
    → d.mark ≡ Some (saved_mark room log before) → HasSaved (saved_entries log) d
has_saved log before d s is = record {
  synced = s.synced;
  mark = saved_mark room log before;
  marked = is;
  held = record {
    ring = room;
    numbers = ap (λ (n : ℕ). Some (record { base = log.base; cp = log.cp; top = log.base + n; ring = room }))
        (sym (length-map log.records entry_of));
    records = log.records;
    held = s.held;
    entries = refl;
  };
}

pub entries_now : (log : LogValue) (before : MarkFields) (mid new : Option Moments)
    → new ≡ after_step (with_mark (saved_mark room log before)) mid → Now (SavedOn log) new
    → Now (HasSaved (saved_entries log)) new
entries_now log before None new e now = subst (Now (HasSaved (saved_entries log))) (sym e) tt
entries_now log before (Some h) new e now =
    subst (Now (HasSaved (saved_entries log))) (sym e)
    (has_saved log before (with_mark (saved_mark room log before) h.now)
    (subst (Now (SavedOn log)) e now) refl)

-- ---- crashes

pub crash_keeps : (saved : Saved Entry) (d : Disk) (image : Image) → HasSaved saved d
    → MayLeave d image
    → (mark : MarkFields) × (image.mark ≡ Some mark) × HoldEntries image.cells mark saved
crash_keeps saved d image s may = (
  s.mark,
  may.mark ∙ s.marked,
  record {
    ring = s.held.ring;
    numbers = s.held.numbers;
    records = s.held.records;
    held = λ k e lt. record {
      meant = subst (λ (v : Option Value). HasRecord v (slice_index_or s.held.records k e))
          (sym (synced_stay d image s.synced may (cell_in s.held.ring (saved.base + 1 + k))))
          (s.held.held k e lt).meant;
      its = (s.held.held k e lt).its;
    };
    entries = s.held.entries;
  },
)

-- ---- loading

all_four : (a b c d : Bool) → (a && b && c && d) ≡ all_of (a ∷ b ∷ c ∷ d ∷ [])
unfolding all_of
all_four false b c d = refl
all_four true false c d = refl
all_four true true false d = refl
all_four true true true false = refl
all_four true true true true = refl

-- the numbers are those of a log where the machine takes it
pub tests_are : (lb : ℕ) (saved : Saved Entry) (ring : ℕ)
    → fits_log lb (Some (numbers saved ring)) ≡ all_of (load_tests lb saved)
unfolding log_room
tests_are lb saved ring =
    let n = length saved.items in
    let few : saved.base + n - saved.base ≡ n = omega arith in
    ap (λ (k : ℕ). nat_le saved.base lb && nat_le lb saved.cp && nat_le saved.cp (saved.base + n)
    && nat_le k room) few
    ∙ all_four (nat_le saved.base lb) (nat_le lb saved.cp) (nat_le saved.cp (saved.base + n)) (nat_le n room)

pub fits_are : (mark : MarkFields) (saved : Saved Entry) (cells : Cells)
    → HoldEntries cells mark saved → fits_log mark.lb mark.saved ≡ all_of (load_tests mark.lb saved)
fits_are mark saved cells h = ap (fits_log mark.lb) h.numbers ∙ tests_are mark.lb saved h.ring

log_of : ℕ → ℕ → List Entry → Saved Entry
log_of base cp items = record { base = base; cp = cp; items = items }

-- what was read of the mark's numbers is the machine's saved log
pub loaded_is : (cells : Cells) (mark : MarkFields) (saved : Saved Entry) (s : SavedNumbers)
    (log : LogValue) → HoldEntries cells mark saved → mark.saved ≡ Some s → log.base ≡ s.base
    → log.cp ≡ s.cp → top log ≡ s.top → HoldRecords s.ring cells log.base log.records
    → saved_entries log ≡ saved
unfolding log_of
loaded_is cells mark saved s log h is base cp high held =
    let same : s ≡ numbers saved h.ring = numbers_are s (numbers saved h.ring) mark.saved is h.numbers in
    let low : log.base ≡ saved.base = base ∙ ap (λ (t : SavedNumbers). t.base) same in
    let committed : log.cp ≡ saved.cp = cp ∙ ap (λ (t : SavedNumbers). t.cp) same in
    let last : top log ≡ saved.base + length saved.items = high ∙ ap (λ (t : SavedNumbers). t.top) same in
    let count : length h.records ≡ length saved.items = sym (length-map h.records entry_of)
    ∙ ap length h.entries in
    let ring : s.ring ≡ h.ring = ap (λ (t : SavedNumbers). t.ring) same in
    let here : HoldRecords h.ring cells log.base log.records =
    subst (λ (n : ℕ). HoldRecords n cells log.base log.records) ring held in
    let there : HoldRecords h.ring cells log.base h.records =
    subst (λ (n : ℕ). HoldRecords h.ring cells n h.records) (sym low) h.held in
    let records : log.records ≡ h.records = same_log h.ring cells log.base log.records h.records
    (omega (arith, low, last, count)) here there in
    ap (λ (n : ℕ). log_of n log.cp (map entry_of log.records)) low
    ∙ ap (λ (n : ℕ). log_of saved.base n (map entry_of log.records)) committed
    ∙ ap (λ (rs : List RecordFields). log_of saved.base saved.cp (map entry_of rs)) records
    ∙ ap (log_of saved.base saved.cp) h.entries
