-- What was read by the numbers of a mark.
use Rattle.std.proofs.Common.{◌≡◌, ℕ, ◌+◌, ◌<◌, ◌≤◌, List, length, refl, sym, subst, ap, ◌∙◌, Some, true, arith}
use Rattle.std.proofs.lemmas.List.{length-map}
use Rattle.event_record.specs.Record.{entry_of}
use Rattle.event_record.specs.declared.record.RecordFields.{RecordFields}
use Rattle.file_tree.specs.Book.{Entry}
use Rattle.group_rules.specs.State.{Saved}
use Rattle.harp_cells.specs.Effect.{Cells}
use Rattle.harp_store.specs.Mark.{MarkFields, SavedNumbers}
use Rattle.power_save.specs.Entries.{HoldEntries, IsLoaded}
use Rattle.power_save.specs.Saved.{HoldRecords, IsNotSaved, IsSavedAs, fits_log, saved_mark}
use Rattle.power_save.proofs.Entries.{loaded_is, numbers}
use Rattle.power_save.proofs.Records.{is_saved, lacks_none, numbers_are, same_log}
use Rattle.volatile_log.specs.Log.{LogValue, top}

-- cells hold these records by the numbers of a saved log
abbrev pub HeldBy : Cells → SavedNumbers → List RecordFields → Type 0
HeldBy cells s records = HoldRecords s.ring cells s.base records
    × (s.base + length records ≡ s.top)

pub held_by_mark : (cells : Cells) (s : SavedNumbers) (mark : MarkFields) (ring : ℕ)
    (saved : LogValue) (before : MarkFields) → mark.saved ≡ Some s
    → mark ≡ saved_mark ring saved before → HoldRecords ring cells saved.base saved.records
    → HeldBy cells s saved.records
held_by_mark cells s mark ring saved before at is held =
    let t : SavedNumbers = record { base = saved.base; cp = saved.cp; top = top saved; ring = ring } in
    let same : t ≡ s = numbers_are t s mark.saved (ap (λ (m : MarkFields). m.saved) is) at in
    subst (λ (n : SavedNumbers). HeldBy cells n saved.records) same (held, refl)

pub held_by_entries : (cells : Cells) (s : SavedNumbers) (mark : MarkFields) (saved : Saved Entry)
    → mark.saved ≡ Some s → (h : HoldEntries cells mark saved) → HeldBy cells s h.records
held_by_entries cells s mark saved at h =
    let same : numbers saved h.ring ≡ s = numbers_are (numbers saved h.ring) s mark.saved h.numbers at in
    let count : length h.records ≡ length saved.items = sym (length-map h.records entry_of)
    ∙ ap length h.entries in
    subst (λ (n : SavedNumbers). HeldBy cells n h.records) same
    (h.held, ap (λ (n : ℕ). saved.base + n) count)

-- then none of them is missing
pub no_lack : (cells : Cells) (s : SavedNumbers) (base high ring : ℕ) (records : List RecordFields)
    → base ≡ s.base → high ≡ s.top → ring ≡ s.ring → HeldBy cells s records
    → (index : ℕ) × (base < index) × (index ≤ high)
    × ((r : RecordFields) → IsSavedAs ring cells index r → ⊥) → ⊥
no_lack cells s base high ring records low last round held (index, lt, le, none) =
    lacks_none cells s records held.0 held.1 (
      index,
      omega (arith, lt, low),
      omega (arith, le, last),
      λ r has. none r (subst (λ (n : ℕ). IsSavedAs n cells index r) (sym round) has),
    )

-- ---- the log

-- a log was made of the numbers of a mark and of the records that were read by them
pub record IsRead (cells : Cells) (mark : MarkFields) (s : SavedNumbers) (log : LogValue) : Type 0 where
  pub marked : mark.saved ≡ Some s
  pub base : log.base ≡ s.base
  pub lb : log.lb ≡ mark.lb
  pub ap : log.ap ≡ mark.lb
  pub cp : log.cp ≡ s.cp
  pub top : top log ≡ s.top
  pub held : HoldRecords s.ring cells log.base log.records

pub read_entries : (cells : Cells) (mark : MarkFields) (s : SavedNumbers) (log : LogValue)
    (saved : Saved Entry) → IsRead cells mark s log → HoldEntries cells mark saved
    → IsLoaded saved mark.lb log
read_entries cells mark s log saved r h = record {
  entries = loaded_is cells mark saved s log h r.marked r.base r.cp r.top r.held;
  lb = r.lb;
  ap = r.ap;
}

log_of : ℕ → ℕ → ℕ → ℕ → List RecordFields → LogValue
log_of base lb ap' cp records = record { base = base; lb = lb; ap = ap'; cp = cp; records = records }

pub read_again : (cells : Cells) (mark : MarkFields) (s : SavedNumbers) (log : LogValue) (ring : ℕ)
    (saved : LogValue) (before : MarkFields) → IsRead cells mark s log
    → HoldRecords ring cells saved.base saved.records → mark ≡ saved_mark ring saved before
    → log ≡ record saved { lb = saved.ap }
unfolding log_of
read_again cells mark s log ring saved before r held is =
    let t : SavedNumbers = record { base = saved.base; cp = saved.cp; top = top saved; ring = ring } in
    let same : s ≡ t = numbers_are s t mark.saved r.marked (ap (λ (m : MarkFields). m.saved) is) in
    let low : log.base ≡ saved.base = r.base ∙ ap (λ (n : SavedNumbers). n.base) same in
    let last : top log ≡ top saved = r.top ∙ ap (λ (n : SavedNumbers). n.top) same in
    let committed : log.cp ≡ saved.cp = r.cp ∙ ap (λ (n : SavedNumbers). n.cp) same in
    let round : s.ring ≡ ring = ap (λ (n : SavedNumbers). n.ring) same in
    let applied : mark.lb ≡ saved.ap = ap (λ (m : MarkFields). m.lb) is in
    let here : HoldRecords ring cells saved.base log.records =
    subst (λ (n : ℕ). HoldRecords ring cells n log.records) low
    (subst (λ (n : ℕ). HoldRecords n cells log.base log.records) round r.held) in
    let records : log.records ≡ saved.records =
    same_log ring cells saved.base log.records saved.records (omega (arith, low, last)) here held in
    ap (λ (n : ℕ). log_of n log.lb log.ap log.cp log.records) low
    ∙ ap (λ (n : ℕ). log_of saved.base n log.ap log.cp log.records) (r.lb ∙ applied)
    ∙ ap (λ (n : ℕ). log_of saved.base saved.ap n log.cp log.records) (r.ap ∙ applied)
    ∙ ap (λ (n : ℕ). log_of saved.base saved.ap saved.ap n log.records) committed
    ∙ ap (λ (rs : List RecordFields). log_of saved.base saved.ap saved.ap saved.cp rs) records

pub was_read : (cells : Cells) (mark : MarkFields) (s : SavedNumbers) (log : LogValue)
    (base base2 lb cp high ring : ℕ) (records : List RecordFields) → mark.saved ≡ Some s
    → log ≡ record { base = base2; lb = lb; ap = lb; cp = cp; records = records }
    → base ≡ s.base → base2 ≡ s.base → lb ≡ mark.lb → cp ≡ s.cp → high ≡ s.top → ring ≡ s.ring
    → base + length records ≡ high → HoldRecords ring cells base records
    → IsRead cells mark s log
was_read cells mark s log base base2 lb cp high ring records at is low first flushed committed last
    round long held =
    let here : base ≡ base2 = low ∙ sym first in
    subst (λ (l : LogValue). IsRead cells mark s l) (sym is) (record {
      marked = at;
      base = first;
      lb = flushed;
      ap = flushed;
      cp = committed;
      top = omega (arith, low, first, last, long);
      held = subst (λ (n : ℕ). HoldRecords s.ring cells n records) here
          (subst (λ (n : ℕ). HoldRecords n cells base records) round held);
    })

-- it is whole
pub read_is_whole : (cells : Cells) (mark : MarkFields) (s : SavedNumbers) (log : LogValue)
    → IsRead cells mark s log → fits_log mark.lb (Some s) ≡ true → IsNotSaved cells mark → ⊥
read_is_whole cells mark s log r fits not =
    let low = r.base in
    let last = r.top in
    is_saved cells s mark log.records r.marked fits
    (subst (λ (n : ℕ). HoldRecords s.ring cells n log.records) low r.held)
    (omega (arith, low, last)) not
