-- What a power failure leaves of a server.
use Rattle.std.specs.Prelude.{◌≡◌, Bool, List, [], Option, Some, option_map, if◌then◌else◌}
use Rattle.file_tree.specs.Book.{Entry}
use Rattle.group_rules.specs.State.{Mark, Saved, top}
use Rattle.group_rules.specs.Step.{saves}
use Rattle.harp_types.specs.Limits.{log_room}
use Rattle.harp_store.specs.Disk.{AtEachMoment, Moments, Now, after_changes, after_step, synced_whole, with_mark}
use Rattle.harp_store.specs.Mark.{MarkFields}
use Rattle.node.specs.Node.{NodeValue, mark_with, saved_with}
use Rattle.power_save.specs.Entries.{HasSaved, saved_entries}
use Rattle.power_save.specs.Saved.{IsUnsaved, IsUnsavedOrSaved, SavesInPart, puts_of}
use Rattle.volatile_log.specs.Log.{AreNumberedAfter, LogValue}

-- a held server whose mark has no saved log saves its log
abbrev pub saves_log : NodeValue → Bool
saves_log n = saves n.plain.held (option_map (saved_with []) n.mark.saved)

-- its log, as the machine saves it
abbrev pub saved_log : NodeValue → Saved Entry
saved_log n = record { base = n.plain.base; cp = n.plain.cp; items = n.plain.items }

-- the mark with it: LB is AP, and the log's numbers stand there
abbrev pub saving_mark : NodeValue → MarkFields
saving_mark n = record n.mark {
  lb = n.plain.ap;
  saved = Some (record {
    base = n.plain.base;
    cp = n.plain.cp;
    top = top n.plain;
    ring = log_room;
  });
}

-- the machine's mark afterwards, where the saved log of before has these records
abbrev pub mark_left : NodeValue → List Entry → Mark Entry
mark_left n items =
    if saves_log n then mark_with n.plain.items (saving_mark n) else mark_with items n.mark

-- A log of these records, entries and numbers was put in its cells, synced, and then the mark was
-- written
pub record IsSavedBy (n : NodeValue) (old new : Option Moments) : Type 0 where
  pub log : LogValue
  pub records : log.records ≡ n.records
  pub numbered : AreNumberedAfter log.base log.records
  pub entries : saved_entries log ≡ saved_log n
  pub disk : new ≡ after_step (with_mark (saving_mark n))
      (after_step synced_whole (after_changes (puts_of log.records) old))
  pub has : Now (HasSaved (saved_log n)) new

-- A first part of that was made, and at each moment the mark has no saved log, or the whole log is
-- synced
pub record SavesAtOnce (n : NodeValue) (old new : Option Moments) : Type 0 where
  pub log : LogValue
  pub records : log.records ≡ n.records
  pub numbered : AreNumberedAfter log.base log.records
  pub entries : saved_entries log ≡ saved_log n
  pub part : SavesInPart log (saving_mark n) old new
  pub moments : (h : Moments) → old ≡ Some h → IsUnsaved h.now.mark
      → AtEachMoment (IsUnsavedOrSaved log) old new
