-- What is read of the tree, and how applying keeps it so.
use Rattle.std.proofs.Common.{◌≡◌, ℕ, ◌+◌, ◌-◌, ◌≤◌, true, List, [], ◌∷◌, ◌++◌, length, take, drop, max, Option, None, Some, refl, sym, ap, ◌∙◌, subst, arith}
use Rattle.std.proofs.lemmas.List.{drop-append-le, drop-drop, drop-map, length-append, length-drop, length-map, map-append, take-append-le, take_all}
use Rattle.applier.proofs.Fuzzy.{records_between}
use Rattle.event_record.specs.declared.record.RecordFields.{RecordFields as Record}
use Rattle.event_record.specs.Record.{entry_of}
use Rattle.file_tree.specs.Book.{Entry, last_stamp, tree_after}
use Rattle.file_tree.specs.Tree.{Tree}
use Rattle.harp_types.specs.Update.{is_update}
use Rattle.file_tree.proofs.SoundLaws.{book_sound}
use Rattle.harp_cells.specs.declared.cell.Cell.{Cell}
use Rattle.harp_cells.specs.declared.cell.Cell.TheVariants as cell
use Rattle.harp_cells.specs.declared.value.Value.{Value}
use Rattle.harp_cells.specs.declared.value.Value.TheVariants as value
use Rattle.harp_cells.specs.declared.change.Change.{Change}
use Rattle.harp_cells.specs.CellsOfTree.{StandForBook, stands_for}
use Rattle.harp_cells.specs.Effect.{Cells, after}
use Rattle.harp_store.specs.Disk.{AfterPart, Disk, Moments, after_changes, cells_told, changed_by_all, reads}
use Rattle.harp_store.proofs.Changes.{reads_changed_all}
use Rattle.harp_store.proofs.Runs.{after_some}
use Rattle.cell_changes.specs.TreeCells.{TreeCells}
use Rattle.fuzzy_cells.specs.History.{History, between, cells_at}
use Rattle.fuzzy_cells.specs.Fuzzy.{AreAlike, IsFuzzy, IsOfMoment}
use Rattle.fuzzy_cells.proofs.Alike.{alike_stand}
use Rattle.fuzzy_cells.proofs.Fuzzy.{applies_on, each_moment, is_prolonged}
use Rattle.applier.specs.FuzzyDisk.{AreRecordsOf}
use Rattle.overlay.specs.Laws.{IsLogOf}
use Rattle.overlay.specs.Overlay.{cells_over}
use Rattle.overlay.proofs.Walks.{reads_exactly}
use Rattle.record_changes.specs.Records.{AreUpdates, history_of, record_changes}
use Rattle.record_changes.proofs.Histories.{as_long, grow, once, stand}
use Rattle.volatile_log.specs.Log.{IsLog, LogValue, applied_to, committed_to, dropped_to, lowered_to, top, with_record}
use Rattle.tree_log.specs.Applying.{applied_by, changes_by}
use Rattle.tree_log.specs.Planning.{stamp_found}
use Rattle.tree_log.specs.Reading.{HoldsTree, IsNextRecord, IsOfList}
use Rattle.tree_log.specs.TreeLog.{changes_in}

count_in : (records : List Record) → length (changes_in records) ≡ length records
count_in records = length-map records (λ (r : Record). r.changes)

-- the records of a log are those of its list's history
pub records_of : (list : List Entry) (log : LogValue) → IsOfList list log
    → AreRecordsOf (history_of list) log.base (changes_in log.records)
records_of list log of =
    let same : length (changes_in log.records) ≡ length (drop log.base (history_of list)) =
    ap length of.changes in
    of.changes ∙ sym (take_all (length (changes_in log.records)) (drop log.base (history_of list))
    (omega (arith, same)))

log_of : (list : List Entry) (log : LogValue) → IsOfList list log
    → IsLogOf (history_of list) log.base (changes_in log.records)
log_of list log of =
    let all : length (history_of list) ≡ length list = as_long list in
    let long = of.long in
    let count = count_in log.records in
    record {
      within = omega (arith, all, long, count);
      are = records_of list log of;
    }

-- the cells over the store stand for the book after so many updates
pub stands_at : (list : List Entry) (upto : ℕ) (log : LogValue) (told : Option Moments)
    → IsLog log → (h : HoldsTree list upto log told) → upto ≤ top log
    → StandForBook (cells_over log.base (changes_in log.records) upto h.behind.cells) (take upto list)
stands_at list upto log told is h le =
    let b = h.behind in
    let count = count_in log.records in
    let base = is.base in
    let lb = is.lb in
    let ahead = b.ahead in
    let from = b.from in
    let within = b.within in
    alike_stand (cells_over log.base (changes_in log.records) upto b.cells)
    (cells_at (history_of list) upto) (take upto list)
    (reads_exactly (history_of list) log.base (changes_in log.records) log.ap ahead upto b.cells
    (log_of list log h.of_list) b.fuzzy (omega (arith, base, lb)) from within
    (omega (arith, le, count)))
    (stand list h.of_list.updates upto)

-- cells of a book as cells of a tree
abbrev pub of_book : (cells : Cells) (list : List Entry) → StandForBook cells list → TreeCells
of_book cells list h = record {
  cells = cells;
  tree = tree_after list;
  stamp = last_stamp list;
  stand = h.tree;
  sound = book_sound list;
}

-- ---- applying

-- the log's numbers stay out of what it is of
pub of_applied : (list : List Entry) (log : LogValue) (n : ℕ) → IsOfList list log
    → IsOfList list (applied_to log n)
of_applied list log n of = record {
  updates = of.updates;
  long = of.long;
  entries = of.entries;
  changes = of.changes;
}

pub of_lowered : (list : List Entry) (log : LogValue) (n : ℕ) → IsOfList list log
    → IsOfList list (lowered_to log n)
of_lowered list log n of = record {
  updates = of.updates;
  long = of.long;
  entries = of.entries;
  changes = of.changes;
}

the_changes : (list : List Entry) (most : ℕ) (log : LogValue) → IsLog log → IsOfList list log
    → changes_by most log ≡ between (history_of list) log.ap (applied_by most log)
the_changes list most log is of =
    let count = count_in log.records in
    let base = is.base in
    let lb = is.lb in
    let ap' = is.ap in
    let cp = is.cp in
    records_between (history_of list) log.base (changes_in log.records) log.ap (applied_by most log)
    (records_of list log of) (omega (arith, base, lb)) (omega (arith, ap'))
    (omega (arith, cp, count))

-- cells that are these ones
same_fuzzy : (history : History) (a b : ℕ) (cells others : Cells)
    → ((c : Cell) → others c ≡ cells c) → IsFuzzy history a b cells → IsFuzzy history a b others
same_fuzzy history a b cells others same h = λ c s.
    subst (λ (v : Option Value). IsOfMoment history a b c v) (sym (same c)) (h c s)

-- what reads give after changes of a disk
reads_after : (changes : List Change) (h k : Moments) (c : Cell)
    → k.now ≡ changed_by_all changes h.now → reads k.now c ≡ after changes (reads h.now) c
reads_after changes h k c is =
    ap (λ (d : Disk). reads d c) is ∙ reads_changed_all changes h.now c

-- once the records are applied
pub applied_holds : (list : List Entry) (upto most : ℕ) (log : LogValue) (old new : Option Moments)
    → IsLog log → log.cp ≤ upto → HoldsTree list upto log old
    → new ≡ after_changes (changes_by most log) old
    → HoldsTree list upto (applied_to log (applied_by most log)) new
applied_holds list upto most log None new is le h e =
    let told = h.behind.told_is in
    absurd (cc told)
applied_holds list upto most log (Some old) new is le h e =
    let b = h.behind in
    let told : Some (reads old.now) ≡ Some b.cells = b.told_is in
    let here : b.cells ≡ reads old.now = cc in
    let changes = changes_by most log in
    let k = after_some changes old in
    let from = b.from in
    let within = b.within in
    let low = is.ap in
    let to = applied_by most log in
    let first : IsFuzzy (history_of list) log.ap b.ahead (reads old.now) =
    subst (IsFuzzy (history_of list) log.ap b.ahead) here b.fuzzy in
    let made : IsFuzzy (history_of list) to (max b.ahead to) (after changes (reads old.now)) =
    subst (λ (cs : List Change). IsFuzzy (history_of list) to (max b.ahead to)
    (after cs (reads old.now))) (sym (the_changes list most log is h.of_list))
    (applies_on (history_of list) log.ap b.ahead to (reads old.now) first (omega (arith, low))) in
    record {
      of_list = of_applied list log to h.of_list;
      behind = record {
        cells = reads k.0.now;
        told_is = ap cells_told (e ∙ k.1);
        ahead = max b.ahead to;
        from = omega arith;
        within = omega (arith, within, le);
        fuzzy = same_fuzzy (history_of list) to (max b.ahead to) (after changes (reads old.now))
            (reads k.0.now) (λ c. reads_after changes old k.0 c k.2) made;
      };
    }

-- where only a first part of their changes is made
pub part_holds : (list : List Entry) (upto most : ℕ) (log : LogValue) (old new : Option Moments)
    → IsLog log → log.cp ≤ upto → HoldsTree list upto log old
    → AfterPart (changes_by most log) old new → HoldsTree list upto log new
part_holds list upto most log None new is le h part =
    let told = h.behind.told_is in
    absurd (cc told)
part_holds list upto most log (Some old) new is le h (n, e) =
    let b = h.behind in
    let told : Some (reads old.now) ≡ Some b.cells = b.told_is in
    let here : b.cells ≡ reads old.now = cc in
    let changes = changes_by most log in
    let k = after_some (take n changes) old in
    let from = b.from in
    let within = b.within in
    let low = is.ap in
    let to = applied_by most log in
    let first : IsFuzzy (history_of list) log.ap b.ahead (reads old.now) =
    subst (IsFuzzy (history_of list) log.ap b.ahead) here b.fuzzy in
    let made : IsFuzzy (history_of list) log.ap (max b.ahead to)
    (after (take n changes) (reads old.now)) =
    subst (λ (cs : List Change). IsFuzzy (history_of list) log.ap (max b.ahead to)
    (after (take n cs) (reads old.now))) (sym (the_changes list most log is h.of_list))
    (each_moment (history_of list) log.ap b.ahead to (reads old.now) (once list) first
    (omega (arith, low)) n) in
    record {
      of_list = h.of_list;
      behind = record {
        cells = reads k.0.now;
        told_is = ap cells_told (e ∙ k.1);
        ahead = max b.ahead to;
        from = omega (arith, from);
        within = omega (arith, within, le);
        fuzzy = same_fuzzy (history_of list) log.ap (max b.ahead to)
            (after (take n changes) (reads old.now)) (reads k.0.now)
            (λ c. reads_after (take n changes) old k.0 c k.2) made;
      };
    }

-- ---- flushing

-- a store that reads the same holds the same
pub same_holds : (list : List Entry) (upto : ℕ) (log : LogValue) (old new : Option Moments)
    → cells_told new ≡ cells_told old → HoldsTree list upto log old → HoldsTree list upto log new
same_holds list upto log old new same h = record {
  of_list = h.of_list;
  behind = record {
    cells = h.behind.cells;
    told_is = same ∙ h.behind.told_is;
    ahead = h.behind.ahead;
    from = h.behind.from;
    within = h.behind.within;
    fuzzy = h.behind.fuzzy;
  };
}

pub lowered_holds : (list : List Entry) (upto n : ℕ) (log : LogValue) (told : Option Moments)
    → HoldsTree list upto log told → HoldsTree list upto (lowered_to log n) told
lowered_holds list upto n log told h = record {
  of_list = of_lowered list log n h.of_list;
  behind = record {
    cells = h.behind.cells;
    told_is = h.behind.told_is;
    ahead = h.behind.ahead;
    from = h.behind.from;
    within = h.behind.within;
    fuzzy = h.behind.fuzzy;
  };
}

-- ---- other changes of the log

-- the store may be further ahead
pub widened : (list : List Entry) (upto further : ℕ) (log : LogValue) (told : Option Moments)
    → upto ≤ further → HoldsTree list upto log told → HoldsTree list further log told
widened list upto further log told le h =
    let within = h.behind.within in
    record {
      of_list = h.of_list;
      behind = record {
        cells = h.behind.cells;
        told_is = h.behind.told_is;
        ahead = h.behind.ahead;
        from = h.behind.from;
        within = omega (arith, within, le);
        fuzzy = h.behind.fuzzy;
      };
    }

of_committed : (list : List Entry) (log : LogValue) (n : ℕ) → IsOfList list log
    → IsOfList list (committed_to log n)
of_committed list log n of = record {
  updates = of.updates;
  long = of.long;
  entries = of.entries;
  changes = of.changes;
}

pub committed_holds : (list : List Entry) (upto n : ℕ) (log : LogValue) (told : Option Moments)
    → HoldsTree list upto log told → HoldsTree list upto (committed_to log n) told
committed_holds list upto n log told h = record {
  of_list = of_committed list log n h.of_list;
  behind = record {
    cells = h.behind.cells;
    told_is = h.behind.told_is;
    ahead = h.behind.ahead;
    from = h.behind.from;
    within = h.behind.within;
    fuzzy = h.behind.fuzzy;
  };
}

-- without the records up to one that the disk has
of_dropped : (list : List Entry) (log : LogValue) (n : ℕ) → log.base ≤ n → n ≤ top log
    → IsOfList list log → IsOfList list (dropped_to log n)
of_dropped list log n le within of =
    let at : log.base + (n - log.base) ≡ n = omega (arith, le) in
    let count : length (drop (n - log.base) log.records) ≡ length log.records - (n - log.base) =
    length-drop (n - log.base) log.records in
    let long = of.long in
    record {
      updates = of.updates;
      long = omega (arith, long, count, le, within);
      entries = sym (drop-map entry_of (n - log.base) log.records)
          ∙ ap (drop (n - log.base)) of.entries
          ∙ drop-drop (n - log.base) log.base list ∙ ap (λ (k : ℕ). drop k list) at;
      changes = sym (drop-map (λ (r : Record). r.changes) (n - log.base) log.records)
          ∙ ap (drop (n - log.base)) of.changes
          ∙ drop-drop (n - log.base) log.base (history_of list)
          ∙ ap (λ (k : ℕ). drop k (history_of list)) at;
    }

pub dropped_holds : (list : List Entry) (upto n : ℕ) (log : LogValue) (told : Option Moments)
    → log.base ≤ n → n ≤ top log → HoldsTree list upto log told
    → HoldsTree list upto (dropped_to log n) told
dropped_holds list upto n log told le within h = record {
  of_list = of_dropped list log n le within h.of_list;
  behind = record {
    cells = h.behind.cells;
    told_is = h.behind.told_is;
    ahead = h.behind.ahead;
    from = h.behind.from;
    within = h.behind.within;
    fuzzy = h.behind.fuzzy;
  };
}

-- with one more record
more_updates : (list : List Entry) (e : Entry) → AreUpdates list → is_update e.call ≡ true
    → AreUpdates (list ++ e ∷ [])
more_updates [] e all is = (is, tt)
more_updates (x ∷ list) e all is = (all.0, more_updates list e all.1 is)

of_grown : (list : List Entry) (log : LogValue) (e : Entry) (r : Record)
    → IsNextRecord list e r → is_update e.call ≡ true → IsOfList list log
    → IsOfList (list ++ e ∷ []) (with_record log r)
of_grown list log e r is update of =
    let long = of.long in
    let below : log.base ≤ length list = omega (arith, long) in
    let longer : length (list ++ e ∷ []) ≡ length list + 1 = length-append list (e ∷ []) in
    let count : length (log.records ++ r ∷ []) ≡ length log.records + 1 =
    length-append log.records (r ∷ []) in
    let all : length (history_of list) ≡ length list = as_long list in
    record {
      updates = more_updates list e of.updates update;
      long = omega (arith, long, longer, count);
      entries = map-append entry_of log.records (r ∷ [])
          ∙ ap (λ (es : List Entry). es ++ entry_of r ∷ []) of.entries
          ∙ ap (λ (x : Entry). drop log.base list ++ x ∷ []) is.entry
          ∙ sym (drop-append-le log.base list (e ∷ []) below);
      changes = map-append (λ (x : Record). x.changes) log.records (r ∷ [])
          ∙ ap (λ (h : History). h ++ r.changes ∷ []) of.changes
          ∙ ap (λ (cs : List Change). drop log.base (history_of list) ++ cs ∷ []) is.changes
          ∙ sym (drop-append-le log.base (history_of list)
          (record_changes (cells_at (history_of list) (length list)) list e ∷ []) (omega (arith, all, below)))
          ∙ ap (drop log.base) (sym (grow list e));
    }

pub grown_holds : (list : List Entry) (upto : ℕ) (log : LogValue) (told : Option Moments)
    (e : Entry) (r : Record) → upto ≤ top log → IsNextRecord list e r
    → is_update e.call ≡ true → HoldsTree list upto log told
    → HoldsTree (list ++ e ∷ []) upto (with_record log r) told
grown_holds list upto log told e r le is update h =
    let b = h.behind in
    let within = b.within in
    let long = h.of_list.long in
    let all : length (history_of list) ≡ length list = as_long list in
    let same : take b.ahead (history_of list) ≡ take b.ahead (history_of (list ++ e ∷ [])) =
    sym (take-append-le b.ahead (history_of list) (record_changes (cells_at (history_of list) (length list)) list e ∷ [])
    (omega (arith, all, long, within, le))) ∙ ap (take b.ahead) (sym (grow list e)) in
    record {
      of_list = of_grown list log e r is update h.of_list;
      behind = record {
        cells = b.cells;
        told_is = b.told_is;
        ahead = b.ahead;
        from = b.from;
        within = b.within;
        fuzzy = is_prolonged (history_of list) (history_of (list ++ e ∷ [])) log.ap b.ahead b.cells
            b.fuzzy same;
      };
    }

-- ---- planning

-- the cells at top are those after the whole list
pub alike_at_top : (list : List Entry) (log : LogValue) (told : Option Moments) → IsLog log
    → (h : HoldsTree list (top log) log told)
    → AreAlike (cells_over log.base (changes_in log.records) (top log) h.behind.cells)
    (cells_at (history_of list) (length list))
alike_at_top list log told is h =
    let b = h.behind in
    let count = count_in log.records in
    let base = is.base in
    let lb = is.lb in
    subst (λ (n : ℕ). AreAlike (cells_over log.base (changes_in log.records) (top log) b.cells)
    (cells_at (history_of list) n)) (sym h.of_list.long)
    (reads_exactly (history_of list) log.base (changes_in log.records) log.ap b.ahead (top log)
    b.cells (log_of list log h.of_list) b.fuzzy (omega (arith, base, lb)) b.from b.within
    (omega (arith, count)))

-- and stand for its book
pub stands_at_top : (list : List Entry) (log : LogValue) (told : Option Moments) → IsLog log
    → (h : HoldsTree list (top log) log told)
    → StandForBook (cells_over log.base (changes_in log.records) (top log) h.behind.cells) list
stands_at_top list log told is h =
    let long = h.of_list.long in
    subst (λ (es : List Entry). StandForBook
    (cells_over log.base (changes_in log.records) (top log) h.behind.cells) es)
    (take_all (top log) list (omega (arith, long)))
    (stands_at list (top log) log told is h (omega arith))

stamp_itself : (tree : Tree) (v : Option Value) → stamp_found (stands_for tree cell.Meta v)
    ≡ stamp_found v
stamp_itself tree None = refl
stamp_itself tree (Some (value.Meta next used stamp)) = refl
stamp_itself tree (Some (value.Object inode)) = refl
stamp_itself tree (Some (value.Unformed inode)) = refl
stamp_itself tree (Some (value.Block bytes)) = refl
stamp_itself tree (Some (value.Slot object name)) = refl
stamp_itself tree (Some (value.Client number index reply)) = refl
stamp_itself tree (Some (value.Saved bytes)) = refl
stamp_itself tree (Some (value.SavedCred bytes)) = refl

-- the cell of the whole tree has the last stamp
pub stamp_read : (cells : Cells) (list : List Entry) → StandForBook cells list
    → stamp_found (cells cell.Meta) ≡ last_stamp list
stamp_read cells list h =
    sym (stamp_itself (tree_after list) (cells cell.Meta)) ∙ ap stamp_found h.tree.meta

-- ---- single cells

-- each cell at CP, but those of a saved log, is the one after so many updates of the list
pub alike_at_cp : (list : List Entry) (log : LogValue) (told : Option Moments)
    → log.base ≤ log.ap → log.cp ≤ top log → (h : HoldsTree list log.cp log told)
    → AreAlike (cells_over log.base (changes_in log.records) log.cp h.behind.cells)
    (cells_at (history_of list) log.cp)
alike_at_cp list log told low high h =
    let b = h.behind in
    let count = count_in log.records in
    let from = b.from in
    let within = b.within in
    reads_exactly (history_of list) log.base (changes_in log.records) log.ap b.ahead log.cp b.cells
    (log_of list log h.of_list) b.fuzzy low from within (omega (arith, high, count))
