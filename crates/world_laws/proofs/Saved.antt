-- The records of saved logs, while servers move.
use Rattle.std.proofs.Common.{◌≡◌, ℕ, Bool, true, false, List, [], ◌∷◌, length, map, Option, None, Some, nat_lt, refl, sym, ap, ◌∙◌, subst, arith, le_refl, if◌then◌else◌}
use Rattle.event_record.specs.Record.{entry_of}
use Rattle.event_record.specs.declared.record.RecordFields.{RecordFields}
use Rattle.file_tree.specs.Book.{Entry}
use Rattle.group_rules.specs.Effects.{demoted_by, down, saving}
use Rattle.group_rules.specs.Limits.{is_log}
use Rattle.group_rules.specs.Moves.{Accepting, Booting, Demoting, Falling, Move, Saving, act, acts, moved, moved_by}
use Rattle.group_rules.specs.Places.{Place, is_p2}
use Rattle.group_rules.specs.State.{Group, Outside, Page, Saved, Server, mark_of}
use Rattle.group_rules.specs.Step.{saves}
use Rattle.group_safety.proofs.Growth.{grows_moved}
use Rattle.group_safety.proofs.Joining.{by_cases}
use Rattle.group_safety.proofs.Moving.{Goes, Good, its}
use Rattle.group_safety.specs.Laws.{PageGrows}
use Rattle.group_safety.specs.Words.{Part}
use Rattle.node.specs.Stock.{Stock}
use Rattle.record_changes.specs.Records.{history_of}
use Rattle.world_laws.proofs.Lists.{as_many, changes_over}
use Rattle.world_laws.proofs.Moves.{Fed, Feeds}
use Rattle.world_laws.proofs.Right.{Right}
use Rattle.world_laws.specs.Stocks.{AreSaved}
use Rattle.tree_log.specs.TreeLog.{changes_in}

-- what makes records those of a saved log beside what the group knows of its entries
abbrev pub SavedRight : (ℕ → Page Entry) → Server Entry → List RecordFields → Type 0
SavedRight page s records = (v : Saved Entry) → s.saved ≡ Some v → (s.role ≡ Outside → ⊥)
    → (map entry_of records ≡ v.items)
    × Part v.base (changes_in records) (history_of (page s.accepted).list)

pub saved_right_of : (page : ℕ → Page Entry) (s : Server Entry) (records : List RecordFields)
    → AreSaved page s records → SavedRight page s records
saved_right_of page s records h v e o = ((h v e o).0, (h v e o).1.changes)

pub saved_of : (g : Group Entry) (q : Place) (s : Server Entry) → Good g q s
    → (records : List RecordFields) → SavedRight g.page s records → AreSaved g.page s records
saved_of g q s h records r v e o = (
  (r v e o).0,
  record {
    entries = subst (λ (l : List Entry). Part v.base l (g.page s.accepted).list)
        (sym (r v e o).0) ((its h).logs.saved v e o).part;
    changes = (r v e o).1;
  },
)

-- pages grow
pub saved_grown : (g : Group Entry) (q : Place) (s : Server Entry) → Good g q s
    → (page' : ℕ → Page Entry)
    → ((v : ℕ) → (g.page v).formed ≡ true → PageGrows (g.page v) (page' v))
    → (records : List RecordFields) → SavedRight g.page s records → SavedRight page' s records
saved_grown g q s h page' grow records r v e o =
    let p = grow s.accepted (its h).views.formed in
    let a = r v e o in
    let many = as_many records in
    let entries = ap (λ (l : List Entry). length l) a.0 in
    let within = ((its h).logs.saved v e o).holds.within in (
      a.0,
      changes_over (length (g.page s.accepted).list) v.base (changes_in records)
          (g.page s.accepted).list (page' s.accepted).list (omega arith) (le_refl _) p.longer
          p.agree a.1,
    )

none_demoted : (s : Server Entry) (v : ℕ) (b : Bool) → (demoted_by b s v).saved ≡ None
none_demoted s v true = refl
none_demoted s v false = refl

saved_moved : (page : ℕ → Page Entry) (list : List Entry) (came : List RecordFields)
    (old : ℕ → Page Entry) (q : Place) (clock : ℕ) (s : Server Entry) (m : Move Entry)
    → Feeds old list came q s m → (records : List RecordFields) → SavedRight page s records
    → SavedRight page (act q clock s m) records
saved_moved page list came old q clock s (Accepting plan role n) f records r = λ v e o. cc
saved_moved page list came old q clock s (Demoting w) f records r = λ v e o.
    let none = sym (none_demoted s w (nat_lt w s.promised)) ∙ e in cc
saved_moved page list came old q clock s Saving f records r = absurd f
saved_moved page list came old q clock s Falling f records r = absurd f
saved_moved page list came old q clock s (Booting d) f records r = absurd f
saved_moved page list came old q clock s m f records r = r

pub saved_all : (ms : List (Move Entry)) (g : Group Entry) (q : Place) (s : Server Entry)
    → Goes g q s ms → (list : List Entry) (came : List RecordFields) → Fed g q s list came ms
    → (records : List RecordFields) → SavedRight g.page s records
    → SavedRight (moved_by g q s ms).page (acts q (g.clock q) s ms) records
unfolding Goes Fed
saved_all [] g q s h list came f records r = r
saved_all (m ∷ ms) g q s h list came f records r =
    saved_all ms (moved g q s m) q (act q (g.clock q) s m) h.2 list came f.1 records
    (saved_moved (moved g q s m).page list came g.page q (g.clock q) s m (f.0 h.0) records
    (saved_grown g q s h.0 (moved g q s m).page
    (grows_moved g h.0.ok q s h.0.is m h.1.0 h.1.1).each records r))

-- ---- a power failure

power_saved : (page : ℕ → Page Entry) (q : Place) (s : Server Entry) (k : Stock)
    (records : List RecordFields) → Right page s k → SavedRight page s records
    → (o : Option (Saved Entry)) → s.saved ≡ o
    → SavedRight page (down (mark_of (saving q s o)))
    (if saves s.held o then k.log else records)
power_saved page q s k records r old (Some v) e = by_cases s.held
    (λ h. SavedRight page (down (mark_of s)) (if saves h (Some v) then k.log else records))
    (λ _. old) (λ _. old) (λ _. old)
power_saved page q s k records r old None e = by_cases s.held
    (λ h. SavedRight page (down (mark_of (if is_log h then saved_now else s)))
    (if saves h None then k.log else records))
    (λ _ v f o.
    let is : now ≡ v = (let z : Some now ≡ Some v = f in cc) in
    subst (λ (v : Saved Entry). (map entry_of k.log ≡ v.items)
    × Part v.base (changes_in k.log) (history_of (page s.accepted).list)) is (r.items, r.log))
    (λ _. old) (λ _. old)
  where
    now : Saved Entry
    now = record { base = s.base; cp = s.cp; items = s.items }

    saved_now : Server Entry
    saved_now = record s { lb = if is_p2 q then s.lb else s.ap; saved = Some now }

pub power_is_saved : (page : ℕ → Page Entry) (q : Place) (s : Server Entry) (k : Stock)
    (records : List RecordFields) → Right page s k → SavedRight page s records
    → SavedRight page (down (mark_of (saving q s s.saved)))
    (if saves s.held s.saved then k.log else records)
power_is_saved page q s k records r old = power_saved page q s k records r old s.saved refl
