-- A server's log is of its list; what a stock is at first, and while others go on.
use Rattle.std.proofs.Common.{◌≡◌, ℕ, ◌+◌, ◌-◌, ◌≤◌, true, List, [], ◌∷◌, length, map, take, drop, sym, ap, ◌∙◌, subst, arith, le_refl, le_trans}
use Rattle.std.proofs.lemmas.List.{length-map, length-take-le}
use Rattle.std.proofs.lemmas.Option.{slice_get_within}
use Rattle.event_record.specs.Record.{entry_of}
use Rattle.event_record.specs.declared.record.RecordFields.{RecordFields}
use Rattle.file_tree.specs.Book.{Entry}
use Rattle.group_rules.specs.Places.{Place}
use Rattle.group_rules.specs.State.{Ack, Beat, Demote, Event, Fetch, Form, Formed, Give, Group, Invite, Join, Message, Server, top}
use Rattle.group_rules.specs.Step.{run}
use Rattle.group_safety.proofs.BookLists.{from_take}
use Rattle.group_safety.proofs.Joining.{by_cases}
use Rattle.group_safety.proofs.Lawful.{run_grows}
use Rattle.group_safety.proofs.Moving.{Good, its}
use Rattle.group_safety.proofs.Safe.{good_of, run_whole, sent_known}
use Rattle.group_safety.specs.Entered.{UpdatesFrom}
use Rattle.group_safety.specs.Facts.{BodyOk}
use Rattle.group_safety.specs.Laws.{PageGrows, Whole}
use Rattle.group_safety.specs.Words.{Agree}
use Rattle.record_changes.proofs.Histories.{as_long, fronts}
use Rattle.record_changes.specs.Records.{AreUpdates, history_of}
use Rattle.world_laws.proofs.Lists.{as_many, changes_over, part_is, part_over}
use Rattle.world_laws.proofs.Right.{Right, grown, its_tidy, log_many, log_part, right_of, stock_of, top_within}
use Rattle.world_laws.proofs.Saved.{SavedRight, saved_grown, saved_of, saved_right_of}
use Rattle.world_laws.specs.StockLaws.{LogsAreRight, Stays, StocksStay}
use Rattle.world_laws.specs.Stocks.{AreOfList, Carries}
use Rattle.tree_log.specs.TreeLog.{changes_in}

updates_are : (earlier es : List Entry) → UpdatesFrom earlier es → AreUpdates es
updates_are earlier [] h = tt
updates_are earlier (e ∷ es) h = (h.0, updates_are _ es h.2)

-- ---- the log of a server

served_within : (g : Group Entry) (q : Place) (s : Server Entry) → Good g q s
    → s.served ≤ s.base + length s.items
served_within g q s h = by_cases s.held (λ x. s.served ≤ s.base + length s.items)
    (λ e. le_trans ((its h).logs.served e) ((its h).logs.log e).holds.from_start)
    (λ e. let a = ((its_tidy h).lost e).4 in omega arith)
    (λ e. let a = ((its_tidy h).empty e).4 in omega arith)

pub logs_right : LogsAreRight
logs_right g w q k has =
    let s = g.server q in
    let h = good_of g w q in
    let list = (g.page s.accepted).list in
    let r = right_of has in
    let within = top_within g q s h in
    let many = log_many r in
    let long = as_long list in
    record {
      of_list = record {
        updates = updates_are [] _ (from_take (top s) [] list
            (w.books.list s.accepted (its h).views.formed));
        long = length-take-le (top s) list within ∙ ap (λ n. s.base + n)
            (ap (λ (l : List Entry). length l) (sym r.items) ∙ length-map k.log entry_of);
        entries = r.items ∙ part_is s.base s.items list within (log_part g q s h);
        changes = part_is s.base (changes_in k.log) (history_of list) (omega arith) r.log
            ∙ ap (drop s.base) (ap (λ n. take (s.base + n) (history_of list)) many
            ∙ fronts list (top s));
      };
      served = served_within g q s h;
    }

-- ---- while others go on

-- records of a list are those of one that is prolonged
list_grows : (xs ys : List Entry) (n : ℕ) (records : List RecordFields)
    → n + length (map entry_of records) ≤ length xs → length xs ≤ length ys
    → Agree (length xs) xs ys → AreOfList xs n records → AreOfList ys n records
list_grows xs ys n records le longer agree a =
    let many = as_many records in
    record {
      entries = part_over (length xs) n (map entry_of records) xs ys le agree a.entries;
      changes = changes_over (length xs) n (changes_in records) xs ys (omega arith) (le_refl _)
          longer agree a.changes;
    }

carries_grow : (g g' : Group Entry) → Whole g
    → ((v : ℕ) → (g.page v).formed ≡ true → PageGrows (g.page v) (g'.page v))
    → (from to : Place) (m : Message Entry) → BodyOk g.page g.joins g.committed from to m
    → (records : List RecordFields) → Carries g.page m records → Carries g'.page m records
carries_grow g g' w grow from to (Event v index cp base e) b records c =
    let p = grow v b.0 in
    let one = ap (λ (l : List Entry). length l) c.0 in
    let low = b.2 in
    let within = slice_get_within (g.page v).list (index - 1) e b.3 in (
      c.0,
      list_grows (g.page v).list (g'.page v).list (index - 1) records (omega arith)
          p.longer p.agree c.1,
    )
carries_grow g g' w grow from to (Give v index items) b records c =
    let p = grow v b.0 in
    let many = ap (λ (l : List Entry). length l) c.0 in
    let within = b.3 in
    let start = (w.ok.page v b.0).start_within in (
      c.0,
      list_grows (g.page v).list (g'.page v).list (index - 1) records (omega arith)
          p.longer p.agree c.1,
    )
carries_grow g g' w grow from to (Invite v) b records c = c
carries_grow g g' w grow from to (Join v t) b records c = c
carries_grow g g' w grow from to (Form v plan) b records c = c
carries_grow g g' w grow from to (Fetch v index) b records c = c
carries_grow g g' w grow from to (Formed v lb) b records c = c
carries_grow g g' w grow from to (Beat v cp base) b records c = c
carries_grow g g' w grow from to (Ack v t lb until) b records c = c
carries_grow g g' w grow from to (Demote v) b records c = c

pub stays : (g g' : Group Entry) → Whole g → Whole g'
    → ((v : ℕ) → (g.page v).formed ≡ true → PageGrows (g.page v) (g'.page v)) → Stays g g'
stays g g' w w' grow = record {
  stocks = λ q k same has. stock_of g' q (g'.server q) (good_of g' w' q) k
      (subst (λ (s : Server Entry). Right g'.page s k) (sym same)
      (grown g q (g.server q) (good_of g w q) g'.page grow k (right_of has)));
  saved = λ q records same has. saved_of g' q (g'.server q) (good_of g' w' q) records
      (subst (λ (s : Server Entry). SavedRight g'.page s records) (sym same)
      (saved_grown g q (g.server q) (good_of g w q) g'.page grow records
      (saved_right_of g.page (g.server q) records has)));
  packets = λ n p records e c. carries_grow g g' w grow p.from p.to p.body
      (sent_known g w n p e).0 records c;
}

pub stocks_stay : StocksStay
stocks_stay size g w hs =
    stays g (run size g hs) w (run_whole size hs g w) (run_grows size hs g w).history.each
