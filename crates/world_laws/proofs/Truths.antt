-- What a node shows is right: true of the records of the book's updates.
use Rattle.std.proofs.Common.{◌≡◌, ℕ, ◌+◌, ◌-◌, ◌≤◌, Bool, true, false, List, length, take, drop, Option, None, Some, refl, sym, ap, subst, ◌∙◌, arith, if◌then◌else◌}
use Rattle.std.specs.Prelude.{IfSome, option_map}
use Rattle.std.proofs.lemmas.List.{drop-take, length-map, length-take-le}
use Rattle.event_record.specs.Record.{entry_of}
use Rattle.event_record.specs.declared.record.RecordFields.{RecordFields}
use Rattle.file_tree.specs.Book.{Entry}
use Rattle.fuzzy_cells.specs.Fuzzy.{is_saved}
use Rattle.fuzzy_cells.specs.History.{History, cells_at, in_a_row, no_cells}
use Rattle.group_trace.specs.DiskRun.{DiskScene}
use Rattle.group_rules.proofs.Tests.{by_if}
use Rattle.group_rules.specs.Limits.{is_log}
use Rattle.group_rules.specs.Places.{Place}
use Rattle.group_rules.specs.State.{Empty, Group, Held, Log, Lost, Server, top}
use Rattle.group_rules.specs.Step.{Does, ListTree, list_of}
use Rattle.group_safety.proofs.Lists.{get_take}
use Rattle.group_safety.proofs.Moving.{its}
use Rattle.group_safety.proofs.Safe.{good_of}
use Rattle.group_safety.specs.Laws.{Whole}
use Rattle.group_safety.specs.Words.{Agree}
use Rattle.harp_cells.specs.Effect.{Cells, after}
use Rattle.harp_cells.specs.declared.cell.Cell.{Cell}
use Rattle.harp_cells.specs.declared.value.Value.{Value}
use Rattle.harp_store.specs.Disk.{Disk as ToldDisk, Moments, cells_told, reads}
use Rattle.node.specs.Node.{NodeValue}
use Rattle.node.specs.Stock.{Stock}
use Rattle.node.specs.Stored.{log_of, stores}
use Rattle.node.specs.Wants.{Shows, ShowsCell}
use Rattle.node.specs.declared.input.Input.TheVariants as input
use Rattle.overlay.specs.Overlay.{cells_over}
use Rattle.record_changes.proofs.Histories.{as_long, fronts}
use Rattle.record_changes.specs.Records.{history_of}
use Rattle.schedule_play.specs.Stage.{IsReached}
use Rattle.shown.specs.Rule.{outline_of}
use Rattle.shown.specs.Truth.{IsShownOf}
use Rattle.shown.specs.declared.shown.Shown.{Shown}
use Rattle.shown.specs.declared.shown.Shown.TheVariants as shown
use Rattle.shown.specs.declared.shown.Want.{Want}
use Rattle.shown.specs.declared.shown.Want.TheVariants as want
use Rattle.shown.proofs.Truths.{true_of}
use Rattle.shown.specs.Records.{AreCommittedOf, records_from}
use Rattle.tree_log.proofs.Holding.{alike_at_cp}
use Rattle.tree_log.specs.Reading.{HoldsTree}
use Rattle.tree_log.specs.TreeLog.{changes_in}
use Rattle.volatile_log.specs.Log.{LogValue}
use Rattle.world_laws.proofs.Hosts.{can_take, node_log, node_stores, reached_whole, runs_node, settled_active}
use Rattle.world_laws.proofs.Lists.{take_agree}
use Rattle.world_laws.proofs.Logs.{logs_right}
use Rattle.world_laws.proofs.Outlines.{cell_outline, records_outline}
use Rattle.world_laws.proofs.Right.{top_within}
use Rattle.world_laws.specs.Shown.{IsShownIn, NodesShowRightly}
use Rattle.world_laws.specs.StockLaws.{log_with}
use Rattle.world_laws.specs.Stocks.{HasStock}
use Rattle.world_rules.specs.Host.{HostValue, IsHost, Runs, disk_of, told_now}

-- ---- the book's updates, as a server has them

-- up to CP its list is the book's
front_same : (g : Group Entry) → Whole g → (q : Place) → (g.server q).held ≡ Log
    → take (g.server q).cp (history_of (list_of g q))
    ≡ take (g.server q).cp (history_of g.committed)
front_same g w q held =
    let s = g.server q in
    let good = good_of g w q in
    let log = (its good).logs.log held in
    let list = (g.page s.accepted).list in
    let size : length (list_of g q) ≡ top s =
    length-take-le (top s) list (top_within g q s good) in
    let high = log.cp_top in
    let agree : Agree s.cp (list_of g q) g.committed = λ i l.
    get_take (top s) list i (omega (arith, high, l)) ∙ log.sure.same i l in
    fronts (list_of g q) s.cp
    ∙ ap history_of (take_agree s.cp (list_of g q) g.committed (omega (arith, size, high))
    log.sure.in_book agree)
    ∙ sym (fronts g.committed s.cp)

cp_within : (g : Group Entry) → Whole g → (q : Place) → (g.server q).held ≡ Log
    → (g.server q).cp ≤ length (history_of g.committed)
cp_within g w q held =
    let in_book = ((its (good_of g w q)).logs.log held).sure.in_book in
    let long = as_long g.committed in
    omega (arith, in_book, long)

behind : {A : Type 0} (n m : ℕ) (xs ys : List A) → n ≤ m → take m xs ≡ take m ys
    → take (m - n) (drop n xs) ≡ take (m - n) (drop n ys)
behind {A = A} n m xs ys le same =
    let at : n + (m - n) ≡ m = omega (arith, le) in
    sym (drop-take n (m - n) xs)
    ∙ ap (λ (j : ℕ). drop n (take j xs)) at
    ∙ ap (drop n) same
    ∙ ap (λ (j : ℕ). drop n (take j ys)) (sym at)
    ∙ drop-take n (m - n) ys

-- its committed records are those of the book's updates
log_committed : (g : Group Entry) → Whole g → (q : Place) (k : Stock) → HasStock g q k
    → (g.server q).held ≡ Log
    → AreCommittedOf (history_of g.committed) (log_with (g.server q) k.log)
log_committed g w q k has held =
    let s = g.server q in
    let log = (its (good_of g w q)).logs.log held in
    record {
      within = cp_within g w q held;
      are = ap (take (s.cp - s.base)) (logs_right g w q k has).of_list.changes
          ∙ behind s.base s.cp (history_of (list_of g q)) (history_of g.committed) log.base_cp
          (front_same g w q held);
    }

-- ---- a cell

same_cells : (told : Option Moments) (cells others : Cells) → cells_told told ≡ Some cells
    → cells_told told ≡ Some others → others ≡ cells
same_cells told cells others a b =
    let both : Some others ≡ Some cells = sym b ∙ a in
    let same : others ≡ cells = cc in same

cell_is : (g : Group Entry) → Whole g → (q : Place) (k : Stock) → HasStock g q k
    → (g.server q).held ≡ Log → (told : Option Moments) (cells : Cells) (c : Cell)
    (v : Option Value) → cells_told told ≡ Some cells
    → HoldsTree (list_of g q) (g.server q).cp (log_with (g.server q) k.log) told
    → is_saved c ≡ false
    → v ≡ cells_over (g.server q).base (changes_in k.log) (g.server q).cp cells c
    → v ≡ cells_at (history_of g.committed) (g.server q).cp c
cell_is g w q k has held told cells c v is h other found =
    let s = g.server q in
    let good = good_of g w q in
    let order = (its good).logs.order held in
    let high = ((its good).logs.log held).cp_top in
    let many : length k.log ≡ length s.items =
    sym (length-map k.log entry_of) ∙ ap (λ (l : List Entry). length l) has.items in
    let same = same_cells told cells h.behind.cells is h.behind.told_is in
    found
    ∙ ap (λ (cs : Cells). cells_over s.base (changes_in k.log) s.cp cs c) (sym same)
    ∙ alike_at_cp (list_of g q) (log_with s k.log) told (omega (arith, order.0, order.1))
    (omega (arith, high, many)) h c other
    ∙ ap (λ (h : History). after (in_a_row h) no_cells c) (front_same g w q held)

-- ---- what is shown

is_log_is : (h : Held) → is_log h ≡ true → h ≡ Log
is_log_is Log t = refl
is_log_is Lost t = cc
is_log_is Empty t = cc

-- what its node is in the group
record Stands (w : DiskScene) (q : Place) (k : Stock) (saved : List RecordFields) (d : ToldDisk)
    (n : NodeValue) : Type 0 where
  whole : Whole w.scene.group
  has : HasStock w.scene.group q k
  runs : Runs (w.scene.group.server q) k saved q d n
  tree : stores n ≡ true
      → HoldsTree (list_of w.scene.group q) n.plain.cp (log_of n) (told_now d)

cell_true : (w : DiskScene) (q : Place) (k : Stock) (saved : List RecordFields) (d : ToldDisk)
    (n : NodeValue) → Stands w q k saved d n → (c : Cell) (o : Option Shown)
    → ShowsCell n (Some (reads d)) c o
    → IfSome o (IsShownOf (history_of w.scene.group.committed))
cell_true w q k saved d n h c None shows = tt
cell_true w q k saved d n h c (Some (shown.Records first records)) shows = absurd shows
cell_true w q k saved d n h c (Some (shown.Gone base)) shows = absurd shows
cell_true w q k saved d n h c (Some (shown.Cell e v cp)) (st, is, at, found) =
    let g = w.scene.group in
    let s = g.server q in
    let log : log_of n ≡ log_with s k.log = node_log s k saved q d n h.runs in
    let active = settled_active g h.whole q (node_stores s k saved q d n h.runs st) in
    let held : s.held ≡ Log = ((its (good_of g h.whole q)).modes.active active).0 in
    let tree : HoldsTree (list_of g q) s.cp (log_with s k.log) (told_now d) =
    subst (λ (x : LogValue). HoldsTree (list_of g q) x.cp x (told_now d)) log (h.tree st) in
    let here : v ≡ cells_over s.base (changes_in k.log) s.cp (reads d) c =
    subst (λ (x : LogValue). v ≡ cells_over x.base (changes_in x.records) x.cp (reads d) c) log
    found in
    let number : cp ≡ s.cp = at ∙ ap (λ (x : LogValue). x.cp) log in
    let within = cp_within g h.whole q held in (
      omega (arith, number, within),
      λ other.
          cell_is g h.whole q k h.has held (told_now d) (reads d) c v refl tree
          (subst (λ (x : Cell). is_saved x ≡ false) is other) here
          ∙ ap (λ (m : ℕ). cells_at (history_of g.committed) m c) (sym number)
          ∙ ap (cells_at (history_of g.committed) cp) (sym is),
    )

records_true : (w : DiskScene) (q : Place) (k : Stock) (saved : List RecordFields) (d : ToldDisk)
    (n : NodeValue) → Stands w q k saved d n → (first : ℕ)
    → IfSome (if is_log n.plain.held then records_from (log_of n) first else None)
    (IsShownOf (history_of w.scene.group.committed))
records_true w q k saved d n h first =
    let g = w.scene.group in
    let s = g.server q in
    let P = λ (o : Option Shown). IfSome o (IsShownOf (history_of g.committed)) in
    by_if P (is_log n.plain.held) (records_from (log_of n) first) None
    (λ t.
    let held : s.held ≡ Log = ap (λ (x : Server Entry). x.held) (sym h.runs.server)
    ∙ is_log_is n.plain.held t in
    true_of (log_of n) first (history_of g.committed)
    (subst (AreCommittedOf (history_of g.committed)) (sym (node_log s k saved q d n h.runs))
    (log_committed g h.whole q k h.has held)))
    (λ no. tt)

shows_right : (w : DiskScene) (q : Place) (k : Stock) (saved : List RecordFields) (d : ToldDisk)
    (n : NodeValue) → Stands w q k saved d n → (wanted : Want) (o : Option Shown)
    → Shows n (Some (reads d)) wanted o → IsShownIn w q wanted o
shows_right w q k saved d n h (want.Cell c) o shows = record {
  rule = cell_outline (w.scene.group.server q) k saved q d n h.runs (Some (reads d)) c o shows;
  truly = cell_true w q k saved d n h c o shows;
}
shows_right w q k saved d n h (want.Records first) o shows = record {
  rule = ap (option_map outline_of) shows
      ∙ records_outline w.scene.group h.whole q k h.has saved d n h.runs is_log_is first;
  truly = subst (λ (x : Option Shown).
      IfSome x (IsShownOf (history_of w.scene.group.committed))) (sym shows)
      (records_true w q k saved d n h first);
}

pub nodes_show : NodesShowRightly
nodes_show w r q k saved h me host has n e wanted o shows =
    let g = w.scene.group in
    let d = disk_of h in
    shows_right w q k saved d n (record {
      whole = reached_whole w r;
      has = has;
      runs = runs_node (g.server q) k saved q h.me d h.node me host.node n e;
      tree = (can_take w r q k saved h me host has input.List (Does ListTree) refl).tree n e;
    }) wanted o shows
