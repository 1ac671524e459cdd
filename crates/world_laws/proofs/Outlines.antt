-- What a node shows is what the rule of showing says.
use Rattle.std.proofs.Common.{◌≡◌, ℕ, ◌-◌, ◌<◌, ◌≤◌, Bool, true, false, List, length, take, drop, min, Option, None, Some, refl, sym, ap, subst, ◌∙◌, arith, if◌then◌else◌}
use Rattle.std.specs.Prelude.{◌&&◌, ◌||◌, ◌==◌, map, nat_le, nat_lt, option_map}
use Rattle.std.proofs.lemmas.List.{length-map}
use Rattle.event_record.specs.Record.{entry_of}
use Rattle.event_record.specs.declared.record.RecordFields.{RecordFields}
use Rattle.file_tree.specs.Book.{Entry}
use Rattle.group_trace.specs.DiskCalls.{measures_of}
use Rattle.group_rules.proofs.Tests.{all_true, if_is, if_not, le_is, lt_is, neither, not_le, not_lt}
use Rattle.group_rules.specs.Disk.{settled_tests}
use Rattle.group_rules.specs.Limits.{is_log}
use Rattle.group_rules.specs.Places.{Place, all_of}
use Rattle.group_rules.specs.Serving.{asked_for, held_tests, one_or_more}
use Rattle.group_rules.specs.State.{Group, Held, Log, Server}
use Rattle.group_rules.specs.Step.{list_of}
use Rattle.group_safety.proofs.Moving.{its}
use Rattle.group_safety.proofs.Safe.{good_of}
use Rattle.group_safety.specs.Laws.{Whole}
use Rattle.harp_cells.specs.Effect.{Cells}
use Rattle.harp_cells.specs.declared.cell.Cell.{Cell}
use Rattle.harp_store.specs.Disk.{Disk as ToldDisk}
use Rattle.idle_log.proofs.Logs.{serves}
use Rattle.idle_log.specs.LogLaws.{Sized, with_log}
use Rattle.node.proofs.Sizing.{are_sized}
use Rattle.node.specs.Node.{NodeValue}
use Rattle.node.specs.Stock.{Stock}
use Rattle.node.specs.Stored.{log_of, stores}
use Rattle.node.specs.Wants.{ShowsCell}
use Rattle.shown.specs.Rule.{CellAt, EntriesFrom, GoneTo, Outline, entries_from, outline_of}
use Rattle.shown.specs.declared.shown.Shown.{Shown}
use Rattle.shown.specs.declared.shown.Shown.TheVariants as shown
use Rattle.shown.specs.Records.{records_from}
use Rattle.tree_log.specs.Reading.{IsOfList}
use Rattle.volatile_log.specs.Log.{LogValue, top}
use Rattle.witness.specs.Serving.{asked_for as asked, given, one_or_more as at_least_one, record_size}
use Rattle.world_laws.proofs.Hosts.{node_log}
use Rattle.world_laws.proofs.Logs.{logs_right}
use Rattle.world_laws.specs.StockLaws.{log_with}
use Rattle.world_laws.specs.Stocks.{HasStock}
use Rattle.world_rules.specs.Host.{Runs}
use Rattle.world_rules.specs.Spellings.{spellings}

-- ---- a cell

stores_same : (s : Server Entry) (k : Stock) (saved : List RecordFields) (q : Place)
    (d : ToldDisk) (n : NodeValue) → Runs s k saved q d n
    → stores n ≡ all_of (settled_tests q s)
stores_same s k saved q d n runs =
    ap (λ (x : Place). all_of (settled_tests x n.plain)) runs.me
    ∙ ap (λ (x : Server Entry). all_of (settled_tests q x)) runs.server

pub cell_outline : (s : Server Entry) (k : Stock) (saved : List RecordFields) (q : Place)
    (d : ToldDisk) (n : NodeValue) → Runs s k saved q d n → (told : Option Cells) (c : Cell)
    (o : Option Shown) → ShowsCell n told c o
    → option_map outline_of o
    ≡ (if all_of (settled_tests q s) then Some (CellAt c s.cp) else None)
cell_outline s k saved q d n runs told c None none =
    sym (if_not (all_of (settled_tests q s)) (Some (CellAt c s.cp)) None
    (sym (stores_same s k saved q d n runs) ∙ none))
cell_outline s k saved q d n runs told c (Some (shown.Records first records)) shows = absurd shows
cell_outline s k saved q d n runs told c (Some (shown.Gone base)) shows = absurd shows
cell_outline s k saved q d n runs told c (Some (shown.Cell e v cp)) (st, is, at, found) =
    ap (λ (x : Cell). Some (CellAt x cp)) is
    ∙ ap (λ (m : ℕ). Some (CellAt c m)) (at ∙ ap (λ (x : Server Entry). x.cp) runs.server)
    ∙ sym (if_is (all_of (settled_tests q s)) (Some (CellAt c s.cp)) None
    (sym (stores_same s k saved q d n runs) ∙ st))

-- ---- records

some_is : {A : Type 0} (x y : A) → Some x ≡ Some y → x ≡ y
some_is x y is = let same : x ≡ y = cc in same

given_is : (l : LogValue) (first last : ℕ) → l.base < first → first ≤ last → last ≤ top l
    → given record_size l first last ≡ Some (at_least_one record_size (asked l first last))
given_is l first last above within high =
    let least : min last (top l) ≡ last = omega (arith, high) in
    let a = lt_is l.base first above in
    let b = le_is first (min last (top l)) (omega (arith, least, within)) in
    let both : (nat_lt l.base first && nat_le first (min last (top l))) ≡ true =
    rw (a, b) refl in
    if_is (nat_lt l.base first && nat_le first (min last (top l))) _ None both
    ∙ ap (λ (n : ℕ). Some (at_least_one record_size (asked l first n))) least

-- the records that are shown are those of the entries that the rule says
entries_are : (g : Group Entry) → Whole g → (q : Place) (k : Stock) → HasStock g q k
    → (saved : List RecordFields) (d : ToldDisk) (n : NodeValue) → Runs (g.server q) k saved q d n
    → (g.server q).held ≡ Log → (first : ℕ) → (g.server q).base < first
    → first ≤ (g.server q).cp
    → map entry_of (at_least_one record_size
    (asked (log_with (g.server q) k.log) first (g.server q).cp))
    ≡ one_or_more (measures_of spellings).size (take (first - 1) (list_of g q))
    (asked_for (g.server q) first (g.server q).cp)
entries_are g w q k has saved d n runs held first above within =
    let s = g.server q in
    let l = log_with s k.log in
    let list = list_of g q in
    let size = (measures_of spellings).size in
    let before = take (first - 1) list in
    let rs = at_least_one record_size (asked l first s.cp) in
    let es = one_or_more size before (asked_for (with_log s l) first s.cp) in
    let log : log_of n ≡ l = node_log s k saved q d n runs in
    let many : length k.log ≡ length s.items =
    sym (length-map k.log entry_of) ∙ ap (λ (x : List Entry). length x) has.items in
    let cp = ((its (good_of g w q)).logs.log held).cp_top in
    let high : s.cp ≤ top l = omega (arith, cp, many) in
    let of : IsOfList list (log_of n) =
    subst (IsOfList list) (sym log) (logs_right g w q k has).of_list in
    let sized : Sized size record_size before (asked l first s.cp) =
    subst (λ (x : LogValue). Sized size record_size before (asked x first s.cp)) log
    (are_sized list n first s.cp of
    (subst (λ (x : LogValue). x.base < first) (sym log) above)) in
    let tests = all_true (held_tests (with_log s l) first s.cp)
    (lt_is s.base first above, (le_is first s.cp within, tt)) in
    some_is (map entry_of rs) es
    (ap (option_map (map entry_of)) (sym (given_is l first s.cp above within high))
    ∙ serves size record_size list s l first s.cp high sized
    ∙ if_is (all_of (held_tests (with_log s l) first s.cp)) (Some es) None tests)
    ∙ ap (λ (items : List Entry). one_or_more size before
    (take (s.cp - (first - 1)) (drop (first - 1 - s.base) items))) has.items

outlined : (b c : Bool) (first base : ℕ) (rs : List RecordFields) (es : List Entry)
    → (b ≡ false → c ≡ false → map entry_of rs ≡ es)
    → option_map outline_of (if b then None else (if c then Some (shown.Gone base)
    else Some (shown.Records first rs)))
    ≡ (if b then None else (if c then Some (GoneTo base) else Some (EntriesFrom first es)))
outlined true c first base rs es are = refl
outlined false true first base rs es are = refl
outlined false false first base rs es are =
    ap (λ (xs : List Entry). Some (EntriesFrom first xs)) (are refl refl)

where_held : (h : Held) (x : Option Shown) (y : Option Outline)
    → (is_log h ≡ true → option_map outline_of x ≡ y)
    → option_map outline_of (if is_log h then x else None) ≡ (if is_log h then y else None)
where_held h x y same = by_log (is_log h) same
  where
    by_log : (b : Bool) → (b ≡ true → option_map outline_of x ≡ y)
        → option_map outline_of (if b then x else None) ≡ (if b then y else None)
    by_log true same = same refl
    by_log false same = refl

pub records_outline : (g : Group Entry) → Whole g → (q : Place) (k : Stock) → HasStock g q k
    → (saved : List RecordFields) (d : ToldDisk) (n : NodeValue) → Runs (g.server q) k saved q d n
    → ((h : Held) → is_log h ≡ true → h ≡ Log) → (first : ℕ)
    → option_map outline_of (if is_log n.plain.held then records_from (log_of n) first else None)
    ≡ (if is_log (g.server q).held then entries_from (measures_of spellings).size
    (g.server q) (list_of g q) first else None)
records_outline g w q k has saved d n runs log_is first =
    let s = g.server q in
    let l = log_with s k.log in
    let of : LogValue → Held → Option Outline = λ x h. option_map outline_of
    (if is_log h then records_from x first else None) in
    ap (λ (x : LogValue). of x n.plain.held) (node_log s k saved q d n runs)
    ∙ ap (of l) (ap (λ (x : Server Entry). x.held) runs.server)
    ∙ where_held s.held (records_from l first) (entries_from (measures_of spellings).size s
    (list_of g q) first) (λ t.
    outlined (first == 0 || nat_lt s.cp first) (nat_le first s.base) first s.base
    (at_least_one record_size (asked l first s.cp))
    (one_or_more (measures_of spellings).size (take (first - 1) (list_of g q))
    (asked_for s first s.cp)) (λ in' high.
    entries_are g w q k has saved d n runs (log_is s.held t) first (not_le first s.base high)
    (not_lt s.cp first (neither (first == 0) (nat_lt s.cp first) in').1)))
