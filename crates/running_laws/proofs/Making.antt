-- The node that a boot makes of a disk with a mark, by the rules alone. So a boot that is cut
-- behind its write was about to make one.
use Rattle.std.proofs.Common.{◌≡◌, ℕ, ◌+◌, Bool, true, false, List, [], ◌∷◌, length, map, Option, None, Some, refl, sym, ap, subst, ◌∙◌, arith, if◌then◌else◌}
use Rattle.std.specs.Prelude.{IfSome, option_map, ◌&&◌}
use Rattle.std.proofs.lemmas.List.{length-map}
use Rattle.event_record.specs.Record.{entry_of}
use Rattle.event_record.specs.declared.record.RecordFields.{RecordFields}
use Rattle.file_tree.specs.Book.{Entry}
use Rattle.fuzzy_cells.specs.Disk.{Disk}
use Rattle.group_rules.specs.Effects.{NewLog, booted, empty_log, load_tests, loaded, lost_log, rested, resting, saved_log}
use Rattle.group_rules.specs.Limits.{can_have, is_log, is_outside}
use Rattle.group_rules.specs.Names.{place_of}
use Rattle.group_rules.specs.Places.{Place, all_of, is_p2}
use Rattle.group_rules.specs.State.{Empty, Held, Log, Lost, Mark, Saved, Server, mark_of}
use Rattle.harp_cells.specs.Effect.{Cells}
use Rattle.harp_store.specs.Disk.{Disk as ToldDisk, Moments, reads}
use Rattle.harp_store.specs.Mark.{MarkFields, SavedNumbers}
use Rattle.harp_types.specs.declared.server.ServerId.{ServerId}
use Rattle.node.specs.Boot.{HasBase, HoldSaved, HoldWhole, after_boot, boot_mark, booted_stock, mark_before}
use Rattle.node.specs.Node.{IsServer, NodeValue, mark_with, saved_with, server}
use Rattle.node.specs.Stock.{Stock, stock}
use Rattle.power_save.proofs.Records.{same_log}
use Rattle.power_save.specs.Entries.{HoldEntries}
use Rattle.power_save.specs.Saved.{HoldRecords}
use Rattle.world_host.proofs.Starts.{BootedBy}
use Rattle.world_rules.specs.Host.{HostValue, IsHost, SavesRecords, disk_of}
use Rattle.running_laws.proofs.Bootings.{IsBootAt}

-- ---- what rests after a boot

-- a server that is up has this mark
abbrev IsRested : Mark Entry → Server Entry → Type 0
IsRested m s = (s.up ≡ true) × (mark_of s ≡ m)

either : (P : Server Entry → Type 0) (b : Bool) (x y : Server Entry) → P x → P y
    → P (if b then x else y)
either P true x y h k = h
either P false x y h k = k

low_is : (b : Bool) (x y : ℕ) → (b ≡ true → x ≡ y) → (if b then x else y) ≡ y
low_is true x y h = h refl
low_is false x y h = refl

rests_with : (clock delta : ℕ) (m : Mark Entry) (held : Held) (n : NewLog Entry) → n.lb ≡ m.lb
    → IsRested m (resting clock delta m held n)
rests_with clock delta m held n e = (refl, ap (λ (low : ℕ). record m { lb = low }) e)

loads_with : (q : Place) (clock delta : ℕ) (m : Mark Entry) (o : Option (Saved Entry))
    → (is_p2 q ≡ true → IfSome o (λ v. v.base ≡ m.lb)) → IsRested m (loaded q clock delta m o)
loads_with q clock delta m None base = rests_with clock delta m Lost (lost_log m.lb) refl
loads_with q clock delta m (Some v) base = either (IsRested m)
    (all_of (can_have q m.role ∷ load_tests m.lb v))
    (resting clock delta m Log (saved_log q m.lb v)) (resting clock delta m Lost (lost_log m.lb))
    (rests_with clock delta m Log (saved_log q m.lb v) (low_is (is_p2 q) v.base m.lb base))
    (rests_with clock delta m Lost (lost_log m.lb) refl)

rests_so : (q : Place) (clock delta : ℕ) (m : Mark Entry)
    → (is_p2 q ≡ true → IfSome m.saved (λ v. v.base ≡ m.lb)) → IsRested m (rested q clock delta m)
rests_so q clock delta m base = either (IsRested m) (is_p2 q && is_outside m.role)
    (resting clock delta m Empty (empty_log m.lb)) (loaded q clock delta m m.saved)
    (rests_with clock delta m Empty (empty_log m.lb) refl)
    (loads_with q clock delta m m.saved base)

-- without a saved log it holds none
none_held : (q : Place) (clock delta : ℕ) (m : Mark Entry) → m.saved ≡ None
    → is_log (rested q clock delta m).held ≡ false
none_held q clock delta m e = either (λ (s : Server Entry). is_log s.held ≡ false)
    (is_p2 q && is_outside m.role) (resting clock delta m Empty (empty_log m.lb))
    (loaded q clock delta m m.saved) refl
    (subst (λ (o : Option (Saved Entry)). is_log (loaded q clock delta m o).held ≡ false) (sym e)
    refl)

-- ---- one saved log is whole

abbrev IsWhole : Cells → List RecordFields → SavedNumbers → Type 0
IsWhole cells saved v = (v.top ≡ v.base + length saved) × HoldRecords v.ring cells v.base saved

each_whole : (saved : List RecordFields) (d : ToldDisk) (o : Option SavedNumbers)
    → IfSome o (SavesRecords saved d) → IfSome o (IsWhole (reads d) saved)
each_whole saved d None h = tt
each_whole saved d (Some v) h = (h.top, h.held)

one_saved : (cells : Cells) (v : SavedNumbers) (xs ys : List RecordFields)
    → IsWhole cells xs v → IsWhole cells ys v → xs ≡ ys
one_saved cells v xs ys h k =
    same_log v.ring cells v.base xs ys (omega (arith, h.0, k.0)) h.1 k.1

same_numbers : (v w : SavedNumbers) → Some v ≡ Some w → v ≡ w
same_numbers v w e = cc

one_log : (cells : Cells) (mark : MarkFields) (v : SavedNumbers) (saved : List RecordFields)
    (items : List Entry) → mark.saved ≡ Some v → IsWhole cells saved v
    → HoldEntries cells mark (saved_with items v) → items ≡ map entry_of saved
one_log cells mark v saved items e whole h =
    let numbers : SavedNumbers = record {
      base = v.base;
      cp = v.cp;
      top = v.base + length items;
      ring = h.ring;
    } in
    let same = same_numbers v numbers (sym e ∙ h.numbers) in
    let long : length items ≡ length h.records =
    sym (ap length h.entries) ∙ length-map h.records entry_of in
    sym h.entries ∙ ap (map entry_of) (one_saved cells v h.records saved (
      ap (λ (s : SavedNumbers). s.top) same ∙ ap (λ (n : ℕ). v.base + n) long,
      subst (λ (ring : ℕ). HoldRecords ring cells v.base h.records)
          (sym (ap (λ (s : SavedNumbers). s.ring) same)) h.held,
    ) whole)

same_saved : (cells : Cells) (mark : MarkFields) (saved : List RecordFields) (items : List Entry)
    (o : Option SavedNumbers) → mark.saved ≡ o → IfSome o (IsWhole cells saved)
    → IfSome o (λ v. HoldEntries cells mark (saved_with items v))
    → option_map (saved_with (map entry_of saved)) o ≡ option_map (saved_with items) o
same_saved cells mark saved items None e whole h = refl
same_saved cells mark saved items (Some v) e whole h =
    ap (λ (es : List Entry). Some (saved_with es v))
    (sym (one_log cells mark v saved items e whole h))

same_records : (cells : Cells) (xs ys : List RecordFields) (o : Option SavedNumbers)
    (held : Bool) → (o ≡ None → held ≡ false) → IfSome o (IsWhole cells xs)
    → IfSome o (IsWhole cells ys) → (if held then xs else []) ≡ (if held then ys else [])
same_records cells xs ys None held none h k = ap (λ (b : Bool). if b then xs else []) (none refl)
    ∙ sym (ap (λ (b : Bool). if b then ys else []) (none refl))
same_records cells xs ys (Some v) held none h k =
    ap (λ (rs : List RecordFields). if held then rs else []) (one_saved cells v xs ys h k)

base_mapped : (items : List Entry) (o : Option SavedNumbers) (n : ℕ) → IfSome o (λ v. v.base ≡ n)
    → IfSome (option_map (saved_with items) o) (λ v. v.base ≡ n)
base_mapped items None n h = tt
base_mapped items (Some v) n h = h

-- ---- the node

abbrev logged : List RecordFields → Stock
logged records = record { log = records; pulled = []; waits = [] }

module _ (place : ServerId) (now delta : ℕ) (mark : MarkFields) (saved : List RecordFields) where
  abbrev items : List Entry
  items = map entry_of saved

  -- the mark that the boot goes on from
  abbrev longer : MarkFields
  longer = boot_mark place delta (Some mark)

  -- what the rules make of it
  abbrev rests : Server Entry
  rests = booted (place_of place) now delta (mark_with items mark)

  -- THE NODE of a boot from this mark, with these records in its saved log
  abbrev pub made : NodeValue
  made = record {
    me = place_of place;
    halted = false;
    mark = longer;
    plain = record rests { saved = None };
    records = (booted_stock rests saved).log;
    pulled = [];
    peers = [];
    cached = [];
  }

  is_rested : HasBase (place_of place) mark → IsRested (mark_with items longer) rests
  is_rested base = rests_so (place_of place) now delta (mark_with items longer)
      (λ two. base_mapped items mark.saved mark.lb (base two))

  -- with these records it is the machine's
  server_is : HasBase (place_of place) mark → server made items ≡ rests
  server_is base = ap (λ (o : Option (Saved Entry)). record rests { saved = o })
      (sym (ap (λ (m : Mark Entry). m.saved) (is_rested base).1))

  made_served : HasBase (place_of place) mark → IsServer made
  made_served base = record {
    up = (is_rested base).0;
    mark = λ es. ap (λ (m : Mark Entry). record m {
      saved = option_map (saved_with es) mark.saved;
    }) (is_rested base).1;
  }

  boots_so : (cells : Cells) → HasBase (place_of place) mark → HoldWhole cells longer saved
      → (es : List Entry) → HoldSaved cells longer es
      → server made es ≡ booted (place_of place) now delta (mark_with es mark)
  boots_so cells base whole es held =
      let same = same_saved cells longer saved es mark.saved refl whole held in
      ap (λ (o : Option (Saved Entry)). record rests { saved = o }) (sym same)
      ∙ server_is base
      ∙ ap (λ (o : Option (Saved Entry)). booted (place_of place) now delta
      (record (mark_with items mark) { saved = o })) same

  records_so : (cells : Cells) → HoldWhole cells longer saved → (ys : List RecordFields)
      → HoldWhole cells longer ys → stock made ≡ booted_stock made.plain ys
  records_so cells whole ys held = ap logged
      (same_records cells saved ys mark.saved (is_log rests.held)
      (λ none. none_held (place_of place) now delta (mark_with items longer)
      (ap (option_map (saved_with items)) none)) whole held)

  booted_so : (old left : Moments) → old.now.mark ≡ Some mark → HasBase (place_of place) mark
      → IfSome mark.saved (SavesRecords saved old.now)
      → Some left ≡ after_boot place delta (Some old) → BootedBy place now delta made old left
  booted_so old left marked base saves written =
      let whole = each_whole saved old.now mark.saved saves in
      record {
        boots = subst (λ (o : Option MarkFields). (es : List Entry)
            → HoldSaved (reads old.now) (boot_mark place delta o) es
            → server made es
            ≡ booted (place_of place) now delta (mark_before place delta es o)) (sym marked)
            (boots_so (reads old.now) base whole);
        records = subst (λ (o : Option MarkFields). (ys : List RecordFields)
            → HoldWhole (reads old.now) (boot_mark place delta o) ys
            → stock made ≡ booted_stock made.plain ys) (sym marked)
            (records_so (reads old.now) whole);
        me = refl;
        served = made_served base;
        mark = λ low. ap (boot_mark place delta) (sym marked);
        written = written;
      }

-- A HOST THAT IS DOWN is about to boot so, from its disk
pub made_boot : (s : Server Entry) (k : Stock) (saved : List RecordFields) (r : Disk)
    (h : HostValue) → IsHost s k saved r h → (place : ServerId) (now delta : ℕ)
    → h.me ≡ place_of place → h.node ≡ None → (old left amid : Moments) → disk_of h ≡ old.now
    → Some left ≡ after_boot place delta (Some old) → left.now ≡ amid.now
    → (n : NodeValue) × IsBootAt h place now delta (record { node = Some n; disk = amid })
made_boot s k saved r h host place now delta me none old left amid disk written there =
    let m = host.mark in
    let n = made place now delta m.mark saved in (
      n,
      record {
        none = none;
        node = n;
        is = refl;
        old = old;
        left = left;
        disk = disk;
        there = there;
        boots = booted_so place now delta m.mark saved old left
            (sym (ap (λ (d : ToldDisk). d.mark) disk) ∙ m.written)
            (subst (λ (q : Place). HasBase q m.mark) me m.base)
            (subst (λ (d : ToldDisk). IfSome m.mark.saved (SavesRecords saved d)) disk m.saves)
            written;
      },
    )
