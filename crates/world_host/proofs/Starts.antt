-- A host that boots.
use Rattle.std.proofs.Common.{◌≡◌, ℕ, ◌+◌, max, Bool, true, false, List, [], length, map, Option, Some, None, refl, sym, ap, subst, ◌∙◌, arith, true≢false, if◌then◌else◌}
use Rattle.std.specs.Prelude.{IfSome}
use Rattle.event_record.specs.Record.{entry_of}
use Rattle.event_record.specs.declared.record.RecordFields.{RecordFields}
use Rattle.file_tree.specs.Book.{Entry}
use Rattle.fuzzy_cells.specs.Disk.{Disk}
use Rattle.group_trace.specs.DiskRun.{empty_stores}
use Rattle.world_host.proofs.Marks.{other_mark}
use Rattle.world_host.proofs.Stops.{now_at}
use Rattle.world_host.proofs.Wholes.{Holds}
use Rattle.world_rules.specs.Host.{HostValue, IsHost, IsNodeOf, SavesRecords, disk_of, no_stock}
use Rattle.world_host.specs.Starts.{HostStarts, Starts, start_mark}
use Rattle.world_rules.specs.Steps.{HostBoots}
use Rattle.group_rules.proofs.Tests.{is_le}
use Rattle.group_rules.specs.Effects.{booted, first_mark as first_mark_of}
use Rattle.group_rules.specs.Limits.{is_log}
use Rattle.group_rules.specs.Names.{id_of, place_of}
use Rattle.group_rules.specs.Places.{Zero, One, Two, Place}
use Rattle.group_rules.specs.State.{Mark, Server, longest_of, mark_of}
use Rattle.group_rules.specs.Step.{first_group}
use Rattle.harp_types.specs.Limits.{first_promise}
use Rattle.harp_types.specs.declared.server.ServerId.{ServerId}
use Rattle.harp_store.specs.Disk.{Disk as ToldDisk, Moments, after_step, reads}
use Rattle.harp_store.specs.Mark.{MarkFields, SavedNumbers}
use Rattle.harp_store.specs.Memory.{nothing_stored}
use Rattle.node.specs.Boot.{HasBase, HoldSaved, HoldWhole, after_boot, boot_mark, booted_disk, booted_stock, has_boot_mark, is_within, mark_before}
use Rattle.node.proofs.Shown.{id_back}
use Rattle.node.specs.Node.{IsServer, NodeValue, mark_with, saved_with, server}
use Rattle.node.specs.Stock.{Stock, stock}
use Rattle.power_save.specs.Entries.{HoldEntries}
use Rattle.power_save.specs.Saved.{HoldRecords}
use Rattle.std.proofs.lemmas.List.{length-map}
use Rattle.store_laws.proofs.Disks.{marks_follow, new_disks_are}
use Rattle.store_laws.specs.Told.{IsDiskOf}

-- ---- the records of a saved log, whole, are those of its entries

whole_entries : (cells : _) (mark : MarkFields) (saved : List RecordFields)
    (numbers : Option SavedNumbers) → mark.saved ≡ numbers
    → IfSome numbers (λ v. (v.top ≡ v.base + length saved)
    × HoldRecords v.ring cells v.base saved)
    → IfSome numbers (λ v. HoldEntries cells mark (saved_with (map entry_of saved) v))
whole_entries cells mark saved None e h = tt
whole_entries cells mark saved (Some v) e h = record {
  ring = v.ring;
  numbers = e ∙ ap (λ (n : ℕ). let s : SavedNumbers = record {
    base = v.base;
    cp = v.cp;
    top = n;
    ring = v.ring;
  } in Some s) (h.0 ∙ ap (λ (n : ℕ). v.base + n) (sym (length-map saved entry_of)));
  records = saved;
  held = h.1;
  entries = refl;
}

pub whole_saved : (cells : _) (mark : MarkFields) (saved : List RecordFields)
    → HoldWhole cells mark saved → HoldSaved cells mark (map entry_of saved)
whole_saved cells mark saved h = whole_entries cells mark saved mark.saved refl h

-- ---- the mark on the disk afterwards

longest_is : (delta : ℕ) (mark : MarkFields) (longest : Option ℕ) → mark.longest ≡ longest
    → is_within delta longest ≡ true
    → mark ≡ record mark { longest = Some (max delta (longest_of mark.longest)) }
longest_is delta mark None e within = absurd (true≢false (sym within))
longest_is delta mark (Some n) e within =
    let le = is_le delta n within in
    let same : max delta n ≡ n = omega (arith, le) in
    ap (λ (o : Option ℕ). record mark { longest = o }) (e
    ∙ ap (λ (m : ℕ). Some m) (sym same)
    ∙ ap (λ (o : Option ℕ). Some (max delta (longest_of o))) (sym e))

there_already : (me : ServerId) (delta : ℕ) (old : Option MarkFields)
    → has_boot_mark delta old ≡ true → old ≡ Some (boot_mark me delta old)
there_already me delta None e = absurd (true≢false (sym e))
there_already me delta (Some mark) e = ap (λ (m : MarkFields). Some m)
    (longest_is delta mark mark.longest refl e)

disk_mark : (me : ServerId) (delta : ℕ) (d : ToldDisk) (b : Bool)
    → has_boot_mark delta d.mark ≡ b
    → (if b then d else booted_disk me delta d).mark ≡ Some (boot_mark me delta d.mark)
disk_mark me delta d true e = there_already me delta d.mark e
disk_mark me delta d false e = refl

disk_saves : (saved : List RecordFields) (me : ServerId) (delta : ℕ) (d : ToldDisk) (b : Bool)
    (v : SavedNumbers) → SavesRecords saved d v
    → SavesRecords saved (if b then d else booted_disk me delta d) v
disk_saves saved me delta d true v h = h
disk_saves saved me delta d false v h = other_mark saved (boot_mark me delta d.mark) d v h

disk_follows : (me : ServerId) (delta : ℕ) (d : ToldDisk) (r : Disk) (b : Bool) → IsDiskOf d r
    → IsDiskOf (if b then d else booted_disk me delta d) r
disk_follows me delta d r true h = h
disk_follows me delta d r false h = marks_follow d r (boot_mark me delta d.mark) h

each_saves : (saved : List RecordFields) (d e : ToldDisk) (o : Option SavedNumbers)
    → ((v : SavedNumbers) → SavesRecords saved d v → SavesRecords saved e v)
    → IfSome o (SavesRecords saved d) → IfSome o (SavesRecords saved e)
each_saves saved d e None on h = tt
each_saves saved d e (Some v) on h = on v h

each_whole : (saved : List RecordFields) (d : ToldDisk) (o : Option SavedNumbers)
    → IfSome o (SavesRecords saved d)
    → IfSome o (λ v. (v.top ≡ v.base + length saved) × HoldRecords v.ring (reads d) v.base saved)
each_whole saved d None h = tt
each_whole saved d (Some v) h = (h.top, h.held)

-- ---- what a node says that boots

-- a disk that changed by its first mark alone
booted_now : (id : ServerId) (delta : ℕ) (h left : Moments) (b : Bool)
    → Some left ≡ (if b then Some h else after_step (booted_disk id delta) (Some h))
    → left.now ≡ (if b then h.now else booted_disk id delta h.now)
booted_now id delta h left true e = now_at left h e
booted_now id delta h left false e = now_at left _ e

-- what it boots from this mark
pub record BootedBy (id : ServerId) (now delta : ℕ) (n : NodeValue) (h left : Moments)
    : Type 0 where
  pub boots : (items : List Entry) → HoldSaved (reads h.now) (boot_mark id delta h.now.mark) items
      → server n items ≡ booted (place_of id) now delta (mark_before id delta items h.now.mark)
  pub records : (saved : List RecordFields)
      → HoldWhole (reads h.now) (boot_mark id delta h.now.mark) saved
      → stock n ≡ booted_stock n.plain saved
  pub me : n.me ≡ place_of id
  pub served : IsServer n
  pub mark : HasBase (place_of id) (boot_mark id delta h.now.mark)
      → n.mark ≡ boot_mark id delta h.now.mark
  pub written : Some left ≡ after_boot id delta (Some h)

-- so the host starts
pub start_at : (id : ServerId) (now delta : ℕ) (n : NodeValue) (h left : Moments)
    (old new : HostValue) → old.me ≡ place_of id → disk_of old ≡ h.now → new.node ≡ Some n
    → disk_of new ≡ left.now → BootedBy id now delta n h left → HostStarts old new now delta
start_at id now delta n h left old new me disk up gone b saved whole base =
    let same : id_of old.me ≡ id = ap id_of me ∙ id_back id in
    let mark : start_mark old delta ≡ boot_mark id delta h.now.mark =
    ap (λ (x : ServerId). boot_mark x delta (disk_of old).mark) same
    ∙ ap (λ (d : ToldDisk). boot_mark id delta d.mark) disk in
    let held : HoldWhole (reads h.now) (boot_mark id delta h.now.mark) saved =
    subst (λ (m : MarkFields). HoldWhole (reads h.now) m saved) mark
    (subst (λ (d : ToldDisk). HoldWhole (reads d) (start_mark old delta) saved) disk whole) in
    let low : HasBase (place_of id) (boot_mark id delta h.now.mark) =
    subst (λ (m : MarkFields). HasBase (place_of id) m) mark
    (subst (λ (q : Place). HasBase q (start_mark old delta)) me base) in
    let items = map entry_of saved in
    record {
      node = n;
      runs = up;
      me = b.me ∙ sym me;
      served = b.served;
      server = b.boots items (whole_saved (reads h.now) (boot_mark id delta h.now.mark) saved held)
          ∙ sym (ap (λ (q : Place). booted q now delta
          (mark_before (id_of old.me) delta items (disk_of old).mark)) me
          ∙ ap (λ (x : ServerId). booted (place_of id) now delta
          (mark_before x delta items (disk_of old).mark)) same
          ∙ ap (λ (d : ToldDisk). booted (place_of id) now delta
          (mark_before id delta items d.mark)) disk);
      stock = b.records saved held;
      mark = b.mark low ∙ sym mark;
      disk = gone ∙ booted_now id delta h left (has_boot_mark delta h.now.mark) b.written
          ∙ sym (ap (λ (x : ServerId). if has_boot_mark delta (disk_of old).mark then disk_of old
          else booted_disk x delta (disk_of old)) same
          ∙ ap (λ (d : ToldDisk). if has_boot_mark delta d.mark then d
          else booted_disk id delta d) disk);
    }

-- ---- the host that started

-- it is a server of the machine, with these records whole
pub started : (now delta : ℕ) (saved : List RecordFields) (r : Disk) (old new : HostValue)
    → new.me ≡ old.me → Starts now delta saved old new
    → IfSome (start_mark old delta).saved (SavesRecords saved (disk_of old))
    → HasBase old.me (start_mark old delta) → IsDiskOf (disk_of old) r
    → let s = booted old.me now delta
    (mark_before (id_of old.me) delta (map entry_of saved) (disk_of old).mark) in
    IsHost s (booted_stock s saved) saved r new
started now delta saved r old new me st saves base disk =
    let id = id_of old.me in
    let items = map entry_of saved in
    let mark = start_mark old delta in
    let s = booted old.me now delta (mark_before id delta items (disk_of old).mark) in
    let has = has_boot_mark delta (disk_of old).mark in
    let marked : (disk_of new).mark ≡ Some st.node.mark = ap (λ (d : ToldDisk). d.mark) st.disk
    ∙ disk_mark id delta (disk_of old) has refl ∙ ap (λ (m : MarkFields). Some m) (sym st.mark) in
    record {
      node = subst (λ (o : Option NodeValue).
          IsNodeOf s (booted_stock s saved) saved new.me (disk_of new) o) (sym st.runs) (record {
            me = st.me ∙ sym me;
            server = st.server;
            stock = st.stock ∙ ap (λ (x : Server Entry). booted_stock x saved) st.server;
            mark = marked;
          });
      mark = record {
        mark = mark;
        written = marked ∙ ap (λ (m : MarkFields). Some m) st.mark;
        machine = ap (mark_with items) (sym st.mark) ∙ sym (st.served.mark items)
            ∙ ap (λ (x : Server Entry). mark_of x) st.server;
        saves = subst (λ (d : ToldDisk). IfSome mark.saved (SavesRecords saved d)) (sym st.disk)
            (each_saves saved (disk_of old) _ mark.saved
            (disk_saves saved id delta (disk_of old) has) saves);
        base = subst (λ (q : Place). HasBase q mark) (sym me) base;
      };
      disk = subst (λ (d : ToldDisk). IsDiskOf d r) (sym st.disk)
          (disk_follows id delta (disk_of old) r has disk);
    }

-- A BOOT from the disk of a host
pub boots : (now delta : ℕ) (old new : HostValue) → new.me ≡ old.me
    → HostStarts old new now delta → HostBoots old new now delta
boots now delta old new me starts g saved r h up clock length =
    let q = old.me in
    let id = id_of q in
    let items = map entry_of saved in
    let saves = subst (λ (o : Option MarkFields).
    IfSome (boot_mark id delta o).saved (SavesRecords saved (disk_of old))) (sym h.mark.written)
    h.mark.saves in
    let base = subst (λ (o : Option MarkFields). HasBase q (boot_mark id delta o))
    (sym h.mark.written) h.mark.base in
    let mark : mark_before id delta items (disk_of old).mark ≡ mark_of (g.server q) =
    ap (mark_before id delta items) h.mark.written ∙ h.mark.machine in
    subst (λ (d : ℕ). IsHost (booted q (g.clock q) d (mark_of (g.server q)))
    (booted_stock (booted q (g.clock q) d (mark_of (g.server q))) saved) saved r new) (sym length)
    (subst (λ (t : ℕ). IsHost (booted q t delta (mark_of (g.server q)))
    (booted_stock (booted q t delta (mark_of (g.server q))) saved) saved r new) (sym clock)
    (subst (λ (m : Mark Entry). IsHost (booted q now delta m)
    (booted_stock (booted q now delta m) saved) saved r new) mark
    (started now delta saved r old new me (starts saved (each_whole saved (disk_of old)
    (start_mark old delta).saved saves) base) saves base h.disk)))

-- ---- a new disk

none_saved : (id : ServerId) → IfSome (boot_mark id first_promise None).saved
    (SavesRecords [] nothing_stored.now)
none_saved id = record {
  top = refl;
  synced = refl;
  held = λ k d lt. absurd (omega (arith, lt));
}

first_server : (q : Place) → booted q 0 first_promise (first_mark_of Entry first_promise
    (place_of (id_of q))) ≡ first_group.server q
first_server Zero = refl
first_server One = refl
first_server Two = refl

none_booted : (s : Server Entry) → booted_stock s [] ≡ no_stock
none_booted s = by (is_log s.held)
  where
    by : (b : Bool) → ◌≡◌ {A = Stock} (record {
      log = if b then [] else [];
      pulled = [];
      waits = [];
    }) no_stock
    by true = refl
    by false = refl

pub first_host : (q : Place) (old new : HostValue) → Holds old q None nothing_stored.now
    → new.me ≡ q → HostStarts old new 0 first_promise
    → IsHost (first_group.server q) no_stock [] (empty_stores q) new
first_host q old new holds me starts =
    let id = id_of old.me in
    let mark : (disk_of old).mark ≡ None = ap (λ (d : ToldDisk). d.mark) holds.disk in
    let saves = subst (λ (o : Option MarkFields).
    IfSome (boot_mark id first_promise o).saved (SavesRecords [] (disk_of old))) (sym mark)
    (subst (λ (d : ToldDisk). IfSome (boot_mark id first_promise None).saved (SavesRecords [] d))
    (sym holds.disk) (none_saved id)) in
    let base = subst (λ (o : Option MarkFields). HasBase old.me (boot_mark id first_promise o))
    (sym mark) (λ two. refl) in
    let disk = subst (λ (d : ToldDisk). IsDiskOf d (empty_stores q)) (sym holds.disk)
    (new_disks_are q) in
    let start = starts [] (each_whole [] (disk_of old) (start_mark old first_promise).saved saves)
    base in
    let host = started 0 first_promise [] (empty_stores q) old new (me ∙ sym holds.me) start saves
    base disk in
    let same : booted old.me 0 first_promise
    (mark_before id first_promise [] (disk_of old).mark) ≡ first_group.server q =
    ap (λ (o : Option MarkFields). booted old.me 0 first_promise
    (mark_before id first_promise [] o)) mark
    ∙ ap (λ (p : Place). booted p 0 first_promise
    (first_mark_of Entry first_promise (place_of (id_of p)))) holds.me ∙ first_server q in
    subst (λ (x : Server Entry). IsHost x no_stock [] (empty_stores q) new) same
    (subst (λ (k : Stock). IsHost (booted old.me 0 first_promise
    (mark_before id first_promise [] (disk_of old).mark)) k [] (empty_stores q) new)
    (none_booted (booted old.me 0 first_promise
    (mark_before id first_promise [] (disk_of old).mark))) host)
