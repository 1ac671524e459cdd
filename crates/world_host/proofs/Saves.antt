-- A host whose power fails.
use Rattle.std.proofs.Common.{◌≡◌, ℕ, ◌+◌, ◌≤◌, Bool, true, false, List, [], ◌∷◌, ◌++◌, length, map, Option, Some, None, refl, sym, ap, subst, ◌∙◌, inl, inr, arith, true≢false}
use Rattle.std.specs.Prelude.{IfSome, option_map}
use Rattle.std.proofs.lemmas.List.{length-map, take_all}
use Rattle.event_record.specs.Record.{entry_of}
use Rattle.event_record.specs.declared.record.RecordFields.{RecordFields}
use Rattle.file_tree.specs.Book.{Entry}
use Rattle.fuzzy_cells.specs.Disk.{Disk}
use Rattle.group_trace.specs.DiskCalls.{Changing, DiskCall, Marking, Syncing, saved_puts}
use Rattle.group_trace.specs.DiskRun.{calls_at, disk_after, is_whole}
use Rattle.world_host.proofs.Falls.{fallen}
use Rattle.world_host.proofs.NodeCalls.{no_calls}
use Rattle.world_host.proofs.Stops.{Called, CalledAll, KeepsLog, MarkLast, first_told, now_at, step_cut, step_passes, step_sound}
use Rattle.world_host.proofs.Wholes.{Holds, host_from, node_base, node_mark, node_saves}
use Rattle.world_rules.specs.Host.{HasMark, HostValue, IsHostAt, SavesRecords, disk_of, no_stock}
use Rattle.world_rules.specs.Spellings.{spellings}
use Rattle.world_rules.specs.Steps.{CanFail, Fails, HostFails, IsStop, saved_after}
use Rattle.world_rules.specs.declared.stop.Stop.{Stop}
use Rattle.group_rules.proofs.Tests.{by_if, if_is, if_not}
use Rattle.group_rules.specs.Effects.{down, saving}
use Rattle.group_rules.specs.Limits.{is_log}
use Rattle.group_rules.specs.Moves.{Saving, act}
use Rattle.group_rules.specs.Places.{Place, is_p2}
use Rattle.group_rules.specs.State.{Empty, Group, Held, Log, Lost, Mark, Saved, Server, mark_of}
use Rattle.group_rules.specs.Step.{Does, Power, list_of, saves}
use Rattle.harp_cells.specs.declared.change.Change.{Change}
use Rattle.harp_store.specs.Disk.{Disk as ToldDisk, Moments, after_step, reads, then_disk, with_mark}
use Rattle.harp_store.specs.Mark.{MarkFields, SavedNumbers}
use Rattle.harp_store.specs.Memory.{crashed_by as told_crashed_by}
use Rattle.harp_types.specs.declared.pick.Pick.{Pick}
use Rattle.node.specs.Boot.{HasBase}
use Rattle.node.specs.Node.{NodeValue, mark_with, saved_with, server}
use Rattle.node.specs.Power.{IsSavedBy, SavesAtOnce, mark_left, saved_log, saves_log, saving_mark}
use Rattle.node.specs.Stock.{Stock}
use Rattle.power_save.specs.Entries.{saved_entries}
use Rattle.power_save.specs.Saved.{HoldRecords, IsUnsaved, IsUnsavedOrSaved, SavedOn, puts_of}
use Rattle.harp_store.specs.Stopping.{numbered, stop_moment}
use Rattle.store_laws.proofs.Calls.{saves_are_calls, saves_are_told}
use Rattle.store_laws.proofs.Parts.{parts_are_saves}
use Rattle.store_laws.proofs.StepCalls.{steps_make_calls}
use Rattle.store_laws.specs.Calls.{IsCallOf, Makes, StoreCall, Syncs, Writes, save_calls, told_after}
use Rattle.store_laws.specs.Told.{IsDiskOf, OneForOne}
use Rattle.volatile_log.specs.Log.{AreNumberedAfter, LogValue, room}

-- what a node says of a power failure, whether it saved its log or not
pub record Powered (n : NodeValue) (told left : Option Moments) : Type 0 where
  pub machine : (items : List Entry) (clock : ℕ)
      → mark_left n items ≡ mark_of (act n.me clock (server n items) Saving)
  pub moments : saves_log n ≡ true → SavesAtOnce n told left
  pub kept : saves_log n ≡ false → left ≡ told

-- and where it went well
pub record PoweredWell (n : NodeValue) (told left : Option Moments) : Type 0 where
  pub powered : Powered n told left
  pub saved : saves_log n ≡ true → IsSavedBy n told left

-- ---- whether it saves

saves_with : (held : Held) (items : List Entry) (numbers : Option SavedNumbers)
    → saves held (option_map (saved_with items) numbers)
    ≡ saves held (option_map (saved_with []) numbers)
saves_with Log items None = refl
saves_with Log items (Some v) = refl
saves_with Lost items numbers = refl
saves_with Empty items numbers = refl

none_there : (held : Held) (items : List Entry) (numbers : Option SavedNumbers)
    → saves held (option_map (saved_with items) numbers) ≡ true → numbers ≡ None
none_there Log items None e = refl
none_there Log items (Some v) e = absurd (true≢false (sym e))
none_there Lost items numbers e = absurd (true≢false (sym e))
none_there Empty items numbers e = absurd (true≢false (sym e))

log_there : (held : Held) (saved : Option (Saved Entry)) → saves held saved ≡ true → held ≡ Log
log_there Log saved e = refl
log_there Lost saved e = absurd (true≢false (sym e))
log_there Empty saved e = absurd (true≢false (sym e))

unsaved : (n : NodeValue) → saves_log n ≡ true → n.mark.saved ≡ None
unsaved n e = none_there n.plain.held [] n.mark.saved e

-- the machine saves where the node does
saves_same : (g : Group Entry) (n : NodeValue) (items : List Entry)
    → server n items ≡ g.server n.me
    → saves (g.server n.me).held (g.server n.me).saved ≡ saves_log n
saves_same g n items same = ap (λ (s : Server Entry). saves s.held s.saved) (sym same)
    ∙ saves_with n.plain.held items n.mark.saved

-- ---- its calls

save_last : (changes : List Change) (mark : MarkFields)
    → MarkLast (map Makes changes ++ Syncs ∷ Writes mark ∷ [])
save_last [] mark = refl
save_last (x ∷ changes) mark = save_last changes mark

-- those of the run's, where it saves
power_calls : (g : Group Entry) (n : NodeValue) (items : List Entry) (log : LogValue)
    → server n items ≡ g.server n.me → saves_log n ≡ true
    → AreNumberedAfter log.base log.records → saved_entries log ≡ saved_log n
    → OneForOne IsCallOf (save_calls log (saving_mark n)) (calls_at spellings g n.me (Does Power))
power_calls g n items log same does follow entries =
    let s = g.server n.me in
    subst (λ (cs : List DiskCall). OneForOne IsCallOf (save_calls log (saving_mark n)) cs)
    (sym (steps_make_calls spellings g n.me).power)
    (saves_are_calls spellings (list_of g n.me) s log (saving_mark n)
    (saves_same g n items same ∙ does) follow
    (entries ∙ ap (λ (x : Server Entry). let v : Saved Entry = record {
      base = x.base;
      cp = x.cp;
      items = x.items;
    } in v) same))

-- and else none
power_none : (g : Group Entry) (n : NodeValue) (items : List Entry)
    → server n items ≡ g.server n.me → saves_log n ≡ false
    → calls_at spellings g n.me (Does Power) ≡ []
power_none g n items same not_so =
    let s = g.server n.me in
    (steps_make_calls spellings g n.me).power
    ∙ if_not (saves s.held s.saved) (map Changing
    (saved_puts spellings (list_of g n.me) s.base s.items) ++ Syncing ∷ Marking ∷ []) []
    (saves_same g n items same ∙ not_so)

first_saved : (g : Group Entry) (n : NodeValue) (items : List Entry) (b : Bool)
    (old left : Option Moments) → saves_log n ≡ b → server n items ≡ g.server n.me
    → Powered n old left → Called n.mark (calls_at spellings g n.me (Does Power)) old left
first_saved g n items true old left e same p =
    let at = p.moments e in
    let part = parts_are_saves at.log (saving_mark n) old left at.part in
    record {
      calls = save_calls at.log (saving_mark n);
      one = power_calls g n items at.log same e at.numbered at.entries;
      last = save_last (puts_of at.log.records) (saving_mark n);
      kept = inl (unsaved n e);
      many = part.0;
      made = part.1;
    }
first_saved g n items false old left e same p =
    (no_calls n.mark _ old left (power_none g n items same e) (p.kept e)).first

all_saved : (g : Group Entry) (n : NodeValue) (items : List Entry) (b : Bool)
    (old left : Option Moments) → saves_log n ≡ b → server n items ≡ g.server n.me
    → PoweredWell n old left
    → CalledAll n.mark (calls_at spellings g n.me (Does Power)) old left
all_saved g n items true old left e same p =
    let sv = p.saved e in
    let calls = save_calls sv.log (saving_mark n) in
    record {
      first = record {
        calls = calls;
        one = power_calls g n items sv.log same e sv.numbered sv.entries;
        last = save_last (puts_of sv.log.records) (saving_mark n);
        kept = inl (unsaved n e);
        many = length calls;
        made = sv.disk ∙ sym (saves_are_told sv.log (saving_mark n) old)
            ∙ ap (λ (cs : List StoreCall). told_after cs old)
            (sym (take_all (length calls) calls (omega arith)));
      };
      all = omega arith;
    }
all_saved g n items false old left e same p =
    no_calls n.mark _ old left (power_none g n items same e) (p.powered.kept e)

-- ---- the disk of a saved log

written_last : (mark : MarkFields) (told : Option Moments) (left : Moments)
    → Some left ≡ after_step (with_mark mark) told → left.now.mark ≡ Some mark
written_last mark None left e = cc
written_last mark (Some h) left e = ap (λ (d : ToldDisk). d.mark) (now_at left _ e)

-- its records are there, and all is synced
saved_on : (n : NodeValue) (old left : Moments) (at : SavesAtOnce n (Some old) (Some left))
    → old.now.mark ≡ Some n.mark → n.mark.saved ≡ None → left.now.mark ≡ Some (saving_mark n)
    → SavedOn at.log left.now
saved_on n old left at has none marked =
    by (at.moments old refl (subst IsUnsaved (sym has) none)).now
  where
    by : IsUnsavedOrSaved at.log left.now → SavedOn at.log left.now
    by (inl un) =
        let not : IsUnsaved (Some (saving_mark n)) = subst IsUnsaved marked un in absurd cc
    by (inr saved) = saved

saved_records : (n : NodeValue) (old left : Moments) (at : SavesAtOnce n (Some old) (Some left))
    → SavedOn at.log left.now → (saved : List RecordFields) → n.records ≡ saved
    → length n.plain.items ≡ length saved
    → IfSome (saving_mark n).saved (SavesRecords saved left.now)
saved_records n old left at on saved same long = record {
  top = ap (λ (m : ℕ). n.plain.base + m) long;
  synced = on.synced;
  held = subst (λ (b : ℕ). HoldRecords room (reads left.now) b saved)
      (ap (λ (v : Saved Entry). v.base) at.entries)
      (subst (λ (rs : List RecordFields). HoldRecords room (reads left.now) at.log.base rs)
      (at.records ∙ same) on.held);
}

-- ---- the host afterwards

-- the entries of its records
entries_are : (n : NodeValue) (log : LogValue) → saved_entries log ≡ saved_log n
    → log.records ≡ n.records → map entry_of n.records ≡ n.plain.items
entries_are n log entries records =
    ap (λ (rs : List RecordFields). map entry_of rs) (sym records)
    ∙ ap (λ (v : Saved Entry). v.items) entries

saving_lb : (q : Place) (s : Server Entry) (saved : Option (Saved Entry)) → is_p2 q ≡ true
    → (saving q s saved).lb ≡ s.lb
saving_lb q s None two = by_if (λ (x : Server Entry). x.lb ≡ s.lb) (is_log s.held) _ s
    (λ held. if_is (is_p2 q) s.lb s.ap two) (λ none. refl)
saving_lb q s (Some v) two = refl

base_saved : (n : NodeValue) (clock : ℕ) (items : List Entry) (s : Server Entry)
    → server n items ≡ s
    → mark_with n.plain.items (saving_mark n) ≡ mark_of (act n.me clock s Saving)
    → s.held ≡ Log → (is_p2 n.me ≡ true → s.held ≡ Log → s.lb ≡ s.base)
    → HasBase n.me (saving_mark n)
base_saved n clock items s same machine held base = λ two.
    let low : n.plain.ap ≡ (saving n.me s s.saved).lb = ap (λ (m : Mark Entry). m.lb) machine in
    ap (λ (x : Server Entry). x.base) same ∙ sym (base two held)
    ∙ sym (saving_lb n.me s s.saved two) ∙ sym low

-- it saved its log
has_saved : (g : Group Entry) (k : Stock) (saved : List RecordFields) (r : Disk) (n : NodeValue)
    (old left : Moments) → IsHostAt (g.server n.me) k saved r n.me (Some n) old.now
    → CanFail g n.me r → PoweredWell n (Some old) (Some left) → saves_log n ≡ true
    → HasMark (down (mark_of (saving n.me (g.server n.me) (g.server n.me).saved)))
    (saved_after (g.server n.me) k saved) n.me left.now
has_saved g k saved r n old left h can p does =
    let q = n.me in
    let s = g.server q in
    let items = map entry_of saved in
    let same : server n items ≡ s = h.node.server in
    let sv = p.saved does in
    let at = p.powered.moments does in
    let saves_too = saves_same g n items same ∙ does in
    let after = saved_after s k saved in
    let records : n.records ≡ after = ap (λ (x : Stock). x.log) h.node.stock
    ∙ sym (if_is (saves s.held s.saved) k.log saved saves_too) in
    let entries = entries_are n sv.log sv.entries sv.records in
    let written = written_last (saving_mark n) _ left sv.disk in
    let machine = sym (if_is (saves_log n) (mark_with n.plain.items (saving_mark n))
    (mark_with items n.mark) does) ∙ p.powered.machine items (g.clock q)
    ∙ ap (λ (x : Server Entry). mark_of (act q (g.clock q) x Saving)) same in
    record {
      mark = saving_mark n;
      written = written;
      machine = ap (λ (es : List Entry). mark_with es (saving_mark n))
          (ap (λ (rs : List RecordFields). map entry_of rs) (sym records) ∙ entries) ∙ machine;
      saves = saved_records n old left at
          (saved_on n old left at h.node.mark (unsaved n does) written) after records
          (ap (λ (es : List Entry). length es) (sym entries) ∙ length-map n.records entry_of
          ∙ ap (λ (rs : List RecordFields). length rs) records);
      base = base_saved n (g.clock q) items s same machine (log_there s.held s.saved saves_too)
          can.base;
    }

-- it has nothing to save
has_kept : (g : Group Entry) (k : Stock) (saved : List RecordFields) (r : Disk) (n : NodeValue)
    (old left : Moments) → IsHostAt (g.server n.me) k saved r n.me (Some n) old.now
    → PoweredWell n (Some old) (Some left) → saves_log n ≡ false
    → HasMark (down (mark_of (saving n.me (g.server n.me) (g.server n.me).saved)))
    (saved_after (g.server n.me) k saved) n.me left.now
has_kept g k saved r n old left h p not_so =
    let q = n.me in
    let s = g.server q in
    let items = map entry_of saved in
    let same : server n items ≡ s = h.node.server in
    let saves_none = saves_same g n items same ∙ not_so in
    let stays : left.now ≡ old.now = now_at left old (p.powered.kept not_so) in
    let machine = sym (if_not (saves_log n) (mark_with n.plain.items (saving_mark n))
    (mark_with items n.mark) not_so) ∙ p.powered.machine items (g.clock q)
    ∙ ap (λ (x : Server Entry). mark_of (act q (g.clock q) x Saving)) same in
    subst (λ (rs : List RecordFields).
    HasMark (down (mark_of (saving q s s.saved))) rs q left.now)
    (sym (if_not (saves s.held s.saved) k.log saved saves_none))
    (record {
      mark = n.mark;
      written = ap (λ (d : ToldDisk). d.mark) stays ∙ h.node.mark;
      machine = machine;
      saves = subst (λ (d : ToldDisk). IfSome n.mark.saved (SavesRecords saved d)) (sym stays)
          (node_saves s k saved r n old.now h);
      base = node_base s k saved r n old.now h;
    })

has_after : (g : Group Entry) (k : Stock) (saved : List RecordFields) (r : Disk) (n : NodeValue)
    (old left : Moments) (b : Bool) → saves_log n ≡ b
    → IsHostAt (g.server n.me) k saved r n.me (Some n) old.now
    → CanFail g n.me r → PoweredWell n (Some old) (Some left)
    → HasMark (down (mark_of (saving n.me (g.server n.me) (g.server n.me).saved)))
    (saved_after (g.server n.me) k saved) n.me left.now
has_after g k saved r n old left true e h can p = has_saved g k saved r n old left h can p e
has_after g k saved r n old left false e h can p = has_kept g k saved r n old left h p e

-- ---- a power failure, whole or stopped

-- of a node, if there is one, at this place, whatever the group
abbrev pub FailsFrom : (q : Place) → Option NodeValue → ToldDisk → (new : HostValue)
    → (stop : Option Stop) → Type 0
FailsFrom q o d new stop = (g : Group Entry) (most : Option ℕ) (pick : Pick) (k : Stock)
    (saved : List RecordFields) (r : Disk) → IsHostAt (g.server q) k saved r q o d
    → (g.server q).up ≡ true → IsStop stop most pick → CanFail g q r
    → Fails g most pick q k saved r new

-- it is one of a host that has that node and that disk
pub host_fails : (old new : HostValue) (q : Place) (o : Option NodeValue) (d : ToldDisk)
    (stop : Option Stop) → Holds old q o d → FailsFrom q o d new stop → HostFails old new stop
host_fails old new q o d stop holds fails =
    subst (λ (x : Place). FailsFrom x old.node (disk_of old) new stop) (sym holds.me)
    (subst (λ (x : Option NodeValue). FailsFrom q x (disk_of old) new stop) (sym holds.node)
    (subst (λ (x : ToldDisk). FailsFrom q o x new stop) (sym holds.disk) fails))

whole_fails : (g : Group Entry) (most : Option ℕ) (pick : Pick) (k : Stock)
    (saved : List RecordFields) (r : Disk) (n : NodeValue) (old left : Moments)
    (host : HostValue) → Holds host n.me None left.now
    → IsHostAt (g.server n.me) k saved r n.me (Some n) old.now → CanFail g n.me r
    → PoweredWell n (Some old) (Some left)
    → (is_whole spellings g most n.me (Does Power) ≡ true)
    × IsDiskOf left.now (disk_after spellings g most pick n.me (Does Power) r)
    → Fails g most pick n.me k saved r host
whole_fails g most pick k saved r n old left host holds h can p passed = record {
  whole = λ whole. host_from _ no_stock (saved_after (g.server n.me) k saved) _ host n.me None
      left.now holds (record {
        node = record { server = refl; stock = refl };
        mark = has_after g k saved r n old left (saves_log n) refl h can p;
        disk = passed.1;
      });
  stopped = λ cut. absurd (true≢false (sym passed.0 ∙ cut));
}

-- without a stop
save_from : (n : NodeValue) (old left : Moments) (host : HostValue)
    → Holds host n.me None left.now → PoweredWell n (Some old) (Some left)
    → FailsFrom n.me (Some n) old.now host None
save_from n old left host holds p g most pick k saved r h up stop can =
    subst (λ (m : Option ℕ). Fails g m pick n.me k saved r host) (sym stop)
    (whole_fails g None pick k saved r n old left host holds h can p (
      refl,
      step_sound spellings g pick n.me (Does Power) n.mark old left r h.disk can.few refl
          (all_saved g n (map entry_of saved) (saves_log n) (Some old) (Some left) refl
          h.node.server p),
    ))

pub save_fails : (before after : HostValue) (n : NodeValue) (old left : Moments)
    → Holds before n.me (Some n) old.now → Holds after n.me None left.now
    → PoweredWell n (Some old) (Some left) → HostFails before after None
save_fails before after n old left had has p =
    host_fails before after n.me (Some n) old.now None had (save_from n old left after has p)

-- with one that doesn't come
passed_from : (n : NodeValue) (stop : Stop) (left : ℕ) (d : ToldDisk) (stands : Moments)
    (host : HostValue) → Holds host n.me None stands.now → stop.calls ≤ stop_moment
    → left + length stands.past ≤ stop_moment
    → PoweredWell n (Some (first_told stop.calls d)) (Some (numbered left stands))
    → FailsFrom n.me (Some n) d host (Some stop)
passed_from n stop left d stands host holds le within p g most pick k saved r h up by can =
    let old = first_told stop.calls d in
    let to = numbered left stands in
    subst (λ (m : Option ℕ). Fails g m pick n.me k saved r host) (sym by.0)
    (whole_fails g (Some stop.calls) pick k saved r n old to host holds h can p
    (step_passes spellings g stop.calls left pick n.me (Does Power) n.mark d stands r le within
    h.disk can.few refl
    (all_saved g n (map entry_of saved) (saves_log n) (Some old) (Some to) refl h.node.server p)))

pub passed_fails : (before after : HostValue) (n : NodeValue) (stop : Stop) (left : ℕ)
    (d : ToldDisk) (stands : Moments) → Holds before n.me (Some n) d
    → Holds after n.me None stands.now → stop.calls ≤ stop_moment
    → left + length stands.past ≤ stop_moment
    → PoweredWell n (Some (first_told stop.calls d)) (Some (numbered left stands))
    → HostFails before after (Some stop)
passed_fails before after n stop left d stands had has le within p =
    host_fails before after n.me (Some n) d (Some stop) had
    (passed_from n stop left d stands after has le within p)

-- with one that comes
stopped_from : (n : NodeValue) (stop : Stop) (d e : ToldDisk) (stands : Moments)
    (host : HostValue) → Holds host n.me None (told_crashed_by stop.pick stands.now)
    → stop.calls ≤ stop_moment → length stands.past ≤ stop_moment
    → Powered n (Some (first_told stop.calls d)) (Some (then_disk e (numbered 0 stands)))
    → FailsFrom n.me (Some n) d host (Some stop)
stopped_from n stop d e stands host holds le within p g most pick k saved r h up by can =
    let q = n.me in
    let s = g.server q in
    let old = first_told stop.calls d in
    let to = Some (then_disk e (numbered 0 stands)) in
    let calls = first_saved g n (map entry_of saved) (saves_log n) (Some old) to refl
    h.node.server p in
    let cut = step_cut spellings g stop.calls pick q (Does Power) n.mark d e stands r le within
    h.disk can.few calls in
    let left = disk_after spellings g (Some stop.calls) pick q (Does Power) r in
    subst (λ (m : Option ℕ). Fails g m pick q k saved r host) (sym by.0) (record {
      whole = λ whole. absurd (true≢false (sym whole ∙ cut.cut));
      stopped = λ _. fallen s saved q stop.pick d stands.now left h.mark
          (subst (λ (m : MarkFields). KeepsLog m d stands.now)
          (sym (node_mark s k saved r n d h)) cut.kept)
          (subst (λ (p : Pick). IsDiskOf (told_crashed_by p stands.now) left) by.1 cut.disk)
          host holds;
    })

pub stopped_fails : (before after : HostValue) (n : NodeValue) (stop : Stop) (d e : ToldDisk)
    (stands : Moments) → Holds before n.me (Some n) d
    → Holds after n.me None (told_crashed_by stop.pick stands.now) → stop.calls ≤ stop_moment
    → length stands.past ≤ stop_moment
    → Powered n (Some (first_told stop.calls d)) (Some (then_disk e (numbered 0 stands)))
    → HostFails before after (Some stop)
stopped_fails before after n stop d e stands had has le within p =
    host_fails before after n.me (Some n) d (Some stop) had
    (stopped_from n stop d e stands after has le within p)
