-- A save of a node over its disk: its calls are those of a run's power failure, whole or cut by a
-- stop.
use Rattle.std.proofs.Common.{◌≡◌, ℕ, ◌+◌, ◌<◌, Bool, true, false, List, [], ◌∷◌, ◌++◌, length, map, take, Option, None, Some, inl, inr, refl, sym, ap, ◌∙◌, subst, arith, true≢false}
use Rattle.std.specs.Prelude.{not, ◌&&◌, option_map}
use Rattle.event_record.specs.Record.{entry_of}
use Rattle.file_tree.specs.Book.{Entry}
use Rattle.group_rules.specs.Places.{Place}
use Rattle.group_rules.specs.State.{Empty, Group, Held, Log, Lost, Saved, Server}
use Rattle.group_rules.specs.Step.{Does, Power, list_of, saves}
use Rattle.group_trace.specs.DiskRun.{calls_at, disk_after, is_crash}
use Rattle.harp_cells.specs.declared.change.Change.{Change}
use Rattle.harp_store.specs.Disk.{Disk as ToldDisk, Moments, Now, after_changes, after_step, reads, synced_whole, then_disk, with_mark}
use Rattle.harp_store.specs.Mark.{MarkFields, SavedNumbers}
use Rattle.harp_store.specs.Memory.{crashed_by}
use Rattle.harp_types.specs.Limits.{log_room}
use Rattle.harp_types.specs.declared.pick.Pick.{Pick}
use Rattle.node.specs.Node.{NodeValue, saved_with, server}
use Rattle.node.specs.Power.{SavesAtOnce, saved_log, saves_log, saving_mark}
use Rattle.power_save.specs.Entries.{HasSaved}
use Rattle.power_save.specs.Saved.{HoldRecords, IsUnsaved, IsUnsavedOrSaved, SavedOn, puts_of}
use Rattle.store_laws.proofs.Calls.{saves_are_calls, saves_are_told, steps_follow}
use Rattle.store_laws.proofs.StepCalls.{steps_make_calls}
use Rattle.store_laws.specs.Calls.{IsCallOf, Makes, StoreCall, Syncs, Writes, called, save_calls, told_after}
use Rattle.store_laws.specs.Told.{IsDiskOf, OneForOne}
use Rattle.world_host.proofs.Falls.{fallen}
use Rattle.world_host.proofs.Saves.{FailsFrom}
use Rattle.world_host.proofs.Stops.{KeepsLog, MarkLast, cut_is, keeps_log, now_at}
use Rattle.world_host.proofs.Wholes.{Holds, node_mark}
use Rattle.world_rules.specs.Host.{HostValue, disk_of}
use Rattle.world_rules.specs.Spellings.{spellings}
use Rattle.world_rules.specs.Steps.{Fails, HostFails}
use Rattle.world_rules.specs.declared.stop.Stop.{Stop}
use Rattle.running_laws.proofs.Listed.{IsListed, changed_listed, marked_listed, synced_listed, told_listed}
use Rattle.running_laws.proofs.Stopped.{one_long}

-- ---- whether it saves

saves_with : (held : Held) (items : List Entry) (numbers : Option SavedNumbers)
    → saves held (option_map (saved_with items) numbers)
    ≡ saves held (option_map (saved_with []) numbers)
saves_with Log items None = refl
saves_with Log items (Some v) = refl
saves_with Lost items numbers = refl
saves_with Empty items numbers = refl

none_there : (held : Held) (numbers : Option SavedNumbers)
    → saves held (option_map (saved_with []) numbers) ≡ true → numbers ≡ None
none_there Log None e = refl
none_there Log (Some v) e = absurd (true≢false (sym e))
none_there Lost numbers e = absurd (true≢false (sym e))
none_there Empty numbers e = absurd (true≢false (sym e))

-- ---- its calls

-- those of a save of this log
abbrev pub calls_of : (n : NodeValue) (old new : Option Moments) → SavesAtOnce n old new
    → List StoreCall
calls_of n old new at = save_calls at.log (saving_mark n)

save_last : (changes : List Change) (mark : MarkFields)
    → MarkLast (map Makes changes ++ Syncs ∷ Writes mark ∷ [])
save_last [] mark = refl
save_last (x ∷ changes) mark = save_last changes mark

-- the run's power failure makes them
run_calls : (g : Group Entry) (n : NodeValue) (items : List Entry) (old new : Option Moments)
    (at : SavesAtOnce n old new) → server n items ≡ g.server n.me → saves_log n ≡ true
    → OneForOne IsCallOf (calls_of n old new at) (calls_at spellings g n.me (Does Power))
run_calls g n items old new at same does =
    let s = g.server n.me in
    subst (OneForOne IsCallOf (calls_of n old new at))
    (sym (steps_make_calls spellings g n.me).power)
    (saves_are_calls spellings (list_of g n.me) s at.log (saving_mark n)
    (ap (λ (x : Server Entry). saves x.held x.saved) (sym same)
    ∙ saves_with n.plain.held items n.mark.saved ∙ does) at.numbered
    (at.entries ∙ ap (λ (x : Server Entry). let v : Saved Entry = record {
      base = x.base;
      cp = x.cp;
      items = x.items;
    } in v) same))

-- ---- the disk after some of them

called_listed : (c : StoreCall) (d : ToldDisk) → IsListed d → IsListed (called c d)
called_listed (Makes x) d h = changed_listed x d h
called_listed Syncs d h = synced_listed d h
called_listed (Writes mark) d h = marked_listed mark d h

calls_listed : (cs : List StoreCall) (m : Moments) → IsListed m.now
    → Now IsListed (told_after cs (Some m))
unfolding told_after
calls_listed [] m h = h
calls_listed (c ∷ cs) m h =
    calls_listed cs (then_disk (called c m.now) m) (called_listed c m.now h)

-- it is listed
pub first_listed : (cs : List StoreCall) (old amid : Moments)
    → Some amid ≡ told_after cs (Some old) → IsListed old.now → IsListed amid.now
first_listed cs old amid made h = told_listed (told_after cs (Some old)) amid made
    (calls_listed cs old h)

-- ---- all of them

-- a log of the node was put, synced, and then the mark was written
abbrev pub IsAllSaved : (n : NodeValue) (old new : Option Moments) → SavesAtOnce n old new → Type 0
IsAllSaved n old new at = new ≡ after_step (with_mark (saving_mark n))
    (after_step synced_whole (after_changes (puts_of at.log.records) old))

pub all_made : (n : NodeValue) (old amid : Moments) (at : SavesAtOnce n (Some old) (Some amid))
    → Some amid ≡ told_after (calls_of n (Some old) (Some amid) at) (Some old)
    → IsAllSaved n (Some old) (Some amid) at
all_made n old amid at made = made ∙ saves_are_told at.log (saving_mark n) (Some old)

mark_written : (mark : MarkFields) (told : Option Moments) (left : Moments)
    → Some left ≡ after_step (with_mark mark) told → left.now.mark ≡ Some mark
mark_written mark None left e = cc
mark_written mark (Some h) left e = ap (λ (d : ToldDisk). d.mark) (now_at left _ e)

-- the whole log stands there
pub all_saved : (n : NodeValue) (old amid : Moments) (at : SavesAtOnce n (Some old) (Some amid))
    → saves_log n ≡ true → old.now.mark ≡ Some n.mark → IsAllSaved n (Some old) (Some amid) at
    → HasSaved (saved_log n) amid.now
all_saved n old amid at does has made =
    let marked = mark_written (saving_mark n) _ amid made in
    let none = none_there n.plain.held n.mark.saved does in
    by marked (at.moments old refl (subst IsUnsaved (sym has) none)).now
  where
    stands : amid.now.mark ≡ Some (saving_mark n) → SavedOn at.log amid.now
        → HasSaved (saved_log n) amid.now
    stands marked on = record {
      synced = on.synced;
      mark = saving_mark n;
      marked = marked;
      held = record {
        ring = log_room;
        numbers = refl;
        records = at.log.records;
        held = subst (λ (b : ℕ). HoldRecords log_room (reads amid.now) b at.log.records)
            (ap (λ (v : Saved Entry). v.base) at.entries) on.held;
        entries = ap (λ (v : Saved Entry). v.items) at.entries;
      };
    }

    by : amid.now.mark ≡ Some (saving_mark n) → IsUnsavedOrSaved at.log amid.now
        → HasSaved (saved_log n) amid.now
    by marked (inl un) =
        let not_so : IsUnsaved (Some (saving_mark n)) = subst IsUnsaved marked un in absurd cc
    by marked (inr on) = stands marked on

-- ---- a stop amid them

-- fewer calls were made than the save makes, and a pick left this of them
pub record IsSaveCut (n : NodeValue) (stop : Stop) (old amid : Moments) (host : HostValue)
    : Type 0 where
  pub does : saves_log n ≡ true
  pub at : SavesAtOnce n (Some old) (Some amid)
  pub less : stop.calls < length (calls_of n (Some old) (Some amid) at)
  pub made : Some amid
      ≡ told_after (take stop.calls (calls_of n (Some old) (Some amid) at)) (Some old)
  pub holds : Holds host n.me None (crashed_by stop.pick amid.now)

cut_from : (n : NodeValue) (stop : Stop) (old amid : Moments) (host : HostValue)
    → IsSaveCut n stop old amid host → FailsFrom n.me (Some n) old.now host (Some stop)
cut_from n stop old amid host s g most pick k saved r h up by can =
    let q = n.me in
    let calls = calls_of n (Some old) (Some amid) s.at in
    let one = run_calls g n (map entry_of saved) (Some old) (Some amid) s.at h.node.server s.does in
    let long = one_long calls (calls_at spellings g q (Does Power)) one in
    let cut = cut_is spellings g q (Does Power) stop.calls (omega (arith, s.less, long)) in
    let left = disk_after spellings g (Some stop.calls) pick q (Does Power) r in
    let kept = keeps_log n.mark calls stop.calls old amid
    (save_last (puts_of s.at.log.records) (saving_mark n))
    (inl (none_there n.plain.held n.mark.saved s.does)) s.less (sym s.made) in
    let told = steps_follow spellings g (Some stop.calls) pick q (Does Power) calls (Some old) r
    h.disk one can.few in
    let disk = subst (λ (t : Option Moments). Now (λ x. IsDiskOf (crashed_by pick x) left) t)
    (sym s.made) (told.crashed (ap (λ (b : Bool). b && not (is_crash (Does Power))) cut)) in
    subst (λ (m : Option ℕ). Fails g m pick q k saved r host) (sym by.0) (record {
      whole = λ whole. absurd (true≢false (sym whole ∙ cut));
      stopped = λ _. fallen (g.server q) saved q stop.pick old.now amid.now left h.mark
          (subst (λ (m : MarkFields). KeepsLog m old.now amid.now)
          (sym (node_mark (g.server q) k saved r n old.now h)) kept)
          (subst (λ (p : Pick). IsDiskOf (crashed_by p amid.now) left) by.1 disk) host s.holds;
    })

-- A SAVE THAT IS CUT is a power failure that its stop cuts
pub cut_fails : (before after : HostValue) (n : NodeValue) (stop : Stop) (old amid : Moments)
    → Holds before n.me (Some n) old.now → IsSaveCut n stop old amid after
    → HostFails before after (Some stop)
cut_fails before after n stop old amid had s =
    subst (λ (x : Place). FailsFrom x before.node (disk_of before) after (Some stop)) (sym had.me)
    (subst (λ (x : Option NodeValue). FailsFrom n.me x (disk_of before) after (Some stop))
    (sym had.node)
    (subst (λ (x : ToldDisk). FailsFrom n.me (Some n) x after (Some stop)) (sym had.disk)
    (cut_from n stop old amid after s)))
