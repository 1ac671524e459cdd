-- A host after it fell.
use Rattle.std.proofs.Common.{◌≡◌, ◌⊎◌, ◌+◌, ℕ, List, [], Option, None, refl, sym, ap, subst, ◌∙◌, inl, inr}
use Rattle.std.specs.Prelude.{IfSome, slice_index_or}
use Rattle.event_record.specs.declared.record.RecordFields.{RecordFields}
use Rattle.file_tree.specs.Book.{Entry}
use Rattle.fuzzy_cells.specs.Disk.{Disk}
use Rattle.group_trace.specs.DiskRun.{calls_at, disk_after}
use Rattle.group_trace.specs.DiskCalls.{DiskCall, after_calls}
use Rattle.group_trace.specs.Picks.{crashed_by}
use Rattle.world_host.proofs.Marks.{saves_if, saves_none}
use Rattle.world_host.proofs.Stops.{KeepsLog}
use Rattle.world_host.proofs.Wholes.{Holds, host_from}
use Rattle.world_rules.specs.Host.{HasMark, HostValue, SavesRecords, disk_of, no_stock}
use Rattle.world_rules.specs.Spellings.{spellings}
use Rattle.world_rules.specs.Steps.{Falls, HostFalls}
use Rattle.group_rules.specs.Places.{Place}
use Rattle.group_rules.specs.Effects.{down}
use Rattle.group_rules.specs.State.{Server, mark_of}
use Rattle.group_rules.specs.Step.{Crash, Does}
use Rattle.harp_cells.specs.Effect.{Cells}
use Rattle.harp_cells.specs.declared.cell.Cell.{Cell}
use Rattle.harp_cells.specs.declared.value.Value.{Value}
use Rattle.harp_store.specs.Disk.{Disk as ToldDisk, IsSynced, reads, set_by}
use Rattle.harp_store.specs.Mark.{MarkFields, SavedNumbers}
use Rattle.harp_store.specs.Memory.{crashed_by as told_crashed_by, kept}
use Rattle.harp_types.specs.Picks.{is_kept}
use Rattle.harp_store.specs.declared.layers.Unsynced.{Unsynced}
use Rattle.harp_types.specs.declared.pick.Pick.{Pick}
use Rattle.power_save.specs.Saved.{HasRecord, HoldRecords, cell_in}
use Rattle.store_laws.proofs.Disks.{crashes_follow}
use Rattle.store_laws.proofs.StepCalls.{steps_make_calls}
use Rattle.store_laws.specs.Told.{IsDiskOf}

-- ---- a crash of a disk that is synced

none_kept : (keeps : ℕ → _) (us : List Unsynced) → us ≡ [] → kept keeps 0 us ≡ []
unfolding kept
none_kept keeps us e = ap (kept keeps 0) e

synced_reads : (pick : Pick) (d : ToldDisk) → IsSynced d → (c : Cell)
    → reads (told_crashed_by pick d) c ≡ reads d c
unfolding reads set_by
synced_reads pick d synced c =
    ap (λ (us : List Unsynced). set_by c us (d.synced c))
    (none_kept (is_kept pick) d.unsynced synced)
    ∙ ap (λ (us : List Unsynced). set_by c us (d.synced c)) (sym synced)

same_held : (ring : ℕ) (a b : Cells) (base : ℕ) (records : List RecordFields)
    → ((c : Cell) → b c ≡ a c) → HoldRecords ring a base records
    → HoldRecords ring b base records
same_held ring a b base records same h = λ k d lt. record {
  meant = subst (λ (v : Option Value). HasRecord v (slice_index_or records k d))
      (sym (same (cell_in ring (base + 1 + k)))) (h k d lt).meant;
  its = (h k d lt).its;
}

crashed_saves : (pick : Pick) (saved : List RecordFields) (d : ToldDisk) (v : SavedNumbers)
    → SavesRecords saved d v → SavesRecords saved (told_crashed_by pick d) v
crashed_saves pick saved d v h = record {
  top = h.top;
  synced = refl;
  held = same_held v.ring (reads d) (reads (told_crashed_by pick d)) v.base saved
      (synced_reads pick d h.synced) h.held;
}

-- ---- a host that fell

fallen_saves : (pick : Pick) (saved : List RecordFields) (mark : MarkFields)
    (d e : ToldDisk) → (mark.saved ≡ None) ⊎ (e ≡ d) → IfSome mark.saved (SavesRecords saved d)
    → IfSome mark.saved (SavesRecords saved (told_crashed_by pick e))
fallen_saves pick saved mark d e (inl none) h =
    saves_none saved mark (told_crashed_by pick e) none
fallen_saves pick saved mark d e (inr same) h = saves_if saved mark mark d
    (told_crashed_by pick e) (inr (refl, refl))
    (λ v saves. subst (λ (x : ToldDisk). SavesRecords saved (told_crashed_by pick x) v) (sym same)
    (crashed_saves pick saved d v saves)) h

-- its disk keeps the mark, and the saved log by it
pub fallen : (s : Server Entry) (saved : List RecordFields) (q : Place) (pick : Pick)
    (d e : ToldDisk) (left : Disk) → (h : HasMark s saved q d) → KeepsLog h.mark d e
    → IsDiskOf (told_crashed_by pick e) left
    → (host : HostValue) → Holds host q None (told_crashed_by pick e) → Falls s saved left host
fallen s saved q pick d e left h keeps disk host holds =
    host_from (down (mark_of s)) no_stock saved left host q None (told_crashed_by pick e) holds
    (record {
      node = record { server = refl; stock = refl };
      mark = record {
        mark = h.mark;
        written = keeps.mark ∙ h.written;
        machine = h.machine;
        saves = fallen_saves pick saved h.mark d e keeps.log h.saves;
        base = h.base;
      };
      disk = disk;
    })

-- ---- a crash

no_calls : (disk : Disk) (calls : List DiskCall) → calls ≡ [] → after_calls calls disk ≡ disk
unfolding after_calls
no_calls disk calls e = ap (λ (cs : List DiskCall). after_calls cs disk) e

pub crash_falls : (old new : HostValue) (by : Pick)
    → Holds new old.me None (told_crashed_by by (disk_of old)) → HostFalls old new by
crash_falls old new by holds g pick k saved r h same =
    let q = old.me in
    let d = disk_of old in
    let calls = calls_at spellings g q (Does Crash) in
    let none : after_calls calls r ≡ r = no_calls r calls (steps_make_calls spellings g q).crash in
    let left = disk_after spellings g None pick q (Does Crash) r in
    fallen (g.server q) saved q by d d left h.mark (record { mark = refl; log = inr refl })
    (subst (λ (p : Pick). IsDiskOf (told_crashed_by p d) left) same
    (subst (λ (x : Disk). IsDiskOf (told_crashed_by pick d) (crashed_by pick x))
    (sym none) (crashes_follow d r pick h.disk))) new holds
