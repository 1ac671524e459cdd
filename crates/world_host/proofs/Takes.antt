-- A step of a host, whole or stopped.
use Rattle.std.proofs.Common.{◌≡◌, ◌⊎◌, ℕ, ◌+◌, ◌≤◌, true, false, List, length, Option, Some, None, Result, Ok, Err, refl, sym, ap, subst, ◌∙◌, inl, inr, true≢false}
use Rattle.std.specs.Prelude.{OnErr, OnOk, is_some}
use Rattle.event_record.specs.declared.record.RecordFields.{RecordFields}
use Rattle.file_tree.specs.Book.{Entry}
use Rattle.fuzzy_cells.specs.Disk.{Disk}
use Rattle.group_trace.specs.DiskRun.{calls_at, disk_after, is_whole}
use Rattle.world_host.proofs.Falls.{fallen}
use Rattle.world_host.proofs.Givens.{is_given, is_no_crash}
use Rattle.world_host.proofs.NodeCalls.{part_called, plain_moves, whole_called}
use Rattle.world_host.proofs.Stops.{Called, CalledAll, KeepsLog, first_told, step_cut, step_passes, step_sound}
use Rattle.world_host.proofs.Wholes.{Holds, Stepped, can_call, disk_begun, node_mark, part_at, taken_whole, written_at}
use Rattle.world_rules.specs.Host.{HostValue, IsHostAt, disk_of}
use Rattle.world_rules.specs.Spellings.{spellings}
use Rattle.world_rules.specs.Steps.{CanTakeAt, HostTakes, IsStop, Takes}
use Rattle.world_rules.specs.declared.stop.Stop.{Stop}
use Rattle.group_rules.specs.Places.{Place}
use Rattle.group_rules.specs.Effects.{down}
use Rattle.group_rules.specs.State.{Group, Server, mark_of}
use Rattle.group_rules.specs.Step.{Input as Begins}
use Rattle.harp_store.specs.Disk.{Disk as ToldDisk, Moments, then_disk}
use Rattle.harp_store.specs.Mark.{MarkFields}
use Rattle.harp_store.specs.Memory.{crashed_by as told_crashed_by}
use Rattle.harp_types.specs.declared.pick.Pick.{Pick}
use Rattle.node.specs.Input.{input_of}
use Rattle.node.specs.Node.{NodeValue}
use Rattle.node.specs.Stock.{Stock}
use Rattle.node.specs.Stored.{LeavesBy, disk_by}
use Rattle.node.specs.Taking.{stepped}
use Rattle.node.specs.declared.input.Input.{Input}
use Rattle.node_outputs.specs.declared.outputs.Outputs.{Outputs}
use Rattle.harp_store.specs.Stopping.{made, numbered, stop_moment, told_by}
use Rattle.harp_store.specs.declared.attempt.Attempt.{Attempt}
use Rattle.store_laws.specs.Told.{IsDiskOf}

-- ---- a step of a node over a disk

-- a step of a node, if there is one, at this place, whatever the group
abbrev pub TakesFrom : (q : Place) → Option NodeValue → ToldDisk → (new : HostValue)
    → (given : Input) → (now : ℕ) → (stop : Option Stop) → Option Outputs → Type 0
TakesFrom q o d new given now stop result = (g : Group Entry) (most : Option ℕ) (pick : Pick)
    (i : Begins) (k : Stock) (saved : List RecordFields) (r : Disk)
    → IsHostAt (g.server q) k saved r q o d → (g.server q).up ≡ true → g.clock q ≡ now
    → IsStop stop most pick → CanTakeAt g q given i r o d
    → Takes g most pick q given i k saved r new result

-- it is one of a host that has that node and that disk
pub host_takes : (old new : HostValue) (q : Place) (o : Option NodeValue) (d : ToldDisk)
    (given : Input) (now : ℕ) (stop : Option Stop) (result : Option Outputs) → Holds old q o d
    → TakesFrom q o d new given now stop result → HostTakes old new given now stop result
host_takes old new q o d given now stop result holds takes =
    subst (λ (x : Place). TakesFrom x old.node (disk_of old) new given now stop result)
    (sym holds.me)
    (subst (λ (x : Option NodeValue). TakesFrom q x (disk_of old) new given now stop result)
    (sym holds.node)
    (subst (λ (x : ToldDisk). TakesFrom q o x new given now stop result) (sym holds.disk) takes))

-- ---- a whole step

whole_takes : (g : Group Entry) (most : Option ℕ) (pick : Pick) (i : Begins) (given : Input)
    (k : Stock) (saved : List RecordFields) (r : Disk) (n new : NodeValue) (old left : Moments)
    (outs : Outputs) (host : HostValue) → Holds host n.me (Some new) left.now
    → IsHostAt (g.server n.me) k saved r n.me (Some n) old.now
    → CanTakeAt g n.me given i r (Some n) old.now
    → Stepped (g.clock n.me) given n new (Some old) (Some left) outs
    → (is_whole spellings g most n.me i ≡ true)
    × IsDiskOf left.now (disk_after spellings g most pick n.me i r)
    → Takes g most pick n.me given i k saved r host (Some outs)
whole_takes g most pick i given k saved r n new old left outs host holds h can st passed = record {
  whole = λ whole. (
    outs,
    refl,
    taken_whole g given i k saved r (disk_after spellings g most pick n.me i r) n new old left
        outs host holds h can st passed.1,
  );
  stopped = λ cut. absurd (true≢false (sym passed.0 ∙ cut));
}

-- it made all calls
all_called : (g : Group Entry) (i : Begins) (given : Input) (k : Stock)
    (saved : List RecordFields) (r : Disk) (n new : NodeValue) (old left : Moments)
    (outs : Outputs) → IsHostAt (g.server n.me) k saved r n.me (Some n) old.now
    → CanTakeAt g n.me given i r (Some n) old.now
    → Stepped (g.clock n.me) given n new (Some old) (Some left) outs
    → CalledAll n.mark (calls_at spellings g n.me i) (Some old) (Some left)
all_called g i given k saved r n new old left outs h can st =
    whole_called g n i (Some old) (Some left) (can_call g given i k saved r n old.now h can)
    (is_given given i can.begins)
    (written_at g given i n new (Some old) (Some left) outs can.begins st)

-- without a stop
run_from : (given : Input) (now : ℕ) (n new : NodeValue) (old left : Moments) (outs : Outputs)
    (host : HostValue) → Holds host n.me (Some new) left.now
    → Stepped now given n new (Some old) (Some left) outs
    → TakesFrom n.me (Some n) old.now host given now None (Some outs)
run_from given now n new old left outs host holds st g most pick i k saved r h up clock stop can =
    let s = subst (λ (t : ℕ). Stepped t given n new (Some old) (Some left) outs) (sym clock) st in
    subst (λ (m : Option ℕ). Takes g m pick n.me given i k saved r host (Some outs)) (sym stop)
    (whole_takes g None pick i given k saved r n new old left outs host holds h can s (
      refl,
      step_sound spellings g pick n.me i n.mark old left r h.disk can.few
          (is_no_crash given i can.begins)
          (all_called g i given k saved r n new old left outs h can s),
    ))

pub run_takes : (before after : HostValue) (given : Input) (now : ℕ) (n new : NodeValue)
    (old left : Moments) (outs : Outputs) → Holds before n.me (Some n) old.now
    → Holds after n.me (Some new) left.now → Stepped now given n new (Some old) (Some left) outs
    → HostTakes before after given now None (Some outs)
run_takes before after given now n new old left outs had has st =
    host_takes before after n.me (Some n) old.now given now None (Some outs) had
    (run_from given now n new old left outs after has st)

-- with one that doesn't come
passed_from : (given : Input) (now : ℕ) (n new : NodeValue) (stop : Stop) (left : ℕ)
    (d : ToldDisk) (stands : Moments) (outs : Outputs) (host : HostValue)
    → Holds host n.me (Some new) stands.now → stop.calls ≤ stop_moment
    → left + length stands.past ≤ stop_moment
    → Stepped now given n new (Some (first_told stop.calls d)) (Some (numbered left stands)) outs
    → TakesFrom n.me (Some n) d host given now (Some stop) (Some outs)
passed_from given now n new stop left d stands outs host holds le within st g most pick i k saved r
    h up clock by can =
    let old = first_told stop.calls d in
    let to = numbered left stands in
    let s = subst (λ (t : ℕ). Stepped t given n new (Some old) (Some to) outs) (sym clock) st in
    subst (λ (m : Option ℕ). Takes g m pick n.me given i k saved r host (Some outs)) (sym by.0)
    (whole_takes g (Some stop.calls) pick i given k saved r n new old to outs host holds h can s
    (step_passes spellings g stop.calls left pick n.me i n.mark d stands r le within h.disk
    can.few (is_no_crash given i can.begins)
    (all_called g i given k saved r n new old to outs h can s)))

pub passed_takes : (before after : HostValue) (given : Input) (now : ℕ) (n new : NodeValue)
    (stop : Stop) (left : ℕ) (d : ToldDisk) (stands : Moments) (outs : Outputs)
    → Holds before n.me (Some n) d → Holds after n.me (Some new) stands.now
    → stop.calls ≤ stop_moment → left + length stands.past ≤ stop_moment
    → Stepped now given n new (Some (first_told stop.calls d)) (Some (numbered left stands)) outs
    → HostTakes before after given now (Some stop) (Some outs)
passed_takes before after given now n new stop left d stands outs had has le within st =
    host_takes before after n.me (Some n) d given now (Some stop) (Some outs) had
    (passed_from given now n new stop left d stands outs after has le within st)

-- ---- a step whose stop comes

-- what a node says of its disk, whether the step went well or not
abbrev pub TellsDisk : (clock : ℕ) → Input → NodeValue → (told left : Option Moments) → Type 0
TellsDisk clock given n told left =
    ((size : List Entry → Entry → ℕ) (list : List Entry) → left ≡ disk_by n
    (stepped size n.me clock list n.plain (input_of given)) (input_of given) told)
    ⊎ ((size : List Entry → Entry → ℕ) (list : List Entry) → LeavesBy n
    (stepped size n.me clock list n.plain (input_of given)) (input_of given) told left)

pub either_way : {A E : Type 0} {P Q : Type 0} (r : Result A E) → OnOk r P → OnErr r Q → P ⊎ Q
either_way (Ok x) h k = inl h
either_way (Err e) h k = inr k

disk_at : (g : Group Entry) (given : Input) (i : Begins) (n : NodeValue)
    (told left : Option Moments) → input_of given ≡ Some i
    → TellsDisk (g.clock n.me) given n told left
    → (left ≡ disk_by n (plain_moves g n i) (Some i) told)
    ⊎ LeavesBy n (plain_moves g n i) (Some i) told left
disk_at g given i n told left begins (inl made) = inl (disk_begun g given i n told left begins made)
disk_at g given i n told left begins (inr part) = inr (part_at g given i n told left begins part)

first_called : (g : Group Entry) (i : Begins) (given : Input) (k : Stock)
    (saved : List RecordFields) (r : Disk) (n : NodeValue) (old : Moments)
    (left : Option Moments) → IsHostAt (g.server n.me) k saved r n.me (Some n) old.now
    → CanTakeAt g n.me given i r (Some n) old.now
    → (left ≡ disk_by n (plain_moves g n i) (Some i) (Some old))
    ⊎ LeavesBy n (plain_moves g n i) (Some i) (Some old) left
    → Called n.mark (calls_at spellings g n.me i) (Some old) left
first_called g i given k saved r n old left h can (inl made) =
    (whole_called g n i (Some old) left (can_call g given i k saved r n old.now h can)
    (is_given given i can.begins) made).first
first_called g i given k saved r n old left h can (inr part) =
    part_called g n i (Some old) left (can_call g given i k saved r n old.now h can)
    (is_given given i can.begins) part

stopped_from : (given : Input) (now : ℕ) (n : NodeValue) (stop : Stop) (d e : ToldDisk)
    (stands : Moments) (host : HostValue)
    → Holds host n.me None (told_crashed_by stop.pick stands.now) → stop.calls ≤ stop_moment
    → length stands.past ≤ stop_moment
    → TellsDisk now given n (Some (first_told stop.calls d))
    (Some (then_disk e (numbered 0 stands)))
    → TakesFrom n.me (Some n) d host given now (Some stop) None
stopped_from given now n stop d e stands host holds le within st g most pick i k saved r h up clock
    by can =
    let q = n.me in
    let s = g.server q in
    let old = first_told stop.calls d in
    let to = Some (then_disk e (numbered 0 stands)) in
    let told = subst (λ (t : ℕ). TellsDisk t given n (Some old) to) (sym clock) st in
    let calls = first_called g i given k saved r n old to h can
    (disk_at g given i n (Some old) to can.begins told) in
    let cut = step_cut spellings g stop.calls pick q i n.mark d e stands r le within h.disk
    can.few calls in
    let left = disk_after spellings g (Some stop.calls) pick q i r in
    subst (λ (m : Option ℕ). Takes g m pick q given i k saved r host None) (sym by.0) (record {
      whole = λ whole. absurd (true≢false (sym whole ∙ cut.cut));
      stopped = λ _. (
        refl,
        fallen s saved q stop.pick d stands.now left h.mark
            (subst (λ (m : MarkFields). KeepsLog m d stands.now)
            (sym (node_mark s k saved r n d h)) cut.kept)
            (subst (λ (p : Pick). IsDiskOf (told_crashed_by p stands.now) left) by.1 cut.disk)
            host holds,
      );
    })

pub stopped_takes : (before after : HostValue) (given : Input) (now : ℕ) (n : NodeValue)
    (stop : Stop) (d e : ToldDisk) (stands : Moments) → Holds before n.me (Some n) d
    → Holds after n.me None (told_crashed_by stop.pick stands.now) → stop.calls ≤ stop_moment
    → length stands.past ≤ stop_moment
    → TellsDisk now given n (Some (first_told stop.calls d))
    (Some (then_disk e (numbered 0 stands)))
    → HostTakes before after given now (Some stop) None
stopped_takes before after given now n stop d e stands had has le within st =
    host_takes before after n.me (Some n) d given now (Some stop) None had
    (stopped_from given now n stop d e stands after has le within st)

-- ---- what a store with a stop tells

pub told_stopped : (left : ℕ) (stopped : Option Attempt) (stands : Moments)
    → is_some stopped ≡ true → left ≡ 0
    → (e : ToldDisk) × (told_by left stopped stands ≡ then_disk e (numbered 0 stands))
told_stopped left None stands some none = absurd (true≢false (sym some))
told_stopped left (Some a) stands some none =
    (made a stands.now, ap (λ (n : ℕ). then_disk (made a stands.now) (numbered n stands)) none)

pub told_on : (left : ℕ) (stopped : Option Attempt) (stands : Moments)
    → is_some stopped ≡ false → told_by left stopped stands ≡ numbered left stands
told_on left None stands none = refl
told_on left (Some a) stands none = absurd (true≢false none)

-- ---- a server without a node

pub none_up : (s : Server Entry) → down (mark_of s) ≡ s → s.up ≡ false
none_up s e = ap (λ (x : Server Entry). x.up) (sym e)
