-- What a host's step and its power failure rest on stands in each scene to which steps lead.
use Rattle.std.proofs.Common.{◌≡◌, ◌⊎◌, ℕ, ◌+◌, ◌-◌, ◌≤◌, not, true, false, List, [], ◌∷◌, min, take, drop, Option, Some, refl, sym, ap, ◌∙◌, subst, inl, arith, true≢false, if◌then◌else◌, ⊎_elim}
use Rattle.std.proofs.lemmas.List.{drop-drop}
use Rattle.trace_laws.proofs.Steps.{Stands, step_stands}
use Rattle.trace_laws.proofs.StoreRuns.{first_stores}
use Rattle.trace_laws.specs.DiskLaws.{HasFewBlocks}
use Rattle.trace_laws.specs.Stores.{applied_in}
use Rattle.event_record.specs.declared.record.RecordFields.{RecordFields}
use Rattle.file_tree.specs.Book.{Entry}
use Rattle.fuzzy_cells.specs.Disk.{IsBetween}
use Rattle.fuzzy_cells.specs.History.{in_a_row}
use Rattle.group_trace.specs.DiskCalls.{after_calls, measures_of}
use Rattle.group_trace.specs.DiskRun.{DiskScene, calls_at, disk_next, disk_run, first_disk_scene}
use Rattle.schedule_play.specs.Stage.{IsReached}
use Rattle.group_rules.proofs.Tests.{each_of, if_is, left, right}
use Rattle.group_rules.specs.Disk.{settled_tests}
use Rattle.group_rules.specs.Limits.{is_log, is_open}
use Rattle.group_rules.specs.Places.{Zero, One, Two, Pair, Place, S01, S02, S12, all_of, is_p2, leader}
use Rattle.group_rules.specs.State.{Group, Held, Live, Log, Mode, Open, Server, top}
use Rattle.group_rules.specs.Step.{Does, Input as Begins, Power, list_of}
use Rattle.group_safety.proofs.Disks.{first_disks}
use Rattle.group_safety.proofs.Modes.{open_is, p2_is, settled_is, settles_is}
use Rattle.group_safety.proofs.Moving.{its}
use Rattle.group_safety.proofs.Safe.{first_whole, good_of}
use Rattle.group_safety.specs.Disks.{empty_disks}
use Rattle.group_safety.specs.Laws.{Whole}
use Rattle.group_safety.specs.Words.{IsActive}
use Rattle.group_trace.specs.Run.{CanFollow}
use Rattle.harp_store.specs.Disk.{Disk as ToldDisk, reads as told_reads}
use Rattle.world_laws.specs.HostLaws.{HostsCanFail, HostsCanTake, ReachedAreWhole}
use Rattle.world_rules.specs.Host.{IsNodeOf, Runs, disk_of, told_now}
use Rattle.world_rules.specs.Spellings.{spellings}
use Rattle.node.specs.Input.{FillsInput}
use Rattle.node.specs.Node.{NodeValue}
use Rattle.node.specs.Stock.{Stock}
use Rattle.node.specs.Stored.{changes_made, log_of, stores}
use Rattle.node.specs.declared.input.Input.{Input}
use Rattle.node.specs.declared.input.Input.TheVariants as input
use Rattle.record_changes.specs.Records.{history_of}
use Rattle.world_laws.proofs.Logs.{logs_right}
use Rattle.world_laws.proofs.Trees.{trees_held}
use Rattle.world_laws.specs.StockLaws.{log_with}
use Rattle.world_laws.specs.Stocks.{HasStock}
use Rattle.store_laws.proofs.Disks.{equal_changes, reads_are_alike}
use Rattle.store_laws.proofs.FewBlocks.{runs_have_few_blocks}
use Rattle.store_laws.specs.Calls.{HaveFewBlocks, IsChangeOf}
use Rattle.store_laws.specs.Steps.{applied_by}
use Rattle.store_laws.specs.Told.{IsDiskOf, OneForOne}
use Rattle.trace_types.specs.declared.step.Step.{Step}
use Rattle.tree_log.specs.Applying.{changes_by}
use Rattle.tree_log.specs.Reading.{HoldsTree, IsOfList}

-- ---- scenes to which steps lead

run_stands : (ss : List Step) (w : DiskScene) → Stands w.scene.group w.disks
    → CanFollow (measures_of spellings) w.scene ss
    → Stands (disk_run spellings w ss).scene.group (disk_run spellings w ss).disks
unfolding disk_run
run_stands [] w h t = h
run_stands (s ∷ ss) w h t = run_stands ss (disk_next spellings w s)
    (step_stands spellings w h s t.0 t.1) t.2

reached_stands : (w : DiskScene) → IsReached spellings w → Stands w.scene.group w.disks
reached_stands w r = subst (λ (w : DiskScene). Stands w.scene.group w.disks) r.leads
    (run_stands r.steps first_disk_scene (first_whole, (empty_disks, first_disks, first_stores))
    r.taken)

pub reached_whole : ReachedAreWhole
reached_whole w r = (reached_stands w r).0

calls_few : (w : DiskScene) → IsReached spellings w → (q : Place) (i : Begins)
    → HaveFewBlocks (calls_at spellings w.scene.group q i) (w.disks q)
calls_few w r q i = subst
    (λ (w : DiskScene). HaveFewBlocks (calls_at spellings w.scene.group q i) (w.disks q)) r.leads
    (runs_have_few_blocks spellings r.steps r.taken q i)

disk_few : (w : DiskScene) → IsReached spellings w → (q : Place) → HasFewBlocks (w.disks q)
unfolding after_calls
disk_few w r q = calls_few w r q (Does Power) 0

-- ---- power failures

pub can_fail : HostsCanFail
can_fail w r q = record {
  base = λ two held.
      let g = w.scene.group in
      let whole = reached_whole w r in
      let order = ((its (good_of g whole q)).logs.order held).0 in
      let low = (whole.reported.each q).witness (p2_is q two) held in
      omega (arith, order, low);
  few = calls_few w r q (Does Power);
}

-- ---- a node that runs

-- its log is that of its server
pub node_log : (s : Server Entry) (k : Stock) (saved : List RecordFields) (q : Place) (d : ToldDisk)
    (n : NodeValue) → Runs s k saved q d n → log_of n ≡ log_with s k.log
node_log s k saved q d n runs =
    ap (λ (x : Server Entry). log_with x n.records) runs.server
    ∙ ap (λ (x : Stock). log_with s x.log) runs.stock

node_mode : (s : Server Entry) (k : Stock) (saved : List RecordFields) (q : Place) (d : ToldDisk)
    (n : NodeValue) → Runs s k saved q d n → n.plain.mode ≡ s.mode
node_mode s k saved q d n runs = ap (λ (x : Server Entry). x.mode) runs.server

-- whether it stores is a matter of its server
pub node_stores : (s : Server Entry) (k : Stock) (saved : List RecordFields) (q : Place) (d : ToldDisk)
    (n : NodeValue) → Runs s k saved q d n → stores n ≡ true
    → all_of (settled_tests q s) ≡ true
node_stores s k saved q d n runs h =
    subst (λ (x : Server Entry). all_of (settled_tests q x) ≡ true) runs.server
    (subst (λ (x : Place). all_of (settled_tests x n.plain) ≡ true) runs.me h)

no_witness : (q : Place) → not (is_p2 q) ≡ true → is_p2 q ≡ false
no_witness Zero h = refl
no_witness One h = refl
no_witness Two h = absurd (true≢false (sym h))

leads_data : (q : Place) (p : Pair) → q ≡ leader p → is_p2 q ≡ false
leads_data q S01 e = ap is_p2 e
leads_data q S02 e = ap is_p2 e
leads_data q S12 e = ap is_p2 e

pub settled_active : (g : Group Entry) → Whole g → (q : Place)
    → all_of (settled_tests q (g.server q)) ≡ true → IsActive (g.server q).mode
settled_active g w q t =
    settled_is (g.server q).mode (each_of (settled_tests q (g.server q)) t).0

-- ---- its tree

-- what a settled data server's disk reads as is behind its log
tree_at_cp : (w : DiskScene) → IsReached spellings w → (q : Place) (k : Stock) (d : ToldDisk)
    → IsDiskOf d (w.disks q) → HasStock w.scene.group q k → is_p2 q ≡ false
    → ((w.scene.group.server q).mode ≡ Open) ⊎ ((w.scene.group.server q).mode ≡ Live)
    → HoldsTree (list_of w.scene.group q) (w.scene.group.server q).cp
    (log_with (w.scene.group.server q) k.log) (told_now d)
tree_at_cp w r q k d of_disk has other settled =
    let g = w.scene.group in
    let s = g.server q in
    let stands = reached_stands w r in
    let active : IsActive s.mode = ⊎_elim
    (λ (e : s.mode ≡ Open). subst (λ (m : Mode). IsActive m) (sym e) tt)
    (λ (e : s.mode ≡ Live). subst (λ (m : Mode). IsActive m) (sym e) tt) settled in
    let held : s.held ≡ Log = ((its (good_of g stands.0 q)).modes.active active).0 in
    let applied : applied_in s ≡ s.ap =
    ap (λ (h : Held). if is_log h then s.ap else s.lb) held in
    let between : IsBetween (history_of g.committed) s.lb s.ap (stands.1.0 q) (w.disks q) =
    subst (λ ap. IsBetween (history_of g.committed) s.lb ap (stands.1.0 q) (w.disks q)) applied
    (stands.1.2.each q other) in
    (trees_held g stands.0 stands.1.0 stands.1.1 q other held k has (w.disks q) between
    (told_now d) (told_reads d) refl
    (reads_are_alike d (w.disks q) of_disk (disk_few w r q))).at_cp settled

node_tree : (w : DiskScene) → IsReached spellings w → (q : Place) (k : Stock)
    (saved : List RecordFields) (d : ToldDisk) (n : NodeValue)
    → Runs (w.scene.group.server q) k saved q d n
    → IsDiskOf d (w.disks q) → HasStock w.scene.group q k → is_p2 q ≡ false
    → ((w.scene.group.server q).mode ≡ Open) ⊎ ((w.scene.group.server q).mode ≡ Live)
    → HoldsTree (list_of w.scene.group q) n.plain.cp (log_of n) (told_now d)
node_tree w r q k saved d n runs of_disk has other settled =
    let s = w.scene.group.server q in
    let list = list_of w.scene.group q in
    subst (λ log. HoldsTree list n.plain.cp log (told_now d))
    (sym (node_log s k saved q d n runs))
    (subst (λ cp. HoldsTree list cp (log_with s k.log) (told_now d))
    (sym (ap (λ (x : Server Entry). x.cp) runs.server))
    (tree_at_cp w r q k d of_disk has other settled))

-- ---- what it applies

applied_same : (g : Group Entry) → Whole g → (q : Place) (k : Stock) → HasStock g q k
    → (g.server q).held ≡ Log → (most : ℕ)
    → changes_by most (log_with (g.server q) k.log) ≡ applied_by g q most
applied_same g w q k has held most =
    let s = g.server q in
    let order = (its (good_of g w q)).logs.order held in
    let upto = min (s.ap + most) s.cp in
    let low : s.base + (s.ap - s.base) ≡ s.ap = omega (arith, order.0, order.1) in
    ap (λ h. in_a_row (take (upto - s.ap) (drop (s.ap - s.base) h)))
    (logs_right g w q k has).of_list.changes
    ∙ ap (λ h. in_a_row (take (upto - s.ap) h))
    (drop-drop (s.ap - s.base) s.base (history_of (list_of g q))
    ∙ ap (λ n. drop n (history_of (list_of g q))) low)

node_applies : (g : Group Entry) → Whole g → (q : Place) (k : Stock) (saved : List RecordFields)
    (d : ToldDisk) (n : NodeValue) → Runs (g.server q) k saved q d n → HasStock g q k
    → stores n ≡ true → (most : ℕ)
    → OneForOne IsChangeOf (changes_made most n) (applied_by g q most)
node_applies g w q k saved d n runs has t most =
    let s = g.server q in
    let active = settled_active g w q (node_stores s k saved q d n runs t) in
    let held = ((its (good_of g w q)).modes.active active).0 in
    let same : changes_made most n ≡ applied_by g q most =
    if_is (stores n) (changes_by most (log_of n)) [] t
    ∙ ap (changes_by most) (node_log s k saved q d n runs)
    ∙ applied_same g w q k has held most in
    subst (λ made. OneForOne IsChangeOf made (applied_by g q most)) (sym same)
    (equal_changes (applied_by g q most))

-- ---- what its moves rest on

node_fills : (w : DiskScene) → IsReached spellings w → (q : Place) (k : Stock)
    (saved : List RecordFields) (d : ToldDisk) (n : NodeValue)
    → Runs (w.scene.group.server q) k saved q d n
    → IsDiskOf d (w.disks q) → HasStock w.scene.group q k → (given : Input)
    → FillsInput (list_of w.scene.group q) n (w.scene.group.clock q) (told_now d) given
node_fills w r q k saved d n runs of_disk has input.Tick = tt
node_fills w r q k saved d n runs of_disk has input.Suspect = tt
node_fills w r q k saved d n runs of_disk has (input.Message from message) = λ _.
    let s = w.scene.group.server q in
    let list = list_of w.scene.group q in
    let right = logs_right w.scene.group (reached_whole w r) q k has in (
      subst (λ (x : Server Entry). x.served ≤ top x) (sym runs.server) right.served,
      subst (IsOfList list) (sym (node_log s k saved q d n runs)) right.of_list,
    )
node_fills w r q k saved d n runs of_disk has (input.Ask peer client number cred call) = λ reads.
    let s = w.scene.group.server q in
    let open' : s.mode ≡ Open =
    sym (node_mode s k saved q d n runs) ∙ open_is n.plain.mode
    (right _ (is_open n.plain.mode) (left _ _ reads)) in
    let leads = (its (good_of w.scene.group (reached_whole w r) q)).modes.leads open' in
    node_tree w r q k saved d n runs of_disk has (leads_data q _ leads.0) (inl open')
node_fills w r q k saved d n runs of_disk has (input.Apply most) = tt
node_fills w r q k saved d n runs of_disk has input.Flush = tt
node_fills w r q k saved d n runs of_disk has input.List = tt

-- ---- a step

pub runs_node : (s : Server Entry) (k : Stock) (saved : List RecordFields) (q p : Place) (d : ToldDisk)
    (o : Option NodeValue) → p ≡ q → IsNodeOf s k saved p d o → (n : NodeValue) → o ≡ Some n
    → Runs s k saved q d n
runs_node s k saved q p d o me is n e =
    subst (λ (p : Place). Runs s k saved p d n) me
    (subst (λ (o : Option NodeValue). IsNodeOf s k saved p d o) e is)

pub can_take : HostsCanTake
can_take w r q k saved h me host has given i begins =
    let g = w.scene.group in
    let whole = reached_whole w r in
    let runs = runs_node (g.server q) k saved q h.me (disk_of h) h.node me host.node in
    record {
      begins = begins;
      fills = λ n e. node_fills w r q k saved (disk_of h) n (runs n e) host.disk has given;
      tree = λ n e t.
          let tests = node_stores (g.server q) k saved q (disk_of h) n (runs n e) t in
          let each = each_of (settled_tests q (g.server q)) tests in
          node_tree w r q k saved (disk_of h) n (runs n e) host.disk has (no_witness q each.1.0)
          (settles_is (g.server q).mode each.0);
      applied = λ n most e t.
          node_applies g whole q k saved (disk_of h) n (runs n e) has t most;
      unsaved = λ t.
          ((its (good_of g whole q)).modes.active (settled_active g whole q t)).2;
      few = calls_few w r q i;
    }
