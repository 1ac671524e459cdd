-- In every run each disk has few blocks, also after the first calls of a step.
use Rattle.std.proofs.Common.{◌≡◌, ℕ, zero, suc, ◌<◌, ◌≤◌, ◌&&◌, not, Bool, true, false, ◌+◌, List, [], ◌∷◌, ◌++◌, length, map, min, take, Option, None, Some, refl, sym, ap, subst, ◌∙◌, ⊎_elim, arith, le_refl, true≢false, if◌then◌else◌}
use Rattle.std.specs.Prelude.{⊤}
use Rattle.std.specs.List.{AllByRecursion}
use Rattle.std.proofs.lemmas.Bool.{cases_lt}
use Rattle.std.proofs.lemmas.List.{length-append, take-append-le, take_all}
use Rattle.std.proofs.lemmas.List.Sums.{fold-append}
use Rattle.trace_laws.specs.DiskLaws.{HasFewBlocks}
use Rattle.trace_laws.specs.Stores.{applied_in}
use Rattle.trace_laws.proofs.Blocks.{few_blocks}
use Rattle.trace_laws.proofs.Calls.{AreMarks, all_marks, crash_marks, first_between}
use Rattle.trace_laws.proofs.Crashes.{are_parts}
use Rattle.trace_laws.proofs.Diskless.{HasNoCells, step_diskless, tails_diskless}
use Rattle.trace_laws.proofs.Steps.{Stands, step_stands}
use Rattle.trace_laws.proofs.StoreRuns.{are_fuzzy, begun_stays, first_stores}
use Rattle.trace_laws.proofs.Tables.{at_other, cases_place}
use Rattle.file_tree.specs.Book.{Entry}
use Rattle.fuzzy_cells.specs.Disk.{Disk, IsBetween, changes_saved, reads, synced_to, with_changes}
use Rattle.fuzzy_cells.specs.History.{no_cells}
use Rattle.group_trace.specs.DiskCalls.{Changing, DiskCall, Marking, Spellings, Syncing, after_calls, all_calls, calls_by, measures_of, saved_puts}
use Rattle.group_trace.specs.Picks.{crashed_by, most_blocks}
use Rattle.group_trace.specs.DiskRun.{DiskScene, Stores, calls_at, disk_after, disk_next, disk_run, disks_after_at, disks_came, disks_done, disks_next, first_disk_scene, is_crash, is_whole, passing}
use Rattle.group_rules.proofs.Tests.{each_of}
use Rattle.group_rules.specs.Disk.{flush_tests, settled_tests}
use Rattle.group_rules.specs.Moves.{Applying, Flushing, Saving, act, acts}
use Rattle.group_rules.specs.Names.{place_of}
use Rattle.group_rules.specs.Open.{rebase}
use Rattle.group_rules.specs.Places.{Place, all_of, at, is_p2}
use Rattle.group_rules.specs.State.{Group, Packet, Server}
use Rattle.group_rules.specs.Step.{Apply, Ask, Comes, Crash, Does, Flush, Input, ListTree, Power, Suspect, Tick, list_of, numbered, saves}
use Rattle.group_safety.proofs.Disks.{disks_begin, first_disks}
use Rattle.group_safety.proofs.Moving.{at_self}
use Rattle.group_safety.proofs.Safe.{first_whole}
use Rattle.group_safety.specs.Disks.{Disks, disks_begun, empty_disks}
use Rattle.group_trace.specs.Run.{CanFollow}
use Rattle.harp_cells.specs.Effect.{Cells, after, changed, is_cell}
use Rattle.harp_cells.specs.declared.cell.Cell.TheVariants as cell
use Rattle.harp_cells.specs.declared.change.Change.{Change}
use Rattle.harp_cells.specs.declared.change.Change.TheVariants as change
use Rattle.harp_cells.specs.declared.value.Value.{Value}
use Rattle.record_changes.specs.Records.{history_of}
use Rattle.store_laws.specs.Calls.{HaveFewBlocks}
use Rattle.store_laws.specs.Laws.{RunsHaveFewBlocks}
use Rattle.store_laws.proofs.Blocks.{few_read}
use Rattle.trace_laws.proofs.MoveKinds.{each-append}
use Rattle.trace_laws.proofs.StepKinds.{tail_base}
use Rattle.harp_types.specs.declared.pick.Pick.{Pick}
use Rattle.harp_types.specs.declared.pick.Pick.TheVariants as pick
use Rattle.trace_types.specs.declared.step.Step.{Step}
use Rattle.trace_types.specs.declared.step.Step.TheVariants as step

-- ---- data servers

run_stands : (f : Spellings) (ss : List Step) (w : DiskScene) → Stands w.scene.group w.disks
    → CanFollow (measures_of f) w.scene ss
    → Stands (disk_run f w ss).scene.group (disk_run f w ss).disks
unfolding disk_run
run_stands f [] w h t = h
run_stands f (s ∷ ss) w h t = run_stands f ss (disk_next f w s)
    (step_stands f w h s t.0 t.1) t.2

-- after the first calls of a step its disk is still between its mark and what is committed
data_few : (f : Spellings) (g : Group Entry) (stores : Stores) → Stands g stores → (q : Place)
    → is_p2 q ≡ false → (i : Input) → HaveFewBlocks (calls_at f g q i) (stores q)
data_few f g stores h q p i k =
    subst (λ (r : Disk). HasFewBlocks r) (at_self stores q disk)
    (few_blocks g h.0 q begun (are_fuzzy g h.0 far (disks_begin g h.0 h.1.0 h.1.1 q i) begun
    (record { each = each }) q p))
  where
    disk : Disk
    disk = after_calls (take k (calls_at f g q i)) (stores q)

    begun : Stores
    begun = at stores q disk

    far : Disks
    far = disks_begun g h.1.0 q i

    Fine : Place → ℕ → Disk → Type 0
    Fine x m r = IsBetween (history_of g.committed) (g.server x).lb (applied_in (g.server x)) m r

    own : Fine q (far q) (begun q)
    own = subst (λ (r : Disk). Fine q (far q) r) (sym (at_self stores q disk))
        (first_between f g h.0 h.1.0 q i k (stores q) (h.1.2.each q p))

    each : (x : Place) → is_p2 x ≡ false → Fine x (far x) (begun x)
    each x e = ⊎_elim
        (λ (same : x ≡ q). subst (λ (y : Place). Fine y (far y) (begun y)) (sym same) own)
        (λ (ne : x ≡ q → ⊥). subst (λ (m : ℕ). Fine x m (begun x))
        (sym (begun_stays g h.1.0 q i x ne))
        (subst (λ (r : Disk). Fine x (h.1.0 x) r) (sym (at_other stores q disk x ne))
        (h.1.2.each x e)))
        (cases_place x q)

-- ---- the witness, which changes cells of saved logs alone

-- a call that changes no others
abbrev IsOfLogs : DiskCall → Type 0
IsOfLogs (Changing x) = changes_saved x ≡ true
IsOfLogs Syncing = ⊤
IsOfLogs Marking = ⊤

abbrev AreOfLogs : List DiskCall → Type 0
AreOfLogs calls = AllByRecursion IsOfLogs calls

block_stays : (object block : ℕ) (v : Option Value) (x : Change) → changes_saved x ≡ true
    → changed (cell.Block object block) v x ≡ v
unfolding is_cell
block_stays object block v (change.Put (cell.Saved p) w) h = refl
block_stays object block v (change.Erase (cell.Saved p)) h = refl
block_stays object block v (change.Put c w) h = absurd (true≢false (sym h))
block_stays object block v (change.Erase c) h = absurd (true≢false (sym h))
block_stays object block v (change.EraseFrom o first) h = absurd (true≢false (sym h))

one_few : (r : Disk) (x : Change) → changes_saved x ≡ true → HasFewBlocks r
    → HasFewBlocks (with_changes r (x ∷ []))
one_few r x h few n object block le = ⊎_elim
    (λ (past : length r.changes < n). whole past)
    (λ (within : n ≤ length r.changes).
    ap (λ (xs : List Change). after xs r.synced (cell.Block object block))
    (take-append-le n r.changes (x ∷ []) within) ∙ few n object block le)
    (cases_lt (length r.changes) n)
  where
    whole : length r.changes < n
        → after (take n (r.changes ++ x ∷ [])) r.synced (cell.Block object block) ≡ None
    whole past =
        let long = length-append r.changes (x ∷ []) in
        ap (λ (xs : List Change). after xs r.synced (cell.Block object block))
        (take_all n (r.changes ++ x ∷ []) (omega (arith, past, long)))
        ∙ fold-append (changed (cell.Block object block)) (r.synced (cell.Block object block))
        r.changes (x ∷ [])
        ∙ block_stays object block (reads r (cell.Block object block)) x h
        ∙ few_read r few object block le

take_nothing : (n : ℕ) → take {A = Change} n [] ≡ []
take_nothing zero = refl
take_nothing (suc n) = refl

synced_few : (cells : Cells) → ((object block : ℕ) → most_blocks ≤ block
    → cells (cell.Block object block) ≡ None) → HasFewBlocks (synced_to cells)
synced_few cells none n object block le =
    ap (λ (xs : List Change). after xs cells (cell.Block object block)) (take_nothing n)
    ∙ none object block le

logs_few : (k : ℕ) (calls : List DiskCall) (r : Disk) → AreOfLogs calls → HasFewBlocks r
    → HasFewBlocks (after_calls (take k calls) r)
unfolding after_calls
logs_few zero calls r h few = few
logs_few (suc k) [] r h few = few
logs_few (suc k) (Changing x ∷ calls) r h few = logs_few k calls (with_changes r (x ∷ [])) h.1
    (one_few r x h.0 few)
logs_few (suc k) (Syncing ∷ calls) r h few = logs_few k calls (synced_to (reads r)) h.1
    (synced_few (reads r) (few_read r few))
logs_few (suc k) (Marking ∷ calls) r h few = logs_few k calls r h.1 few

all_logs_few : (calls : List DiskCall) (r : Disk) → AreOfLogs calls → HasFewBlocks r
    → HasFewBlocks (after_calls calls r)
all_logs_few calls r h few = subst (λ (cs : List DiskCall). HasFewBlocks (after_calls cs r))
    (take_all (length calls) calls (le_refl (length calls)))
    (logs_few (length calls) calls r h few)

crash_few : (p : Pick) (r : Disk) → HasFewBlocks r → HasFewBlocks (crashed_by p r)
crash_few p r few = synced_few (crashed_by p r).synced (λ object block le.
    let part = are_parts p r (cell.Block object block) in part.1 ∙ few part.0 object block le)

-- marks are such calls, and so are a save's
marks_of_logs : (calls : List DiskCall) → AreMarks calls → AreOfLogs calls
marks_of_logs [] h = tt
marks_of_logs (Marking ∷ calls) h = (tt, marks_of_logs calls h.1)
marks_of_logs (c ∷ calls) h = absurd h.0

puts_of_logs : (f : Spellings) (list : List Entry) (n : ℕ) (es : List Entry)
    → AreOfLogs (map Changing (saved_puts f list n es))
unfolding saved_puts
puts_of_logs f list n [] = tt
puts_of_logs f list n (e ∷ es) = (refl, puts_of_logs f list (n + 1) es)

save_of_logs : (f : Spellings) (list : List Entry) (s : Server Entry)
    → AreOfLogs (calls_by f list s Saving)
save_of_logs f list s = by (saves s.held s.saved)
  where
    puts : List DiskCall
    puts = map Changing (saved_puts f list s.base s.items)

    by : (b : Bool) → AreOfLogs (if b then puts ++ Syncing ∷ Marking ∷ [] else [])
    by true = each-append IsOfLogs puts (Syncing ∷ Marking ∷ []) (puts_of_logs f list s.base
        s.items) (tt, (tt, tt))
    by false = tt

-- the calls of a step's end
rest_of_logs : (f : Spellings) (g : Group Entry) (q : Place) (s : Server Entry)
    → AreOfLogs (all_calls f q (g.clock q) (list_of g q) s (rebase s))
rest_of_logs f g q s = marks_of_logs (all_calls f q (g.clock q) (list_of g q) s (rebase s))
    (all_marks f q (g.clock q) (list_of g q) s (rebase s) (tails_diskless (rebase s) (tail_base s)))

no_cells_of_logs : (f : Spellings) (g : Group Entry) (q : Place) (i : Input) → HasNoCells i
    → AreOfLogs (calls_at f g q i)
no_cells_of_logs f g q i h = marks_of_logs (calls_at f g q i)
    (all_marks f q (g.clock q) (list_of g q) (g.server q) _
    (step_diskless (measures_of f).size q (g.clock q) (list_of g q) (g.server q) i h))

witness_of_logs : (f : Spellings) (g : Group Entry) (q : Place) → is_p2 q ≡ true → (i : Input)
    → AreOfLogs (calls_at f g q i)
unfolding all_calls
witness_of_logs f g q p (Does (Apply n)) = by (all_of (settled_tests q (g.server q))) refl
  where
    k : ℕ
    k = min ((g.server q).ap + n) (g.server q).cp

    by : (b : Bool) → all_of (settled_tests q (g.server q)) ≡ b
        → AreOfLogs (all_calls f q (g.clock q) (list_of g q) (g.server q)
        ((if b then Applying k ∷ [] else [])
        ++ rebase (acts q (g.clock q) (g.server q) (if b then Applying k ∷ [] else []))))
    by false t = rest_of_logs f g q (g.server q)
    by true t =
        let stores = (each_of (settled_tests q (g.server q)) t).1.0 in
        absurd (true≢false (sym stores ∙ ap not p))
witness_of_logs f g q p (Does Flush) = by (all_of (flush_tests q (g.server q))) refl
  where
    by : (b : Bool) → all_of (flush_tests q (g.server q)) ≡ b
        → AreOfLogs (all_calls f q (g.clock q) (list_of g q) (g.server q)
        ((if b then Flushing ∷ [] else [])
        ++ rebase (acts q (g.clock q) (g.server q) (if b then Flushing ∷ [] else []))))
    by false t = rest_of_logs f g q (g.server q)
    by true t =
        let stores = (each_of (flush_tests q (g.server q)) t).1.0 in
        absurd (true≢false (sym stores ∙ ap not p))
witness_of_logs f g q p (Does Power) =
    let s1 = act q (g.clock q) (g.server q) Saving in
    each-append IsOfLogs (calls_by f (list_of g q) (g.server q) Saving)
    (all_calls f q (g.clock q) (list_of g q) s1 (rebase s1))
    (save_of_logs f (list_of g q) (g.server q)) (rest_of_logs f g q s1)
witness_of_logs f g q p (Does Crash) = marks_of_logs (calls_at f g q (Does Crash))
    (crash_marks f g q)
witness_of_logs f g q p (Does Tick) = no_cells_of_logs f g q (Does Tick) tt
witness_of_logs f g q p (Does Suspect) = no_cells_of_logs f g q (Does Suspect) tt
witness_of_logs f g q p (Does (Ask client number cred call)) =
    no_cells_of_logs f g q (Does (Ask client number cred call)) tt
witness_of_logs f g q p (Does ListTree) = no_cells_of_logs f g q (Does ListTree) tt
witness_of_logs f g q p (Comes from m) = no_cells_of_logs f g q (Comes from m) tt

-- ---- the witness's disk in a run

passing_few : (stop : Option ℕ) (calls : List DiskCall) (r : Disk) → AreOfLogs calls
    → HasFewBlocks r → HasFewBlocks (after_calls (passing stop calls) r)
passing_few None calls r h few = all_logs_few calls r h few
passing_few (Some most) calls r h few = logs_few most calls r h few

step_few : (f : Spellings) (g : Group Entry) (stop : Option ℕ) (p : Pick) (q : Place) (i : Input)
    (r : Disk) → is_p2 q ≡ true → HasFewBlocks r → HasFewBlocks (disk_after f g stop p q i r)
step_few f g stop p q i r e few = by (is_whole f g stop q i && not (is_crash i))
  where
    calls : List DiskCall
    calls = calls_at f g q i

    by : (b : Bool) → HasFewBlocks (if b then after_calls calls r else
        crashed_by p (after_calls (passing stop calls) r))
    by true = all_logs_few calls r (witness_of_logs f g q e i) few
    by false = crash_few p (after_calls (passing stop calls) r)
        (passing_few stop calls r (witness_of_logs f g q e i) few)

at_few : (f : Spellings) (w : DiskScene) (stop : Option ℕ) (p : Pick) (x : Place) (i : Input)
    (q : Place) → is_p2 q ≡ true → HasFewBlocks (w.disks q)
    → HasFewBlocks (disks_after_at f w stop p x i q)
at_few f w stop p x i q e few = ⊎_elim
    (λ (same : q ≡ x). subst (λ (y : Place). HasFewBlocks (at w.disks x new y)) (sym same)
    (subst (λ (r : Disk). HasFewBlocks r) (sym (at_self w.disks x new))
    (step_few f w.scene.group stop p x i (w.disks x)
    (subst (λ (y : Place). is_p2 y ≡ true) same e)
    (subst (λ (y : Place). HasFewBlocks (w.disks y)) same few))))
    (λ (ne : q ≡ x → ⊥). subst (λ (r : Disk). HasFewBlocks r) (sym (at_other w.disks x new q ne))
    few)
    (cases_place q x)
  where
    new : Disk
    new = disk_after f w.scene.group stop p x i (w.disks x)

came_few : (f : Spellings) (w : DiskScene) (o : Option (Packet Entry)) (q : Place)
    → is_p2 q ≡ true → HasFewBlocks (w.disks q) → HasFewBlocks (disks_came f w o q)
came_few f w None q e few = few
came_few f w (Some m) q e few = by (w.scene.group.server m.to).up
  where
    by : (b : Bool) → HasFewBlocks ((if b then disks_after_at f w (w.scene.armed m.to)
        (w.picks m.to) m.to (Comes m.from m.body) else w.disks) q)
    by true = at_few f w (w.scene.armed m.to) (w.picks m.to) m.to (Comes m.from m.body) q e few
    by false = few

done_few : (f : Spellings) (w : DiskScene) (x : Place) (i : Input) (q : Place) → is_p2 q ≡ true
    → HasFewBlocks (w.disks q) → HasFewBlocks (disks_done f w x i q)
done_few f w x i q e few = at_few f w (w.scene.armed x) (w.picks x) x i q e few

next_few : (f : Spellings) (w : DiskScene) (s : Step) (q : Place) → is_p2 q ≡ true
    → HasFewBlocks (w.disks q) → HasFewBlocks (disks_next f w s q)
next_few f w (step.Ask server client number cred call) q e few =
    done_few f w (place_of server) (Does (Ask client number cred call)) q e few
next_few f w (step.Deliver n) q e few = came_few f w (numbered w.scene.group.packets n) q e few
next_few f w (step.Tick server) q e few = done_few f w (place_of server) (Does Tick) q e few
next_few f w (step.Suspect server) q e few = done_few f w (place_of server) (Does Suspect) q e few
next_few f w (step.Apply server most) q e few =
    done_few f w (place_of server) (Does (Apply most)) q e few
next_few f w (step.Flush server) q e few = done_few f w (place_of server) (Does Flush) q e few
next_few f w (step.List server) q e few = done_few f w (place_of server) (Does ListTree) q e few
next_few f w (step.Power server) q e few = at_few f w None pick.None (place_of server)
    (Does Power) q e few
next_few f w (step.PowerCut server calls p) q e few = at_few f w (Some calls) p (place_of server)
    (Does Power) q e few
next_few f w (step.Crash server p) q e few = at_few f w None p (place_of server) (Does Crash) q e
    few
next_few f w (step.Boot server) q e few = few
next_few f w (step.Pump among) q e few = few
next_few f w (step.Stop server calls p) q e few = few
next_few f w (step.Noise server bytes) q e few = few
next_few f w (step.Clock server reading) q e few = few
next_few f w (step.Advance millis) q e few = few
next_few f w (step.Delta millis) q e few = few

run_few : (f : Spellings) (ss : List Step) (w : DiskScene) (q : Place) → is_p2 q ≡ true
    → HasFewBlocks (w.disks q) → HasFewBlocks ((disk_run f w ss).disks q)
unfolding disk_run
run_few f [] w q e few = few
run_few f (s ∷ ss) w q e few = run_few f ss (disk_next f w s) q e (next_few f w s q e few)

-- ---- each of the three

pub runs_have_few_blocks : RunsHaveFewBlocks
runs_have_few_blocks f ss t q i = by (is_p2 q) refl
  where
    last : DiskScene
    last = disk_run f first_disk_scene ss

    stands : Stands last.scene.group last.disks
    stands = run_stands f ss first_disk_scene
        (first_whole, (empty_disks, first_disks, first_stores)) t

    by : (b : Bool) → is_p2 q ≡ b → HaveFewBlocks (calls_at f last.scene.group q i) (last.disks q)
    by false e = data_few f last.scene.group last.disks stands q e i
    by true e = λ k. logs_few k (calls_at f last.scene.group q i) (last.disks q)
        (witness_of_logs f last.scene.group q e i)
        (run_few f ss first_disk_scene q e (synced_few no_cells (λ object block le. refl)))
