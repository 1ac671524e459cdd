-- The disks beside every run.
use Rattle.std.proofs.Common.{◌≡◌, ◌⊎◌, ℕ, ◌+◌, ◌≤◌, Bool, true, false, List, [], ◌∷◌, take, max, min, Option, Some, None, refl, sym, ap, subst, inl, inr, ⊎_elim, arith, le_refl, le_trans, true≢false, if◌then◌else◌}
use Rattle.std.specs.Prelude.{MatchBool}
use Rattle.file_tree.specs.Book.{Entry}
use Rattle.harp_cells.specs.declared.change.Change.{Change}
use Rattle.fuzzy_cells.specs.History.{History, between, no_cells}
use Rattle.fuzzy_cells.specs.Disk.{Disk, IsBetween, reads, synced_to, with_changes}
use Rattle.fuzzy_cells.proofs.Alike.{alike_stand}
use Rattle.fuzzy_cells.proofs.Disks.{cut_off, new_disks}
use Rattle.fuzzy_cells.proofs.Fuzzy.{gives_exactly, is_wider}
use Rattle.record_changes.specs.Records.{history_of}
use Rattle.record_changes.proofs.Histories.{once, stand}
use Rattle.group_rules.specs.Disk.{apply, settled_tests}
use Rattle.group_safety.specs.Disks.{Disks, DisksOk, disks_after, disks_begun, disks_by, disks_cut, disks_cut_delivered, disks_delivered, disks_stepped, empty_disks}
use Rattle.group_safety.specs.Laws.{Whole}
use Rattle.group_rules.specs.Limits.{delta_tests, is_log, room}
use Rattle.group_rules.specs.Moves.{Applying, Booting, Falling, Move, moved_by}
use Rattle.group_rules.specs.Places.{Zero, One, Two, Place, all_of, is_p2}
use Rattle.group_rules.specs.State.{Group, Held, Live, Log, Open, Packet, Server, top}
use Rattle.group_rules.specs.Step.{Advance, Apply, Ask, At, Boot, Clock, Comes, Crash, CutAt, CutDeliver, Deliver, Delta, Does, Flush, Happening, Input, ListTree, Power, Suspect, Tick, boot, clock_tests, cut_delivered, cut_steps, delivered, first_group, happens, numbered, step_of, steps, writes_any}
use Rattle.group_safety.specs.Words.{IsActive}
use Rattle.group_rules.proofs.Tests.{by_if}
use Rattle.group_safety.proofs.Common.{sure_less}
use Rattle.group_safety.proofs.Disks.{disk_committed, disks_begin, disks_happen}
use Rattle.group_safety.proofs.Lawful.{sure_held}
use Rattle.group_safety.proofs.Moving.{Goes, at_self, goes_good, goes_grows}
use Rattle.group_safety.proofs.Safe.{boot_goes, good_of, happens_whole, input_goes, sent_known}
use Rattle.group_safety.proofs.Steps.{Known, falls}
use Rattle.group_rules.proofs.Tests.{each_of}
use Rattle.group_safety.proofs.Modes.{settles_is}
use Rattle.trace_laws.specs.Stores.{AllStay, Falls, OneDisk, StoreBy, StoreCut, StoreStepped, StoresAfter, StoresCutDelivered, StoresDelivered, StoresOk, applied_in, begun}
use Rattle.group_trace.specs.DiskRun.{Stores, empty_stores}
use Rattle.trace_laws.specs.StoreLaws.{ReadsRightly, ServersReadExactly, StoresAreFuzzy, StoresStay}
use Rattle.trace_laws.proofs.Between.{are_updates, between_same, no_more, prolong, same_front}
use Rattle.trace_laws.proofs.Moved.{own_goes}
use Rattle.trace_laws.proofs.Tables.{cases_place, disks_stay, servers_stay}

-- ---- one step

-- the disks after moves of one server
pub stores_go : (g : Group Entry) → Whole g → (q : Place) (ms : List (Move Entry))
    → Goes g q (g.server q) ms → (disks : Disks) → DisksOk g disks → (old new : Stores)
    → ((x : Place) → (x ≡ q → ⊥) → is_p2 x ≡ false
    → IsBetween (history_of g.committed) (g.server x).lb (applied_in (g.server x)) (disks x)
    (old x))
    → (disk : Disk) → (is_p2 q ≡ false → IsBetween (history_of g.committed) (g.server q).lb
    (applied_in (g.server q)) (disks q) disk)
    → StoreBy g q (g.server q) ms disk (new q) → ((x : Place) → (x ≡ q → ⊥) → new x ≡ old x)
    → StoresOk (moved_by g q (g.server q) ms) (disks_by disks q ms) new
stores_go g w q ms h disks d old new rest disk own is others =
    record {
      each = λ x. ⊎_elim (λ (e : x ≡ q). subst Fine (sym e) mine)
          (λ (ne : x ≡ q → ⊥). theirs x ne) (cases_place x q);
    }
  where
    Fine : Place → Type 0
    Fine x = is_p2 x ≡ false → IsBetween (history_of (moved_by g q (g.server q) ms).committed)
        ((moved_by g q (g.server q) ms).server x).lb
        (applied_in ((moved_by g q (g.server q) ms).server x)) (disks_by disks q ms x) (new x)

    mine : Fine q
    mine p =
        subst (λ (s : Server Entry). IsBetween
        (history_of (moved_by g q (g.server q) ms).committed) s.lb (applied_in s)
        (disks_by disks q ms q) (new q)) (sym (goes_good ms g q (g.server q) h).is)
        (own_goes ms g q (g.server q) h disks d p disk (new q) (own p) is)

    theirs : (x : Place) → (x ≡ q → ⊥) → Fine x
    theirs x ne p =
        let grows = goes_grows ms g q (g.server q) h in
        let within = (d.each x p).sure.in_book in
        let k = prolong g.committed (moved_by g q (g.server q) ms).committed (g.server x).lb
        (applied_in (g.server x)) (disks x) (old x) within (le_trans within grows.longer)
        (λ i l. grows.agree i (le_trans l within)) (rest x ne p) in
        subst (λ (s : Server Entry). IsBetween
        (history_of (moved_by g q (g.server q) ms).committed) s.lb (applied_in s)
        (disks_by disks q ms x) (new x)) (sym (servers_stay ms g q (g.server q) x ne))
        (subst (λ (m : ℕ). IsBetween (history_of (moved_by g q (g.server q) ms).committed)
        (g.server x).lb (applied_in (g.server x)) m (new x)) (sym (disks_stay ms disks q x ne))
        (subst (λ (b : Disk). IsBetween (history_of (moved_by g q (g.server q) ms).committed)
        (g.server x).lb (applied_in (g.server x)) (disks x) b) (sym (others x ne)) k))

-- disks that all stay
pub stay_ok : (g : Group Entry) (disks : Disks) (old new : Stores) → StoresOk g disks old
    → AllStay old new → StoresOk g disks new
stay_ok g disks old new h same =
    record {
      each = λ x p. subst (λ (b : Disk). IsBetween (history_of g.committed) (g.server x).lb
          (applied_in (g.server x)) (disks x) b) (sym (same x)) (h.each x p);
    }

both_stay : (q : Place) (old new : Stores) → new q ≡ old q → ((x : Place) → (x ≡ q → ⊥)
    → new x ≡ old x) → AllStay old new
both_stay q old new own others x = ⊎_elim (λ (e : x ≡ q). subst (λ (y : Place). new y ≡
    old y) (sym e) own) (λ (ne : x ≡ q → ⊥). others x ne) (cases_place x q)

step_ok : (size : List Entry → Entry → ℕ) (g : Group Entry) → Whole g → (disks : Disks)
    → DisksOk g disks → (old new : Stores) → StoresOk g disks old → (q : Place) (i : Input)
    → Known g q i
    → OneDisk q (StoreStepped size g q i) old new
    → StoresOk (steps size g q i) (disks_stepped size g disks q i) new
step_ok size g w disks d old new h q i k one = split (g.server q).up refl one.own
  where
    split : (b : Bool) → (g.server q).up ≡ b
        → MatchBool b (StoreBy g q (g.server q) (step_of size g q i) (old q) (new q)) (new q ≡
        old q)
        → StoresOk (if b then moved_by g q (g.server q) (step_of size g q i) else g) (if b then
        disks_by disks q (step_of size g q i) else disks) new
    split true t own = stores_go g w q (step_of size g q i) (input_goes size g w q t i k) disks d
        old new (λ x ne p. h.each x p) (old q) (h.each q) own one.others
    split false t own = stay_ok g disks old new h (both_stay q old new own one.others)

-- what a cut step may have begun
pub begun_stays : (g : Group Entry) (disks : Disks) (q : Place) (i : Input) (x : Place)
    → (x ≡ q → ⊥) → disks_begun g disks q i x ≡ disks x
begun_stays g disks q (Does (Apply n)) x ne = disks_stay (apply q (g.server q) n) disks q x ne
begun_stays g disks q (Does Tick) x ne = refl
begun_stays g disks q (Does Suspect) x ne = refl
begun_stays g disks q (Does (Ask client number cred c)) x ne = refl
begun_stays g disks q (Does Flush) x ne = refl
begun_stays g disks q (Does ListTree) x ne = refl
begun_stays g disks q (Does Power) x ne = refl
begun_stays g disks q (Does Crash) x ne = refl
begun_stays g disks q (Comes from m) x ne = refl

pub none_begun : (history : History) (lb ap m : ℕ) (disk : Disk) → IsBetween history lb ap m disk
    → IsBetween history lb ap m (with_changes disk [])
none_begun history lb ap' m disk h = subst (λ (x : Disk). IsBetween history lb ap' m x)
    (sym (no_more disk)) h

pub begun_between : (g : Group Entry) → Whole g
    → (disks : Disks) (q : Place) (i : Input) (calls : ℕ) (disk : Disk)
    → IsBetween (history_of g.committed) (g.server q).lb (applied_in (g.server q)) (disks q) disk
    → IsBetween (history_of g.committed) (g.server q).lb (applied_in (g.server q))
    (disks_begun g disks q i q) (with_changes disk (begun g q i calls))
begun_between g w disks q (Does (Apply n)) calls disk h =
    split (all_of (settled_tests q (g.server q))) refl
  where
    split : (b : Bool) → all_of (settled_tests q (g.server q)) ≡ b
        → IsBetween (history_of g.committed) (g.server q).lb (applied_in (g.server q))
        (disks_by {E = Entry} disks q (if b then
        Applying (min ((g.server q).ap + n) (g.server q).cp) ∷ [] else []) q)
        (with_changes disk (if b then
        take calls (between (history_of (g.page (g.server q).accepted).list) (g.server q).ap
        (min ((g.server q).ap + n) (g.server q).cp)) else []))
    split false t = none_begun (history_of g.committed) (g.server q).lb (applied_in (g.server q))
        (disks q) disk h
    split true t =
        let k = min ((g.server q).ap + n) (g.server q).cp in
        let fine = w.ok.server q in
        let mode = settles_is (g.server q).mode (each_of (settled_tests q (g.server q)) t).0 in
        let active : IsActive (g.server q).mode = ⊎_elim (λ e. subst (λ z. IsActive z) (sym e) tt)
        (λ e. subst (λ z. IsActive z) (sym e) tt) mode in
        let held = (fine.modes.active active).0 in
        let order = fine.logs.order held in
        let low = order.2 in
        let sure = sure_less g.page g.committed (g.server q).accepted (g.server q).cp k
        (omega arith) (fine.logs.log held).sure in
        let same : between (history_of (g.page (g.server q).accepted).list) (g.server q).ap k ≡
        between (history_of g.committed) (g.server q).ap k =
        between_same k (g.server q).ap k (history_of (g.page (g.server q).accepted).list)
        (history_of g.committed) (le_refl k)
        (same_front k (g.page (g.server q).accepted).list g.committed sure.within sure.in_book
        sure.same) in
        let number : applied_in (g.server q) ≡ (g.server q).ap = ap (λ (h : Held). if is_log h then
        (g.server q).ap else (g.server q).lb) held in
        let from : IsBetween (history_of g.committed) (g.server q).lb (g.server q).ap
        (disks q) disk = subst (λ (n : ℕ). IsBetween (history_of g.committed) (g.server q).lb n
        (disks q) disk) number h in
        let done = cut_off (history_of g.committed) (g.server q).lb (g.server q).ap
        (disks q) k calls disk (once g.committed) from (omega arith) in
        subst (λ (m : ℕ). IsBetween (history_of g.committed) (g.server q).lb
        (applied_in (g.server q)) m
        (with_changes disk
        (take calls (between (history_of (g.page (g.server q).accepted).list)
        (g.server q).ap k)))) (sym (at_self disks q (max (disks q) k)))
        (subst (λ (m : ℕ). IsBetween (history_of g.committed) (g.server q).lb m (max (disks q) k)
        (with_changes disk
        (take calls (between (history_of (g.page (g.server q).accepted).list)
        (g.server q).ap k)))) (sym number)
        (subst (λ (l : List Change). IsBetween (history_of g.committed) (g.server q).lb
        (g.server q).ap (max (disks q) k) (with_changes disk (take calls l))) (sym same) done))
begun_between g w disks q (Does Tick) calls disk h = none_begun _ _ _ _ disk h
begun_between g w disks q (Does Suspect) calls disk h = none_begun _ _ _ _ disk h
begun_between g w disks q (Does (Ask client number cred c)) calls disk h =
    none_begun _ _ _ _ disk h
begun_between g w disks q (Does Flush) calls disk h = none_begun _ _ _ _ disk h
begun_between g w disks q (Does ListTree) calls disk h = none_begun _ _ _ _ disk h
begun_between g w disks q (Does Power) calls disk h = none_begun _ _ _ _ disk h
begun_between g w disks q (Does Crash) calls disk h = none_begun _ _ _ _ disk h
begun_between g w disks q (Comes from m) calls disk h = none_begun _ _ _ _ disk h

cut_ok : (size : List Entry → Entry → ℕ) (g : Group Entry) → Whole g → (disks : Disks)
    → DisksOk g disks → (old new : Stores) → StoresOk g disks old → (q : Place) (i : Input)
    → Known g q i
    → OneDisk q (StoreCut size g q i) old new
    → StoresOk (cut_steps size g q i) (disks_cut size g disks q i) new
cut_ok size g w disks d old new h q i k one = split (g.server q).up refl one.own
  where
    fallen : (b : Bool) → (g.server q).up ≡ true
        → MatchBool b ((calls : ℕ) × Falls (with_changes (old q) (begun g q i calls)) (new q))
        (StoreBy g q (g.server q) (step_of size g q i) (old q) (new q))
        → StoresOk (if b then moved_by g q (g.server q) (Falling ∷ []) else
        moved_by g q (g.server q) (step_of size g q i)) (if b then disks_begun g disks q i else
        disks_by disks q (step_of size g q i)) new
    fallen true t own = stores_go g w q (Falling ∷ []) (falls g q (g.server q) (good_of g w q))
        (disks_begun g disks q i) (disks_begin g w disks d q i) old new
        (λ x ne p. subst (λ (m : ℕ). IsBetween (history_of g.committed) (g.server x).lb
        (applied_in (g.server x)) m (old x)) (sym (begun_stays g disks q i x ne)) (h.each x p))
        (with_changes (old q) (begun g q i own.0)) (λ p. begun_between g w disks q i own.0 (old q)
        (h.each q p)) (new q, own.1, refl) one.others
    fallen false t own = stores_go g w q (step_of size g q i) (input_goes size g w q t i k) disks d
        old new (λ x ne p. h.each x p) (old q) (h.each q) own one.others

    split : (b : Bool) → (g.server q).up ≡ b
        → MatchBool b (MatchBool (writes_any q (g.clock q) (g.server q) (step_of size g q i))
        ((calls : ℕ) × Falls (with_changes (old q) (begun g q i calls)) (new q))
        (StoreBy g q (g.server q) (step_of size g q i) (old q) (new q))) (new q ≡ old q)
        → StoresOk (if b then (if writes_any q (g.clock q) (g.server q) (step_of size g q i) then
        moved_by g q (g.server q) (Falling ∷ []) else
        moved_by g q (g.server q) (step_of size g q i)) else g)
        (if b then (if writes_any q (g.clock q) (g.server q) (step_of size g q i) then
        disks_begun g disks q i else disks_by disks q (step_of size g q i)) else disks) new
    split true t own = fallen (writes_any q (g.clock q) (g.server q) (step_of size g q i)) t own
    split false t own = stay_ok g disks old new h (both_stay q old new own one.others)

boot_ok : (g : Group Entry) → Whole g → (disks : Disks) → DisksOk g disks → (old new : Stores)
    → StoresOk g disks old → (q : Place) → AllStay old new → StoresOk (boot g q) disks new
boot_ok g w disks d old new h q same = by_if (λ (g : Group Entry). StoresOk g disks new)
    (g.server q).up g _ (λ _. stay_ok g disks old new h same)
    (λ _. stores_go g w q (Booting g.delta ∷ []) (boot_goes g w q) disks d old new
    (λ x ne p. h.each x p) (old q) (h.each q) (new q, same q, refl) (λ x ne. same x))

after_ok : (size : List Entry → Entry → ℕ) (g : Group Entry) → Whole g → (disks : Disks)
    → DisksOk g disks → (old new : Stores) → StoresOk g disks old → (h : Happening)
    → StoresAfter size g h old new
    → StoresOk (happens size g h) (disks_after size g disks h) new
after_ok size g w disks d old new h (At q x) is = step_ok size g w disks d old new h q
    (Does x) tt is
after_ok size g w disks d old new h (Deliver n) is = came (numbered g.packets n) refl is
  where
    came : (o : Option (Packet Entry)) → numbered g.packets n ≡ o
        → StoresDelivered size g o old new
        → StoresOk (delivered size g o) (disks_delivered size g disks o) new
    came None e is = stay_ok g disks old new h is
    came (Some p) e is = step_ok size g w disks d old new h p.to (Comes p.from p.body)
        (sent_known g w n p e) is
after_ok size g w disks d old new h (CutAt q x) is = cut_ok size g w disks d old new h q
    (Does x) tt is
after_ok size g w disks d old new h (CutDeliver n) is = came (numbered g.packets n) refl is
  where
    came : (o : Option (Packet Entry)) → numbered g.packets n ≡ o
        → StoresCutDelivered size g o old new
        → StoresOk (cut_delivered size g o) (disks_cut_delivered size g disks o) new
    came None e is = stay_ok g disks old new h is
    came (Some p) e is = cut_ok size g w disks d old new h p.to (Comes p.from p.body)
        (sent_known g w n p e) is
after_ok size g w disks d old new h (Boot q) is = boot_ok g w disks d old new h q is
after_ok size g w disks d old new h (Clock q t) is =
    let k = stay_ok g disks old new h is in
    by_if (λ (g : Group Entry). StoresOk g disks new) (all_of (clock_tests g q t)) _ g
    (λ _. record { each = k.each }) (λ _. k)
after_ok size g w disks d old new h (Advance n) is = let k = stay_ok g disks old new h is in
    record { each = k.each }
after_ok size g w disks d old new h (Delta n) is =
    let k = stay_ok g disks old new h is in
    by_if (λ (g : Group Entry). StoresOk g disks new) (all_of (delta_tests n)) _ g
    (λ _. record { each = k.each }) (λ _. k)

pub stores_stay : StoresStay
stores_stay size g w disks d old new h [] is = stay_ok g disks old new h is
stores_stay size g w disks d old new h (x ∷ hs) is =
    stores_stay size (happens size g x) (happens_whole size g w x) (disks_after size g disks x)
    (disks_happen size g w disks d x) is.0 new (after_ok size g w disks d old is.0 h x is.1) hs
    is.2

-- ---- what follows

pub are_fuzzy : StoresAreFuzzy
are_fuzzy g w disks d stores h q p =
    let k = h.each q p in
    let committed = disk_committed g w disks d q p in
    record {
      far = disks q;
      in_book = committed.in_book;
      in_log = committed.held;
      settled = committed.settled;
      cells = is_wider (history_of g.committed) (applied_in (g.server q)) (disks q) (g.server q).lb
          (disks q) (reads (stores q)) k.now k.lb_ap (le_refl (disks q));
      left = k.moments;
    }

reads_rightly : (g : Group Entry) → Whole g → (disks : Disks) → DisksOk g disks → (stores : Stores)
    → StoresOk g disks stores → (q : Place) → is_p2 q ≡ false
    → (g.server q).held ≡ Log → (upto : ℕ) → disks q ≤ upto → ReadsRightly g q stores upto
reads_rightly g w disks d stores h q p held upto far =
    let list = (g.page (g.server q).accepted).list in
    let sure = (d.each q p).sure in
    let order = (w.ok.server q).logs.order held in
    let low = order.0 in
    let k = prolong g.committed list (g.server q).lb (applied_in (g.server q)) (disks q)
    (stores q) sure.in_book sure.within (λ i l. sym (sure.same i l)) (h.each q p) in
    let exact = gives_exactly (history_of list) (g.server q).base (applied_in (g.server q))
    (disks q) upto (reads (stores q)) k.now (le_trans low k.lb_ap) k.ap_m far in
    record {
      exact = exact;
      stand = alike_stand _ _ (take upto list) exact
          (stand list (are_updates [] list (w.books.list (g.server q).accepted
          (w.ok.server q).views.formed)) upto);
    }

pub read_exactly : ServersReadExactly
read_exactly g w disks d stores h q p =
    let x = d.each q p in
    let reads : (g.server q).held ≡ Log → (upto : ℕ) → disks q ≤ upto
    → ReadsRightly g q stores upto = reads_rightly g w disks d stores h q p in
    let active : (m : (g.server q).mode ≡ Open ⊎ (g.server q).mode ≡ Live) → (g.server q).held ≡
    Log = λ m.
    ((w.ok.server q).modes.active (⊎_elim (λ e. subst (λ z. IsActive z) (sym e) tt)
    (λ e. subst (λ z. IsActive z) (sym e) tt) m)).0 in
    record {
      upto = λ held upto far le. reads held upto far;
      at_top = λ held. reads held (top (g.server q)) (sure_held g w.ok q (disks q) held x.sure);
      at_cp_open = λ m. reads (active (inl m)) (g.server q).cp (x.settled (inl m));
      at_cp_live = λ m. reads (active (inr m)) (g.server q).cp (x.settled (inr m));
    }

-- ---- where a run begins

pub first_stores : StoresOk first_group empty_disks empty_stores
unfolding all_of room
first_stores = record { each = all }
  where
    all : (q : Place) → is_p2 q ≡ false → IsBetween (history_of []) (first_group.server q).lb
        (applied_in (first_group.server q)) 0 (synced_to no_cells)
    all Zero p = new_disks (history_of [])
    all One p = new_disks (history_of [])
    all Two p = absurd (true≢false p)
