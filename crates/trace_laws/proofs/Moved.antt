-- Each move keeps its server's disk between the mark and how far it may be.
use Rattle.std.proofs.Common.{◌≡◌, ℕ, ◌≤◌, ◌&&◌, Bool, true, false, List, [], ◌∷◌, max, Option, Some, None, refl, sym, ap, ◌∙◌, subst, le_refl, le_trans, true≢false, if◌then◌else◌}
use Rattle.file_tree.specs.Book.{Entry}
use Rattle.harp_cells.specs.declared.change.Change.{Change}
use Rattle.fuzzy_cells.specs.History.{History, between}
use Rattle.fuzzy_cells.specs.Disk.{Disk, IsBetween, reads, synced_to, with_changes}
use Rattle.fuzzy_cells.proofs.Disks.{applied, crashed, saved, synced}
use Rattle.record_changes.specs.Records.{history_of}
use Rattle.record_changes.proofs.Histories.{once}
use Rattle.group_safety.specs.Disks.{Disks, DisksOk, disks_by, disks_moved}
use Rattle.group_rules.specs.Effects.{booted, down, lengthened, load_tests, loaded, saving}
use Rattle.group_safety.specs.Facts.{Ok}
use Rattle.group_rules.specs.Limits.{can_have, is_log, is_outside}
use Rattle.group_rules.specs.Moves.{Accepting, Appending, Applying, Basing, Booting, Choosing, Collecting, Committing, Demoting, Falling, Flushing, Hearing, Heeding, Joining, Move, Noting, Opening, Pulling, Reading, Saving, Saying, Sending, Staging, act, acts, moved, moved_by}
use Rattle.group_rules.specs.Places.{Place, all_of, is_p2}
use Rattle.group_rules.specs.State.{Group, Held, Log, Lost, Empty, Saved, Server, mark_of}
use Rattle.group_rules.specs.Step.{saves}
use Rattle.group_rules.proofs.Tests.{by_if}
use Rattle.group_safety.proofs.Common.{sure_less}
use Rattle.group_safety.proofs.Disks.{disks_kept, goes_first}
use Rattle.group_safety.proofs.Growth.{grows_moved}
use Rattle.group_safety.proofs.Moving.{Good, Goes, May, at_self, its}
use Rattle.group_safety.proofs.Quiet.{fine}
use Rattle.trace_laws.specs.Stores.{Saves, StoreBy, StoreMoved, applied_in}
use Rattle.trace_laws.proofs.Between.{again_from, between_same, prolong, same_front}

-- ---- one move

-- a log of a server: AP is what is applied
in_log : (s : Server Entry) → s.held ≡ Log → applied_in s ≡ s.ap
in_log s e = ap (λ (h : Held). if is_log h then s.ap else s.lb) e

-- a boot of a data server keeps LB, and begins a log with AP = LB
boot_numbers : (q : Place) (c d : ℕ) (s : Server Entry) → is_p2 q ≡ false
    → ((booted q c d (mark_of s)).lb ≡ s.lb) × (applied_in (booted q c d (mark_of s)) ≡ s.lb)
boot_numbers q c d s p = by_if (λ (x : Server Entry). (x.lb ≡ s.lb) × (applied_in x ≡ s.lb))
    (is_p2 q && is_outside s.role) _ _
    (λ _. (refl, refl)) (λ _. loads s.saved)
  where
    mine : (v : Saved Entry) → (if is_p2 q then v.base else s.lb) ≡ s.lb
    mine v = by_if (λ (x : ℕ). x ≡ s.lb) (is_p2 q) v.base s.lb
        (λ t. absurd (true≢false (sym t ∙ p))) (λ _. refl)

    loads : (o : Option (Saved Entry)) → ((loaded q c d (lengthened d (mark_of s)) o).lb ≡ s.lb)
        × (applied_in (loaded q c d (lengthened d (mark_of s)) o) ≡ s.lb)
    loads None = (refl, refl)
    loads (Some v) = by_if (λ (x : Server Entry). (x.lb ≡ s.lb) × (applied_in x ≡ s.lb))
        (all_of (can_have q s.role ∷ load_tests s.lb v)) _ _
        (λ _. (mine v, mine v)) (λ _. (refl, refl))

-- a power failure: where a log is saved, LB becomes AP
save_between : (history : History) (q : Place) (s : Server Entry) (m : ℕ) (disk new : Disk)
    → is_p2 q ≡ false → IsBetween history s.lb (applied_in s) m disk → Saves s disk new
    → (o : Option (Saved Entry)) → s.saved ≡ o → (h : Held) → s.held ≡ h
    → IsBetween history (down (mark_of (saving q s o))).lb
    (applied_in (down (mark_of (saving q s o)))) m new
save_between history q s m disk new p h w (Some v) e Log k =
    subst (λ (d : Disk). IsBetween history s.lb s.lb m d) (sym (w.is ∙ ap (λ (b : Bool). if b then
    synced_to (reads (with_changes disk w.more)) else disk) (let x : saves s.held s.saved ≡
    false = rw (e, k) refl in x))) (again_from history s.lb (applied_in s) m disk h)
save_between history q s m disk new p h w (Some v) e Lost k =
    subst (λ (d : Disk). IsBetween history s.lb s.lb m d) (sym (w.is ∙ ap (λ (b : Bool). if b then
    synced_to (reads (with_changes disk w.more)) else disk) (let x : saves s.held s.saved ≡
    false = rw (e, k) refl in x))) (again_from history s.lb (applied_in s) m disk h)
save_between history q s m disk new p h w (Some v) e Empty k =
    subst (λ (d : Disk). IsBetween history s.lb s.lb m d) (sym (w.is ∙ ap (λ (b : Bool). if b then
    synced_to (reads (with_changes disk w.more)) else disk) (let x : saves s.held s.saved ≡
    false = rw (e, k) refl in x))) (again_from history s.lb (applied_in s) m disk h)
save_between history q s m disk new p h w None e Log k =
    let is : new ≡ synced_to (reads (with_changes disk w.more)) = w.is
    ∙ ap (λ (b : Bool). if b then synced_to (reads (with_changes disk w.more)) else
    disk) (let x : saves s.held s.saved ≡ true = rw (e, k) refl in x) in
    let put = saved history s.lb (applied_in s) m disk w.more h w.saved in
    let done = (synced history s.lb (applied_in s) m (with_changes disk w.more) put).1 in
    let number : (if is_p2 q then s.lb else s.ap) ≡ applied_in s = ap (λ (b : Bool). if b then
    s.lb else s.ap) p ∙ sym (in_log s k) in
    rw k (subst (λ (n : ℕ). IsBetween history n n m new) (sym number)
    (subst (λ (d : Disk). IsBetween history (applied_in s) (applied_in s) m d) (sym is) done))
save_between history q s m disk new p h w None e Lost k =
    rw k (subst (λ (d : Disk). IsBetween history s.lb s.lb m d)
    (sym (w.is ∙ ap (λ (b : Bool). if b then synced_to (reads (with_changes disk w.more)) else
    disk) (let x : saves s.held s.saved ≡ false = rw (e, k) refl in x)))
    (again_from history s.lb (applied_in s) m disk h))
save_between history q s m disk new p h w None e Empty k =
    rw k (subst (λ (d : Disk). IsBetween history s.lb s.lb m d)
    (sym (w.is ∙ ap (λ (b : Bool). if b then synced_to (reads (with_changes disk w.more)) else
    disk) (let x : saves s.held s.saved ≡ false = rw (e, k) refl in x)))
    (again_from history s.lb (applied_in s) m disk h))

-- the server's disk before a move and after it
abbrev Before : Group Entry → Server Entry → ℕ → Disk → Type 0
Before g s m disk = IsBetween (history_of g.committed) s.lb (applied_in s) m disk

abbrev Then : Group Entry → Place → Server Entry → Move Entry → ℕ → Disk → Type 0
Then g q s m n new = IsBetween (history_of (moved g q s m).committed) (act q (g.clock q) s m).lb
    (applied_in (act q (g.clock q) s m)) n new

-- the disk beside the book after the move
pub grown : (g : Group Entry) (q : Place) (s : Server Entry) (m : Move Entry) → Good g q s
    → May g q s m → (disks : Disks) → DisksOk g disks → (x : Place) → is_p2 x ≡ false
    → (lb ap : ℕ) (disk : Disk)
    → IsBetween (history_of g.committed) lb ap (disks x) disk
    → IsBetween (history_of (moved g q s m).committed) lb ap (disks x) disk
grown g q s m h may disks d x p lb ap' disk k =
    let grows = grows_moved g h.ok q s h.is m may.0 may.1 in
    let within = (d.each x p).sure.in_book in
    prolong g.committed (moved g q s m).committed lb ap' (disks x) disk within
    (le_trans within grows.longer) (λ i l. grows.agree i (le_trans l within)) k

apply_between : (g : Group Entry) (q : Place) (s : Server Entry) (k : ℕ) → Good g q s
    → May g q s (Applying k) → Ok (moved g q s (Applying k)) → (m : ℕ) (disk new : Disk)
    → Before g s m disk
    → StoreMoved (g.page s.accepted).list s (Applying k) disk new
    → IsBetween (history_of g.committed) s.lb (if is_log s.held then k else s.lb) (max m k) new
apply_between g q s k h may next m disk new old is =
    let held = may.2 in
    let le : k ≤ s.cp =
    ((fine (moved g q s (Applying k)) next q (act q (g.clock q) s (Applying k))
    (at_self g.server q (act q (g.clock q) s (Applying k)))).logs.order held).2 in
    let sure = sure_less g.page g.committed s.accepted s.cp k le ((its h).logs.log held).sure in
    let same : between (history_of (g.page s.accepted).list) s.ap k ≡
    between (history_of g.committed) s.ap k =
    between_same k s.ap k (history_of (g.page s.accepted).list) (history_of g.committed)
    (le_refl k) (same_front k (g.page s.accepted).list g.committed sure.within sure.in_book
    sure.same) in
    let from : IsBetween (history_of g.committed) s.lb s.ap m disk =
    subst (λ (n : ℕ). IsBetween (history_of g.committed) s.lb n m disk) (in_log s held) old in
    let done = applied (history_of g.committed) s.lb s.ap m k disk
    (once g.committed) from may.0.1 in
    let number : k ≡ (if is_log s.held then k else s.lb) = ap (λ (h : Held). if is_log h then
    k else s.lb) (sym held) in
    subst (λ (n : ℕ). IsBetween (history_of g.committed) s.lb n (max m k) new) number
    (subst (λ (d : Disk). IsBetween (history_of g.committed) s.lb k (max m k) d)
    (sym (is ∙ ap (λ (l : List Change). with_changes disk l) same)) done)

pub own_moved : (g : Group Entry) (q : Place) (s : Server Entry) (m : Move Entry) → Good g q s
    → May g q s m → Ok (moved g q s m) → (disks : Disks) → DisksOk g disks → is_p2 q ≡ false
    → (disk new : Disk)
    → Before g s (disks q) disk → StoreMoved (g.page s.accepted).list s m disk new
    → Then g q s m (disks_moved disks q m q) new
own_moved g q s (Applying k) h may next disks d p disk new old is =
    subst (λ (n : ℕ). Then g q s (Applying k) n new) (sym (at_self disks q (max (disks q) k)))
    (apply_between g q s k h may next (disks q) disk new old is)
own_moved g q s (Joining v duty) h may next disks d p disk new old is =
    subst (λ (x : Disk). Then g q s (Joining v duty) (disks q) x) (sym is) old
own_moved g q s (Collecting reports) h may next disks d p disk new old is =
    subst (λ (x : Disk). Then g q s (Collecting reports) (disks q) x) (sym is) old
own_moved g q s (Choosing plan from) h may next disks d p disk new old is =
    subst (λ (x : Disk). Then g q s (Choosing plan from) (disks q) x) (sym is) old
own_moved g q s (Pulling plan first) h may next disks d p disk new old is =
    subst (λ (x : Disk). Then g q s (Pulling plan first) (disks q) x) (sym is) old
own_moved g q s (Staging items) h may next disks d p disk new old is =
    subst (λ (x : Disk). Then g q s (Staging items) (disks q) x) (sym is) old
own_moved g q s (Hearing y lb) h may next disks d p disk new old is =
    subst (λ (x : Disk). Then g q s (Hearing y lb) (disks q) x) (sym is) old
own_moved g q s (Accepting plan role l) h may next disks d p disk new old is =
    let numbers = may.0 p in
    subst (λ (x : Disk). Then g q s (Accepting plan role l) (disks q) x) (sym is)
    (subst (λ (n : ℕ). IsBetween (history_of g.committed) n l.ap (disks q) disk) (sym numbers.0)
    (subst (λ (n : ℕ). IsBetween (history_of g.committed) s.lb n (disks q) disk)
    (sym numbers.1) old))
own_moved g q s (Opening lb) h may next disks d p disk new old is =
    subst (λ (x : Disk). Then g q s (Opening lb) (disks q) x) (sym is)
    (grown g q s (Opening lb) h may disks d q p s.lb (applied_in s) disk old)
own_moved g q s (Heeding items cp base) h may next disks d p disk new old is =
    subst (λ (x : Disk). Then g q s (Heeding items cp base) (disks q) x) (sym is) old
own_moved g q s (Appending e) h may next disks d p disk new old is =
    subst (λ (x : Disk). Then g q s (Appending e) (disks q) x) (sym is) old
own_moved g q s (Noting told lb until) h may next disks d p disk new old is =
    subst (λ (x : Disk). Then g q s (Noting told lb until) (disks q) x) (sym is) old
own_moved g q s (Committing n) h may next disks d p disk new old is =
    subst (λ (x : Disk). Then g q s (Committing n) (disks q) x) (sym is)
    (grown g q s (Committing n) h may disks d q p s.lb (applied_in s) disk old)
own_moved g q s (Basing n) h may next disks d p disk new old is =
    subst (λ (x : Disk). Then g q s (Basing n) (disks q) x) (sym is) old
own_moved g q s Flushing h may next disks d p disk new old is =
    let number = in_log s may.2 in
    let done = (synced (history_of g.committed) s.lb (applied_in s) (disks q) disk old).1 in
    let both : IsBetween (history_of g.committed) s.ap s.ap (disks q) (synced_to (reads disk)) =
    subst (λ (n : ℕ). IsBetween (history_of g.committed) n n (disks q)
    (synced_to (reads disk))) number done in
    let same : s.ap ≡ (if is_log s.held then s.ap else s.ap) = ap (λ (h : Held). if is_log h then
    s.ap else s.ap) (sym may.2) in
    subst (λ (x : Disk). Then g q s Flushing (disks q) x) (sym is)
    (subst (λ (n : ℕ). IsBetween (history_of g.committed) s.ap n (disks q)
    (synced_to (reads disk))) same both)
own_moved g q s (Demoting v) h may next disks d p disk new old is =
    absurd (true≢false (sym (ap is_p2 may.1.0) ∙ p))
own_moved g q s Saving h may next disks d p disk new old is =
    save_between (history_of g.committed) q s (disks q) disk new p old is s.saved refl s.held refl
own_moved g q s Falling h may next disks d p disk new old is =
    let put = saved (history_of g.committed) s.lb (applied_in s)
    (disks q) disk is.more old is.saved in
    subst (λ (x : Disk). Then g q s Falling (disks q) x) (sym is.is)
    (crashed (history_of g.committed) s.lb (applied_in s) (disks q)
    (with_changes disk is.more) is.left put is.may)
own_moved g q s (Booting delta) h may next disks d p disk new old is =
    let numbers = boot_numbers q (g.clock q) delta s p in
    subst (λ (x : Disk). Then g q s (Booting delta) (disks q) x) (sym is)
    (subst (λ (n : ℕ). IsBetween (history_of g.committed) n
    (applied_in (booted q (g.clock q) delta (mark_of s))) (disks q) disk) (sym numbers.0)
    (subst (λ (n : ℕ). IsBetween (history_of g.committed) s.lb n (disks q) disk) (sym numbers.1)
    (again_from (history_of g.committed) s.lb (applied_in s) (disks q) disk old)))
own_moved g q s (Reading n e) h may next disks d p disk new old is =
    subst (λ (x : Disk). Then g q s (Reading n e) (disks q) x) (sym is) old
own_moved g q s (Saying say) h may next disks d p disk new old is =
    subst (λ (x : Disk). Then g q s (Saying say) (disks q) x) (sym is) old
own_moved g q s (Sending to m) h may next disks d p disk new old is =
    subst (λ (x : Disk). Then g q s (Sending to m) (disks q) x) (sym is) old

-- ---- several moves

pub own_goes : (ms : List (Move Entry)) (g : Group Entry) (q : Place) (s : Server Entry)
    → Goes g q s ms → (disks : Disks) → DisksOk g disks → is_p2 q ≡ false → (disk new : Disk)
    → Before g s (disks q) disk → StoreBy g q s ms disk new
    → IsBetween (history_of (moved_by g q s ms).committed) (acts q (g.clock q) s ms).lb
    (applied_in (acts q (g.clock q) s ms)) (disks_by disks q ms q) new
unfolding Goes
own_goes [] g q s h disks d p disk new old is = subst (λ (x : Disk). Before g s (disks q) x)
    (sym is) old
own_goes (m ∷ ms) g q s h disks d p disk new old is =
    let next = (goes_first ms (moved g q s m) q (act q (g.clock q) s m) h.2).ok in
    own_goes ms (moved g q s m) q (act q (g.clock q) s m) h.2 (disks_moved disks q m)
    (disks_kept g q s m h.0 h.1 next disks d) p is.0 new
    (own_moved g q s m h.0 h.1 next disks d p disk is.0 old is.1) is.2
