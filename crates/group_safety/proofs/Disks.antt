-- The moves keep what is said of how far the disks are.
use Rattle.std.proofs.Common.{◌≡◌, ℕ, Bool, true, false, List, [], ◌∷◌, Option, None, Some, max, refl, sym, ap, subst, arith, true≢false, ⊎_elim, zero-le, if◌then◌else◌}
use Rattle.file_tree.specs.Book.{Entry}
use Rattle.group_rules.specs.Disk.{settled_tests}
use Rattle.group_safety.specs.Disks.{DiskAt, DiskIsCommitted, Disks, DisksAreCommitted, DisksOk, disks_after, disks_begun, disks_by, disks_cut, disks_cut_delivered, disks_delivered, disks_moved, disks_run, disks_stepped, empty_disks}
use Rattle.group_safety.specs.Facts.{Ok}
use Rattle.group_safety.specs.Laws.{Whole}
use Rattle.group_rules.specs.Limits.{delta_tests, room}
use Rattle.group_rules.specs.Moves.{Accepting, Appending, Applying, Basing, Booting, Choosing, Collecting, Committing, Demoting, Falling, Flushing, Hearing, Heeding, Joining, Move, Noting, Opening, Pulling, Reading, Saving, Saying, Sending, Staging, act, moved, moved_by}
use Rattle.group_rules.specs.Places.{Zero, One, Two, Place, all_of, at, is_p2}
use Rattle.group_rules.specs.State.{Group, Log, Packet, Server}
use Rattle.group_rules.specs.Step.{Advance, Apply, Ask, At, Boot, Clock, Comes, Crash, CutAt, CutDeliver, Deliver, Delta, Does, Flush, Happening, Input, ListTree, Power, Suspect, Tick, boot, clock_tests, cut_delivered, cut_steps, delivered, first_group, happens, numbered, run, step_of, steps, writes_any}
use Rattle.group_safety.specs.Words.{IsActive}
use Rattle.group_safety.proofs.Common.{each_other}
use Rattle.group_safety.proofs.DiskMoves.{Turn, applies, disk_grows, next_fine, turns}
use Rattle.group_safety.proofs.Growth.{grows_moved}
use Rattle.group_safety.proofs.Joining.{sure_zero}
use Rattle.group_safety.proofs.Lawful.{sure_held}
use Rattle.group_safety.proofs.Modes.{settles_is}
use Rattle.group_safety.proofs.Moving.{Good, Goes, May, its}
use Rattle.group_safety.proofs.Safe.{boot_goes, first_whole, good_of, happens_whole, input_goes, run_whole, sent_known}
use Rattle.group_safety.proofs.Steps.{Known, falls}
use Rattle.group_rules.proofs.Tests.{by_if, each_of}

-- two tables with a new value at one place
at_both : {A B : Type 0} (P : Place → A → B → Type 0) (f : Place → A) (d : Place → B) (q : Place)
    (a : A) (b : B) → ((x : Place) → P x (f x) (d x)) → P q a b → (x : Place)
    → P x (at f q a x) (at d q b x)
at_both P f d Zero a b old new Zero = new
at_both P f d Zero a b old new One = old One
at_both P f d Zero a b old new Two = old Two
at_both P f d One a b old new Zero = old Zero
at_both P f d One a b old new One = new
at_both P f d One a b old new Two = old Two
at_both P f d Two a b old new Zero = old Zero
at_both P f d Two a b old new One = old One
at_both P f d Two a b old new Two = new

-- ---- a move

-- each disk beside the history after it
all_grow : (g : Group Entry) (q : Place) (s : Server Entry) (m : Move Entry) → Good g q s
    → May g q s m → (disks : Disks) → DisksOk g disks → (x : Place) → is_p2 x ≡ false
    → DiskAt (moved g q s m).page (moved g q s m).committed (g.server x) (disks x)
all_grow g q s m h may disks d x p = disk_grows (grows_moved g h.ok q s h.is m may.0 may.1)
    (g.server x) (disks x) (h.ok.server x).views.formed (d.each x p)

turn : (g : Group Entry) (q : Place) (s : Server Entry) (m : Move Entry) → Good g q s → May g q s m
    → Ok (moved g q s m) → (disks : Disks) → DisksOk g disks → is_p2 q ≡ false
    → Turn g q s m (disks q)
turn g q s m h may k disks d p = record {
  good = h;
  may = may;
  next = k;
  data_server = p;
  old = subst (λ (s : Server Entry). DiskAt g.page g.committed s (disks q)) h.is (d.each q p);
  now = subst
      (λ (x : Server Entry). DiskAt (moved g q s m).page (moved g q s m).committed x (disks q)) h.is
      (all_grow g q s m h may disks d q p);
  grows = grows_moved g h.ok q s h.is m may.0 may.1;
}

stay : (g : Group Entry) (q : Place) (s : Server Entry) (m : Move Entry) → Good g q s → May g q s m
    → Ok (moved g q s m) → (disks : Disks) → DisksOk g disks → ((k : ℕ) → m ≡ Applying k → ⊥)
    → DisksOk (moved g q s m) disks
stay g q s m h may k disks d apart = record {
  each = each_other
      (λ x s'. is_p2 x ≡ false → DiskAt (moved g q s m).page (moved g q s m).committed s' (disks x))
      g.server q (act q (g.clock q) s m)
      (λ x ne p. all_grow g q s m h may disks d x p)
      (λ p. turns g q s (disks q) m (turn g q s m h may k disks d p) apart);
}

apply_moved : (g : Group Entry) (q : Place) (s : Server Entry) (n : ℕ) → Good g q s
    → May g q s (Applying n) → Ok (moved g q s (Applying n)) → (disks : Disks) → DisksOk g disks
    → DisksOk (moved g q s (Applying n)) (at disks q (max (disks q) n))
apply_moved g q s n h may k disks d = record {
  each = at_both (λ x s' m. is_p2 x ≡ false → DiskAt g.page g.committed s' m) g.server disks q
      (record s { ap = n }) (max (disks q) n)
      (λ x p. d.each x p)
      (λ p.
      let le = ((next_fine g q s (Applying n) k).logs.order may.2).2 in
      let old : DiskAt g.page g.committed s (disks q) = subst
      (λ (s : Server Entry). DiskAt g.page g.committed s (disks q)) h.is (d.each q p) in
      let y = applies g.page g.committed s (disks q) n old ((its h).logs.log may.2).sure le may.0.0
      in
      record {
        lb = y.lb;
        ap = λ _. omega arith;
        sure = y.sure;
        waits = y.waits;
        settled = y.settled;
      });
}

pub disks_kept : (g : Group Entry) (q : Place) (s : Server Entry) (m : Move Entry) → Good g q s
    → May g q s m → Ok (moved g q s m) → (disks : Disks) → DisksOk g disks
    → DisksOk (moved g q s m) (disks_moved disks q m)
disks_kept g q s (Applying n) h may k disks d = apply_moved g q s n h may k disks d
disks_kept g q s (Joining v duty) h may k disks d = stay g q s (Joining v duty) h may k disks d
    (λ x e. cc)
disks_kept g q s (Collecting reports) h may k disks d = stay g q s (Collecting reports) h may k
    disks d (λ x e. cc)
disks_kept g q s (Choosing plan from) h may k disks d = stay g q s (Choosing plan from) h may k
    disks d (λ x e. cc)
disks_kept g q s (Pulling plan first) h may k disks d = stay g q s (Pulling plan first) h may k
    disks d (λ x e. cc)
disks_kept g q s (Staging items) h may k disks d = stay g q s (Staging items) h may k disks d
    (λ x e. cc)
disks_kept g q s (Hearing y lb) h may k disks d = stay g q s (Hearing y lb) h may k disks d
    (λ x e. cc)
disks_kept g q s (Accepting plan role l) h may k disks d = stay g q s (Accepting plan role l) h may
    k disks d (λ x e. cc)
disks_kept g q s (Opening lb) h may k disks d = stay g q s (Opening lb) h may k disks d (λ x e. cc)
disks_kept g q s (Heeding items cp base) h may k disks d = stay g q s (Heeding items cp base) h may
    k disks d (λ x e. cc)
disks_kept g q s (Appending e) h may k disks d = stay g q s (Appending e) h may k disks d
    (λ x e. cc)
disks_kept g q s (Noting told lb until) h may k disks d = stay g q s (Noting told lb until) h may k
    disks d (λ x e. cc)
disks_kept g q s (Committing n) h may k disks d = stay g q s (Committing n) h may k disks d
    (λ x e. cc)
disks_kept g q s (Basing n) h may k disks d = stay g q s (Basing n) h may k disks d (λ x e. cc)
disks_kept g q s Flushing h may k disks d = stay g q s Flushing h may k disks d (λ x e. cc)
disks_kept g q s (Demoting v) h may k disks d = stay g q s (Demoting v) h may k disks d (λ x e. cc)
disks_kept g q s Saving h may k disks d = stay g q s Saving h may k disks d (λ x e. cc)
disks_kept g q s Falling h may k disks d = stay g q s Falling h may k disks d (λ x e. cc)
disks_kept g q s (Booting b) h may k disks d = stay g q s (Booting b) h may k disks d (λ x e. cc)
disks_kept g q s (Reading n e) h may k disks d = stay g q s (Reading n e) h may k disks d
    (λ x e. cc)
disks_kept g q s (Saying say) h may k disks d = stay g q s (Saying say) h may k disks d (λ x e. cc)
disks_kept g q s (Sending to m) h may k disks d = stay g q s (Sending to m) h may k disks d
    (λ x e. cc)

-- ---- steps

-- what is good begins the list of moves
pub goes_first : (ms : List (Move Entry)) (g : Group Entry) (q : Place) (s : Server Entry)
    → Goes g q s ms → Good g q s
unfolding Goes
goes_first [] g q s h = h
goes_first (m ∷ ms) g q s h = h.0

pub disks_go : (ms : List (Move Entry)) (g : Group Entry) (q : Place) (s : Server Entry)
    → Goes g q s ms → (disks : Disks) → DisksOk g disks
    → DisksOk (moved_by g q s ms) (disks_by disks q ms)
unfolding Goes
disks_go [] g q s h disks d = d
disks_go (m ∷ ms) g q s h disks d = disks_go ms (moved g q s m) q (act q (g.clock q) s m) h.2
    (disks_moved disks q m)
    (disks_kept g q s m h.0 h.1 (goes_first ms (moved g q s m) q (act q (g.clock q) s m) h.2).ok
    disks d)

disks_step : (size : List Entry → Entry → ℕ) (g : Group Entry) → Whole g → (disks : Disks)
    → DisksOk g disks → (q : Place) (i : Input) → Known g q i
    → DisksOk (steps size g q i) (disks_stepped size g disks q i)
disks_step size g h disks d q i k = split (g.server q).up refl
  where
    split : (b : Bool) → (g.server q).up ≡ b
        → DisksOk (if b then moved_by g q (g.server q) (step_of size g q i) else g)
        (if b then disks_by disks q (step_of size g q i) else disks)
    split true t = disks_go (step_of size g q i) g q (g.server q) (input_goes size g h q t i k)
        disks d
    split false t = d

-- a step that is cut: the disk may be as far as what it was to apply, which is within CP
pub disks_begin : (g : Group Entry) → Whole g → (disks : Disks) → DisksOk g disks
    → (q : Place) (i : Input) → DisksOk g (disks_begun g disks q i)
disks_begin g h disks d q (Does (Apply n)) =
    by_if (λ (ms : List (Move Entry)). DisksOk g (disks_by disks q ms))
    (all_of (settled_tests q (g.server q))) _ [] (λ t.
    let mode = settles_is (g.server q).mode (each_of (settled_tests q (g.server q)) t).0 in
    let fine = h.ok.server q in
    let active : IsActive (g.server q).mode = ⊎_elim (λ e. subst (λ z. IsActive z) (sym e) tt)
    (λ e. subst (λ z. IsActive z) (sym e) tt) mode in
    let log = fine.logs.log (fine.modes.active active).0 in
    record {
      each = at_disk (λ x m. is_p2 x ≡ false → DiskAt g.page g.committed (g.server x) m) disks q _
          d.each
          (λ p. applies g.page g.committed (g.server q) (disks q) _ (d.each q p) log.sure
          (omega arith) mode);
    })
    (λ _. d)
  where
    at_disk : (P : Place → ℕ → Type 0) (d : Disks) (q : Place) (n : ℕ) → ((x : Place) → P x (d x))
        → P q n → (x : Place) → P x (at d q n x)
    at_disk P d q n old new = each_other (λ x n. P x n) d q n (λ x ne. old x) new
disks_begin g h disks d q (Does Tick) = d
disks_begin g h disks d q (Does Suspect) = d
disks_begin g h disks d q (Does (Ask client number cred c)) = d
disks_begin g h disks d q (Does Flush) = d
disks_begin g h disks d q (Does ListTree) = d
disks_begin g h disks d q (Does Power) = d
disks_begin g h disks d q (Does Crash) = d
disks_begin g h disks d q (Comes from m) = d

disks_fall : (size : List Entry → Entry → ℕ) (g : Group Entry) → Whole g → (disks : Disks)
    → DisksOk g disks → (q : Place) (i : Input) → Known g q i
    → DisksOk (cut_steps size g q i) (disks_cut size g disks q i)
disks_fall size g h disks d q i k = split (g.server q).up refl
  where
    fallen : (b : Bool) → (g.server q).up ≡ true
        → DisksOk
        (if b then moved_by g q (g.server q) (Falling ∷ []) else moved_by g q (g.server q)
        (step_of size g q i))
        (if b then disks_begun g disks q i else disks_by disks q (step_of size g q i))
    fallen true t = disks_go (Falling ∷ []) g q (g.server q)
        (falls g q (g.server q) (good_of g h q)) (disks_begun g disks q i)
        (disks_begin g h disks d q i)
    fallen false t = disks_go (step_of size g q i) g q (g.server q) (input_goes size g h q t i k)
        disks d

    split : (b : Bool) → (g.server q).up ≡ b
        → DisksOk
        (if b then (if writes_any q (g.clock q) (g.server q) (step_of size g q i) then moved_by
        g q (g.server q) (Falling ∷ []) else moved_by g q (g.server q) (step_of size g q i))
        else g)
        (if b then (if writes_any q (g.clock q) (g.server q) (step_of size g q i) then disks_begun g
        disks q i else disks_by disks q (step_of size g q i)) else disks)
    split true t = fallen (writes_any q (g.clock q) (g.server q) (step_of size g q i)) t
    split false t = d

pub disks_boot : (g : Group Entry) → Whole g → (disks : Disks) → DisksOk g disks → (q : Place)
    → DisksOk (boot g q) disks
disks_boot g h disks d q = by_if (λ (g : Group Entry). DisksOk g disks) (g.server q).up g _ (λ _. d)
    (λ _. disks_go (Booting g.delta ∷ []) g q (g.server q) (boot_goes g h q) disks d)

pub disks_happen : (size : List Entry → Entry → ℕ) (g : Group Entry) → Whole g → (disks : Disks)
    → DisksOk g disks → (h : Happening) → DisksOk (happens size g h) (disks_after size g disks h)
disks_happen size g h disks d (At q x) = disks_step size g h disks d q (Does x) tt
disks_happen size g h disks d (Deliver n) = came (numbered g.packets n) refl
  where
    came : (o : Option (Packet Entry)) → numbered g.packets n ≡ o
        → DisksOk (delivered size g o) (disks_delivered size g disks o)
    came None e = d
    came (Some p) e = disks_step size g h disks d p.to (Comes p.from p.body) (sent_known g h n p e)
disks_happen size g h disks d (CutAt q x) = disks_fall size g h disks d q (Does x) tt
disks_happen size g h disks d (CutDeliver n) = came (numbered g.packets n) refl
  where
    came : (o : Option (Packet Entry)) → numbered g.packets n ≡ o
        → DisksOk (cut_delivered size g o) (disks_cut_delivered size g disks o)
    came None e = d
    came (Some p) e = disks_fall size g h disks d p.to (Comes p.from p.body) (sent_known g h n p e)
disks_happen size g h disks d (Boot q) = disks_boot g h disks d q
disks_happen size g h disks d (Clock q t) = by_if (λ (g : Group Entry). DisksOk g disks)
    (all_of (clock_tests g q t)) _ g (λ _. record { each = d.each }) (λ _. d)
disks_happen size g h disks d (Advance n) = record { each = d.each }
disks_happen size g h disks d (Delta n) = by_if (λ (g : Group Entry). DisksOk g disks)
    (all_of (delta_tests n)) _ g (λ _. record { each = d.each }) (λ _. d)

pub disks_kept_by : (size : List Entry → Entry → ℕ) (hs : List Happening) (g : Group Entry)
    → Whole g → (disks : Disks) → DisksOk g disks
    → DisksOk (run size g hs) (disks_run size g disks hs)
disks_kept_by size [] g h disks d = d
disks_kept_by size (x ∷ hs) g h disks d = disks_kept_by size hs (happens size g x)
    (happens_whole size g h x) (disks_after size g disks x) (disks_happen size g h disks d x)

-- ---- the laws

pub disk_committed : (g : Group Entry) → Whole g → (disks : Disks) → DisksOk g disks → (q : Place)
    → is_p2 q ≡ false → DiskIsCommitted g q (disks q)
disk_committed g h disks d q p =
    let x = d.each q p in
    record {
      lb = x.lb;
      ap = x.ap;
      in_book = x.sure.in_book;
      in_list = x.sure.within;
      same = x.sure.same;
      held = λ e. sure_held g h.ok q (disks q) e x.sure;
      settled = x.settled;
    }

pub disks_committed : (size : List Entry → Entry → ℕ) (g : Group Entry) → Whole g → (disks : Disks)
    → DisksOk g disks → (hs : List Happening)
    → DisksAreCommitted (run size g hs) (disks_run size g disks hs)
disks_committed size g h disks d hs =
    let k = disks_kept_by size hs g h disks d in
    record {
      kept = k;
      each = disk_committed (run size g hs) (run_whole size hs g h)
          (disks_run size g disks hs) k;
    }

-- ---- where a run begins

-- the disks of a group whose data servers have LB and AP 0
new_disk : (g : Group Entry) → Whole g → (q : Place) → (g.server q).lb ≡ 0
    → ((g.server q).held ≡ Log → (g.server q).ap ≡ 0) → DiskAt g.page g.committed (g.server q) 0
new_disk g h q lb ap = record {
  lb = omega (arith, lb);
  ap = λ e. let x = ap e in omega arith;
  sure = sure_zero g.page g.committed (g.server q).accepted (h.ok.server q).views.formed;
  waits = λ _. zero-le;
  settled = λ _. zero-le;
}

pub first_disks : DisksOk first_group empty_disks
unfolding all_of room
first_disks = record { each = all }
  where
    all : (q : Place) → is_p2 q ≡ false → DiskAt first_group.page first_group.committed
        (first_group.server q) 0
    all Zero p = new_disk first_group first_whole Zero refl (λ _. refl)
    all One p = new_disk first_group first_whole One refl (λ _. refl)
    all Two p = absurd (true≢false p)
