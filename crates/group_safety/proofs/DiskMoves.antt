-- What a data server's disk is beside the server after a move of its own.
use Rattle.std.proofs.Common.{◌≡◌, ℕ, ◌+◌, ◌≤◌, ◌⊎◌, ◌&&◌, true, false, List, ◌∷◌, length, Option, None, Some, max, min, refl, sym, ap, ◌∙◌, subst, inl, inr, arith, le_trans, true≢false, ⊎_elim, le_of_lt, if◌then◌else◌}
use Rattle.file_tree.specs.Book.{Entry}
use Rattle.group_safety.specs.Disks.{DiskAt}
use Rattle.group_rules.specs.Effects.{NewLog, booted, down, lengthened, load_tests, loaded, resting, saving}
use Rattle.group_safety.specs.Facts.{Ok}
use Rattle.group_safety.specs.Laws.{Grows}
use Rattle.group_rules.specs.Limits.{can_have, is_log, is_outside}
use Rattle.group_rules.specs.Moves.{Accepting, Appending, Applying, Basing, Booting, Choosing, Collecting, Committing, Demoting, Falling, Flushing, Hearing, Heeding, Joining, Move, Noting, Opening, Pulling, Reading, Saving, Saying, Sending, Staging, act, moved}
use Rattle.group_rules.specs.Places.{Place, all_of, is_p2}
use Rattle.group_rules.specs.State.{Group, Held, JoinMade, Joins, Live, Log, Lost, Mark, Mode, Open, Page, Plan, Pulls, Rests, Saved, Server, Waits, mark_of}
use Rattle.group_safety.specs.Words.{IsActive, Sure}
use Rattle.group_rules.proofs.Tests.{by_if}
use Rattle.group_safety.proofs.Common.{sure_less, sure_max, sure_up}
use Rattle.group_safety.proofs.Grow.{sure_grow}
use Rattle.group_safety.proofs.Lawful.{sure_starts}
use Rattle.group_safety.proofs.Moving.{Good, May, at_self, its}
use Rattle.group_safety.proofs.Quiet.{Fine, fine, log_is}

-- ---- a server that stays

-- while the history grows
pub disk_grows : {page page' : ℕ → Page Entry} {committed committed' : List Entry}
    {joins joins' : List JoinMade} → Grows page page' committed committed' joins joins'
    → (s : Server Entry) (n : ℕ) → (page s.accepted).formed ≡ true → DiskAt page committed s n
    → DiskAt page' committed' s n
disk_grows g s n f h = record {
  lb = h.lb;
  ap = h.ap;
  sure = sure_grow g s.accepted n f h.sure;
  waits = λ w. subst (λ (p : Plan). n ≤ p.start) (sym (g.each s.accepted f).plan) (h.waits w);
  settled = h.settled;
}

-- ---- the server that moves

-- it is neither settled nor waits
idle : (page : ℕ → Page Entry) (committed : List Entry) (s : Server Entry) (n : ℕ) → s.lb ≤ n
    → (s.held ≡ Log → s.ap ≤ n) → Sure page committed s.accepted n → (IsActive s.mode → ⊥)
    → DiskAt page committed s n
idle page committed s n lb ap sure i = record {
  lb = lb;
  ap = ap;
  sure = sure;
  waits = λ w. absurd (i (subst (λ z. IsActive z) (sym w) tt));
  settled = λ w. absurd
      (⊎_elim (λ e. i (subst (λ z. IsActive z) (sym e) tt))
      (λ e. i (subst (λ z. IsActive z) (sym e) tt)) w);
}

rest_disk : (page : ℕ → Page Entry) (committed : List Entry) (c d : ℕ) (m : Mark Entry)
    (held : Held) (l : NewLog Entry) (n : ℕ) → l.lb ≤ n → (held ≡ Log → l.ap ≤ n)
    → Sure page committed m.accepted n → DiskAt page committed (resting c d m held l) n
rest_disk page committed c d m held l n lb ap sure = idle page committed (resting c d m held l) n lb
    ap sure (λ x. x)

-- a boot starts a data server's log with AP = LB
boot_disk : (page : ℕ → Page Entry) (committed : List Entry) (q : Place) (c d : ℕ)
    (s : Server Entry) (n : ℕ) → is_p2 q ≡ false → s.lb ≤ n → Sure page committed s.accepted n
    → DiskAt page committed (booted q c d (mark_of s)) n
boot_disk page committed q c d s n p lb sure =
    by_if (λ (x : Server Entry). DiskAt page committed x n) (is_p2 q && is_outside s.role) _ _
    (λ _. rest_disk page committed c d (lengthened d (mark_of s)) _ _ n lb (λ e. cc) sure)
    (λ _. loads s.saved)
  where
    mine : (v : Saved Entry) → (if is_p2 q then v.base else s.lb) ≤ n
    mine v = by_if (λ (x : ℕ). x ≤ n) (is_p2 q) v.base s.lb (λ t. absurd (true≢false (sym t ∙ p)))
        (λ _. lb)

    loads : (o : Option (Saved Entry))
        → DiskAt page committed (loaded q c d (lengthened d (mark_of s)) o) n
    loads None = rest_disk page committed c d (lengthened d (mark_of s)) Lost _ n lb (λ e. cc) sure
    loads (Some v) = by_if (λ (x : Server Entry). DiskAt page committed x n)
        (all_of (can_have q s.role ∷ load_tests s.lb v)) _ _
        (λ _. rest_disk page committed c d (lengthened d (mark_of s)) Log _ n (mine v) (λ e. mine v)
        sure)
        (λ _. rest_disk page committed c d (lengthened d (mark_of s)) Lost _ n lb (λ e. cc) sure)

-- a power failure saves a log with LB = AP
save_disk : (page : ℕ → Page Entry) (committed : List Entry) (q : Place) (s : Server Entry) (n : ℕ)
    (o : Option (Saved Entry)) → is_p2 q ≡ false → DiskAt page committed s n
    → DiskAt page committed (down (mark_of (saving q s o))) n
save_disk page committed q s n (Some v) p h = idle page committed (down (mark_of s)) n h.lb
    (λ e. cc) h.sure (λ x. x)
save_disk page committed q s n None p h =
    by_if (λ (x : Server Entry). DiskAt page committed (down (mark_of x)) n) (is_log s.held) _ _
    (λ t. idle page committed
    (down (record (mark_of s) {
      lb = if is_p2 q then s.lb else s.ap;
      saved = Some
          (record { base = s.base; cp = s.cp; items = s.items });
    })) n
    (by_if (λ (x : ℕ). x ≤ n) (is_p2 q) s.lb s.ap (λ _. h.lb) (λ _. h.ap (log_is s.held t)))
    (λ e. cc) h.sure (λ x. x))
    (λ _. idle page committed (down (mark_of s)) n h.lb (λ e. cc) h.sure (λ x. x))

-- heeding raises a CP to at least its view's start
heed_disk : (start : ℕ) (s : Server Entry) (items : List Entry) (cp n : ℕ) → start ≤ cp
    → start ≤ s.base + length items → (s.mode ≡ Waits → n ≤ start)
    → ((s.mode ≡ Open) ⊎ (s.mode ≡ Live) → n ≤ s.cp) → (m : Mode) → s.mode ≡ m → IsActive m
    → n ≤ max s.cp (min cp (s.base + length items))
heed_disk start s items cp n a b w o Rests e i = absurd i
heed_disk start s items cp n a b w o Joins e i = absurd i
heed_disk start s items cp n a b w o Pulls e i = absurd i
heed_disk start s items cp n a b w o Waits e i = let x = w e in omega arith
heed_disk start s items cp n a b w o Open e i = let x = o (inl e) in omega arith
heed_disk start s items cp n a b w o Live e i = let x = o (inr e) in omega arith

-- what a move of a data server other than to apply starts from: the facts before it, its own
-- conditions, the facts after it, and its disk beside the history before and after the move
pub record Turn (g : Group Entry) (q : Place) (s : Server Entry) (m : Move Entry) (n : ℕ) : Type 0
  where
    pub good : Good g q s
    pub may : May g q s m
    pub next : Ok (moved g q s m)
    pub data_server : is_p2 q ≡ false
    pub old : DiskAt g.page g.committed s n
    pub now : DiskAt (moved g q s m).page (moved g q s m).committed s n
    pub grows : Grows g.page (moved g q s m).page g.committed (moved g q s m).committed g.joins
        (moved g q s m).joins

-- the server's disk beside the history after the move
abbrev Then : Group Entry → Place → Server Entry → Move Entry → ℕ → Type 0
Then g q s m n = DiskAt (moved g q s m).page (moved g q s m).committed (act q (g.clock q) s m) n

-- the facts of the server after the move
pub next_fine : (g : Group Entry) (q : Place) (s : Server Entry) (m : Move Entry)
    → Ok (moved g q s m) → Fine (moved g q s m) q (act q (g.clock q) s m)
next_fine g q s m k = fine (moved g q s m) k q (act q (g.clock q) s m)
    (at_self g.server q (act q (g.clock q) s m))

pub turns : (g : Group Entry) (q : Place) (s : Server Entry) (n : ℕ) (m : Move Entry)
    → Turn g q s m n → ((k : ℕ) → m ≡ Applying k → ⊥) → Then g q s m n
turns g q s n (Joining v duty) h apart = idle _ _ _ n h.now.lb h.now.ap h.now.sure (λ x. x)
turns g q s n (Collecting reports) h apart = record {
  lb = h.now.lb;
  ap = h.now.ap;
  sure = h.now.sure;
  waits = h.now.waits;
  settled = h.now.settled;
}
turns g q s n (Choosing plan from) h apart = record {
  lb = h.now.lb;
  ap = h.now.ap;
  sure = h.now.sure;
  waits = h.now.waits;
  settled = h.now.settled;
}
turns g q s n (Pulling plan first) h apart = idle _ _ _ n h.now.lb h.now.ap h.now.sure (λ x. x)
turns g q s n (Staging items) h apart = record {
  lb = h.now.lb;
  ap = h.now.ap;
  sure = h.now.sure;
  waits = h.now.waits;
  settled = h.now.settled;
}
turns g q s n (Hearing x lb) h apart = record {
  lb = h.now.lb;
  ap = h.now.ap;
  sure = h.now.sure;
  waits = h.now.waits;
  settled = h.now.settled;
}
turns g q s n (Accepting plan role l) h apart =
    let k = h.next in
    let order = ((next_fine g q s (Accepting plan role l) k).logs.order refl).1 in
    let old = (its h.good).views.formed in
    let lt = ((its h.good).modes.joining h.may.2.1).0 in
    let formed = (h.grows.each s.promised h.may.1.0).formed in
    let own : (if is_log s.held then s.ap else s.lb) ≤ n = by_if (λ (x : ℕ). x ≤ n) (is_log s.held)
    s.ap s.lb (λ t. h.now.ap (log_is s.held t)) (λ _. h.now.lb) in
    let ap : l.ap ≤ n = subst (λ (x : ℕ). x ≤ n) (sym (h.may.0 h.data_server).1) own in
    record {
      lb = le_trans order ap;
      ap = λ _. ap;
      sure = sure_up (moved g q s (Accepting plan role l)) k s.accepted s.promised n (le_of_lt lt)
          (h.grows.each s.accepted old).formed formed h.now.sure;
      waits = λ _. sure_starts (moved g q s (Accepting plan role l)) k s.accepted s.promised n lt
          formed h.now.sure;
      settled = ⊎_elim (λ x. cc) (λ x. cc);
    }
turns g q s n (Opening lb) h apart =
    let log = (its h.good).logs.log
    ((its h.good).modes.active (subst (λ z. IsActive z) (sym h.may.0.0) tt)).0 in
    record {
      lb = h.now.lb;
      ap = h.now.ap;
      sure = h.now.sure;
      waits = λ x. cc;
      settled =
          λ _. le_trans (h.old.waits h.may.0.0) log.holds.from_start;
    }
turns g q s n (Heeding items cp base) h apart =
    let log = (its h.good).logs.log ((its h.good).modes.active h.may.0.1).0 in
    let from = log.holds.from_start in
    let longer = h.may.0.2 in
    record {
      lb = h.now.lb;
      ap = h.now.ap;
      sure = h.now.sure;
      waits = λ x. cc;
      settled = λ _. heed_disk (g.page s.accepted).plan.start s items cp n h.may.0.0 (omega arith)
          h.old.waits h.old.settled s.mode refl h.may.0.1;
    }
turns g q s n (Appending e) h apart = record {
  lb = h.now.lb;
  ap = h.now.ap;
  sure = h.now.sure;
  waits = h.now.waits;
  settled = h.now.settled;
}
turns g q s n (Noting told lb until) h apart = record {
  lb = h.now.lb;
  ap = h.now.ap;
  sure = h.now.sure;
  waits = h.now.waits;
  settled = h.now.settled;
}
turns g q s n (Committing k) h apart = record {
  lb = h.now.lb;
  ap = h.now.ap;
  sure = h.now.sure;
  waits = h.now.waits;
  settled = λ x. le_trans
      (h.now.settled x) h.may.0.1;
}
turns g q s n (Basing k) h apart = record {
  lb = h.now.lb;
  ap = h.now.ap;
  sure = h.now.sure;
  waits = h.now.waits;
  settled = h.now.settled;
}
turns g q s n (Applying k) h apart = absurd (apart k refl)
turns g q s n Flushing h apart = record {
  lb = h.now.ap h.may.2;
  ap = h.now.ap;
  sure = h.now.sure;
  waits = h.now.waits;
  settled =
      h.now.settled;
}
turns g q s n (Demoting v) h apart = absurd (true≢false (sym (ap is_p2 h.may.1.0) ∙ h.data_server))
turns g q s n Saving h apart = save_disk g.page g.committed q s n s.saved h.data_server h.now
turns g q s n Falling h apart = idle _ _ _ n h.now.lb (λ e. cc) h.now.sure (λ x. x)
turns g q s n (Booting d) h apart = boot_disk g.page g.committed q (g.clock q) d s n h.data_server
    h.now.lb h.now.sure
turns g q s n (Reading k e) h apart = h.now
turns g q s n (Saying say) h apart = h.now
turns g q s n (Sending to m) h apart = h.now

-- to apply: the disk is as far as the new AP, which is within CP
pub applies : (page : ℕ → Page Entry) (committed : List Entry) (s : Server Entry) (n k : ℕ)
    → DiskAt page committed s n → Sure page committed s.accepted s.cp → k ≤ s.cp
    → (s.mode ≡ Open) ⊎ (s.mode ≡ Live) → DiskAt page committed s (max n k)
applies page committed s n k h cp le o = record {
  lb = let x = h.lb in omega arith;
  ap = λ e. let x = h.ap e in omega arith;
  sure = sure_max page committed s.accepted n k h.sure
      (sure_less page committed s.accepted s.cp k le cp);
  waits = λ w. absurd
      (⊎_elim (λ (x : s.mode ≡ Open). let y : Open ≡ Waits = sym x ∙ w in cc)
      (λ (x : s.mode ≡ Live). let y : Live ≡ Waits = sym x ∙ w in cc) o);
  settled = λ x. let y = h.settled x in omega arith;
}
