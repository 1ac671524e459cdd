-- One step keeps the disks of the data servers between their marks and the book.
use Rattle.std.proofs.Common.{◌≡◌, ℕ, ◌+◌, Bool, true, false, not, ◌&&◌, List, [], ◌∷◌, take, Option, Some, None, refl, sym, subst, append-nil, true≢false, if◌then◌else◌}
use Rattle.harp_types.specs.declared.pick.Pick.{Pick}
use Rattle.harp_types.specs.declared.pick.Pick.TheVariants as pick
use Rattle.trace_types.specs.declared.step.Step.{Step}
use Rattle.trace_types.specs.declared.step.Step.TheVariants as step
use Rattle.file_tree.specs.Book.{Entry}
use Rattle.fuzzy_cells.specs.Disk.{Disk, IsBetween}
use Rattle.fuzzy_cells.specs.Fuzzy.{MayBeLeft}
use Rattle.record_changes.specs.Records.{history_of}
use Rattle.group_safety.specs.Disks.{DiskAt, Disks, DisksOk, disks_begun, disks_by}
use Rattle.group_safety.specs.Laws.{Whole}
use Rattle.group_rules.specs.Limits.{delta_tests}
use Rattle.group_rules.specs.Moves.{Booting, Falling, Move, act, moved, moved_by}
use Rattle.group_rules.specs.Names.{place_of}
use Rattle.group_rules.specs.Open.{rebase}
use Rattle.group_rules.specs.Places.{Place, all_of, at, is_p2}
use Rattle.group_rules.specs.State.{Group, Packet}
use Rattle.group_rules.specs.Step.{Apply, Ask, Comes, Crash, Does, Flush, Input, ListTree, Power, Suspect, Tick, list_of, numbered, step_of}
use Rattle.group_rules.proofs.Tests.{by_if}
use Rattle.group_safety.proofs.Disks.{disks_begin, disks_go}
use Rattle.group_safety.proofs.Moving.{Goes, at_self, goes_good}
use Rattle.group_safety.proofs.Safe.{boot_goes, good_of, input_goes, sent_known, whole_of}
use Rattle.group_safety.proofs.Steps.{Known, falls}
use Rattle.trace_laws.specs.Stores.{Falls, StoreBy, StoresOk, applied_in}
use Rattle.group_trace.specs.DiskRun.{Stores}
use Rattle.trace_laws.proofs.StoreRuns.{begun_stays, stores_go}
use Rattle.trace_laws.proofs.Tables.{at_other}
use Rattle.group_trace.specs.Calls.{calls_of, moves_of, passes}
use Rattle.group_trace.specs.Refusals.{own_refusal}
use Rattle.group_trace.specs.Run.{delivery, group_after, moved_where, is_elementary}
use Rattle.trace_laws.proofs.Turns.{advance_whole, clock_whole, delta_set, is_up}
use Rattle.group_trace.specs.DiskCalls.{DiskCall, Spellings, after_calls, measures_of}
use Rattle.group_trace.specs.Picks.{crashed_by}
use Rattle.group_trace.specs.DiskRun.{DiskScene, calls_at, disk_after, disks_after_at, disks_came, disks_next, is_crash, is_whole, passing}
use Rattle.trace_laws.proofs.Calls.{AreMarks, crash_marks, diskless_by, first_between, first_marks, marks_leave, whole_by}
use Rattle.trace_laws.proofs.Crashes.{are_parts}
use Rattle.trace_laws.proofs.Diskless.{tails_diskless}
use Rattle.trace_laws.proofs.StepKinds.{tail_base}

-- THE DISKS ARE KEPT beside a group: how far they are is within what is committed, and they are
-- between their marks and that
abbrev pub DisksKept : Group Entry → Stores → Type 0
DisksKept g stores = (far : Disks) × DisksOk g far × StoresOk g far stores

abbrev pub Stands : Group Entry → Stores → Type 0
Stands g stores = Whole g × DisksKept g stores

-- a disk that falls by a pick
falls_by : (p : Pick) (disk : Disk) → Falls disk (crashed_by p disk)
falls_by p disk = record {
  more = [];
  saved = refl;
  left = (crashed_by p disk).synced;
  may = subst (λ l. MayBeLeft disk.synced l (crashed_by p disk).synced)
      (sym (append-nil disk.changes)) (are_parts p disk);
  is = refl;
}

-- ---- a step of one server

-- moves of one server, and what they make of its disk
moves_stand : (g : Group Entry) → Whole g → (stores : Stores) (far : Disks) → DisksOk g far
    → (q : Place) → ((x : Place) → (x ≡ q → ⊥) → is_p2 x ≡ false
    → IsBetween (history_of g.committed) (g.server x).lb (applied_in (g.server x)) (far x)
    (stores x))
    → (disk new : Disk) → (is_p2 q ≡ false → IsBetween (history_of g.committed) (g.server q).lb
    (applied_in (g.server q)) (far q) disk)
    → (ms : List (Move Entry)) → Goes g q (g.server q) ms → StoreBy g q (g.server q) ms disk new
    → Stands (moved_by g q (g.server q) ms) (at stores q new)
moves_stand g w stores far d q rest disk new own ms goes by = (
  whole_of _ q _ (goes_good ms g q (g.server q) goes),
  (
    disks_by far q ms,
    disks_go ms g q (g.server q) goes far d,
    stores_go g w q ms goes far d stores (at stores q new) rest disk own
        (subst (λ x. StoreBy g q (g.server q) ms disk x) (sym (at_self stores q new)) by)
        (λ x ne. at_other stores q new x ne),
  ),
)

crash_is : (i : Input) → is_crash i ≡ true → i ≡ Does Crash
crash_is (Does Crash) e = refl
crash_is (Does Tick) e = absurd (true≢false (sym e))
crash_is (Does Suspect) e = absurd (true≢false (sym e))
crash_is (Does (Ask client number cred c)) e = absurd (true≢false (sym e))
crash_is (Does (Apply n)) e = absurd (true≢false (sym e))
crash_is (Does Flush) e = absurd (true≢false (sym e))
crash_is (Does ListTree) e = absurd (true≢false (sym e))
crash_is (Does Power) e = absurd (true≢false (sym e))
crash_is (Comes from m) e = absurd (true≢false (sym e))

-- the calls of a crash that pass leave the disk
passing_leave : (stop : Option ℕ) (cs : List DiskCall) → AreMarks cs → (disk : Disk)
    → after_calls (passing stop cs) disk ≡ disk
passing_leave None cs h disk = marks_leave cs h disk
passing_leave (Some most) cs h disk = marks_leave (take most cs) (first_marks most cs h) disk

pub server_stands : (f : Spellings) (g : Group Entry) (stores : Stores) → Stands g stores
    → (q : Place) (i : Input) (stop : Option ℕ) (p : Pick) → (g.server q).up ≡ true → Known g q i
    → Stands (moved_by g q (g.server q) (moves_of (measures_of f) g stop q i))
    (at stores q (disk_after f g stop p q i (stores q)))
server_stands f g stores h q i stop p up known = split (is_whole f g stop q i) refl
    (is_crash i) refl
  where
    w : Whole g
    w = h.0

    far : Disks
    far = h.1.0

    ms : List (Move Entry)
    ms = step_of (measures_of f).size g q i

    calls : List DiskCall
    calls = calls_at f g q i

    -- a whole step that is no crash
    done : is_crash i ≡ false
        → Stands (moved_by g q (g.server q) ms) (at stores q (after_calls calls (stores q)))
    done c = moves_stand g w stores far h.1.1 q (λ x ne e. h.1.2.each x e) (stores q) _
        (λ e. h.1.2.each q e) ms
        (input_goes (measures_of f).size g w q up i known) (whole_by f g w q i c (stores q))

    -- a crash
    crashes : i ≡ Does Crash
        → Stands (moved_by g q (g.server q) ms)
        (at stores q (crashed_by p (after_calls (passing stop calls) (stores q))))
    crashes is =
        let s1 = act q (g.clock q) (g.server q) Falling in
        let marks : AreMarks calls = subst (λ i. AreMarks (calls_at f g q i)) (sym is)
        (crash_marks f g q) in
        let left : after_calls (passing stop calls) (stores q) ≡ stores q =
        passing_leave stop calls marks (stores q) in
        let by : StoreBy g q (g.server q) (Falling ∷ rebase s1) (stores q)
        (crashed_by p (stores q)) = (
          crashed_by p (stores q),
          falls_by p (stores q),
          diskless_by (rebase s1) (moved g q (g.server q) Falling) q s1
              (tails_diskless (rebase s1) (tail_base s1)) _ _ refl,
        ) in
        moves_stand g w stores far h.1.1 q (λ x ne e. h.1.2.each x e) (stores q) _
        (λ e. h.1.2.each q e) ms
        (input_goes (measures_of f).size g w q up i known)
        (subst (λ disk. StoreBy g q (g.server q) ms (stores q) (crashed_by p disk)) (sym left)
        (subst (λ i. StoreBy g q (g.server q) (step_of (measures_of f).size g q i) (stores q)
        (crashed_by p (stores q))) (sym is) by))

    -- a step that a stop cuts
    cut : (st : Option ℕ)
        → passes st (calls_of (measures_of f) q (g.clock q) (list_of g q) (g.server q) ms) ≡ false
        → Stands (moved_by g q (g.server q) (Falling ∷ []))
        (at stores q (crashed_by p (after_calls (passing st calls) (stores q))))
    cut None e = absurd (true≢false e)
    cut (Some most) e =
        let disk = after_calls (take most calls) (stores q) in
        moves_stand g w stores (disks_begun g far q i) (disks_begin g w far h.1.1 q i) q
        (λ x ne y. subst (λ (m : ℕ). IsBetween (history_of g.committed) (g.server x).lb
        (applied_in (g.server x)) m (stores x)) (sym (begun_stays g far q i x ne))
        (h.1.2.each x y))
        disk _ (λ y. first_between f g w far q i most (stores q) (h.1.2.each q y))
        (Falling ∷ []) (falls g q (g.server q) (good_of g w q)) (
          crashed_by p disk,
          falls_by p disk,
          refl,
        )

    split : (b : Bool) → is_whole f g stop q i ≡ b → (c : Bool) → is_crash i ≡ c
        → Stands (moved_by g q (g.server q) (if b then ms else Falling ∷ [])) (at stores q (if b
        && not c then after_calls calls (stores q) else
        crashed_by p (after_calls (passing stop calls) (stores q))))
    split true t false c = done c
    split true t true c = crashes (crash_is i c)
    split false t true c = cut stop t
    split false t false c = cut stop t

-- ---- each step

-- a boot leaves the disks
boot_stands : (g : Group Entry) (stores : Stores) → Stands g stores → (q : Place)
    → Stands (moved_by g q (g.server q) (Booting g.delta ∷ [])) stores
boot_stands g stores h q = (
  whole_of _ q _ (goes_good (Booting g.delta ∷ []) g q (g.server q) (boot_goes g h.0 q)),
  (
    h.1.0,
    disks_go (Booting g.delta ∷ []) g q (g.server q) (boot_goes g h.0 q) h.1.0 h.1.1,
    stores_go g h.0 q (Booting g.delta ∷ []) (boot_goes g h.0 q) h.1.0 h.1.1 stores stores
        (λ x ne e. h.1.2.each x e) (stores q) (λ e. h.1.2.each q e) (
          stores q,
          refl,
          refl,
        ) (λ x ne. refl),
  ),
)

-- the same servers and the same book
alike_stands : (g g' : Group Entry) (stores : Stores) → DisksKept g stores → g'.server ≡ g.server
    → g'.page ≡ g.page → g'.committed ≡ g.committed → DisksKept g' stores
alike_stands g g' stores h s p c = (
  h.0,
  record {
    each = λ q e. subst (λ x. DiskAt x g'.committed (g'.server q) (h.0 q)) (sym p)
        (subst (λ x. DiskAt g.page x (g'.server q) (h.0 q)) (sym c)
        (subst (λ x. DiskAt g.page g.committed (x q) (h.0 q)) (sym s) (h.1.each q e)));
  },
  record {
    each = λ q e. subst (λ x. IsBetween (history_of x) (g'.server q).lb (applied_in (g'.server q))
        (h.0 q) (stores q)) (sym c)
        (subst (λ x. IsBetween (history_of g.committed) (x q).lb (applied_in (x q)) (h.0 q)
        (stores q)) (sym s) (h.2.each q e));
  },
)

-- a packet at a server that is up or down
arrives : (f : Spellings) (w : DiskScene) → Stands w.scene.group w.disks
    → (n : ℕ) (p : Packet Entry) → numbered w.scene.group.packets n ≡ Some p → (b : Bool)
    → (w.scene.group.server p.to).up ≡ b
    → Stands (moved_where w.scene.group (if b then Some (
      p.to,
      moves_of (measures_of f) w.scene.group (w.scene.armed p.to) p.to (Comes p.from p.body),
    )
    else None))
    (if b then disks_after_at f w (w.scene.armed p.to) (w.picks p.to) p.to
    (Comes p.from p.body) else w.disks)
arrives f w h n p is true up = server_stands f w.scene.group w.disks h p.to (Comes p.from p.body)
    (w.scene.armed p.to) (w.picks p.to) up (sent_known w.scene.group h.0 n p is)
arrives f w h n p is false up = h

pub step_stands : (f : Spellings) (w : DiskScene) → Stands w.scene.group w.disks → (s : Step)
    → own_refusal (measures_of f) w.scene.group s ≡ None → is_elementary s ≡ true
    → Stands (group_after (measures_of f) w.scene s) (disks_next f w s)
step_stands f w h (step.Ask server client number cred call) r e =
    server_stands f w.scene.group w.disks h (place_of server) (Does (Ask client number cred call))
    (w.scene.armed (place_of server)) (w.picks (place_of server))
    (is_up w.scene.group server r) tt
step_stands f w h (step.Tick server) r e =
    server_stands f w.scene.group w.disks h (place_of server) (Does Tick)
    (w.scene.armed (place_of server)) (w.picks (place_of server))
    (is_up w.scene.group server r) tt
step_stands f w h (step.Suspect server) r e =
    server_stands f w.scene.group w.disks h (place_of server) (Does Suspect)
    (w.scene.armed (place_of server)) (w.picks (place_of server))
    (is_up w.scene.group server r) tt
step_stands f w h (step.Apply server most) r e =
    server_stands f w.scene.group w.disks h (place_of server) (Does (Apply most))
    (w.scene.armed (place_of server)) (w.picks (place_of server))
    (is_up w.scene.group server r) tt
step_stands f w h (step.Flush server) r e =
    server_stands f w.scene.group w.disks h (place_of server) (Does Flush)
    (w.scene.armed (place_of server)) (w.picks (place_of server))
    (is_up w.scene.group server r) tt
step_stands f w h (step.List server) r e =
    server_stands f w.scene.group w.disks h (place_of server) (Does ListTree)
    (w.scene.armed (place_of server)) (w.picks (place_of server))
    (is_up w.scene.group server r) tt
step_stands f w h (step.Power server) r e = server_stands f w.scene.group w.disks h
    (place_of server) (Does Power) None pick.None (is_up w.scene.group server r) tt
step_stands f w h (step.PowerCut server calls p) r e = server_stands f w.scene.group w.disks h
    (place_of server) (Does Power) (Some calls) p (is_up w.scene.group server r) tt
step_stands f w h (step.Crash server p) r e = server_stands f w.scene.group w.disks h
    (place_of server) (Does Crash) None p (is_up w.scene.group server r) tt
step_stands f w h (step.Boot server) r e = boot_stands w.scene.group w.disks h (place_of server)
step_stands f w h (step.Deliver n) r e = came (numbered w.scene.group.packets n) refl
  where
    g : Group Entry
    g = w.scene.group

    came : (o : Option (Packet Entry)) → numbered g.packets n ≡ o
        → Stands (moved_where g (delivery (measures_of f) w.scene o)) (disks_came f w o)
    came None is = h
    came (Some p) is = arrives f w h n p is (g.server p.to).up refl
step_stands f w h (step.Pump among) r e = absurd (true≢false (sym e))
step_stands f w h (step.Stop server calls p) r e = h
step_stands f w h (step.Noise server bytes) r e = h
step_stands f w h (step.Clock server reading) r e =
    let g = w.scene.group in (
      clock_whole g h.0 (place_of server) reading r,
      alike_stands g (record g { clock = at g.clock (place_of server) reading }) w.disks h.1 refl
          refl refl,
    )
step_stands f w h (step.Advance millis) r e =
    let g = w.scene.group in (
      advance_whole g h.0 millis,
      alike_stands g (record g { clock = λ q. g.clock q + millis }) w.disks h.1 refl refl refl,
    )
step_stands f w h (step.Delta millis) r e =
    let g = w.scene.group in (
      (delta_set g h.0 millis).0,
      by_if (λ g'. DisksKept g' w.disks) (all_of (delta_tests millis))
          (record g { delta = millis }) g
          (λ _. alike_stands g (record g { delta = millis }) w.disks h.1 refl refl refl) (λ _. h.1),
    )
