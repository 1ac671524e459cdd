-- What the calls of a step make of its server's disk, all of them or the first ones.
use Rattle.std.proofs.Common.{◌≡◌, ℕ, zero, suc, ◌+◌, ◌≤◌, Bool, true, false, List, [], ◌∷◌, ◌++◌, take, map, min, refl, sym, ap, ◌∙◌, subst, arith, append_assoc, ⊎_elim, le_refl, true≢false, if◌then◌else◌}
use Rattle.std.specs.Prelude.{⊤}
use Rattle.std.specs.List.{AllByRecursion, list_all}
use Rattle.std.proofs.lemmas.Bool.{and_parts}
use Rattle.std.proofs.lemmas.List.{take-take}
use Rattle.file_tree.specs.Book.{Entry}
use Rattle.harp_cells.specs.declared.change.Change.{Change}
use Rattle.fuzzy_cells.specs.History.{History, between}
use Rattle.fuzzy_cells.specs.Disk.{Disk, IsBetween, changes_saved, reads, synced_to, with_changes}
use Rattle.fuzzy_cells.proofs.Disks.{saved, synced}
use Rattle.record_changes.specs.Records.{history_of}
use Rattle.record_changes.proofs.Histories.{fronts}
use Rattle.group_rules.specs.Disk.{flush_tests, settled_tests}
use Rattle.group_safety.specs.Disks.{Disks, disks_begun}
use Rattle.group_safety.specs.Laws.{Whole}
use Rattle.group_rules.specs.Moves.{Accepting, Appending, Applying, Basing, Booting, Choosing, Collecting, Committing, Demoting, Falling, Flushing, Hearing, Heeding, Joining, Move, Noting, Opening, Pulling, Reading, Saving, Saying, Sending, Staging, act, acts, moved}
use Rattle.group_rules.specs.Open.{rebase}
use Rattle.group_rules.specs.Places.{Place, all_of}
use Rattle.group_rules.specs.State.{Group, Server, top}
use Rattle.group_rules.specs.Step.{Apply, Ask, Comes, Crash, Does, Flush, Input, ListTree, Power, Suspect, Tick, list_of, saves, step_of}
use Rattle.group_safety.specs.Words.{IsActive}
use Rattle.group_rules.proofs.Tests.{each_of}
use Rattle.group_safety.proofs.Modes.{settles_is}
use Rattle.trace_laws.specs.Stores.{StoreBy, StoreMoved, applied_in}
use Rattle.trace_laws.proofs.Between.{between_same, no_more}
use Rattle.trace_laws.proofs.StoreRuns.{begun_between}
use Rattle.trace_laws.proofs.MoveKinds.{each-append}
use Rattle.trace_laws.proofs.StepKinds.{tail_base}
use Rattle.group_trace.specs.DiskCalls.{Changing, DiskCall, Marking, Spellings, Syncing, after_calls, all_calls, calls_by, measures_of, saved_puts}
use Rattle.group_trace.specs.DiskRun.{calls_at, is_crash}
use Rattle.trace_laws.proofs.Diskless.{AreDiskless, HasNoCells, IsDiskless, step_diskless, tails_diskless}

-- ---- calls that only write the mark

abbrev pub IsMark : DiskCall → Type 0
IsMark Marking = ⊤
IsMark c = ⊥

abbrev pub AreMarks : List DiskCall → Type 0
AreMarks cs = AllByRecursion IsMark cs

marks_by : (f : Spellings) (list : List Entry) (s : Server Entry) (m : Move Entry) → IsDiskless m
    → AreMarks (calls_by f list s m)
marks_by f list s (Joining v duty) h = (tt, tt)
marks_by f list s (Accepting plan role n) h = (tt, tt)
marks_by f list s (Demoting v) h = (tt, tt)
marks_by f list s (Applying n) h = absurd h
marks_by f list s Flushing h = absurd h
marks_by f list s Saving h = absurd h
marks_by f list s Falling h = absurd h
marks_by f list s (Collecting reports) h = tt
marks_by f list s (Choosing plan from) h = tt
marks_by f list s (Pulling plan n) h = tt
marks_by f list s (Staging items) h = tt
marks_by f list s (Hearing x lb) h = tt
marks_by f list s (Opening lb) h = tt
marks_by f list s (Heeding items cp base) h = tt
marks_by f list s (Appending e) h = tt
marks_by f list s (Noting t lb until) h = tt
marks_by f list s (Committing n) h = tt
marks_by f list s (Basing n) h = tt
marks_by f list s (Booting d) h = tt
marks_by f list s (Reading n e) h = tt
marks_by f list s (Saying say) h = tt
marks_by f list s (Sending to m) h = tt

pub all_marks : (f : Spellings) (q : Place) (clock : ℕ) (list : List Entry) (s : Server Entry)
    (ms : List (Move Entry)) → AreDiskless ms → AreMarks (all_calls f q clock list s ms)
unfolding all_calls
all_marks f q clock list s [] h = tt
all_marks f q clock list s (m ∷ ms) h =
    each-append IsMark (calls_by f list s m) (all_calls f q clock list (act q clock s m) ms)
    (marks_by f list s m h.0) (all_marks f q clock list (act q clock s m) ms h.1)

pub first_marks : (k : ℕ) (cs : List DiskCall) → AreMarks cs → AreMarks (take k cs)
first_marks zero cs h = tt
first_marks (suc k) [] h = tt
first_marks (suc k) (c ∷ cs) h = (h.0, first_marks k cs h.1)

pub marks_leave : (cs : List DiskCall) → AreMarks cs → (disk : Disk) → after_calls cs disk ≡ disk
unfolding after_calls
marks_leave [] h disk = refl
marks_leave (Marking ∷ cs) h disk = marks_leave cs h.1 disk
marks_leave (c ∷ cs) h disk = absurd h.0

-- ---- changes one after the other

more_more : (disk : Disk) (xs ys : List Change) → with_changes (with_changes disk xs) ys ≡
    with_changes disk (xs ++ ys)
more_more disk xs ys = ap (λ (l : List Change). let d : Disk =
    record { synced = disk.synced; changes = l } in d) (append_assoc disk.changes xs ys)

puts_then : (xs : List Change) (cs : List DiskCall) (disk : Disk)
    → after_calls (map Changing xs ++ cs) disk ≡ after_calls cs (with_changes disk xs)
unfolding after_calls
puts_then [] cs disk = ap (λ d. after_calls cs d) (sym (no_more disk))
puts_then (x ∷ xs) cs disk = puts_then xs cs (with_changes disk (x ∷ []))
    ∙ ap (λ d. after_calls cs d) (more_more disk (x ∷ []) xs)

-- the first of changes, behind which only marks come
first_puts : (k : ℕ) (xs : List Change) (cs : List DiskCall) → AreMarks cs → (disk : Disk)
    → after_calls (take k (map Changing xs ++ cs)) disk ≡ with_changes disk (take k xs)
unfolding after_calls
first_puts zero xs cs h disk = sym (no_more disk)
first_puts (suc k) [] cs h disk = marks_leave (take (suc k) cs) (first_marks (suc k) cs h) disk
    ∙ sym (no_more disk)
first_puts (suc k) (x ∷ xs) cs h disk = first_puts k xs cs h (with_changes disk (x ∷ []))
    ∙ more_more disk (x ∷ []) (take k xs)

calls_both : (a b : List DiskCall) (disk : Disk) → after_calls (a ++ b) disk ≡
    after_calls b (after_calls a disk)
unfolding after_calls
calls_both [] b disk = refl
calls_both (Changing x ∷ a) b disk = calls_both a b (with_changes disk (x ∷ []))
calls_both (Syncing ∷ a) b disk = calls_both a b (synced_to (reads disk))
calls_both (Marking ∷ a) b disk = calls_both a b disk

puts_saved : (f : Spellings) (list : List Entry) (n : ℕ) (es : List Entry)
    → list_all changes_saved (saved_puts f list n es) ≡ true
unfolding saved_puts
puts_saved f list n [] = refl
puts_saved f list n (e ∷ es) = puts_saved f list (n + 1) es

-- the records up to an index within the top are the same in the list up to there
records_same : (g : Group Entry) (q : Place) (a k : ℕ) → k ≤ top (g.server q)
    → between (history_of (list_of g q)) a k ≡
    between (history_of (g.page (g.server q).accepted).list) a k
records_same g q a k le =
    let list = (g.page (g.server q).accepted).list in
    let t = top (g.server q) in
    between_same t a k (history_of (take t list)) (history_of list) le
    (fronts (take t list) t ∙ ap history_of (take-take t t list (le_refl t)) ∙ sym (fronts list t))

-- ---- moves that change no cells

stays_by : (list : List Entry) (s : Server Entry) (m : Move Entry) → IsDiskless m → (disk : Disk)
    → StoreMoved list s m disk disk
stays_by list s (Joining v duty) h disk = refl
stays_by list s (Accepting plan role n) h disk = refl
stays_by list s (Demoting v) h disk = refl
stays_by list s (Applying n) h disk = absurd h
stays_by list s Flushing h disk = absurd h
stays_by list s Saving h disk = absurd h
stays_by list s Falling h disk = absurd h
stays_by list s (Collecting reports) h disk = refl
stays_by list s (Choosing plan from) h disk = refl
stays_by list s (Pulling plan n) h disk = refl
stays_by list s (Staging items) h disk = refl
stays_by list s (Hearing x lb) h disk = refl
stays_by list s (Opening lb) h disk = refl
stays_by list s (Heeding items cp base) h disk = refl
stays_by list s (Appending e) h disk = refl
stays_by list s (Noting t lb until) h disk = refl
stays_by list s (Committing n) h disk = refl
stays_by list s (Basing n) h disk = refl
stays_by list s (Booting d) h disk = refl
stays_by list s (Reading n e) h disk = refl
stays_by list s (Saying say) h disk = refl
stays_by list s (Sending to m) h disk = refl

pub diskless_by : (ms : List (Move Entry)) (g : Group Entry) (q : Place) (s : Server Entry)
    → AreDiskless ms → (disk new : Disk) → new ≡ disk → StoreBy g q s ms disk new
diskless_by [] g q s h disk new e = e
diskless_by (m ∷ ms) g q s h disk new e = (
  disk,
  stays_by (g.page s.accepted).list s m h.0 disk,
  diskless_by ms (moved g q s m) q (act q (g.clock q) s m) h.1 disk new e,
)

base_diskless : (s : Server Entry) → AreDiskless (rebase s)
base_diskless s = tails_diskless (rebase s) (tail_base s)

-- ---- a whole step

no_cells_by : (f : Spellings) (g : Group Entry) (q : Place) (i : Input) → HasNoCells i
    → (disk : Disk)
    → StoreBy g q (g.server q) (step_of (measures_of f).size g q i) disk
    (after_calls (calls_at f g q i) disk)
no_cells_by f g q i h disk =
    let d = step_diskless (measures_of f).size q (g.clock q) (list_of g q) (g.server q) i h in
    diskless_by _ g q (g.server q) d disk _ (marks_leave _ (all_marks f q (g.clock q) (list_of g q)
    (g.server q) _ d) disk)

-- where a server applies, the records up to there are in its log
within_top : (g : Group Entry) → Whole g → (q : Place) → all_of (settled_tests q (g.server q)) ≡
    true → (n : ℕ) → min ((g.server q).ap + n) (g.server q).cp ≤ top (g.server q)
within_top g w q t n =
    let fine = w.ok.server q in
    let mode = settles_is (g.server q).mode (each_of (settled_tests q (g.server q)) t).0 in
    let active : IsActive (g.server q).mode = ⊎_elim (λ e. subst (λ z. IsActive z) (sym e) tt)
    (λ e. subst (λ z. IsActive z) (sym e) tt) mode in
    let high : (g.server q).cp ≤ top (g.server q) =
    (fine.logs.log (fine.modes.active active).0).cp_top in
    omega (arith, high)

pub whole_by : (f : Spellings) (g : Group Entry) → Whole g → (q : Place) (i : Input)
    → is_crash i ≡ false → (disk : Disk)
    → StoreBy g q (g.server q) (step_of (measures_of f).size g q i) disk
    (after_calls (calls_at f g q i) disk)
unfolding all_calls after_calls
whole_by f g w q (Does (Apply n)) c disk = split (all_of (settled_tests q (g.server q))) refl
  where
    s : Server Entry
    s = g.server q

    k : ℕ
    k = min ((g.server q).ap + n) (g.server q).cp

    split : (b : Bool) → all_of (settled_tests q (g.server q)) ≡ b
        → StoreBy g q s ((if b then Applying k ∷ [] else [])
        ++ rebase (acts q (g.clock q) s (if b then Applying k ∷ [] else []))) disk
        (after_calls (all_calls f q (g.clock q) (list_of g q) s ((if b then Applying k ∷ [] else
        []) ++ rebase (acts q (g.clock q) s (if b then Applying k ∷ [] else [])))) disk)
    split false t = diskless_by (rebase s) g q s (base_diskless s) disk _
        (marks_leave _ (all_marks f q (g.clock q) (list_of g q) s (rebase s) (base_diskless s))
        disk)
    split true t =
        let s1 = act q (g.clock q) s (Applying k) in
        let mine = between (history_of (list_of g q)) s.ap k in
        let rest = all_calls f q (g.clock q) (list_of g q) s1 (rebase s1) in (
          with_changes disk (between (history_of (g.page s.accepted).list) s.ap k),
          refl,
          diskless_by (rebase s1) (moved g q s (Applying k)) q s1 (base_diskless s1) _ _
              (puts_then mine rest disk
              ∙ marks_leave rest (all_marks f q (g.clock q) (list_of g q) s1 (rebase s1)
              (base_diskless s1)) (with_changes disk mine)
              ∙ ap (λ l. with_changes disk l) (records_same g q s.ap k (within_top g w q t n))),
        )
whole_by f g w q (Does Flush) c disk = split (all_of (flush_tests q (g.server q)))
  where
    s : Server Entry
    s = g.server q

    split : (b : Bool) → StoreBy g q s ((if b then Flushing ∷ [] else [])
        ++ rebase (acts q (g.clock q) s (if b then Flushing ∷ [] else []))) disk
        (after_calls (all_calls f q (g.clock q) (list_of g q) s ((if b then Flushing ∷ [] else [])
        ++ rebase (acts q (g.clock q) s (if b then Flushing ∷ [] else [])))) disk)
    split false = diskless_by (rebase s) g q s (base_diskless s) disk _
        (marks_leave _ (all_marks f q (g.clock q) (list_of g q) s (rebase s) (base_diskless s))
        disk)
    split true =
        let s1 = act q (g.clock q) s Flushing in
        let rest = all_calls f q (g.clock q) (list_of g q) s1 (rebase s1) in (
          synced_to (reads disk),
          refl,
          diskless_by (rebase s1) (moved g q s Flushing) q s1 (base_diskless s1) _ _
              (marks_leave rest (all_marks f q (g.clock q) (list_of g q) s1 (rebase s1)
              (base_diskless s1)) (synced_to (reads disk))),
        )
whole_by f g w q (Does Power) c disk =
    let s = g.server q in
    let s1 = act q (g.clock q) s Saving in
    let calls = calls_by f (list_of g q) s Saving in
    let rest = all_calls f q (g.clock q) (list_of g q) s1 (rebase s1) in
    let next = after_calls calls disk in (
      next,
      record {
        more = saved_puts f (list_of g q) s.base s.items;
        saved =
            puts_saved f (list_of g q) s.base s.items;
        is = is (saves s.held s.saved);
      },
      diskless_by (rebase s1) (moved g q s Saving) q s1 (base_diskless s1) next _
          (calls_both calls rest disk
          ∙ marks_leave rest (all_marks f q (g.clock q) (list_of g q) s1 (rebase s1)
          (base_diskless s1)) next),
    )
  where
    puts : List Change
    puts = saved_puts f (list_of g q) (g.server q).base (g.server q).items

    is : (b : Bool) → after_calls (if b then map Changing puts ++ Syncing ∷ Marking ∷ [] else
        []) disk ≡ (if b then synced_to (reads (with_changes disk puts)) else disk)
    is true = puts_then puts (Syncing ∷ Marking ∷ []) disk
    is false = refl
whole_by f g w q (Does Crash) c disk = absurd (true≢false c)
whole_by f g w q (Does Tick) c disk = no_cells_by f g q (Does Tick) tt disk
whole_by f g w q (Does Suspect) c disk = no_cells_by f g q (Does Suspect) tt disk
whole_by f g w q (Does (Ask client number cred call)) c disk =
    no_cells_by f g q (Does (Ask client number cred call)) tt disk
whole_by f g w q (Does ListTree) c disk = no_cells_by f g q (Does ListTree) tt disk
whole_by f g w q (Comes from m) c disk = no_cells_by f g q (Comes from m) tt disk

-- a crash makes no call
pub crash_marks : (f : Spellings) (g : Group Entry) (q : Place)
    → AreMarks (calls_at f g q (Does Crash))
unfolding all_calls
crash_marks f g q = let s1 = act q (g.clock q) (g.server q) Falling in
    all_marks f q (g.clock q) (list_of g q) s1 (rebase s1) (base_diskless s1)

-- ---- the first calls of a step

-- the first of a save's calls
first_saved : (history : History) (lb a m k : ℕ) (xs : List Change) (cs : List DiskCall)
    → AreMarks cs → list_all changes_saved xs ≡ true → (disk : Disk)
    → IsBetween history lb a m disk
    → IsBetween history lb a m (after_calls (take k (map Changing xs ++ Syncing ∷ cs)) disk)
unfolding after_calls
first_saved history lb a m zero xs cs h all disk b = b
first_saved history lb a m (suc k) [] cs h all disk b =
    subst (λ d. IsBetween history lb a m d) (sym (marks_leave (take k cs) (first_marks k cs h)
    (synced_to (reads disk)))) (synced history lb a m disk b).0
first_saved history lb a m (suc k) (x ∷ xs) cs h all disk b =
    let both = and_parts (changes_saved x) (list_all changes_saved xs) all in
    first_saved history lb a m k xs cs h both.1 (with_changes disk (x ∷ []))
    (saved history lb a m disk (x ∷ []) b (rw both.0 refl))

diskless_marks : (f : Spellings) (g : Group Entry) (q : Place) (i : Input) → HasNoCells i
    → AreMarks (calls_at f g q i)
diskless_marks f g q i h = all_marks f q (g.clock q) (list_of g q) (g.server q) _
    (step_diskless (measures_of f).size q (g.clock q) (list_of g q) (g.server q) i h)

marked : (g : Group Entry) (q : Place) (history : History) (m k : ℕ) (cs : List DiskCall)
    → AreMarks cs → (disk : Disk)
    → IsBetween history (g.server q).lb (applied_in (g.server q)) m disk
    → IsBetween history (g.server q).lb (applied_in (g.server q)) m (after_calls (take k cs) disk)
marked g q history m k cs h disk b =
    subst (λ d. IsBetween history (g.server q).lb (applied_in (g.server q)) m d)
    (sym (marks_leave (take k cs) (first_marks k cs h) disk)) b

pub first_between : (f : Spellings) (g : Group Entry) → Whole g
    → (disks : Disks) (q : Place) (i : Input) (k : ℕ) (disk : Disk)
    → IsBetween (history_of g.committed) (g.server q).lb (applied_in (g.server q)) (disks q) disk
    → IsBetween (history_of g.committed) (g.server q).lb (applied_in (g.server q))
    (disks_begun g disks q i q) (after_calls (take k (calls_at f g q i)) disk)
unfolding all_calls after_calls
first_between f g w disks q (Does (Apply n)) calls disk h =
    subst (λ d. IsBetween (history_of g.committed) (g.server q).lb (applied_in (g.server q))
    (disks_begun g disks q (Does (Apply n)) q) d)
    (sym (split (all_of (settled_tests q (g.server q))) refl)) (begun_between g w disks q
    (Does (Apply n)) calls disk h)
  where
    s : Server Entry
    s = g.server q

    k : ℕ
    k = min ((g.server q).ap + n) (g.server q).cp

    split : (b : Bool) → all_of (settled_tests q (g.server q)) ≡ b
        → after_calls (take calls (all_calls f q (g.clock q) (list_of g q) s
        ((if b then Applying k ∷ [] else []) ++ rebase (acts q (g.clock q) s (if b then
        Applying k ∷ [] else []))))) disk
        ≡ with_changes disk (if b then
        take calls (between (history_of (g.page s.accepted).list) s.ap k) else [])
    split false t =
        marks_leave _ (first_marks calls _ (all_marks f q (g.clock q) (list_of g q) s (rebase s)
        (base_diskless s))) disk ∙ sym (no_more disk)
    split true t =
        let s1 = act q (g.clock q) s (Applying k) in
        let mine = between (history_of (list_of g q)) s.ap k in
        first_puts calls mine (all_calls f q (g.clock q) (list_of g q) s1 (rebase s1))
        (all_marks f q (g.clock q) (list_of g q) s1 (rebase s1) (base_diskless s1)) disk
        ∙ ap (λ l. with_changes disk (take calls l)) (records_same g q s.ap k
        (within_top g w q t n))
first_between f g w disks q (Does Flush) calls disk h = split (all_of (flush_tests q (g.server q)))
  where
    s : Server Entry
    s = g.server q

    B : Disk → Type 0
    B d = IsBetween (history_of g.committed) (g.server q).lb (applied_in (g.server q)) (disks q) d

    split : (b : Bool)
        → B (after_calls (take calls (all_calls f q (g.clock q) (list_of g q) s
        ((if b then Flushing ∷ [] else [])
        ++ rebase (acts q (g.clock q) s (if b then Flushing ∷ [] else []))))) disk)
    split false =
        subst B (sym (marks_leave _ (first_marks calls _ (all_marks f q (g.clock q) (list_of g q) s
        (rebase s) (base_diskless s))) disk)) h
    split true =
        let s1 = act q (g.clock q) s Flushing in
        first_saved (history_of g.committed) s.lb (applied_in s) (disks q) calls [] (Marking
        ∷ all_calls f q (g.clock q) (list_of g q) s1 (rebase s1))
        (tt, all_marks f q (g.clock q) (list_of g q) s1 (rebase s1) (base_diskless s1)) refl disk h
first_between f g w disks q (Does Power) calls disk h =
    split (saves (g.server q).held (g.server q).saved)
  where
    s : Server Entry
    s = g.server q

    B : Disk → Type 0
    B d = IsBetween (history_of g.committed) (g.server q).lb (applied_in (g.server q)) (disks q) d

    puts : List Change
    puts = saved_puts f (list_of g q) (g.server q).base (g.server q).items

    s1 : Server Entry
    s1 = act q (g.clock q) (g.server q) Saving

    rest : List DiskCall
    rest = all_calls f q (g.clock q) (list_of g q) s1 (rebase s1)

    marks : AreMarks rest
    marks = all_marks f q (g.clock q) (list_of g q) s1 (rebase s1) (base_diskless s1)

    split : (b : Bool)
        → B (after_calls (take calls ((if b then map Changing puts ++ Syncing ∷ Marking ∷ [] else
        []) ++ rest)) disk)
    split false = subst B (sym (marks_leave _ (first_marks calls rest marks) disk)) h
    split true = subst (λ cs. B (after_calls (take calls cs) disk))
        (sym (append_assoc (map Changing puts) (Syncing ∷ Marking ∷ []) rest))
        (first_saved (history_of g.committed) s.lb (applied_in s) (disks q) calls puts (Marking
        ∷ rest) (tt, marks) (puts_saved f (list_of g q) s.base s.items) disk h)
first_between f g w disks q (Does Crash) calls disk h = marked g q (history_of g.committed)
    (disks q) calls (calls_at f g q (Does Crash)) (crash_marks f g q) disk h
first_between f g w disks q (Does Tick) calls disk h = marked g q (history_of g.committed)
    (disks q) calls _ (diskless_marks f g q (Does Tick) tt) disk h
first_between f g w disks q (Does Suspect) calls disk h = marked g q (history_of g.committed)
    (disks q) calls _ (diskless_marks f g q (Does Suspect) tt) disk h
first_between f g w disks q (Does (Ask client number cred call)) calls disk h =
    marked g q (history_of g.committed) (disks q) calls _
    (diskless_marks f g q (Does (Ask client number cred call)) tt) disk h
first_between f g w disks q (Does ListTree) calls disk h = marked g q (history_of g.committed)
    (disks q) calls _ (diskless_marks f g q (Does ListTree) tt) disk h
first_between f g w disks q (Comes from m) calls disk h = marked g q (history_of g.committed)
    (disks q) calls _ (diskless_marks f g q (Comes from m) tt) disk h
