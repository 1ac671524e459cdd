-- The calls of a store and those of a run.
use Rattle.std.proofs.Common.{◌≡◌, ℕ, zero, suc, ◌+◌, ◌%◌, Bool, List, [], ◌∷◌, ◌++◌, length, map, take, Option, Some, None, refl, sym, ap, subst, ◌∙◌, arith, true≢false, if◌then◌else◌}
use Rattle.std.proofs.lemmas.List.{length-append, take_all}
use Rattle.trace_laws.specs.DiskLaws.{HasFewBlocks}
use Rattle.event_record.specs.Record.{entry_of}
use Rattle.event_record.specs.declared.record.RecordFields.{RecordFields}
use Rattle.file_tree.specs.Book.{Entry}
use Rattle.fuzzy_cells.specs.Disk.{Disk}
use Rattle.group_trace.specs.DiskCalls.{Changing, DiskCall, Marking, Spellings, Syncing, after_calls, disk_called, saved_puts}
use Rattle.group_trace.specs.Picks.{crashed_by}
use Rattle.group_trace.specs.DiskRun.{calls_at, passing as run_passing}
use Rattle.group_rules.specs.State.{Saved, Server}
use Rattle.harp_cells.specs.declared.cell.Cell.TheVariants as cell
use Rattle.harp_store.specs.Disk.{Disk as ToldDisk, Moments, Now, after_changes, after_step, changed_by, then_disk}
use Rattle.harp_store.specs.Mark.{MarkFields}
use Rattle.harp_store.specs.Memory.{crashed_by as told_crashed_by}
use Rattle.power_save.specs.Entries.{saved_entries}
use Rattle.power_save.specs.Saved.{puts_of}
use Rattle.store_laws.specs.Calls.{HaveFewBlocks, IsCallOf, IsChangeOf, Makes, StoreCall, Syncs, Writes, called, passing, save_calls, told_after}
use Rattle.store_laws.specs.Laws.{CallsAreMoments, CallsFollow, ChangesAreCalls, ChangesAreOfCalls, FirstChangesAreCalls, MomentsBeforeStand, PutsAreSaved, SavesAreCalls, SavesAreTold, StepsFollow}
use Rattle.store_laws.specs.Told.{IsDiskOf, IsToldOf, OneForOne}
use Rattle.store_laws.proofs.Disks.{crashes_follow, marks_follow, one_follows, syncs_follow}
use Rattle.store_laws.proofs.Lists.{both}
use Rattle.harp_types.specs.declared.pick.Pick.{Pick}
use Rattle.volatile_log.specs.Log.{AreNumberedAfter, LogValue}

-- ---- one call

one_called : (c : StoreCall) (o : DiskCall) (d : ToldDisk) (r : Disk) → IsDiskOf d r
    → IsCallOf c o → HasFewBlocks r → IsDiskOf (called c d) (disk_called r o)
one_called (Makes x) (Changing y) d r h e few = one_follows d r x y h e few
one_called Syncs Syncing d r h e few = syncs_follow d r h few
one_called (Writes mark) Marking d r h e few = marks_follow d r mark h
one_called c o d r h e few = absurd e

one_told : (c : StoreCall) (o : DiskCall) (told : Option Moments) (r : Disk) → IsToldOf told r
    → IsCallOf c o → HasFewBlocks r → IsToldOf (after_step (called c) told) (disk_called r o)
one_told c o None r h e few = tt
one_told c o (Some m) r h e few = one_called c o m.now r h e few

-- ---- first calls

pub calls_follow : CallsFollow
unfolding told_after after_calls
calls_follow told r calls others zero h e few = h
calls_follow told r [] [] (suc k) h e few = h
calls_follow told r (c ∷ calls) (o ∷ others) (suc k) h e few =
    calls_follow (after_step (called c) told) (disk_called r o) calls others k
    (one_told c o told r h e.0 (few 0)) e.1 (λ j. few (suc j))
calls_follow told r [] (o ∷ others) (suc k) h e few = absurd e
calls_follow told r (c ∷ calls) [] (suc k) h e few = absurd e

-- all of them
pub all_follow : (told : Option Moments) (r : Disk) (calls : List StoreCall)
    (others : List DiskCall) → IsToldOf told r → OneForOne IsCallOf calls others
    → HaveFewBlocks others r → IsToldOf (told_after calls told) (after_calls others r)
all_follow told r calls others h e few =
    let k = length calls + length others in
    subst (λ (cs : List StoreCall). IsToldOf (told_after cs told) (after_calls others r))
    (take_all k calls (omega arith))
    (subst (λ (os : List DiskCall). IsToldOf (told_after (take k calls) told) (after_calls os r))
    (take_all k others (omega arith)) (calls_follow told r calls others k h e few))

-- those that pass
passing_follow : (stop : Option ℕ) (told : Option Moments) (r : Disk) (calls : List StoreCall)
    (others : List DiskCall) → IsToldOf told r → OneForOne IsCallOf calls others
    → HaveFewBlocks others r
    → IsToldOf (told_after (passing stop calls) told) (after_calls (run_passing stop others) r)
passing_follow None told r calls others h e few = all_follow told r calls others h e few
passing_follow (Some most) told r calls others h e few =
    calls_follow told r calls others most h e few

-- and a crash then
crash_told : (p : Pick) (told : Option Moments) (r : Disk) → IsToldOf told r
    → Now (λ d. IsDiskOf (told_crashed_by p d) (crashed_by p r)) told
crash_told p None r h = tt
crash_told p (Some m) r h = crashes_follow m.now r p h

pub steps_follow : StepsFollow
steps_follow f g stop p q i calls told r h e few = record {
  whole = λ t. subst (λ (b : Bool). IsToldOf (told_after calls told) (if b then
      after_calls (calls_at f g q i) r else cut)) (sym t)
      (all_follow told r calls (calls_at f g q i) h e few);
  crashed = λ t. subst (λ (b : Bool). Now (λ d. IsDiskOf (told_crashed_by p d)
      (if b then after_calls (calls_at f g q i) r else cut)) (told_after (passing stop calls) told))
      (sym t) (crash_told p (told_after (passing stop calls) told)
      (after_calls (run_passing stop (calls_at f g q i)) r)
      (passing_follow stop told r calls (calls_at f g q i) h e few));
}
  where
    cut : Disk
    cut = crashed_by p (after_calls (run_passing stop (calls_at f g q i)) r)

-- ---- which calls they are

pub calls_are_moments : CallsAreMoments
unfolding told_after
calls_are_moments [] old new e =
    let same : old ≡ new = cc in
    let count = ap (λ (h : Moments). length h.past) same in
    omega (arith, count)
calls_are_moments (c ∷ calls) old new e =
    let long = length-append old.past (old.now ∷ []) in
    let rest = calls_are_moments calls (then_disk (called c old.now) old) new e in
    omega (arith, long, rest)

-- lists with the same last thing
abbrev first_or : {A : Type 0} → A → List A → A
first_or d [] = d
first_or d (x ∷ xs) = x

abbrev others_of : {A : Type 0} → List A → List A
others_of [] = []
others_of (x ∷ xs) = xs

same_last : {A : Type 0} (xs ys : List A) (x y : A) → xs ++ x ∷ [] ≡ ys ++ y ∷ []
    → (xs ≡ ys) × (x ≡ y)
same_last [] [] x y e = (refl, ap (first_or x) e)
same_last [] (z ∷ ys) x y e =
    let long = ap length e in
    let more = length-append ys (y ∷ []) in
    absurd (omega (arith, long, more))
same_last (z ∷ xs) [] x y e =
    let long = ap length e in
    let more = length-append xs (x ∷ []) in
    absurd (omega (arith, long, more))
same_last (a ∷ xs) (b ∷ ys) x y e =
    let rest = same_last xs ys x y (ap others_of e) in
    (ap (λ z. z ∷ xs) (ap (first_or a) e) ∙ ap (λ zs. b ∷ zs) rest.0, rest.1)

same_moments : (m h : Moments) → (m.past ≡ h.past) × (m.now ≡ h.now) → m ≡ h
same_moments m h e = at e.0 ∙ ap (λ (n : ToldDisk). record { past = h.past; now = n }) e.1
  where
    at : m.past ≡ h.past → ◌≡◌ {A = Moments} m (record { past = h.past; now = m.now })
    at p = ap (λ (l : List ToldDisk). record { past = l; now = m.now }) p

-- the moment before a call
before_call : (c : StoreCall) (told : Option Moments) (h : Moments) (d : ToldDisk)
    → after_step (called c) told ≡ Some (then_disk d h) → told ≡ Some h
before_call c None h d e = absurd cc
before_call c (Some m) h d e =
    let same : then_disk (called c m.now) m ≡ then_disk d h = cc in
    let past = ap (λ (t : Moments). t.past) same in
    ap (λ (t : Moments). Some t)
    (same_moments m h (same_last m.past h.past m.now h.now past))

pub moments_before : MomentsBeforeStand
unfolding told_after
moments_before [] k told h d lt e = absurd (omega (arith, lt))
moments_before (c ∷ calls) zero told h d lt e = before_call c told h d e
moments_before (c ∷ calls) (suc k) told h d lt e =
    moments_before calls k (after_step (called c) told) h d (omega (arith, lt)) e

pub changes_are_calls : ChangesAreCalls
unfolding told_after after_changes
changes_are_calls [] more told = refl
changes_are_calls (x ∷ changes) more told =
    changes_are_calls changes more (after_step (changed_by x) told)

pub first_changes : FirstChangesAreCalls
unfolding told_after after_changes
first_changes zero changes told = refl
first_changes (suc k) [] told = refl
first_changes (suc k) (x ∷ changes) told = first_changes k changes (after_step (changed_by x) told)

pub changes_are_of_calls : ChangesAreOfCalls
changes_are_of_calls [] [] h = tt
changes_are_of_calls (x ∷ made) (y ∷ changes) h = (h.0, changes_are_of_calls made changes h.1)
changes_are_of_calls [] (y ∷ changes) h = absurd h
changes_are_of_calls (x ∷ made) [] h = absurd h

entries_put : (f : Spellings) (list : List Entry) (n : ℕ) (rs : List RecordFields)
    → AreNumberedAfter n rs
    → OneForOne IsChangeOf (puts_of rs) (saved_puts f list n (map entry_of rs))
unfolding saved_puts
entries_put f list n [] h = tt
entries_put f list n (r ∷ rs) h = (
  (ap (λ (index : ℕ). cell.Saved (index % 32768)) h.0, λ s. absurd (true≢false s)),
  entries_put f list (n + 1) rs h.1,
)

pub puts_are_saved : PutsAreSaved
puts_are_saved f list base records items h e =
    subst (λ (es : List Entry). OneForOne IsChangeOf (puts_of records) (saved_puts f list base es))
    e (entries_put f list base records h)

pub save_is_calls : (f : Spellings) (list : List Entry) (s : Server Entry) (log : LogValue)
    (mark : MarkFields) → AreNumberedAfter log.base log.records
    → saved_entries log ≡ record { base = s.base; cp = s.cp; items = s.items }
    → OneForOne IsCallOf (save_calls log mark)
    (map Changing (saved_puts f list s.base s.items) ++ Syncing ∷ Marking ∷ [])
save_is_calls f list s log mark h e =
    both IsCallOf (map Makes (puts_of log.records)) (Syncs ∷ Writes mark ∷ [])
    (map Changing (saved_puts f list s.base s.items)) (Syncing ∷ Marking ∷ [])
    (changes_are_of_calls (puts_of log.records) (saved_puts f list s.base s.items)
    (puts_are_saved f list s.base log.records s.items
    (subst (λ (n : ℕ). AreNumberedAfter n log.records) base h) items)) (tt, (tt, tt))
  where
    base : log.base ≡ s.base
    base = ap (λ (x : Saved Entry). x.base) e

    items : map entry_of log.records ≡ s.items
    items = ap (λ (x : Saved Entry). x.items) e

pub saves_are_calls : SavesAreCalls
saves_are_calls f list s log mark t h e =
    subst (λ (b : Bool). OneForOne IsCallOf (save_calls log mark) (if b then
    map Changing (saved_puts f list s.base s.items) ++ Syncing ∷ Marking ∷ [] else [])) (sym t)
    (save_is_calls f list s log mark h e)

pub saves_are_told : SavesAreTold
unfolding told_after
saves_are_told log mark told =
    changes_are_calls (puts_of log.records) (Syncs ∷ Writes mark ∷ []) told
