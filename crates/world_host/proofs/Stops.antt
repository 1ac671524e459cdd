-- Which calls a store with a stop let pass, as its moments tell.
use Rattle.std.proofs.Common.{◌≡◌, ◌⊎◌, ℕ, zero, suc, ◌+◌, ◌-◌, ◌<◌, ◌≤◌, Bool, true, false, List, [], ◌∷◌, length, take, replicate, Option, Some, None, refl, sym, ap, subst, ◌∙◌, inl, inr, arith, length-append}
use Rattle.std.specs.Prelude.{not, ◌&&◌, nat_le}
use Rattle.std.proofs.lemmas.Bool.Decides.{nat_tests}
use Rattle.std.proofs.lemmas.List.{length-map, length-replicate, length-take, take_all}
use Rattle.trace_laws.proofs.Counts.{are_counted}
use Rattle.fuzzy_cells.specs.Disk.{Disk}
use Rattle.file_tree.specs.Book.{Entry}
use Rattle.group_trace.specs.DiskCalls.{DiskCall, Spellings, kind_of, measures_of}
use Rattle.group_trace.specs.DiskRun.{calls_at, disk_after, is_crash, is_whole}
use Rattle.group_rules.proofs.Tests.{le_is}
use Rattle.group_rules.specs.Places.{Place}
use Rattle.group_rules.specs.State.{Group}
use Rattle.group_rules.specs.Step.{Input as Begins, list_of, step_of}
use Rattle.group_trace.specs.Calls.{calls_of}
use Rattle.harp_store.specs.Disk.{Disk as ToldDisk, Moments, Now, after_step, changed_by, moment, synced_whole, then_disk}
use Rattle.harp_cells.specs.declared.change.Change.{Change}
use Rattle.harp_cells.specs.declared.change.Change.TheVariants as change
use Rattle.harp_store.specs.Mark.{MarkFields}
use Rattle.harp_store.specs.Memory.{crashed_by as told_crashed_by, nothing_stored}
use Rattle.harp_store.specs.Stopping.{numbered, stop_moment}
use Rattle.store_laws.proofs.Calls.{calls_are_moments, moments_before, steps_follow}
use Rattle.store_laws.specs.Calls.{HaveFewBlocks, IsCallOf, Makes, StoreCall, Syncs, Writes, told_after}
use Rattle.store_laws.specs.Told.{IsDiskOf, IsToldOf, OneForOne}
use Rattle.harp_types.specs.declared.pick.Pick.{Pick}

-- ---- the calls that were made

-- these calls write the mark by their last one, if at all
abbrev pub MarkLast : List StoreCall → Type 0
MarkLast [] = Unit {0}
MarkLast (Makes x ∷ calls) = MarkLast calls
MarkLast (Syncs ∷ calls) = MarkLast calls
MarkLast (Writes mark ∷ calls) = calls ≡ []

-- SO MANY FIRST CALLS of a store that are those of a run one for one. A mark is written by their
-- last one; and where this mark has a saved log, there is no other call
pub record Called (mark : MarkFields) (others : List DiskCall) (old new : Option Moments)
    : Type 0 where
  pub calls : List StoreCall
  pub one : OneForOne IsCallOf calls others
  pub last : MarkLast calls
  pub kept : (mark.saved ≡ None) ⊎ (length calls ≤ 1)
  pub many : ℕ
  pub made : new ≡ told_after (take many calls) old

-- all of them
pub record CalledAll (mark : MarkFields) (others : List DiskCall) (old new : Option Moments)
    : Type 0 where
  pub first : Called mark others old new
  pub all : length first.calls ≤ first.many

one_long : (xs : List StoreCall) (ys : List DiskCall) → OneForOne IsCallOf xs ys
    → length xs ≡ length ys
one_long [] [] h = refl
one_long (x ∷ xs) (y ∷ ys) h = ap suc (one_long xs ys h.1)
one_long [] (y ∷ ys) h = absurd h
one_long (x ∷ xs) [] h = absurd h

-- ---- what stands before the last of them

abbrev pub told_mark : Option Moments → Option (Option MarkFields)
told_mark None = None
told_mark (Some h) = Some h.now.mark

pub changed_mark : (x : Change) (told : Option Moments)
    → told_mark (after_step (changed_by x) told) ≡ told_mark told
changed_mark x None = refl
changed_mark (change.Put c v) (Some h) = refl
changed_mark (change.Erase c) (Some h) = refl
changed_mark (change.EraseFrom object first) (Some h) = refl

pub synced_mark : (told : Option Moments)
    → told_mark (after_step synced_whole told) ≡ told_mark told
synced_mark None = refl
synced_mark (Some h) = refl

first_marks : (calls : List StoreCall) (j : ℕ) (told : Option Moments) → MarkLast calls
    → j < length calls → told_mark (told_after (take j calls) told) ≡ told_mark told
unfolding told_after
first_marks calls zero told h lt = refl
first_marks [] (suc j) told h lt = absurd (omega (arith, lt))
first_marks (Makes x ∷ calls) (suc j) told h lt =
    first_marks calls j (after_step (changed_by x) told) h (omega (arith, lt))
    ∙ changed_mark x told
first_marks (Syncs ∷ calls) (suc j) told h lt =
    first_marks calls j (after_step synced_whole told) h (omega (arith, lt)) ∙ synced_mark told
first_marks (Writes mark ∷ calls) (suc j) told h lt =
    let none = ap length h in absurd (omega (arith, lt, none))

-- a disk keeps its mark, and where that has a saved log, all of it
pub record KeepsLog (m : MarkFields) (old new : ToldDisk) : Type 0 where
  pub mark : new.mark ≡ old.mark
  pub log : (m.saved ≡ None) ⊎ (new ≡ old)

pub mark_at : (a b : Moments) → told_mark (Some a) ≡ told_mark (Some b) → a.now.mark ≡ b.now.mark
mark_at a b e = cc

pub now_at : (a b : Moments) → Some a ≡ Some b → a.now ≡ b.now
now_at a b e = let same : a ≡ b = cc in ap (λ (h : Moments). h.now) same

pub keeps_log : (mark : MarkFields) (calls : List StoreCall) (j : ℕ) (old new : Moments)
    → MarkLast calls → (mark.saved ≡ None) ⊎ (length calls ≤ 1) → j < length calls
    → told_after (take j calls) (Some old) ≡ Some new → KeepsLog mark old.now new.now
unfolding told_after
keeps_log mark calls zero old new last kept lt made = record {
  mark = ap (λ (d : ToldDisk). d.mark) (sym (now_at old new made));
  log = inr (sym (now_at old new made));
}
keeps_log mark calls (suc j) old new last (inl none) lt made = record {
  mark = mark_at new old (ap told_mark (sym made) ∙ first_marks calls (suc j) (Some old) last lt);
  log = inl none;
}
keeps_log mark calls (suc j) old new last (inr one) lt made = absurd (omega (arith, lt, one))

-- ---- the moments of a store with a stop

-- what is told first
abbrev pub first_told : ℕ → ToldDisk → Moments
first_told most d = numbered most (record { past = []; now = d })

first_moment : (most : ℕ) (d : ToldDisk) → most ≤ stop_moment
    → moment (first_told most d) + most ≡ stop_moment
first_moment most d le =
    let none = nothing_stored.now in
    let long = length-append (replicate (stop_moment - (most + 0)) none) [] in
    let many = length-replicate (stop_moment - (most + 0)) none in
    omega (arith, long, many, le)

numbered_moment : (left : ℕ) (stands : Moments) → left + length stands.past ≤ stop_moment
    → moment (numbered left stands) + left ≡ stop_moment
numbered_moment left stands le =
    let none = nothing_stored.now in
    let room = stop_moment - (left + length stands.past) in
    let long = length-append (replicate room none) stands.past in
    let many = length-replicate room none in
    omega (arith, long, many, le)

then_moment : (d : ToldDisk) (h : Moments) → moment (then_disk d h) ≡ moment h + 1
then_moment d h =
    let long = length-append h.past (h.now ∷ []) in omega (arith, long)

-- the first calls are as many as they are
pub take_long : (xs : List StoreCall) (j n : ℕ) → length (take j xs) ≡ n → take j xs ≡ take n xs
take_long xs zero n e = ap (λ (k : ℕ). take k xs) (e)
take_long [] (suc j) n e = none n
  where
    none : (n : ℕ) → ◌≡◌ {A = List StoreCall} [] (take n [])
    none zero = refl
    none (suc n) = refl
take_long (x ∷ xs) (suc j) zero e = absurd (omega (arith, e))
take_long (x ∷ xs) (suc j) (suc n) e =
    ap (λ (ys : List StoreCall). x ∷ ys) (take_long xs j n (omega (arith, e)))

-- THE STOP CAME: just as many calls passed as it lets pass, and more were to come
pub record Cut (calls : List StoreCall) (most : ℕ) (d : ToldDisk) (stands : Moments)
    : Type 0 where
  pub more : most < length calls
  pub passed : told_after (take most calls) (Some (first_told most d)) ≡ Some (numbered 0 stands)

pub stop_cuts : (calls : List StoreCall) (j most : ℕ) (d e : ToldDisk) (stands : Moments)
    → most ≤ stop_moment → length stands.past ≤ stop_moment
    → Some (then_disk e (numbered 0 stands))
    ≡ told_after (take j calls) (Some (first_told most d))
    → Cut calls most d stands
stop_cuts calls j most d e stands le within made =
    let before = numbered 0 stands in
    let from = first_moment most d le in
    let to = numbered_moment 0 stands (omega (arith, within)) in
    let last = then_moment e before in
    let count = calls_are_moments (take j calls) (first_told most d) (then_disk e before)
    (sym made) in
    let many : length (take j calls) ≡ suc most = omega (arith, from, to, last, count, le) in
    let short = length-take j calls in
    let more : most < length calls = omega (arith, many, short) in
    record {
      more = more;
      passed = moments_before calls most (Some (first_told most d)) before e more
          (ap (λ (cs : List StoreCall). told_after cs (Some (first_told most d)))
          (sym (take_long calls j (suc most) many)) ∙ sym made);
    }

-- and where none came, all calls that were made passed
pub all_pass : (calls : List StoreCall) (j left most : ℕ) (d : ToldDisk) (stands : Moments)
    → most ≤ stop_moment → left + length stands.past ≤ stop_moment → length calls ≤ j
    → Some (numbered left stands) ≡ told_after (take j calls) (Some (first_told most d))
    → length calls ≤ most
all_pass calls j left most d stands le within all made =
    let from = first_moment most d le in
    let to = numbered_moment left stands within in
    let count = calls_are_moments (take j calls) (first_told most d) (numbered left stands)
    (sym made) in
    let short = length-take j calls in
    omega (arith, from, to, count, le, short, all)

-- ---- whether a step is whole

counted : (f : Spellings) (g : Group Entry) (q : Place) (i : Begins)
    → length (calls_of (measures_of f) q (g.clock q) (list_of g q) (g.server q)
    (step_of (measures_of f).size g q i)) ≡ length (calls_at f g q i)
counted f g q i = ap length (sym (are_counted f q (g.clock q) (list_of g q) (g.server q)
    (step_of (measures_of f).size g q i))) ∙ length-map (calls_at f g q i) kind_of

pub cut_is : (f : Spellings) (g : Group Entry) (q : Place) (i : Begins) (most : ℕ)
    → most < length (calls_at f g q i) → is_whole f g (Some most) q i ≡ false
cut_is f g q i most lt =
    let same = counted f g q i in lt_not _ most (omega (arith, same, lt))
  where
    lt_not : (n m : ℕ) → m < n → nat_le n m ≡ false
    lt_not n m h = grind (arith, nat_tests)

pub whole_is : (f : Spellings) (g : Group Entry) (q : Place) (i : Begins) (most : ℕ)
    → length (calls_at f g q i) ≤ most → is_whole f g (Some most) q i ≡ true
whole_is f g q i most le =
    let same = counted f g q i in le_is _ most (omega (arith, same, le))

-- ---- the disk of the run

-- THE STEP IS CUT, where the store tells so: its disk is what the pick leaves of what stands
pub record IsCut (f : Spellings) (g : Group Entry) (most : ℕ) (pick : Pick) (q : Place) (i : Begins)
    (mark : MarkFields) (d stands : ToldDisk) (r : Disk) : Type 0 where
  pub cut : is_whole f g (Some most) q i ≡ false
  pub kept : KeepsLog mark d stands
  pub disk : IsDiskOf (told_crashed_by pick stands)
      (disk_after f g (Some most) pick q i r)

pub step_cut : (f : Spellings) (g : Group Entry) (most : ℕ) (pick : Pick) (q : Place) (i : Begins)
    (mark : MarkFields) (d e : ToldDisk) (stands : Moments) (r : Disk) → most ≤ stop_moment
    → length stands.past ≤ stop_moment → IsDiskOf d r → HaveFewBlocks (calls_at f g q i) r
    → Called mark (calls_at f g q i) (Some (first_told most d))
    (Some (then_disk e (numbered 0 stands)))
    → IsCut f g most pick q i mark d stands.now r
step_cut f g most pick q i mark d e stands r le within disk few c =
    let cut = stop_cuts c.calls c.many most d e stands le within c.made in
    let long = one_long c.calls (calls_at f g q i) c.one in
    let not_whole = cut_is f g q i most (omega (arith, cut.more, long)) in
    let told = steps_follow f g (Some most) pick q i c.calls (Some (first_told most d)) r disk
    c.one few in
    record {
      cut = not_whole;
      kept = keeps_log mark c.calls most (first_told most d) (numbered 0 stands) c.last c.kept
          cut.more cut.passed;
      disk = subst (λ (t : Option Moments). Now (λ x. IsDiskOf (told_crashed_by pick x)
          (disk_after f g (Some most) pick q i r)) t) cut.passed
          (told.crashed (ap (λ (b : Bool). b && not (is_crash i)) not_whole));
    }

-- all its calls are made
all_told : (f : Spellings) (g : Group Entry) (most : Option ℕ) (pick : Pick) (q : Place)
    (i : Begins) (mark : MarkFields) (old : Option Moments) (left : Moments) (r : Disk)
    → IsToldOf old r → HaveFewBlocks (calls_at f g q i) r → is_whole f g most q i ≡ true
    → is_crash i ≡ false → CalledAll mark (calls_at f g q i) old (Some left)
    → IsDiskOf left.now (disk_after f g most pick q i r)
all_told f g most pick q i mark old left r disk few whole quiet c =
    let told = steps_follow f g most pick q i c.first.calls old r disk c.first.one few in
    let made : Some left ≡ told_after c.first.calls old = c.first.made
    ∙ ap (λ (cs : List StoreCall). told_after cs old) (take_all c.first.many c.first.calls c.all) in
    subst (λ (t : Option Moments). IsToldOf t (disk_after f g most pick q i r)) (sym made)
    (told.whole (ap (λ (b : Bool). b && not (is_crash i)) whole
    ∙ ap (λ (b : Bool). true && not b) quiet))

pub step_passes : (f : Spellings) (g : Group Entry) (most left : ℕ) (pick : Pick) (q : Place)
    (i : Begins) (mark : MarkFields) (d : ToldDisk) (stands : Moments) (r : Disk)
    → most ≤ stop_moment → left + length stands.past ≤ stop_moment → IsDiskOf d r
    → HaveFewBlocks (calls_at f g q i) r → is_crash i ≡ false
    → CalledAll mark (calls_at f g q i) (Some (first_told most d)) (Some (numbered left stands))
    → (is_whole f g (Some most) q i ≡ true)
    × IsDiskOf stands.now (disk_after f g (Some most) pick q i r)
step_passes f g most left pick q i mark d stands r le within disk few quiet c =
    let all = all_pass c.first.calls c.first.many left most d stands le within c.all c.first.made in
    let long = one_long c.first.calls (calls_at f g q i) c.first.one in
    let whole = whole_is f g q i most (omega (arith, all, long)) in (
      whole,
      all_told f g (Some most) pick q i mark (Some (first_told most d)) (numbered left stands) r
          disk few whole quiet c,
    )

-- without a stop
pub step_sound : (f : Spellings) (g : Group Entry) (pick : Pick) (q : Place) (i : Begins)
    (mark : MarkFields) (old left : Moments) (r : Disk) → IsDiskOf old.now r
    → HaveFewBlocks (calls_at f g q i) r → is_crash i ≡ false
    → CalledAll mark (calls_at f g q i) (Some old) (Some left)
    → IsDiskOf left.now (disk_after f g None pick q i r)
step_sound f g pick q i mark old left r disk few quiet c =
    all_told f g None pick q i mark (Some old) left r disk few refl quiet c
