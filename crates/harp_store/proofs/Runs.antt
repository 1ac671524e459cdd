-- Changes made one after the other, first parts of them, and what crashes in their middle leave.
use Rattle.std.proofs.Common.{◌≡◌, ℕ, zero, suc, Some, None, ◌+◌, ◌<◌, ◌≤◌, arith, List, [], ◌∷◌, ◌++◌, length, take, Option, refl, sym, ap, subst, ◌∙◌, inl, inr}
use Rattle.std.specs.Prelude.{slice_index_or, OnErr, Result, Ok, Err}
use Rattle.std.proofs.lemmas.List.{take_more, take_all}
use Rattle.harp_cells.specs.declared.change.Change.{Change}
use Rattle.harp_cells.specs.declared.change.Change.TheVariants as change
use Rattle.harp_cells.specs.declared.cell.Cell.{Cell}
use Rattle.harp_cells.specs.declared.value.Value.{Value}
use Rattle.harp_cells.specs.Effect.{after}
use Rattle.harp_store.specs.Disk.{after_changes, AfterPart, CrashesLeave, IsAfterPart, IsLeftInPart, AtEachMoment, Disk, Moments, Image, MayHaveMade, MayHoldInPart, MayLeave, after_step, changed_by, changed_by_all, reads, then_disk}
use Rattle.harp_store.proofs.Changes.{holds_changed_all}
use Rattle.harp_store.proofs.Moments.{follows, images_are_of, runs_join, stays, steps}

pub after_both : (changes more : List Change) (told : Option Moments)
    → after_changes (changes ++ more) told ≡ after_changes more (after_changes changes told)
unfolding after_changes
after_both [] more told = refl
after_both (x ∷ changes) more told = after_both changes more (after_step (changed_by x) told)

-- where changes lead
pub after_some : (changes : List Change) (h : Moments) → (k : Moments)
    × (after_changes changes (Some h) ≡ Some k) × (k.now ≡ changed_by_all changes h.now)
unfolding after_changes changed_by_all
after_some [] h = (h, refl, refl)
after_some (x ∷ changes) h = after_some changes (then_disk (changed_by x h.now) h)

pub after_none : (changes : List Change) → after_changes changes None ≡ None
unfolding after_changes
after_none [] = refl
after_none (x ∷ changes) = after_none changes

-- one change more
pub after_more : (changes : List Change) (i : ℕ) (d : Change) (told : Option Moments)
    → i < length changes
    → after_changes (take (i + 1) changes) told
    ≡ after_step (changed_by (slice_index_or changes i d)) (after_changes (take i changes) told)
unfolding after_changes
after_more changes i d told lt =
    ap (λ (cs : List Change). after_changes cs told) (take_more changes i d lt)
    ∙ after_both (take i changes) (slice_index_or changes i d ∷ []) told

-- a call that failed made the next change or didn't
pub part_made : (changes : List Change) (i : ℕ) (d : Change) (old mid new : Option Moments)
    → i < length changes → mid ≡ after_changes (take i changes) old
    → MayHaveMade (changed_by (slice_index_or changes i d)) mid new → AfterPart changes old new
part_made changes i d old mid new lt e (inl h) = (i, h ∙ e)
part_made changes i d old mid new lt e (inr h) = (
  i + 1,
  h
      ∙ ap (after_step (changed_by (slice_index_or changes i d))) e
      ∙ sym (after_more changes i d old lt),
)

-- the same of the element that a loop has
pub item_made : (changes : List Change) (i : ℕ) (x : Change) (old mid new : Option Moments)
    → i < length changes → x ≡ slice_index_or changes i x
    → mid ≡ after_changes (take i changes) old → new ≡ after_step (changed_by x) mid → new
    ≡ after_changes (take (i + 1) changes) old
item_made changes i x old mid new lt is e h =
    h ∙ ap (after_step (changed_by x)) e
    ∙ ap (λ (y : Change). after_step (changed_by y) (after_changes (take i changes) old)) is
    ∙ sym (after_more changes i x old lt)

pub item_part : (changes : List Change) (i : ℕ) (x : Change) (old mid new : Option Moments)
    → i < length changes → x ≡ slice_index_or changes i x
    → mid ≡ after_changes (take i changes) old → MayHaveMade (changed_by x) mid new
    → AfterPart changes old new
item_part changes i x old mid new lt is e h = part_made changes i x old mid new lt e (subst (λ
    (y : Change). MayHaveMade (changed_by y) mid new) is h)

pub on_err : {A E : Type 0} (r : Result A E) (P : Type 0) → P → OnErr r P
on_err (Ok x) P p = tt
on_err (Err e) P p = p

-- ---- moments

part_of_more : (x : Change) (changes : List Change) (d e : Disk)
    → IsAfterPart changes (changed_by x d) e → IsAfterPart (x ∷ changes) d e
unfolding changed_by_all
part_of_more x changes d e (n, h) = (suc n, h)

-- at each moment of a first part of the changes the disk is one after a first part
pub part_moments : (changes : List Change) (n : ℕ) (h : Moments)
    → AtEachMoment (IsAfterPart changes h.now) (Some h) (after_changes (take n changes) (Some h))
unfolding after_changes changed_by_all
part_moments changes zero h = stays (IsAfterPart changes h.now) h (0, refl)
part_moments [] (suc n) h = stays (IsAfterPart [] h.now) h (0, refl)
part_moments (x ∷ changes) (suc n) h =
    let next : Moments = then_disk (changed_by x h.now) h in
    runs_join (IsAfterPart (x ∷ changes) h.now) (Some h) (Some next) (after_changes
    (take n changes) (Some next))
    (steps (IsAfterPart (x ∷ changes) h.now) (changed_by x) h (0, refl) (1, refl))
    (follows (IsAfterPart changes next.now) (IsAfterPart (x ∷ changes) h.now) (Some next)
    (after_changes (take n changes) (Some next))
    (λ e. part_of_more x changes h.now e) (part_moments changes n next))

pub moments_of_part : (changes : List Change) (old new : Option Moments)
    → AfterPart changes old new → (h : Moments) → old ≡ Some h
    → AtEachMoment (IsAfterPart changes h.now) old new
moments_of_part changes old new (n, e) h is =
    subst (λ (o : Option Moments). AtEachMoment (IsAfterPart changes h.now) o new) (sym is)
    (subst (λ (o : Option Moments). AtEachMoment (IsAfterPart changes h.now) (Some h) o) (sym (e
    ∙ ap (after_changes (take n changes)) is)) (part_moments changes n h))

pub all_is_part : (changes : List Change) (old new : Option Moments) → new
    ≡ after_changes changes old → AfterPart changes old new
all_is_part changes old new e = (
  length changes,
  e
      ∙ ap (λ (cs : List Change). after_changes cs old) (sym (take_all (length changes) changes
      (omega arith))),
)

-- ---- crashes

pub mark_stays : (changes : List Change) (d : Disk) → (changed_by_all changes d).mark ≡ d.mark
unfolding changed_by_all
mark_stays [] d = refl
mark_stays (change.Put cell value ∷ changes) d = mark_stays changes (changed_by
    (change.Put cell value) d)
mark_stays (change.Erase cell ∷ changes) d = mark_stays changes (changed_by (change.Erase cell) d)
mark_stays (change.EraseFrom object first ∷ changes) d = mark_stays changes (changed_by
    (change.EraseFrom object first) d)

-- a first part of a first part
pub take_both : (m n : ℕ) (changes : List Change) → (k : ℕ) × (k ≤ length changes)
    × (take m (take n changes) ≡ take k changes)
take_both zero n changes = (0, omega arith, refl)
take_both (suc m) zero changes = (0, omega arith, refl)
take_both (suc m) (suc n) [] = (0, omega arith, refl)
take_both (suc m) (suc n) (x ∷ changes) =
    let rest = take_both m n changes in
    let le = rest.1 in
    (suc rest.0, omega (arith, le), ap (λ (cs : List Change). x ∷ cs) rest.2)

-- what may be left after a first part may be left in the middle of all
pub part_in_part : (changes : List Change) (n : ℕ) (d : Disk) (c : Cell) (v : Option Value)
    → MayHoldInPart (take n changes) d c v → MayHoldInPart changes d c v
part_in_part changes n d c v (inl h) = inl h
part_in_part changes n d c v (inr (m, le, e)) =
    let both = take_both m n changes in
    inr (both.0, both.1, e ∙ ap (λ (cs : List Change). after cs (reads d) c) both.2)

pub one_left : (changes : List Change) (d e : Disk) (image : Image) → IsAfterPart changes d e
    → MayLeave e image → IsLeftInPart changes d image
one_left changes d e image (n, is) h =
    let l : MayLeave (changed_by_all (take n changes) d) image = subst (λ
    (x : Disk). MayLeave x image) is h in
    record {
      cells = λ c. part_in_part changes n d c (image.cells c) (holds_changed_all
          (take n changes) d c (image.cells c) (l.cells c));
      mark = l.mark ∙ mark_stays (take n changes) d;
    }

pub crashes_of_part : (changes : List Change) (old new : Option Moments)
    → AfterPart changes old new → (h : Moments) → old ≡ Some h
    → CrashesLeave (IsLeftInPart changes h.now) h new
crashes_of_part changes old None part h is = tt
crashes_of_part changes old (Some new) part h is = λ image left.
    let found = images_are_of (IsAfterPart changes h.now) h new image
    (subst (λ (o : Option Moments). AtEachMoment (IsAfterPart changes h.now) o (Some new)) is
    (moments_of_part changes old (Some new) part h is)) left in
    one_left changes h.now found.0 image found.1 found.2
