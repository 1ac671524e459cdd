-- Which mark moves write, where others follow that write none.
use Rattle.std.proofs.Common.{◌≡◌, ◌⊎◌, ℕ, ◌+◌, Bool, true, false, List, [], ◌∷◌, ◌++◌, Option, refl, ap, sym, ◌∙◌, inl, inr, if◌then◌else◌}
use Rattle.std.specs.Prelude.{None, Some, min, nat_le}
use Rattle.file_tree.specs.Book.{Entry}
use Rattle.group_rules.proofs.Tests.{if_is, if_not}
use Rattle.group_rules.specs.Misfits.{misfits}
use Rattle.group_rules.specs.Moves.{Accepting, Basing, Demoting, Joining, Move, Sending, acts}
use Rattle.group_rules.specs.Open.{and_then, base_tests, open_heard, open_moves, open_tests, rebase, try_open}
use Rattle.group_rules.specs.Places.{Place, Two, all_of, get, is_s01, partner}
use Rattle.group_rules.specs.State.{Beat, Demote, Message, Server, top}
use Rattle.group_rules.specs.Step.{on_message}
use Rattle.harp_types.specs.Limits.{clock_skew}
use Rattle.harp_store.specs.Disk.{Moments, after_step, with_mark}
use Rattle.harp_store.specs.Mark.{MarkFields}
use Rattle.node.specs.Disk.{MayLeave, disk_after, marked, marked_by, write_mark, writes_mark}
use Rattle.node.specs.Node.{NodeValue}
use Rattle.node.specs.Taking.{coming}

-- ---- moves that write no mark

kept_by : (mark : MarkFields) (m : Move Entry) → writes_mark m ≡ false → marked mark m ≡ mark
kept_by mark (Joining v duty) none = cc
kept_by mark (Accepting plan role n) none = cc
kept_by mark (Demoting v) none = cc
kept_by mark m none = refl

none_first : (a b : Bool) → (if a then true else b) ≡ false → (a ≡ false) × (b ≡ false)
none_first true b none = cc
none_first false b none = (refl, none)

pub marks_none : (mark : MarkFields) (ms : List (Move Entry)) → write_mark ms ≡ false
    → marked_by mark ms ≡ mark
marks_none mark [] none = refl
marks_none mark (m ∷ ms) none =
    let each = none_first (writes_mark m) (write_mark ms) none in
    ap (λ (k : MarkFields). marked_by k ms) (kept_by mark m each.0) ∙ marks_none mark ms each.1

pub none_if : (b : Bool) (ms : List (Move Entry)) → write_mark ms ≡ false
    → write_mark (if b then ms else []) ≡ false
none_if true ms none = none
none_if false ms none = refl

pub none_then : (ms ns : List (Move Entry)) → write_mark ms ≡ false → write_mark ns ≡ false
    → write_mark (ms ++ ns) ≡ false
none_then [] ns first second = second
none_then (m ∷ ms) ns first second =
    let each = none_first (writes_mark m) (write_mark ms) first in
    if_not (writes_mark m) true (write_mark (ms ++ ns)) each.0 ∙ none_then ms ns each.1 second

none_open : (s : Server Entry) (lb : ℕ) → write_mark (open_moves s lb) ≡ false
none_open s lb =
    let demote : List (Move Entry) =
    if is_s01 s.plan.storers then Sending Two (Demote s.accepted) ∷ [] else [] in
    none_then demote (Sending (partner s.plan.storers) (Beat s.accepted (top s) s.base) ∷ [])
    (none_if (is_s01 s.plan.storers) (Sending Two (Demote s.accepted) ∷ []) refl) refl

none_heard : (clock : ℕ) (s : Server Entry) (heard : Option ℕ)
    → write_mark (open_heard clock s heard) ≡ false
none_heard clock s None = refl
none_heard clock s (Some lb) =
    none_if (nat_le (s.plan.horizon + clock_skew) clock) (open_moves s lb) (none_open s lb)

-- the test of opening writes none
pub opens_unmarked : (q : Place) (clock : ℕ) (s : Server Entry)
    → write_mark (try_open q clock s) ≡ false
opens_unmarked q clock s = none_if (all_of (open_tests q s))
    (open_heard clock s (get s.heard (partner s.plan.storers)))
    (none_heard clock s (get s.heard (partner s.plan.storers)))

-- nor does the base
pub bases_unmarked : (s : Server Entry) → write_mark (rebase s) ≡ false
bases_unmarked s =
    none_if (all_of (base_tests s)) (Basing (min s.lb s.told_lb) ∷ []) refl

-- ---- moves that write the same mark

-- both write a mark or neither does, and it is the same one
pub record IsAlike (ms ns : List (Move Entry)) : Type 0 where
  pub mark : (m : MarkFields) → marked_by m ms ≡ marked_by m ns
  pub writes : write_mark ms ≡ write_mark ns

pub alike_same : (ms ns : List (Move Entry)) → ms ≡ ns → IsAlike ms ns
alike_same ms ns is = record {
  mark = λ m. ap (marked_by m) is;
  writes = ap write_mark is;
}

pub alike_on : (ms ns os : List (Move Entry)) → IsAlike ms ns → IsAlike ns os → IsAlike ms os
alike_on ms ns os h k = record {
  mark = λ m. h.mark m ∙ k.mark m;
  writes = h.writes ∙ k.writes;
}

marks_then : (mark : MarkFields) (ms ns : List (Move Entry)) → write_mark ns ≡ false
    → marked_by mark (ms ++ ns) ≡ marked_by mark ms
marks_then mark [] ns none = marks_none mark ns none
marks_then mark (m ∷ ms) ns none = marks_then (marked mark m) ms ns none

writes_then : (ms ns : List (Move Entry)) → write_mark ns ≡ false
    → write_mark (ms ++ ns) ≡ write_mark ms
writes_then [] ns none = none
writes_then (m ∷ ms) ns none =
    ap (λ b. if writes_mark m then true else b) (writes_then ms ns none)

pub alike_then : (ms ns : List (Move Entry)) → write_mark ns ≡ false → IsAlike (ms ++ ns) ms
alike_then ms ns none = record {
  mark = λ m. marks_then m ms ns none;
  writes = writes_then ms ns none;
}

-- moves that write none are as no moves
pub alike_none : (ms : List (Move Entry)) → write_mark ms ≡ false → IsAlike ms []
alike_none ms none = record { mark = λ m. marks_none m ms none; writes = none }

-- those of a misfit that comes
pub misfit_alike : (size : List Entry → Entry → ℕ) (clock : ℕ) (list : List Entry)
    (n : NodeValue) (from : Place) (m : Message Entry) → misfits n.me n.plain from m ≡ true
    → IsAlike (coming size clock list n from m) []
misfit_alike size clock list n from m misfit = alike_same _ _
    (if_is (misfits n.me n.plain from m) [] (and_then n.me clock n.plain
    (on_message size n.me clock list n.plain from m) (try_open n.me clock)) misfit)

-- and of another message
pub taken_alike : (size : List Entry → Entry → ℕ) (clock : ℕ) (list : List Entry)
    (n : NodeValue) (from : Place) (m : Message Entry) → misfits n.me n.plain from m ≡ false
    → IsAlike (coming size clock list n from m) (on_message size n.me clock list n.plain from m)
taken_alike size clock list n from m proper =
    let ms = on_message size n.me clock list n.plain from m in
    alike_on _ _ _ (alike_same _ _ (if_not (misfits n.me n.plain from m) []
    (and_then n.me clock n.plain ms (try_open n.me clock)) proper))
    (alike_then ms (try_open n.me clock (acts n.me clock n.plain ms))
    (opens_unmarked n.me clock (acts n.me clock n.plain ms)))

-- ---- what they make of a disk

pub mark_as : (ms ns : List (Move Entry)) (m k : MarkFields) → IsAlike ms ns
    → k ≡ marked_by m ns → k ≡ marked_by m ms
mark_as ms ns m k alike is = is ∙ sym (alike.mark m)

pub disk_as : (ms ns : List (Move Entry)) (k j : MarkFields) (old new : Option Moments)
    → IsAlike ms ns → j ≡ k → new ≡ disk_after ns k old → new ≡ disk_after ms j old
disk_as ms ns k j old new alike same is =
    is ∙ ap (λ b. if b then after_step (with_mark k) old else old) (sym alike.writes)
    ∙ ap (λ (x : MarkFields). disk_after ms x old) (sym same)

pub part_as : (ms ns : List (Move Entry)) (m : MarkFields) (old new : Option Moments)
    → IsAlike ms ns → MayLeave ns (marked_by m ns) old new
    → MayLeave ms (marked_by m ms) old new
part_as ms ns m old new alike (inl same) = inl same
part_as ms ns m old new alike (inr made) = inr (
  alike.writes ∙ made.0,
  made.1 ∙ ap (λ (k : MarkFields). after_step (with_mark k) old) (sym (alike.mark m)),
)

-- what moves that went well leave, those leave too that fail later
left_by : (b : Bool) (k : MarkFields) (old new : Option Moments)
    → new ≡ (if b then after_step (with_mark k) old else old)
    → (new ≡ old) ⊎ ((b ≡ true) × (new ≡ after_step (with_mark k) old))
left_by true k old new is = inr (refl, is)
left_by false k old new is = inl is

pub part_then : (ms ns : List (Move Entry)) (m k : MarkFields) (old new : Option Moments)
    → IsAlike ms ns → k ≡ marked_by m ns → new ≡ disk_after ns k old
    → MayLeave ms (marked_by m ms) old new
part_then ms ns m k old new alike mark is = part_as ms ns m old new alike
    (left_by (write_mark ns) (marked_by m ns) old new
    (is ∙ ap (λ (x : MarkFields). disk_after ns x old) mark))

-- ---- a message that isn't a misfit, and fails

-- whatever it is of, it leaves the disk as it was, or with the mark that its moves write
abbrev pub LeavesPart : (clock : ℕ) → NodeValue → Place → Message Entry
    → (old new : Option Moments) → Type 0
LeavesPart clock n from m old new = (size : List Entry → Entry → ℕ) (list : List Entry)
    → let ms = coming size clock list n from m in MayLeave ms (marked_by n.mark ms) old new

-- where its own moves do
pub taken_part : (clock : ℕ) (n : NodeValue) (from : Place) (m : Message Entry)
    (old new : Option Moments) → misfits n.me n.plain from m ≡ false
    → ((size : List Entry → Entry → ℕ) (list : List Entry)
    → let ms = on_message size n.me clock list n.plain from m in
    MayLeave ms (marked_by n.mark ms) old new)
    → LeavesPart clock n from m old new
taken_part clock n from m old new proper left size list =
    part_as (coming size clock list n from m)
    (on_message size n.me clock list n.plain from m) n.mark old new
    (taken_alike size clock list n from m proper) (left size list)

-- and where they went well, and the test of opening fails
pub opened_part : (clock : ℕ) (n : NodeValue) (from : Place) (m : Message Entry)
    (k : MarkFields) (old new : Option Moments) → misfits n.me n.plain from m ≡ false
    → ((size : List Entry → Entry → ℕ) (list : List Entry)
    → k ≡ marked_by n.mark (on_message size n.me clock list n.plain from m))
    → ((size : List Entry → Entry → ℕ) (list : List Entry)
    → new ≡ disk_after (on_message size n.me clock list n.plain from m) k old)
    → LeavesPart clock n from m old new
opened_part clock n from m k old new proper mark disk size list =
    part_then (coming size clock list n from m)
    (on_message size n.me clock list n.plain from m) n.mark k old new
    (taken_alike size clock list n from m proper) (mark size list) (disk size list)
