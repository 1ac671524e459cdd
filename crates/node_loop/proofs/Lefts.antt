-- What a whole step leaves of a disk is a part of what it makes of it too: all.
use Rattle.std.proofs.Common.{◌≡◌, Bool, true, false, List, length, Option, None, Some, ap, inl, inr, refl, subst, sym}
use Rattle.std.proofs.Math.Seq.{take-length}
use Rattle.file_tree.specs.Book.{Entry}
use Rattle.group_rules.proofs.Tests.{if_is, if_not}
use Rattle.group_rules.specs.Moves.{Move}
use Rattle.group_rules.specs.Step.{Apply, Ask, Comes, Crash, Does, Flush, Input, ListTree, Power, Suspect, Tick}
use Rattle.harp_store.specs.Disk.{Moments, after_changes, after_step, with_mark}
use Rattle.harp_store.specs.Mark.{MarkFields}
use Rattle.node.specs.Disk.{MayLeave, disk_after, marked_by, write_mark}
use Rattle.node.specs.Node.{NodeValue}
use Rattle.node.specs.Stored.{LeavesBy, LeavesFlush, changes_made, disk_by, disk_flushed, flushes}

marks_all : (ms : List (Move Entry)) (mark : MarkFields) (told : Option Moments)
    → MayLeave ms mark told (disk_after ms mark told)
marks_all ms mark told = by (write_mark ms) refl
  where
    by : (b : Bool) → write_mark ms ≡ b → MayLeave ms mark told (disk_after ms mark told)
    by true is = inr (is, if_is (write_mark ms) (after_step (with_mark mark) told) told is)
    by false is = inl (if_not (write_mark ms) (after_step (with_mark mark) told) told is)

flushes_all : (n : NodeValue) (told : Option Moments) → LeavesFlush n told (disk_flushed n told)
flushes_all n told = by (flushes n) refl
  where
    by : (b : Bool) → flushes n ≡ b → LeavesFlush n told (disk_flushed n told)
    by true is = inr (is, inr (inr (if_is (flushes n) _ told is)))
    by false is = inl (if_not (flushes n) _ told is)

all_left : (n : NodeValue) (ms : List (Move Entry)) (o : Option Input) (told : Option Moments)
    → LeavesBy n ms o told (disk_by n ms o told)
all_left n ms None told = refl
all_left n ms (Some (Does (Ask client number cred call))) told = refl
all_left n ms (Some (Does (Apply most))) told =
    let all = changes_made most n in
    (length all, ap (λ cs. after_changes cs told) (sym (take-length all)))
all_left n ms (Some (Does Flush)) told = flushes_all n told
all_left n ms (Some (Does ListTree)) told = refl
all_left n ms (Some (Does Tick)) told = marks_all ms (marked_by n.mark ms) told
all_left n ms (Some (Does Suspect)) told = marks_all ms (marked_by n.mark ms) told
all_left n ms (Some (Does Power)) told = marks_all ms (marked_by n.mark ms) told
all_left n ms (Some (Does Crash)) told = marks_all ms (marked_by n.mark ms) told
all_left n ms (Some (Comes from m)) told = marks_all ms (marked_by n.mark ms) told

-- ALL OF IT IS LEFT
pub whole_left : (n : NodeValue) (ms : List (Move Entry)) (o : Option Input)
    (old new : Option Moments) → new ≡ disk_by n ms o old → LeavesBy n ms o old new
whole_left n ms o old new is = subst (LeavesBy n ms o old) (sym is) (all_left n ms o old)
