-- The mark on a disk after a step of a node, and the saved log by it.
use Rattle.std.proofs.Common.{◌≡◌, ◌⊎◌, ℕ, Bool, true, false, List, [], ◌∷◌, Option, Some, None, refl, sym, ap, subst, ◌∙◌, inl, inr, true≢false, if◌then◌else◌}
use Rattle.std.specs.Prelude.{IfSome, not}
use Rattle.applier.specs.Applied.{flushed, lower}
use Rattle.event_record.specs.declared.record.RecordFields.{RecordFields}
use Rattle.file_tree.specs.Book.{Entry}
use Rattle.world_host.proofs.NodeCalls.{flush_stores, no_changes}
use Rattle.world_host.proofs.Stops.{changed_mark, now_at, told_mark}
use Rattle.world_rules.specs.Host.{SavesRecords}
use Rattle.group_rules.proofs.Tests.{each_of}
use Rattle.group_rules.specs.Disk.{flush_tests}
use Rattle.group_rules.specs.Moves.{Accepting, Demoting, Joining, Move}
use Rattle.group_rules.specs.Places.{Place, is_p2}
use Rattle.group_rules.specs.Step.{Apply, Ask, Comes, Crash, Does, Flush, Input as Begins, ListTree, Power, Suspect, Tick}
use Rattle.harp_cells.specs.declared.change.Change.{Change}
use Rattle.harp_store.specs.Disk.{Disk as ToldDisk, Moments, after_changes, after_step, changed_by, reads, with_mark}
use Rattle.harp_store.specs.Mark.{MarkFields, SavedNumbers}
use Rattle.node.proofs.Marks.{marks_none}
use Rattle.node.specs.Boot.{HasBase}
use Rattle.node.specs.Disk.{disk_after, marked, marked_by, write_mark}
use Rattle.node.specs.Node.{NodeValue}
use Rattle.node.specs.Stored.{changes_made, disk_by, flushes, mark_by, stores}

-- ---- the mark on the disk is the node's

changes_mark : (changes : List Change) (told : Option Moments)
    → told_mark (after_changes changes told) ≡ told_mark told
unfolding after_changes
changes_mark [] told = refl
changes_mark (x ∷ changes) told =
    changes_mark changes (after_step (changed_by x) told) ∙ changed_mark x told

after_mark : (b : Bool) (m k : MarkFields) (told : Option Moments)
    → told_mark told ≡ Some (Some m) → (b ≡ false → k ≡ m)
    → told_mark (if b then after_step (with_mark k) told else told) ≡ Some (Some k)
after_mark true m k None e same = cc
after_mark true m k (Some h) e same = refl
after_mark false m k told e same = e ∙ ap (λ (x : MarkFields). Some (Some x)) (sym (same refl))

flush_mark : (b : Bool) (m k : MarkFields) (told : Option Moments)
    → told_mark told ≡ Some (Some m)
    → told_mark (if b then flushed k told else told) ≡ Some (Some (if b then k else m))
flush_mark true m k None e = cc
flush_mark true m k (Some h) e = refl
flush_mark false m k told e = e

marked_told : (n : NodeValue) (ms : List (Move Entry)) (told : Option Moments)
    → told_mark told ≡ Some (Some n.mark)
    → told_mark (disk_after ms (marked_by n.mark ms) told) ≡ Some (Some (marked_by n.mark ms))
marked_told n ms told e =
    after_mark (write_mark ms) n.mark (marked_by n.mark ms) told e (marks_none n.mark ms)

mark_told : (n : NodeValue) (ms : List (Move Entry)) (i : Begins) (told : Option Moments)
    → told_mark told ≡ Some (Some n.mark)
    → told_mark (disk_by n ms (Some i) told) ≡ Some (Some (mark_by n ms (Some i)))
mark_told n ms (Does Tick) told e = marked_told n ms told e
mark_told n ms (Does Suspect) told e = marked_told n ms told e
mark_told n ms (Does (Ask client number cred call)) told e = e
mark_told n ms (Does (Apply most)) told e = changes_mark (changes_made most n) told ∙ e
mark_told n ms (Does Flush) told e =
    flush_mark (flushes n) n.mark (lower n.plain.ap n.mark) told e
mark_told n ms (Does ListTree) told e = e
mark_told n ms (Does Power) told e = marked_told n ms told e
mark_told n ms (Does Crash) told e = marked_told n ms told e
mark_told n ms (Comes from m) told e = marked_told n ms told e

-- THE DISK HAS THE NODE'S MARK afterwards too
pub mark_written : (n : NodeValue) (ms : List (Move Entry)) (i : Begins) (old left : Moments)
    (mark : MarkFields) → old.now.mark ≡ Some n.mark
    → Some left ≡ disk_by n ms (Some i) (Some old) → mark ≡ mark_by n ms (Some i)
    → left.now.mark ≡ Some mark
mark_written n ms i old left mark has made is =
    let told = ap told_mark made
    ∙ mark_told n ms i (Some old) (ap (λ (m : Option MarkFields). Some m) has)
    ∙ ap (λ (m : MarkFields). Some (Some m)) (sym is) in
    cc

-- ---- the saved log

-- its numbers stay in the mark, with the LB, or are gone
abbrev pub KeepsSaved : MarkFields → MarkFields → Type 0
KeepsSaved old new = (new.saved ≡ None) ⊎ ((new.saved ≡ old.saved) × (new.lb ≡ old.lb))

marked_keeps : (mark : MarkFields) (m : Move Entry) → KeepsSaved mark (marked mark m)
marked_keeps mark (Joining v duty) = inr (refl, refl)
marked_keeps mark (Accepting plan role n) = inl refl
marked_keeps mark (Demoting v) = inl refl
marked_keeps mark m = inr (refl, refl)

keeps_then : (a b c : MarkFields) → KeepsSaved a b → KeepsSaved b c → KeepsSaved a c
keeps_then a b c h (inl none) = inl none
keeps_then a b c (inl none) (inr same) = inl (same.0 ∙ none)
keeps_then a b c (inr kept) (inr same) = inr (same.0 ∙ kept.0, same.1 ∙ kept.1)

all_keep : (mark : MarkFields) (ms : List (Move Entry)) → KeepsSaved mark (marked_by mark ms)
all_keep mark [] = inr (refl, refl)
all_keep mark (m ∷ ms) = keeps_then mark (marked mark m) (marked_by (marked mark m) ms)
    (marked_keeps mark m) (all_keep (marked mark m) ms)

-- the disk with another mark has the same records
pub other_mark : (saved : List RecordFields) (k : MarkFields) (d : ToldDisk) (v : SavedNumbers)
    → SavesRecords saved d v → SavesRecords saved (with_mark k d) v
unfolding reads
other_mark saved k d v h = record { top = h.top; synced = h.synced; held = h.held }

pub same_saves : (saved : List RecordFields) (d e : ToldDisk) (v : SavedNumbers) → e ≡ d
    → SavesRecords saved d v → SavesRecords saved e v
same_saves saved d e v same h =
    subst (λ (x : ToldDisk). SavesRecords saved x v) (sym same) h

pub saves_if : (saved : List RecordFields) (a b : MarkFields) (d e : ToldDisk) → KeepsSaved a b
    → ((v : SavedNumbers) → SavesRecords saved d v → SavesRecords saved e v)
    → IfSome a.saved (SavesRecords saved d) → IfSome b.saved (SavesRecords saved e)
saves_if saved a b d e (inl none) on h =
    subst (λ (o : Option SavedNumbers). IfSome o (SavesRecords saved e)) (sym none) tt
saves_if saved a b d e (inr same) on h =
    subst (λ (o : Option SavedNumbers). IfSome o (SavesRecords saved e)) (sym same.0)
    (each a.saved h)
  where
    each : (o : Option SavedNumbers) → IfSome o (SavesRecords saved d)
        → IfSome o (SavesRecords saved e)
    each None h = tt
    each (Some v) h = on v h

-- a mark without one
pub saves_none : (saved : List RecordFields) (mark : MarkFields) (d : ToldDisk)
    → mark.saved ≡ None → IfSome mark.saved (SavesRecords saved d)
saves_none saved mark d none =
    subst (λ (o : Option SavedNumbers). IfSome o (SavesRecords saved d)) (sym none) tt

saves_marked : (b : Bool) (saved : List RecordFields) (k : MarkFields) (old left : Moments)
    (v : SavedNumbers) → Some left ≡ (if b then after_step (with_mark k) (Some old) else Some old)
    → SavesRecords saved old.now v → SavesRecords saved left.now v
saves_marked true saved k old left v made h =
    same_saves saved (with_mark k old.now) left.now v (now_at left _ made)
    (other_mark saved k old.now v h)
saves_marked false saved k old left v made h =
    same_saves saved old.now left.now v (now_at left old made) h

after_saves : (n : NodeValue) (ms : List (Move Entry)) (saved : List RecordFields)
    (old left : Moments) → IfSome n.mark.saved (SavesRecords saved old.now)
    → Some left ≡ disk_after ms (marked_by n.mark ms) (Some old)
    → IfSome (marked_by n.mark ms).saved (SavesRecords saved left.now)
after_saves n ms saved old left h made =
    saves_if saved n.mark (marked_by n.mark ms) old.now left.now (all_keep n.mark ms)
    (λ v. saves_marked (write_mark ms) saved (marked_by n.mark ms) old left v made) h

stay_saves : (saved : List RecordFields) (mark : MarkFields) (old left : Moments)
    → Some left ≡ Some old → IfSome mark.saved (SavesRecords saved old.now)
    → IfSome mark.saved (SavesRecords saved left.now)
stay_saves saved mark old left same h =
    subst (λ (d : ToldDisk). IfSome mark.saved (SavesRecords saved d))
    (sym (now_at left old same)) h

apply_saves : (b : Bool) (made : List Change) (saved : List RecordFields) (mark : MarkFields)
    (old left : Moments) → (b ≡ true → mark.saved ≡ None) → (b ≡ false → made ≡ [])
    → IfSome mark.saved (SavesRecords saved old.now) → Some left ≡ after_changes made (Some old)
    → IfSome mark.saved (SavesRecords saved left.now)
unfolding after_changes
apply_saves true made saved mark old left none not_so h is =
    saves_none saved mark left.now (none refl)
apply_saves false made saved mark old left none not_so h is = stay_saves saved mark old left
    (is ∙ ap (λ (cs : List Change). after_changes cs (Some old)) (not_so refl)) h

flush_saves : (b : Bool) (saved : List RecordFields) (mark k : MarkFields) (old left : Moments)
    → (b ≡ true → k.saved ≡ None) → IfSome mark.saved (SavesRecords saved old.now)
    → Some left ≡ (if b then flushed k (Some old) else Some old)
    → IfSome (if b then k else mark).saved (SavesRecords saved left.now)
flush_saves true saved mark k old left none h made = saves_none saved k left.now (none refl)
flush_saves false saved mark k old left none h same = stay_saves saved mark old left same h

-- THE DISK HAS THE SAVED LOG that the mark has still
pub saves_written : (n : NodeValue) (ms : List (Move Entry)) (i : Begins)
    (saved : List RecordFields) (old left : Moments)
    → (stores n ≡ true → n.mark.saved ≡ None)
    → IfSome n.mark.saved (SavesRecords saved old.now)
    → Some left ≡ disk_by n ms (Some i) (Some old)
    → IfSome (mark_by n ms (Some i)).saved (SavesRecords saved left.now)
saves_written n ms (Does Tick) saved old left none h made = after_saves n ms saved old left h made
saves_written n ms (Does Suspect) saved old left none h made =
    after_saves n ms saved old left h made
saves_written n ms (Does (Ask client number cred call)) saved old left none h same =
    stay_saves saved n.mark old left same h
saves_written n ms (Does (Apply most)) saved old left none h made =
    apply_saves (stores n) (changes_made most n) saved n.mark old left none (no_changes n most) h
    made
saves_written n ms (Does Flush) saved old left none h made =
    flush_saves (flushes n) saved n.mark (lower n.plain.ap n.mark) old left
    (λ e. none (flush_stores n e)) h made
saves_written n ms (Does ListTree) saved old left none h same =
    stay_saves saved n.mark old left same h
saves_written n ms (Does Power) saved old left none h made = after_saves n ms saved old left h made
saves_written n ms (Does Crash) saved old left none h made = after_saves n ms saved old left h made
saves_written n ms (Comes from m) saved old left none h made =
    after_saves n ms saved old left h made

-- ---- at server 2

keeps_base : (q : Place) (a b : MarkFields) → KeepsSaved a b → HasBase q a → HasBase q b
keeps_base q a b (inl none) h two =
    subst (λ (o : Option SavedNumbers). IfSome o (λ v. v.base ≡ b.lb)) (sym none) tt
keeps_base q a b (inr same) h two =
    subst (λ (o : Option SavedNumbers). IfSome o (λ v. v.base ≡ b.lb)) (sym same.0)
    (subst (λ (n : ℕ). IfSome a.saved (λ v. v.base ≡ n)) (sym same.1) (h two))

no_witness : (n : NodeValue) → flushes n ≡ true → is_p2 n.me ≡ true → ⊥
no_witness n e two =
    let data_server = (each_of (flush_tests n.me n.plain) e).1.0 in
    true≢false (sym data_server ∙ ap not two)

flush_base : (b : Bool) (q : Place) (mark k : MarkFields) → (b ≡ true → is_p2 q ≡ true → ⊥)
    → HasBase q mark → HasBase q (if b then k else mark)
flush_base true q mark k not_so h = λ two. absurd (not_so refl two)
flush_base false q mark k not_so h = h

-- the LB of its mark stays at the base of the saved log
pub base_written : (n : NodeValue) (ms : List (Move Entry)) (i : Begins) → HasBase n.me n.mark
    → HasBase n.me (mark_by n ms (Some i))
base_written n ms (Does Tick) h =
    keeps_base n.me n.mark (marked_by n.mark ms) (all_keep n.mark ms) h
base_written n ms (Does Suspect) h =
    keeps_base n.me n.mark (marked_by n.mark ms) (all_keep n.mark ms) h
base_written n ms (Does (Ask client number cred call)) h = h
base_written n ms (Does (Apply most)) h = h
base_written n ms (Does Flush) h =
    flush_base (flushes n) n.me n.mark (lower n.plain.ap n.mark) (no_witness n) h
base_written n ms (Does ListTree) h = h
base_written n ms (Does Power) h =
    keeps_base n.me n.mark (marked_by n.mark ms) (all_keep n.mark ms) h
base_written n ms (Does Crash) h =
    keeps_base n.me n.mark (marked_by n.mark ms) (all_keep n.mark ms) h
base_written n ms (Comes from m) h =
    keeps_base n.me n.mark (marked_by n.mark ms) (all_keep n.mark ms) h
