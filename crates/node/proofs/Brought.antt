-- What a whole step brings to a server's mark and disk, from what its rule does.
use Rattle.std.proofs.Common.{◌≡◌, ℕ, false, List, Option, None, Some, Result, Ok, Err, refl, ap, sym, subst, ◌∙◌, inl, inr}
use Rattle.std.specs.Prelude.{OnErr, OnOk, is_some, option_map}
use Rattle.cell_cache.specs.Entries.{AreOf, Entries}
use Rattle.file_tree.specs.Book.{Entry}
use Rattle.group_rules.specs.Moves.{Move}
use Rattle.group_rules.specs.Places.{Place}
use Rattle.group_rules.specs.State.{Message}
use Rattle.group_rules.specs.Step.{Apply, Ask, Comes, Crash, Does, Flush, Input, ListTree, Power, Suspect, Tick}
use Rattle.harp_store.specs.Disk.{Moments, cells_told}
use Rattle.harp_store.specs.Mark.{MarkFields}
use Rattle.node.specs.Cached.{IsCachedAs}
use Rattle.node.specs.Disk.{MayLeave, disk_after, marked_by}
use Rattle.node.specs.Input.{input_of}
use Rattle.node.specs.Node.{NodeValue}
use Rattle.node.specs.Outcomes.{Brings}
use Rattle.node.specs.Stored.{LeavesBy, changes_made, disk_by, mark_by}
use Rattle.node.specs.Taking.{ruled, stepped}
use Rattle.node.specs.declared.fault.NodeFault.{NodeFault}
use Rattle.node.specs.declared.input.Input.{Input as Given}
use Rattle.node.proofs.Cached.{disk_cells, stays_cached}
use Rattle.node.proofs.Marks.{disk_as, mark_as, part_as}
use Rattle.node.proofs.Stepped.{step_alike}
use Rattle.node.proofs.Stores.{none_part}

-- the base is neither in the mark nor on the disk
pub mark_stepped : (size : List Entry → Entry → ℕ) (q : Place) (clock : ℕ) (list : List Entry)
    (n : NodeValue) (o : Option Input) (k : MarkFields)
    → k ≡ mark_by n (ruled size q clock list n.plain o) o
    → k ≡ mark_by n (stepped size q clock list n.plain o) o
mark_stepped size q clock list n None k is = is
mark_stepped size q clock list n (Some (Does (Ask client number cred call))) k is = is
mark_stepped size q clock list n (Some (Does (Apply most))) k is = is
mark_stepped size q clock list n (Some (Does Flush)) k is = is
mark_stepped size q clock list n (Some (Does ListTree)) k is = is
mark_stepped size q clock list n (Some (Does Tick)) k is =
    mark_as _ _ n.mark k (step_alike size q clock list n.plain (Some (Does Tick))) is
mark_stepped size q clock list n (Some (Does Suspect)) k is =
    mark_as _ _ n.mark k (step_alike size q clock list n.plain (Some (Does Suspect))) is
mark_stepped size q clock list n (Some (Does Power)) k is =
    mark_as _ _ n.mark k (step_alike size q clock list n.plain (Some (Does Power))) is
mark_stepped size q clock list n (Some (Does Crash)) k is =
    mark_as _ _ n.mark k (step_alike size q clock list n.plain (Some (Does Crash))) is
mark_stepped size q clock list n (Some (Comes from m)) k is =
    mark_as _ _ n.mark k (step_alike size q clock list n.plain (Some (Comes from m))) is

-- where the mark alone is written
marked_stepped : (size : List Entry → Entry → ℕ) (q : Place) (clock : ℕ) (list : List Entry)
    (n : NodeValue) (i : Input) (old new : Option Moments)
    → new ≡ disk_after (ruled size q clock list n.plain (Some i))
    (marked_by n.mark (ruled size q clock list n.plain (Some i))) old
    → new ≡ disk_after (stepped size q clock list n.plain (Some i))
    (marked_by n.mark (stepped size q clock list n.plain (Some i))) old
marked_stepped size q clock list n i old new is =
    let alike = step_alike size q clock list n.plain (Some i) in
    disk_as _ _ (marked_by n.mark (ruled size q clock list n.plain (Some i)))
    (marked_by n.mark (stepped size q clock list n.plain (Some i))) old new alike
    (alike.mark n.mark) is

pub disk_stepped : (size : List Entry → Entry → ℕ) (q : Place) (clock : ℕ) (list : List Entry)
    (n : NodeValue) (o : Option Input) (old new : Option Moments)
    → new ≡ disk_by n (ruled size q clock list n.plain o) o old
    → new ≡ disk_by n (stepped size q clock list n.plain o) o old
disk_stepped size q clock list n None old new is = is
disk_stepped size q clock list n (Some (Does (Ask client number cred call))) old new is = is
disk_stepped size q clock list n (Some (Does (Apply most))) old new is = is
disk_stepped size q clock list n (Some (Does Flush)) old new is = is
disk_stepped size q clock list n (Some (Does ListTree)) old new is = is
disk_stepped size q clock list n (Some (Does Tick)) old new is =
    marked_stepped size q clock list n (Does Tick) old new is
disk_stepped size q clock list n (Some (Does Suspect)) old new is =
    marked_stepped size q clock list n (Does Suspect) old new is
disk_stepped size q clock list n (Some (Does Power)) old new is =
    marked_stepped size q clock list n (Does Power) old new is
disk_stepped size q clock list n (Some (Does Crash)) old new is =
    marked_stepped size q clock list n (Does Crash) old new is
disk_stepped size q clock list n (Some (Comes from m)) old new is =
    marked_stepped size q clock list n (Comes from m) old new is

-- after an error too
pub part_stepped : (size : List Entry → Entry → ℕ) (q : Place) (clock : ℕ) (list : List Entry)
    (n : NodeValue) (o : Option Input) (old new : Option Moments)
    → LeavesBy n (ruled size q clock list n.plain o) o old new
    → LeavesBy n (stepped size q clock list n.plain o) o old new
part_stepped size q clock list n None old new left = left
part_stepped size q clock list n (Some (Does (Ask client number cred call))) old new left = left
part_stepped size q clock list n (Some (Does (Apply most))) old new left = left
part_stepped size q clock list n (Some (Does Flush)) old new left = left
part_stepped size q clock list n (Some (Does ListTree)) old new left = left
part_stepped size q clock list n (Some (Does Tick)) old new left =
    part_as _ _ n.mark old new (step_alike size q clock list n.plain (Some (Does Tick))) left
part_stepped size q clock list n (Some (Does Suspect)) old new left =
    part_as _ _ n.mark old new (step_alike size q clock list n.plain (Some (Does Suspect))) left
part_stepped size q clock list n (Some (Does Power)) old new left =
    part_as _ _ n.mark old new (step_alike size q clock list n.plain (Some (Does Power))) left
part_stepped size q clock list n (Some (Does Crash)) old new left =
    part_as _ _ n.mark old new (step_alike size q clock list n.plain (Some (Does Crash))) left
part_stepped size q clock list n (Some (Comes from m)) old new left =
    part_as _ _ n.mark old new (step_alike size q clock list n.plain (Some (Comes from m))) left

-- ---- what comes from a server, if anything

pub came_mark : (size : List Entry → Entry → ℕ) (clock : ℕ) (list : List Entry) (n : NodeValue)
    (from : Place) (m : Option (Message Entry)) (k : MarkFields)
    → k ≡ marked_by n.mark (ruled size n.me clock list n.plain (option_map (Comes from) m))
    → k ≡ mark_by n (ruled size n.me clock list n.plain (option_map (Comes from) m))
    (option_map (Comes from) m)
came_mark size clock list n from None k is = is
came_mark size clock list n from (Some m) k is = is

pub came_disk : (size : List Entry → Entry → ℕ) (clock : ℕ) (list : List Entry) (n : NodeValue)
    (from : Place) (m : Option (Message Entry)) (k : MarkFields) (old new : Option Moments)
    → k ≡ marked_by n.mark (ruled size n.me clock list n.plain (option_map (Comes from) m))
    → new ≡ disk_after (ruled size n.me clock list n.plain (option_map (Comes from) m)) k old
    → new ≡ disk_by n (ruled size n.me clock list n.plain (option_map (Comes from) m))
    (option_map (Comes from) m) old
came_disk size clock list n from None k old new mark is = is
came_disk size clock list n from (Some m) k old new mark is =
    is ∙ ap (λ (x : MarkFields). disk_after
    (ruled size n.me clock list n.plain (Some (Comes from m))) x old) mark

pub came_part : (size : List Entry → Entry → ℕ) (clock : ℕ) (list : List Entry) (n : NodeValue)
    (from : Place) (m : Option (Message Entry)) (old new : Option Moments)
    → MayLeave (ruled size n.me clock list n.plain (option_map (Comes from) m))
    (marked_by n.mark (ruled size n.me clock list n.plain (option_map (Comes from) m))) old new
    → LeavesBy n (ruled size n.me clock list n.plain (option_map (Comes from) m))
    (option_map (Comes from) m) old new
came_part size clock list n from None old new (inl is) = is
came_part size clock list n from None old new (inr both) = cc
came_part size clock list n from (Some m) old new left = left

-- what is kept in memory, where the mark alone is written
pub marks_cached : (ms : List (Move Entry)) (mark : MarkFields) (old new : Entries)
    (told left : Option Moments) → AreOf (cells_told told) old → IsCachedAs old new
    → left ≡ disk_after ms mark told → AreOf (cells_told left) new
marks_cached ms mark old new told left are is written =
    stays_cached old new told left is (ap cells_told written ∙ disk_cells ms mark told) are

pub both_ok : {A E : Type 0} {P Q R : Type 0} (r : Result A E) → (P → Q → R) → OnOk r P
    → OnOk r Q → OnOk r R
both_ok (Ok a) f p q = f p q
both_ok (Err e) f p q = tt

-- ---- a step that isn't taken

-- it leaves a part, which is nothing
pub none_left : (n : NodeValue) (ms : List (Move Entry)) (o : Option Input)
    (told : Option Moments) → LeavesBy n ms o told told
none_left n ms None told = refl
none_left n ms (Some (Does (Ask client number cred call))) told = refl
none_left n ms (Some (Does (Apply most))) told = none_part (changes_made most n) told
none_left n ms (Some (Does Flush)) told = inl refl
none_left n ms (Some (Does ListTree)) told = refl
none_left n ms (Some (Does Tick)) told = inl refl
none_left n ms (Some (Does Suspect)) told = inl refl
none_left n ms (Some (Does Power)) told = inl refl
none_left n ms (Some (Does Crash)) told = inl refl
none_left n ms (Some (Comes from m)) told = inl refl

pub none_marked : (n : NodeValue) (ms : List (Move Entry)) (o : Option Input)
    → is_some o ≡ false → n.mark ≡ mark_by n ms o
none_marked n ms None none = refl
none_marked n ms (Some i) none = cc

pub none_written : (n : NodeValue) (ms : List (Move Entry)) (o : Option Input)
    (told : Option Moments) → is_some o ≡ false → told ≡ disk_by n ms o told
none_written n ms None told none = refl
none_written n ms (Some i) told none = cc

-- ---- what a call brings, by what is given

pub ok_all : {P : Type 0} (r : Result (Unit {0}) NodeFault) → P → OnOk r P
ok_all (Ok x) p = p
ok_all (Err why) p = tt

pub err_all : {P : Type 0} (r : Result (Unit {0}) NodeFault) → P → OnErr r P
err_all (Ok x) p = tt
err_all (Err why) p = p

pub brings_so : (r : Result (Unit {0}) NodeFault) (clock : ℕ) (n new : NodeValue)
    (disk left : Option Moments) (i j : Given) → i ≡ j
    → Brings r (λ size list. ruled size n.me clock list n.plain (input_of j)) (input_of j) n new
    disk left
    → Brings r (λ size list. ruled size n.me clock list n.plain (input_of i)) (input_of i) n new
    disk left
brings_so r clock n new disk left i j is h = subst (λ (x : Given). Brings r
    (λ size list. ruled size n.me clock list n.plain (input_of x)) (input_of x) n new disk left)
    (sym is) h
