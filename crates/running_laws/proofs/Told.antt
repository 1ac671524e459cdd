-- A disk that tells goes on telling.
use Rattle.std.proofs.Common.{◌≡◌, ℕ, Bool, true, false, List, [], ◌∷◌, Option, None, Some, refl, sym, subst, if◌then◌else◌}
use Rattle.applier.specs.Applied.{flushed, lower}
use Rattle.file_tree.specs.Book.{Entry}
use Rattle.group_rules.specs.Moves.{Move}
use Rattle.group_rules.specs.Step.{Apply, Ask, Comes, Crash, Does, Flush, Input as Begins, ListTree, Power, Suspect, Tick}
use Rattle.harp_cells.specs.declared.change.Change.{Change}
use Rattle.harp_store.specs.Disk.{Disk as ToldDisk, Moments, after_changes, after_step, changed_by, with_mark}
use Rattle.harp_types.specs.declared.server.ServerId.{ServerId}
use Rattle.node.specs.Boot.{after_boot, booted_disk, has_boot_mark}
use Rattle.node.specs.Disk.{disk_after, marked_by, write_mark}
use Rattle.node.specs.Input.{input_of}
use Rattle.node.specs.Node.{NodeValue}
use Rattle.node.specs.Stored.{changes_made, disk_by, flushes}
use Rattle.node.specs.Taking.{stepped}
use Rattle.node.specs.declared.input.Input.{Input}
use Rattle.node_loop.specs.Step.{IsStep}
use Rattle.node_outputs.specs.declared.outputs.Outputs.{Outputs}

-- it tells these moments
abbrev pub Tells : Option Moments → Type 0
Tells o = (h : Moments) × (o ≡ Some h)

-- either way
tells_if : (b : Bool) (x y : Option Moments) → Tells x → Tells y → Tells (if b then x else y)
tells_if true x y h k = h
tells_if false x y h k = k

step_tells : (f : ToldDisk → ToldDisk) (o : Option Moments) → Tells o → Tells (after_step f o)
step_tells f o h = subst (λ (z : Option Moments). Tells (after_step f z)) (sym h.1) (_, refl)

changes_tell : (changes : List Change) (o : Option Moments) → Tells o
    → Tells (after_changes changes o)
unfolding after_changes
changes_tell [] o h = h
changes_tell (c ∷ changes) o h =
    changes_tell changes (after_step (changed_by c) o) (step_tells (changed_by c) o h)

moves_tell : (ms : List (Move Entry)) (n : NodeValue) (h : Moments)
    → Tells (disk_after ms (marked_by n.mark ms) (Some h))
moves_tell ms n h = tells_if (write_mark ms) _ (Some h)
    (step_tells (with_mark (marked_by n.mark ms)) (Some h) (h, refl)) (h, refl)

disk_tells : (n : NodeValue) (ms : List (Move Entry)) (i : Option Begins) (h : Moments)
    → Tells (disk_by n ms i (Some h))
disk_tells n ms None h = (h, refl)
disk_tells n ms (Some (Does (Ask client number cred call))) h = (h, refl)
disk_tells n ms (Some (Does (Apply most))) h =
    changes_tell (changes_made most n) (Some h) (h, refl)
disk_tells n ms (Some (Does Flush)) h = tells_if (flushes n)
    (flushed (lower n.plain.ap n.mark) (Some h)) (Some h) (_, refl) (h, refl)
disk_tells n ms (Some (Does ListTree)) h = (h, refl)
disk_tells n ms (Some (Does Tick)) h = moves_tell ms n h
disk_tells n ms (Some (Does Suspect)) h = moves_tell ms n h
disk_tells n ms (Some (Does Power)) h = moves_tell ms n h
disk_tells n ms (Some (Does Crash)) h = moves_tell ms n h
disk_tells n ms (Some (Comes from m)) h = moves_tell ms n h

no_size : List Entry → Entry → ℕ
no_size before e = 0

-- behind a step
pub stepped_tells : (given : Input) (now : ℕ) (n m : NodeValue) (h : Moments)
    (new : Option Moments) (outs : Outputs) → IsStep given now n m (Some h) new outs → Tells new
stepped_tells given now n m h new outs s =
    let ms = stepped no_size n.me now [] n.plain (input_of given) in
    subst Tells (sym (s.written no_size [])) (disk_tells n ms (input_of given) h)

-- behind a boot
pub booted_tells : (place : ServerId) (delta : ℕ) (h : Moments)
    → Tells (after_boot place delta (Some h))
booted_tells place delta h = tells_if (has_boot_mark delta h.now.mark) (Some h) _ (h, refl)
    (step_tells (booted_disk place delta) (Some h) (h, refl))
