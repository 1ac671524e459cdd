-- Each disk of a history can be listed: the list of one is that of the next, and a little more.
use Rattle.std.proofs.Common.{◌≡◌, ℕ, ◌-◌, max, Bool, true, false, cond, List, [], ◌∷◌, ◌++◌, map, Option, None, Some, refl, sym, ap, ◌∙◌, subst, if◌then◌else◌}
use Rattle.std.proofs.Math.Path.{fun_ext}
use Rattle.std.proofs.lemmas.List.Sums.{fold-append}
use Rattle.applier.specs.Applied.{flushed, lower}
use Rattle.file_tree.specs.Book.{Entry}
use Rattle.group_rules.specs.Moves.{Move}
use Rattle.group_rules.specs.Step.{Apply, Ask, Comes, Crash, Does, Flush, Input as Begins, ListTree, Power, Suspect, Tick}
use Rattle.harp_cells.proofs.CellLemmas.{is_cell_true, same_key}
use Rattle.harp_cells.specs.Effect.{Cells, is_block_from, is_block_key, is_cell, is_key, key}
use Rattle.harp_cells.specs.declared.cell.Cell.{Cell}
use Rattle.harp_cells.specs.declared.change.Change.{Change}
use Rattle.harp_cells.specs.declared.change.Change.TheVariants as change
use Rattle.harp_cells.specs.declared.value.Value.{Value}
use Rattle.harp_store.specs.Disk.{Disk, IsLeftOf, Moments, Now, after_changes, after_step, bare_from, block_numbers, blocks_there, changed_by, erasures, reads, set_by, synced_whole, then_disk, with_mark, with_unsynced}
use Rattle.harp_store.specs.Mark.{MarkFields, first_mark}
use Rattle.harp_store.specs.Memory.{kept}
use Rattle.harp_store.specs.Table.{Entries, base_held, base_in, find}
use Rattle.harp_store.specs.declared.layers.Unsynced.{Unsynced}
use Rattle.harp_store.specs.declared.table.Held.{Held}
use Rattle.harp_types.specs.Limits.{first_promise}
use Rattle.harp_types.specs.Picks.{is_kept}
use Rattle.harp_types.specs.declared.pick.Pick.{Pick}
use Rattle.harp_types.specs.declared.server.ServerId.{ServerId}
use Rattle.node.specs.Boot.{after_boot, boot_mark, booted_disk, has_boot_mark}
use Rattle.node.specs.Disk.{disk_after, marked_by, write_mark}
use Rattle.node.specs.Input.{input_of}
use Rattle.node.specs.Node.{NodeValue}
use Rattle.node.specs.Stored.{changes_made, disk_by, disk_flushed, flushes}
use Rattle.node.specs.Taking.{stepped}
use Rattle.node.specs.declared.input.Input.{Input}
use Rattle.node_outputs.specs.declared.outputs.Outputs.{Outputs}
use Rattle.world_rules.specs.Host.{HostValue, ListedDisk, disk_listed, disk_of}
use Rattle.running_laws.specs.Events.{Site}
use Rattle.running_laws.specs.Follows.{first_disk}
use Rattle.running_laws.specs.Lives.{WholeStep}
use Rattle.running_laws.proofs.Picks.{pick_of_left}

-- A DISK IS LISTED: it is that of a list
pub record IsListed (d : Disk) : Type 0 where
  pub list : ListedDisk
  pub is : disk_listed list ≡ d

-- that of a host is
pub host_listed : (h : HostValue) (d : Disk) → disk_of h ≡ d → IsListed d
host_listed h d e = record { list = h.disk; is = e }

-- a new disk, with the mark of the first boot
pub first_listed : (place : ServerId) → IsListed (first_disk place)
unfolding set_by find
first_listed place = record {
  list = record {
    entries = [];
    settled = [];
    unsynced = [];
    mark = Some (first_mark place first_promise);
  };
  is = refl;
}

-- ---- after one call

pub marked_listed : (mark : MarkFields) (d : Disk) → IsListed d → IsListed (with_mark mark d)
marked_listed mark d h = record {
  list = record h.list { mark = Some mark };
  is = ap (with_mark mark) h.is;
}

unsynced_listed : (more : List Unsynced) (d : Disk) → IsListed d → IsListed (with_unsynced more d)
unsynced_listed more d h = record {
  list = record h.list { unsynced = h.list.unsynced ++ more };
  is = ap (with_unsynced more) h.is;
}

both_set : (c : Cell) (us vs : List Unsynced) (held : Option Value)
    → set_by c (us ++ vs) held ≡ set_by c vs (set_by c us held)
unfolding set_by
both_set c us vs held = fold-append (λ (h : Option Value) (u : Unsynced).
    if is_cell u.cell c then u.value else h) held us vs

pub synced_listed : (d : Disk) → IsListed d → IsListed (synced_whole d)
unfolding reads
synced_listed d h =
    let l = h.list in
    record {
      list = record {
        entries = l.entries;
        settled = l.settled ++ l.unsynced;
        unsynced = [];
        mark = l.mark;
      };
      is = ap (λ (cells : Cells). record { synced = cells; unsynced = []; mark = l.mark })
          (fun_ext (λ c. both_set c l.settled l.unsynced (base_in l.entries c)))
          ∙ ap synced_whole h.is;
    }

-- ---- as if some blocks had never held a value

abbrev bare : ℕ → ℕ → Unsynced → Unsynced
bare object first u = record {
  cell = u.cell;
  value = if is_block_from object first u.cell then None else u.value;
}

bare_held : Bool → Held → Held
bare_held b h = if b then record { base = None; latest = None } else h

bare_entry : ℕ → ℕ → (ℕ × ℕ × ℕ) × Held → (ℕ × ℕ × ℕ) × Held
bare_entry object first e = (e.0, bare_held (is_block_key object first e.0) e.1)

base_bare : (b : Bool) (h : Held) → (bare_held b h).base ≡ (if b then None else h.base)
unfolding bare_held
base_bare true h = refl
base_bare false h = refl

none_either : (b : Bool) → ◌≡◌ {A = Option Value} None (if b then None else None)
none_either true = refl
none_either false = refl

entries_bare : (object first : ℕ) (c : Cell) (entries : Entries)
    → base_in (map (bare_entry object first) entries) c
    ≡ (if is_block_from object first c then None else base_in entries c)
unfolding find is_block_from bare_entry
entries_bare object first c [] = none_either (is_block_key object first (key c))
entries_bare object first c (e ∷ entries) =
    by (is_key (key c) e.0) refl (entries_bare object first c entries)
  where
    by : (b : Bool) → is_key (key c) e.0 ≡ b
        → base_in (map (bare_entry object first) entries) c
        ≡ (if is_block_from object first c then None else base_in entries c)
        → base_held (cond b (Some (bare_entry object first e).1)
        (find (map (bare_entry object first) entries) c))
        ≡ (if is_block_from object first c then None
        else base_held (cond b (Some e.1) (find entries c)))
    by true is rest = base_bare (is_block_key object first e.0) e.1
        ∙ ap (λ (k : ℕ × ℕ × ℕ). if is_block_key object first k then None else e.1.base)
        (sym (same_key (key c) e.0 is))
    by false is rest = rest

changes_bare : (object first : ℕ) (c : Cell) (us : List Unsynced) (held : Option Value)
    → set_by c (map (bare object first) us) (if is_block_from object first c then None else held)
    ≡ (if is_block_from object first c then None else set_by c us held)
unfolding set_by
changes_bare object first c [] held = refl
changes_bare object first c (u ∷ us) held =
    ap (set_by c (map (bare object first) us)) (one (is_cell u.cell c) refl)
    ∙ changes_bare object first c us (if is_cell u.cell c then u.value else held)
  where
    one : (b : Bool) → is_cell u.cell c ≡ b
        → (if b then (bare object first u).value
        else if is_block_from object first c then None else held)
        ≡ (if is_block_from object first c then None else if b then u.value else held)
    one true is = ap (λ (x : Cell). if is_block_from object first x then None else u.value)
        (is_cell_true u.cell c is)
    one false is = refl

bare_listed : (object first : ℕ) (d : Disk) → IsListed d → IsListed (bare_from object first d)
bare_listed object first d h =
    let l = h.list in
    let settled = map (bare object first) l.settled in
    let unsynced = map (bare object first) l.unsynced in
    let entries = map (bare_entry object first) l.entries in
    record {
      list = record {
        entries = entries;
        settled = settled;
        unsynced = unsynced;
        mark = l.mark;
      };
      is = ap (λ (cells : Cells). record { synced = cells; unsynced = unsynced; mark = l.mark })
          (fun_ext (λ c. ap (set_by c settled) (entries_bare object first c l.entries)
          ∙ changes_bare object first c l.settled (base_in l.entries c)))
          ∙ ap (bare_from object first) h.is;
    }

pub changed_listed : (x : Change) (d : Disk) → IsListed d → IsListed (changed_by x d)
changed_listed (change.Put cell value) d h =
    unsynced_listed (record { cell = cell; value = Some value } ∷ []) d h
changed_listed (change.Erase cell) d h =
    unsynced_listed (record { cell = cell; value = None } ∷ []) d h
changed_listed (change.EraseFrom object first) d h =
    unsynced_listed
    (erasures object (blocks_there (block_numbers - first) (reads d) object first))
    (bare_from object (max first block_numbers) d)
    (bare_listed object (max first block_numbers) d h)

-- ---- after calls

changes_listed : (changes : List Change) (m : Moments) → IsListed m.now
    → Now IsListed (after_changes changes (Some m))
unfolding after_changes
changes_listed [] m h = h
changes_listed (x ∷ changes) m h =
    changes_listed changes (then_disk (changed_by x m.now) m) (changed_listed x m.now h)

either_listed : (b : Bool) (s t : Option Moments) → Now IsListed s → Now IsListed t
    → Now IsListed (if b then s else t)
either_listed true s t one other = one
either_listed false s t one other = other

pub told_listed : (told : Option Moments) (m : Moments) → Some m ≡ told → Now IsListed told
    → IsListed m.now
told_listed told m is h = subst (Now IsListed) (sym is) h

-- AN APPLY AMID ITS CHANGES leaves a disk that is listed
pub part_listed : (changes : List Change) (old amid : Moments)
    → Some amid ≡ after_changes changes (Some old) → IsListed old.now → IsListed amid.now
part_listed changes old amid is h =
    told_listed (after_changes changes (Some old)) amid is (changes_listed changes old h)

-- A BOOT
pub boot_listed : (place : ServerId) (delta : ℕ) (old left : Moments)
    → Some left ≡ after_boot place delta (Some old) → IsListed old.now → IsListed left.now
boot_listed place delta old left is h =
    told_listed (after_boot place delta (Some old)) left is
    (either_listed (has_boot_mark delta old.now.mark) (Some old)
    (after_step (booted_disk place delta) (Some old)) h
    (marked_listed (boot_mark place delta old.now.mark) old.now h))

-- of its unsynced values those that a pick keeps
abbrev with_kept : Pick → Disk → Disk
with_kept pick d = record {
  synced = d.synced;
  unsynced = kept (is_kept pick) 0 d.unsynced;
  mark = d.mark;
}

-- WHAT A CRASH LEFT
pub left_listed : (d left : Disk) → IsLeftOf d left → IsListed d → IsListed left
left_listed d left is h =
    let picked = pick_of_left d left is in
    subst IsListed (sym picked.1) (synced_listed (with_kept picked.0 d) (record {
      list = record h.list { unsynced = kept (is_kept picked.0) 0 h.list.unsynced };
      is = ap (with_kept picked.0) h.is;
    }))

-- ---- after a step

no_size : List Entry → Entry → ℕ
no_size before e = 0

marks_listed : (ms : List (Move Entry)) (mark : MarkFields) (m : Moments) → IsListed m.now
    → Now IsListed (disk_after ms mark (Some m))
marks_listed ms mark m h = either_listed (write_mark ms) (after_step (with_mark mark) (Some m))
    (Some m) (marked_listed mark m.now h) h

flush_listed : (n : NodeValue) (m : Moments) → IsListed m.now
    → Now IsListed (disk_flushed n (Some m))
flush_listed n m h =
    let mark = lower n.plain.ap n.mark in
    either_listed (flushes n) (flushed mark (Some m)) (Some m)
    (marked_listed mark (synced_whole m.now) (synced_listed m.now h)) h

-- WHAT A STEP WRITES
pub given_listed : (n : NodeValue) (ms : List (Move Entry)) (o : Option Begins) (m : Moments)
    → IsListed m.now → Now IsListed (disk_by n ms o (Some m))
given_listed n ms None m h = h
given_listed n ms (Some (Does (Ask client number cred call))) m h = h
given_listed n ms (Some (Does (Apply most))) m h = changes_listed (changes_made most n) m h
given_listed n ms (Some (Does Flush)) m h = flush_listed n m h
given_listed n ms (Some (Does ListTree)) m h = h
given_listed n ms (Some (Does Tick)) m h = marks_listed ms (marked_by n.mark ms) m h
given_listed n ms (Some (Does Suspect)) m h = marks_listed ms (marked_by n.mark ms) m h
given_listed n ms (Some (Does Power)) m h = marks_listed ms (marked_by n.mark ms) m h
given_listed n ms (Some (Does Crash)) m h = marks_listed ms (marked_by n.mark ms) m h
given_listed n ms (Some (Comes from message)) m h = marks_listed ms (marked_by n.mark ms) m h

-- A WHOLE STEP
pub step_listed : (now : ℕ) (given : Input) (outs : Option Outputs) (a b : Site)
    → WholeStep now given outs a b → IsListed a.disk.now → IsListed b.disk.now
step_listed now given outs a b s h =
    let ms = stepped no_size s.old.me now [] s.old.plain (input_of given) in
    told_listed (disk_by s.old ms (input_of given) (Some a.disk)) b.disk (s.step.written no_size [])
    (given_listed s.old ms (input_of given) a.disk h)
