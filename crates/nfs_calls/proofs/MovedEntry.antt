-- What a tree keeps where an entry moves, and the attributes of what it touches.
use Rattle.std.proofs.Common.{◌≡◌, ℕ, zero, suc, ◌+◌, ◌*◌, ◌-◌, ◌<◌, ◌≤◌, ◌==◌, ◌&&◌, true, false, cond, List, [], ◌∷◌, ◌++◌, length, get_or, set, Some, None, refl, sym, ap, ◌∙◌, subst, arith, inl, inr}
use Rattle.std.proofs.lemmas.Bool.{cases_eq, cases_lt, cases_Bool, eq-eqb, ne_eqb, or_left, both_ways}
use Rattle.std.proofs.lemmas.List.{length-set, length-append, get_or-set_same, get_or-set_other, get_or_push, get_or_append_left}
use Rattle.harp_types.specs.declared.attr.Time.{Time}
use Rattle.file_tree.specs.declared.object.Slot.{Slot}
use Rattle.file_tree.specs.declared.object.Body.{Body}
use Rattle.file_tree.specs.declared.object.Body.TheVariants.{Directory}
use Rattle.file_tree.specs.declared.object.Object.{Object}
use Rattle.file_tree.specs.Tree.{Tree, Slots, place, slots_of, slots_within, names_in, names_at, names_of, is_directory, is_directory_at, free_from, with_entry, links_of, parent_of}
use Rattle.file_tree.specs.Outcome.{reslotted, set_ctime}
use Rattle.file_tree.specs.Rename.{is_above}
use Rattle.file_tree.specs.Sound.{IsSound}
use Rattle.file_tree.proofs.FreeSlots.{with_entry_set, with_entry_push}
use Rattle.file_tree.proofs.Holders.{Holds, parent_is}
use Rattle.file_tree.proofs.SlotLaws.{found}
use Rattle.file_tree.proofs.SoundChanges.{root_at}
use Rattle.file_tree.proofs.SoundMoves.{names_at-le, found_held}
use Rattle.inode_dirs.proofs.SlotCounts.{entry_grows}
use Rattle.harp_cells.specs.declared.value.Inode.{Inode}
use Rattle.harp_cells.specs.declared.value.Value.TheVariants as value
use Rattle.harp_cells.specs.declared.cell.Cell.TheVariants as cell
use Rattle.harp_cells.specs.declared.change.Change.{Change}
use Rattle.harp_cells.specs.declared.change.Change.TheVariants as change
use Rattle.cell_changes.specs.Table.{set_by, slot_pair, dir_pair}
use Rattle.nfs_calls.specs.declared.updates.relocation.Relocation.{Relocation}
use Rattle.nfs_calls.specs.TreeCells.{IsInode, IsDirectory, object_at}
use Rattle.nfs_calls.specs.Entries.{is_directory_kind, link_of, relinked}
use Rattle.nfs_calls.specs.Moves.{slot_changes, directory_changes, moved_inode, IsMoving}
use Rattle.nfs_calls.proofs.Entries.{subdirectories, slots_at, directory_after, object_after, links_stay, no_parent}
use Rattle.nfs_calls.proofs.Losses.{stored_kind, body_at, put_of, links_freed}

-- ---- numbers that differ

stuck : (levels : ℕ) (tree : Tree) (dir : ℕ) → parent_of tree dir ≡ dir → (dir ≡ 1 → ⊥)
    → is_above levels tree 1 dir ≡ false
unfolding is_above
stuck zero tree dir e ne = ne_eqb dir 1 ne
stuck (suc levels) tree dir e ne = let t : (dir == 1) ≡ false = ne_eqb dir 1 ne in
    rw (t, e) (stuck levels tree dir e ne)

-- no directory of a sound tree holds itself
pub not_in_itself : (tree : Tree) (dir : ℕ) → IsSound tree → is_directory_at (place tree dir) ≡ true
    → Holds tree dir dir → ⊥
not_in_itself tree dir sound d held =
    let ne : dir ≡ 1 → ⊥ = λ (e : dir ≡ 1).
    let none = root_at (place tree 1) (names_of tree 1) sound.root (sound.entries 1) in
    let same : names_of tree dir ≡ names_of tree 1 = ap (names_of tree) e in
    omega (arith, none, same, held, names_at-le tree dir dir) in
    both_ways _ (stuck (length tree) tree dir (parent_is tree dir dir sound.entries d ne held) ne)
    (sound.reaches dir d)

above_itself : (levels : ℕ) (tree : Tree) (dir : ℕ) → is_above levels tree dir dir ≡ true
unfolding is_above
above_itself zero tree dir = eq-eqb dir dir refl
above_itself (suc levels) tree dir = or_left (dir == dir) _ (eq-eqb dir dir refl)

pub directory_is_one : (tree : Tree) (dir : ℕ) (i : Inode) → IsDirectory tree dir i
    → is_directory_at (place tree dir) ≡ true
directory_is_one tree dir i is = ap is_directory_at is.own.at
    ∙ ap is_directory (body_at tree dir i is)

-- the moved object is neither of the directories
pub record AreApart (m : Relocation) : Type 0 where
  pub from : m.number ≡ m.dir → ⊥
  pub to : m.number ≡ m.to_dir → ⊥

pub move_held : (tree : Tree) (m : Relocation) (name to_name : List ℕ)
    → IsMoving tree m name to_name → Holds tree m.dir m.number
move_held tree m name to_name is =
    found_held tree m.dir (object_at tree m.dir) (slots_of (place tree m.dir)) name
    (m.slot, m.number) is.from.own.at (body_at tree m.dir m.from is.from)
    (found (slots_of (place tree m.dir)) name (m.slot, m.number) is.entry)

pub are_apart : (tree : Tree) (m : Relocation) (name to_name : List ℕ) → IsSound tree
    → IsMoving tree m name to_name → AreApart m
are_apart tree m name to_name sound is = record {
  from = λ (e : m.number ≡ m.dir).
      let d : is_directory_at (place tree m.dir) ≡ true =
      directory_is_one tree m.dir m.from is.from in
      not_in_itself tree m.dir sound d
      (subst (λ (n : ℕ). Holds tree m.dir n) e (move_held tree m name to_name is));
  to = λ (e : m.number ≡ m.to_dir).
      let d : is_directory_at (place tree m.to_dir) ≡ true =
      directory_is_one tree m.to_dir m.to is.to in
      let apart : (is_directory_at (place tree m.to_dir)
      && is_above (length tree) tree m.to_dir m.to_dir) ≡ false =
      subst (λ (n : ℕ). (is_directory_at (place tree n) && is_above (length tree) tree n m.to_dir)
      ≡ false) e is.apart in
      let above : is_above (length tree) tree m.to_dir m.to_dir ≡ false = rw d at apart in
      both_ways _ above (above_itself (length tree) tree m.to_dir);
}

-- ---- the place of a new entry

pub entered_at : (slots : Slots) (s : Slot)
    → get_or (with_entry slots s) (free_from 0 slots) None ≡ Some s
entered_at slots s = elim (cases_lt (free_from 0 slots) (length slots)) [
  | inl lt ↦
      ap (λ (ss : Slots). get_or ss (free_from 0 slots) None) (sym (with_entry_set slots s lt))
      ∙ get_or-set_same slots (free_from 0 slots) (Some s) None lt
  | inr le ↦
      let pushed : length (slots ++ Some s ∷ []) ≡ length slots + 1 =
      length-append slots (Some s ∷ []) in
      let long : length (with_entry slots s) ≡ length slots + 1 =
      sym (ap length (with_entry_push slots s le)) ∙ pushed in
      let last : length slots ≡ free_from 0 slots = omega (arith, le, long, entry_grows slots s) in
      ap (λ (ss : Slots). get_or ss (free_from 0 slots) None) (sym (with_entry_push slots s le))
      ∙ get_or_push slots (Some s) None (free_from 0 slots) last
]

pub entered_beside : (slots : Slots) (s : Slot) (k : ℕ) → k < length slots
    → (k ≡ free_from 0 slots → ⊥) → get_or (with_entry slots s) k None ≡ get_or slots k None
entered_beside slots s k within ne = elim (cases_lt (free_from 0 slots) (length slots)) [
  | inl lt ↦
      ap (λ (ss : Slots). get_or ss k None) (sym (with_entry_set slots s lt))
      ∙ get_or-set_other slots (free_from 0 slots) k (Some s) None ne
  | inr le ↦
      ap (λ (ss : Slots). get_or ss k None) (sym (with_entry_push slots s le))
      ∙ get_or_append_left slots (Some s ∷ []) None k within
]

-- ---- what is touched

-- a tree where the moved object is named by its new directory
pub record IsMoved (tree new : Tree) (m : Relocation) (now : Time) : Type 0 where
  pub sound : IsSound new
  pub at : place new m.number ≡ Some (set_ctime now (object_at tree m.number))
  pub names : names_of new m.number ≡ names_of tree m.number
  pub kinds : (k : ℕ) → 1 ≤ names_of new k
      → is_directory_at (place new k) ≡ is_directory_at (place tree k)
  pub held : Holds new m.to_dir m.number

named_within : (new : Tree) (dir k : ℕ) (o : Object) (slots : Slots) → place new dir ≡ Some o
    → o.body ≡ Directory slots → 1 ≤ names_in k slots → 1 ≤ names_of new k
named_within new dir k o slots at body h =
    let here : names_at k (place new dir) ≡ names_in k slots = ap (names_at k) at
    ∙ ap (λ (b : Body). names_in k (slots_within b)) body in
    omega (arith, h, here, names_at-le new dir k)

pub moved_put : (tree new : Tree) (m : Relocation) (now : Time) → IsInode tree m.number m.moved
    → IsMoved tree new m now
    → set_by new (cell.Object m.number ∷ [])
    ≡ change.Put (cell.Object m.number) (value.Object (moved_inode m now)) ∷ []
moved_put tree new m now is moved =
    let n = m.number in
    let o = object_at tree n in
    let kind = stored_kind tree n m.moved is in
    let links : m.moved.links ≡ links_of new n o.body =
    ap (λ (j : Inode). j.links) is.is
    ∙ sym (links_stay tree new n o.body moved.names (λ k h.
    let here : names_at k (place new n) ≡ names_in k (slots_within o.body) =
    ap (names_at k) moved.at in
    moved.kinds k (omega (arith, h, here, names_at-le new n k)))) in
    let parent : cond (is_directory_kind m.moved.kind) m.to_dir m.moved.parent ≡ parent_of new n =
    elim (cases_Bool (is_directory o.body)) [
      | inl d ↦
          let dn : is_directory_at (place new n) ≡ true = ap is_directory_at moved.at ∙ d in
          let ne : n ≡ 1 → ⊥ = λ (e : n ≡ 1).
          let none =
          root_at (place new 1) (names_of new 1) moved.sound.root (moved.sound.entries 1) in
          let same : names_of new n ≡ names_of new 1 = ap (names_of new) e in
          omega (arith, none, same, moved.held, names_at-le new m.to_dir n) in
          rw (kind ∙ d) (sym (parent_is new m.to_dir n moved.sound.entries dn ne moved.held))
      | inr d ↦
          rw (kind ∙ d)
          (ap (λ (j : Inode). j.parent) is.is ∙ no_parent tree n (ap is_directory_at is.at ∙ d)
          ∙ sym (no_parent new n (ap is_directory_at moved.at ∙ d)))
    ] in
    put_of new n (moved_inode m now)
    (object_after tree new n m.moved now m.moved.links _ is moved.at links parent)

-- a directory's attributes, whose slots changed
pub directory_moved : (tree new : Tree) (m : Relocation) (number : ℕ) (i : Inode) (after : Slots)
    (now : Time) (links size count : ℕ) → IsSound tree → IsMoved tree new m now
    → IsDirectory tree number i → place new number
    ≡ Some (reslotted now after (object_at tree number))
    → ((d : ℕ) → Holds tree d number → Holds new d number)
    → links ≡ 2 + subdirectories tree after → size ≡ 264 * length after → count ≡ length after
    → IsInode new number (record i {
      links = links;
      size = size;
      slots = count;
      mtime = now;
      ctime = now;
    })
directory_moved tree new m number i after now links size count sound moved is at kept l s c =
    directory_after tree new number i
    (slots_of (place tree number)) after now links size count sound moved.sound is.own
    (body_at tree number i is) at kept
    (λ k h. moved.kinds k (named_within new number k
    (reslotted now after (object_at tree number)) after at refl h)) l s c

-- the directory that the entry left
pub from_put : (tree new : Tree) (m : Relocation) (name to_name : List ℕ) (now : Time)
    → IsSound tree → IsMoving tree m name to_name → IsMoved tree new m now
    → place new m.dir ≡ Some (reslotted now (set (slots_of (place tree m.dir)) m.slot None)
    (object_at tree m.dir)) → ((d : ℕ) → Holds tree d m.dir → Holds new d m.dir)
    → set_by new (cell.Object m.dir ∷ [])
    ≡ change.Put (cell.Object m.dir)
    (value.Object (relinked now (m.from.links - link_of m.moved.kind) m.from)) ∷ []
from_put tree new m name to_name now sound is moved at kept =
    let slots = slots_of (place tree m.dir) in
    let f = found slots name (m.slot, m.number) is.entry in
    let stored = slots_at tree m.dir m.from slots is.from.own (body_at tree m.dir m.from is.from) in
    let long = length-set slots m.slot None in
    put_of new m.dir (relinked now (m.from.links - link_of m.moved.kind) m.from)
    (directory_moved tree new m m.dir m.from (set slots m.slot None) now
    (m.from.links - link_of m.moved.kind) m.from.size m.from.slots sound moved is.from at kept
    (links_freed tree m.dir slots name (m.slot, m.number) m.from m.moved f is.moved stored.0)
    (stored.1 ∙ ap (λ (n : ℕ). 264 * n) (sym long)) (stored.2 ∙ sym long))

-- ---- the changes of slots and directories

both_true : (a b c d : ℕ) → ((a == b) && (c == d)) ≡ false → a ≡ b → c ≡ d → ⊥
both_true a b c d t e f = let s : (a == b) ≡ true = eq-eqb a b e in
    let u : (c == d) ≡ true = eq-eqb c d f in
    let h : ((a == b) && (c == d)) ≡ true = rw (s, u) refl in both_ways _ t h

pub slots_put : (new : Tree) (m : Relocation) (j : ℕ) (to_name : List ℕ)
    → set_by new (cell.Slot m.to_dir j ∷ [])
    ≡ change.Put (cell.Slot m.to_dir j) (value.Slot m.number to_name) ∷ []
    → ((m.dir ≡ m.to_dir → m.slot ≡ j → ⊥)
    → set_by new (cell.Slot m.dir m.slot ∷ []) ≡ change.Erase (cell.Slot m.dir m.slot) ∷ [])
    → set_by new (slot_pair m.dir m.slot m.to_dir j) ≡ slot_changes m j to_name
slots_put new m j to_name put erase = elim (cases_Bool ((m.dir == m.to_dir) && (m.slot == j))) [
  | inl t ↦ rw t put
  | inr t ↦
      rw t
      (ap (λ (cs : List Change). cs ++ set_by new (cell.Slot m.to_dir j ∷ []))
      (erase (both_true m.dir m.to_dir m.slot j t))
      ∙ ap (λ (cs : List Change). change.Erase (cell.Slot m.dir m.slot) ∷ cs) put)
]

pub directories_put : (new : Tree) (m : Relocation) (to : Inode) (now : Time)
    → set_by new (cell.Object m.to_dir ∷ []) ≡ change.Put (cell.Object m.to_dir) (value.Object to)
    ∷ []
    → ((m.dir ≡ m.to_dir → ⊥) → set_by new (cell.Object m.dir ∷ [])
    ≡ change.Put (cell.Object m.dir)
    (value.Object (relinked now (m.from.links - link_of m.moved.kind) m.from)) ∷ [])
    → set_by new (dir_pair m.dir m.to_dir) ≡ directory_changes m to now
directories_put new m to now put from = elim (cases_eq m.dir m.to_dir) [
  | inl e ↦ let t : (m.dir == m.to_dir) ≡ true = eq-eqb m.dir m.to_dir e in
      rw t (ap (λ (n : ℕ). set_by new (cell.Object n ∷ [])) e ∙ put)
  | inr ne ↦
      let t : (m.dir == m.to_dir) ≡ false = ne_eqb m.dir m.to_dir ne in
      rw t
      (ap (λ (cs : List Change). cs ++ set_by new (cell.Object m.to_dir ∷ [])) (from ne)
      ∙ ap (λ (cs : List Change). change.Put (cell.Object m.dir)
      (value.Object (relinked now (m.from.links - link_of m.moved.kind) m.from)) ∷ cs) put)
]
