-- An entry that moves to a new slot.
use Rattle.std.proofs.Common.{◌≡◌, ℕ, ◌+◌, ◌*◌, List, [], ◌∷◌, ◌++◌, length, set, Some, None, Ok, refl, sym, ap, ◌∙◌, arith}
use Rattle.std.proofs.lemmas.List.{length-set}
use Rattle.harp_types.specs.declared.attr.Time.{Time}
use Rattle.harp_types.specs.declared.call.Call.TheVariants as call
use Rattle.harp_types.specs.declared.reply.Reply.{Reply}
use Rattle.harp_types.specs.declared.reply.Reply.TheVariants.{Done}
use Rattle.file_tree.specs.declared.object.Slot.{Slot}
use Rattle.file_tree.specs.declared.object.Body.{Body}
use Rattle.file_tree.specs.declared.object.Body.TheVariants.{Directory}
use Rattle.file_tree.specs.declared.object.Object.{Object}
use Rattle.file_tree.specs.Tree.{Tree, Slots, place, slots_of, slots_within, size_of, blocks_of, blocks_at, used_blocks, names_in, names_at, is_directory, is_directory_at, entry, free_from, with_entry}
use Rattle.file_tree.specs.Tries.{room}
use Rattle.file_tree.specs.Outcome.{change, slot_changed, slot_replaced, reslotted, set_ctime}
use Rattle.file_tree.specs.Rename.{freed, check_target, moved_in}
use Rattle.file_tree.specs.Sound.{IsSound}
use Rattle.file_tree.proofs.Holders.{Holds}
use Rattle.file_tree.proofs.SlotLaws.{IsFound, found, names_entered}
use Rattle.file_tree.proofs.SoundChanges.{one_itself, one_other}
use Rattle.file_tree.proofs.SoundMoves.{cleared_names}
use Rattle.harp_cells.specs.declared.value.Inode.{Inode}
use Rattle.harp_cells.specs.declared.cell.Cell.TheVariants as cell
use Rattle.harp_cells.specs.declared.change.Change.{Change}
use Rattle.harp_cells.specs.declared.change.Change.TheVariants as change
use Rattle.harp_cells.specs.declared.value.Value.TheVariants as value
use Rattle.harp_cells.specs.Effect.{Cells}
use Rattle.cell_changes.specs.Table.{set_by, slot_pair, dir_pair, moves, tree_changes}
use Rattle.nfs_calls.specs.declared.updates.relocation.Relocation.{Relocation}
use Rattle.nfs_calls.specs.declared.parts.totals.Totals.{Totals}
use Rattle.nfs_calls.specs.TreeCells.{object_at}
use Rattle.nfs_calls.specs.Plans.{planned, totals_of}
use Rattle.nfs_calls.specs.Entries.{relinked, loss}
use Rattle.nfs_calls.specs.Moves.{IsMoving, moved_outcome, slot_changes, directory_changes, moved_inode, links_over}
use Rattle.nfs_calls.proofs.Sets.{IsSet, place_at, place_other, length_on, names_on, used_on, holds_on, kinds_on, set_by_change}
use Rattle.nfs_calls.proofs.Losses.{body_at}
use Rattle.nfs_calls.proofs.MovedEntry.{IsMoved, are_apart}

abbrev pub moved_slot : Relocation → List ℕ → Slot
moved_slot m to_name = record { name = to_name; number = m.number }

-- the tree with the entry in the new directory's slots
abbrev pub tree_in : Tree → Relocation → Slots → Time → Tree
tree_in tree m full now =
    change (change (change tree m.dir (slot_changed now m.slot None)) m.to_dir
    (reslotted now full)) m.number (set_ctime now)

-- what it keeps
pub record Enters (tree : Tree) (m : Relocation) (now : Time) (free full : Slots)
    (p : Object) : Type 0 where
  pub moved : IsMoved tree (tree_in tree m full now) m now
  pub to_at : place (tree_in tree m full now) m.to_dir ≡ Some (reslotted now full p)
  pub from_at : (m.dir ≡ m.to_dir → ⊥)
      → place (tree_in tree m full now) m.dir
      ≡ Some (slot_changed now m.slot None (object_at tree m.dir))
  pub kept : (k : ℕ) → (k ≡ m.number → ⊥) → (d : ℕ) → Holds tree d k
      → Holds (tree_in tree m full now) d k
  pub used : used_blocks (tree_in tree m full now) + blocks_of (264 * length free)
      ≡ used_blocks tree + blocks_of (264 * length full)
  pub next : length (tree_in tree m full now) ≡ length tree

-- a directory with one slot freed
pub freed_is : (now : Time) (slot : ℕ) (slots : Slots) (o : Object) → o.body ≡ Directory slots
    → slot_changed now slot None o ≡ reslotted now (set slots slot None) o
freed_is now slot slots o body =
    ap (λ (b : Body). record o { mtime = now; ctime = now; body = slot_replaced b slot None }) body

pub enters : (tree : Tree) (m : Relocation) (name to_name : List ℕ) (now : Time) (free : Slots)
    (p : Object) → IsSound tree → IsMoving tree m name to_name
    → IsSound (tree_in tree m (with_entry free (moved_slot m to_name)) now)
    → place (change tree m.dir (slot_changed now m.slot None)) m.to_dir ≡ Some p
    → p.body ≡ Directory free
    → Enters tree m now free (with_entry free (moved_slot m to_name)) p
enters tree m name to_name now free p sound is whole p_at p_body =
    let o = object_at tree m.dir in
    let ob = object_at tree m.number in
    let slots = slots_of (place tree m.dir) in
    let without = set slots m.slot None in
    let x : ℕ × ℕ = (m.slot, m.number) in
    let f : IsFound slots name x = found slots name x is.entry in
    let apart = are_apart tree m name to_name sound is in
    let full = with_entry free (moved_slot m to_name) in
    let body = body_at tree m.dir m.from is.from in
    let one_tree = change tree m.dir (slot_changed now m.slot None) in
    let two_tree = change one_tree m.to_dir (reslotted now full) in
    let new = tree_in tree m full now in
    let s1 : IsSet tree one_tree m.dir (Some o) (Some (slot_changed now m.slot None o)) =
    set_by_change tree m.dir (slot_changed now m.slot None) o is.from.own.at in
    let s2 : IsSet one_tree two_tree m.to_dir (Some p) (Some (reslotted now full p)) =
    set_by_change one_tree m.to_dir (reslotted now full) p p_at in
    let there : place two_tree m.number ≡ Some ob = place_other s2 m.number apart.to
    ∙ place_other s1 m.number apart.from ∙ is.moved.at in
    let s3 : IsSet two_tree new m.number (Some ob) (Some (set_ctime now ob)) =
    set_by_change two_tree m.number (set_ctime now) ob there in
    let changed = freed_is now m.slot slots o body in
    let a1 : (k : ℕ) → names_at k (Some o)
    ≡ names_in k slots = λ (k : ℕ). ap (λ (b : Body). names_in k (slots_within b)) body in
    let b1 : (k : ℕ) → names_at k (Some (slot_changed now m.slot None o))
    ≡ names_in k without = λ (k : ℕ). ap (λ (q : Object). names_at k (Some q)) changed in
    let a2 : (k : ℕ) → names_at k (Some p)
    ≡ names_in k free = λ (k : ℕ). ap (λ (b : Body). names_in k (slots_within b)) p_body in
    let same1 : is_directory_at (Some (slot_changed now m.slot None o)) ≡ is_directory_at (Some o) =
    ap (λ (q : Object). is_directory q.body) changed ∙ sym (ap is_directory body) in
    let same2 : is_directory_at (Some (reslotted now full p)) ≡ is_directory_at (Some p) =
    sym (ap is_directory p_body) in
    let long1 = length-set slots m.slot None in
    let blocks_o : blocks_at (Some o) ≡ blocks_of (264 * length slots) =
    ap (λ (b : Body). blocks_of (size_of b)) body in
    let blocks_1 : blocks_at (Some (slot_changed now m.slot None o))
    ≡ blocks_of (264 * length slots) =
    ap (λ (q : Object). blocks_of (size_of q.body)) changed
    ∙ ap (λ (n : ℕ). blocks_of (264 * n)) long1 in
    let blocks_p : blocks_at (Some p) ≡ blocks_of (264 * length free) =
    ap (λ (b : Body). blocks_of (size_of b)) p_body in
    let blocks_2 : blocks_at (Some (reslotted now full p)) ≡ blocks_of (264 * length full) = refl in
    let blocks_3 : blocks_at (Some (set_ctime now ob)) ≡ blocks_at (Some ob) = refl in
    let to_at : place new m.to_dir ≡ Some (reslotted now full p) =
    place_other s3 m.to_dir (λ e. apart.to (sym e)) ∙ place_at s2 in
    record {
      moved = record {
        sound = whole;
        at = place_at s3;
        names =
            let k = m.number in
            omega (
              arith,
              names_on s1 k,
              names_on s2 k,
              names_on s3 k,
              a1 k,
              b1 k,
              a2 k,
              names_entered free (moved_slot m to_name) k,
              cleared_names slots name x k f,
            );
        kinds = λ k h. kinds_on s3 refl k ∙ kinds_on s2 same2 k ∙ kinds_on s1 same1 k;
        held =
            let k = m.number in
            omega (
              arith,
              ap (names_at k) to_at,
              names_entered free (moved_slot m to_name) k,
              one_itself k,
            );
      };
      to_at = to_at;
      from_at = λ ne. place_other s3 m.dir (λ e. apart.from (sym e)) ∙ place_other s2 m.dir ne
          ∙ place_at s1;
      kept = λ k ne d h.
          holds_on s3 k (omega arith) d
          (holds_on s2 k (omega (arith, a2 k, names_entered free (moved_slot m to_name) k)) d
          (holds_on s1 k (omega (
            arith,
            a1 k,
            b1 k,
            cleared_names slots name x k f,
            one_other m.number k ne,
          )) d h));
      used = omega (
        arith,
        used_on s1,
        used_on s2,
        used_on s3,
        blocks_o,
        blocks_1,
        blocks_p,
        blocks_2,
        blocks_3,
      );
      next = length_on s3 ∙ length_on s2 ∙ length_on s1;
    }

-- ---- the outcome and its changes

-- the parts of the plan, where there is room
pub in_planned : (cells : Cells) (tree : Tree) (m : Relocation) (name to_name : List ℕ) (now : Time)
    (free : Slots) (a b c : List Change) (totals : Totals)
    → entry (slots_of (place tree m.dir)) name ≡ Some (m.slot, m.number)
    → entry (slots_of (place tree m.to_dir)) to_name ≡ None
    → freed m.dir m.to_dir m.slot (slots_of (place tree m.to_dir)) ≡ free
    → room tree m.to_dir (264 * length (with_entry free (moved_slot m to_name))) ≡ Ok tt
    → set_by (tree_in tree m (with_entry free (moved_slot m to_name)) now)
    (slot_pair m.dir m.slot m.to_dir (free_from 0 free)) ≡ a
    → set_by (tree_in tree m (with_entry free (moved_slot m to_name)) now) (dir_pair m.dir m.to_dir)
    ≡ b
    → set_by (tree_in tree m (with_entry free (moved_slot m to_name)) now)
    (cell.Object m.number ∷ []) ≡ c
    → totals_of (tree_in tree m (with_entry free (moved_slot m to_name)) now) ≡ totals
    → planned cells tree (call.Rename m.dir name m.to_dir to_name)
    (moved_outcome tree m.dir (m.slot, m.number) m.to_dir to_name None now)
    ≡ Ok (Done, a ++ b ++ c, totals)
unfolding check_target moved_in moves tree_changes
in_planned cells tree m name to_name now free a b c totals e none is enough sa sb sc st =
    rw (is, enough) (rw (e, none) (rw is (rw (sa, sb, sc, st) refl)))

-- a plan that moves an entry, by the attributes of its new directory and the totals
abbrev pub in_view : Relocation → ℕ → List ℕ → Time → Inode → Totals → Reply × List Change × Totals
in_view m j to_name now to totals = (
  Done,
  slot_changes m j to_name ++ directory_changes m to now
      ++ change.Put (cell.Object m.number) (value.Object (moved_inode m now)) ∷ [],
  totals,
)

-- and one that replaces an entry
abbrev pub over_view : Relocation → ℕ × ℕ → List ℕ → Time → Inode → Totals
    → Reply × List Change × Totals
over_view m y to_name now j totals = (
  Done,
  slot_changes m y.0 to_name ++ directory_changes m (relinked now (links_over m) m.to) now
      ++ loss y.1 j now
      ++ change.Put (cell.Object m.number) (value.Object (moved_inode m now)) ∷ [],
  totals,
)
