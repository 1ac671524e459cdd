-- An entry that gets another name in its directory.
use Rattle.std.proofs.Common.{◌≡◌, ℕ, ◌+◌, ◌*◌, ◌≤◌, ◌==◌, min, true, List, [], ◌∷◌, ◌++◌, length, get_or, set, None, Some, Ok, refl, sym, ap, ◌∙◌, subst, arith}
use Rattle.std.proofs.lemmas.Bool.{eq-eqb, le-ltb}
use Rattle.std.proofs.lemmas.List.{length-set, get_or-set_same}
use Rattle.harp_types.specs.declared.attr.Time.{Time}
use Rattle.harp_types.specs.declared.call.Call.TheVariants as call
use Rattle.harp_types.specs.declared.reply.Reply.TheVariants.{Done}
use Rattle.file_tree.specs.declared.object.Body.{Body}
use Rattle.file_tree.specs.declared.object.Body.TheVariants.{Directory}
use Rattle.file_tree.specs.Tree.{Tree, Slots, place, slots_of, size_of, blocks_of, blocks_at, used_blocks, entry, free_from, with_entry}
use Rattle.file_tree.specs.Tries.{room}
use Rattle.file_tree.specs.Outcome.{slot_changed, slot_replaced, reslotted}
use Rattle.file_tree.specs.Rename.{freed}
use Rattle.file_tree.specs.Sound.{IsSound}
use Rattle.file_tree.proofs.SlotLaws.{IsFound, found, none_named}
use Rattle.file_tree.proofs.SoundRename.{sound_moved_in}
use Rattle.inode_dirs.proofs.SlotCounts.{entry_grows, freed_is_free}
use Rattle.harp_cells.specs.declared.value.Value.TheVariants as value
use Rattle.harp_cells.specs.declared.cell.Cell.TheVariants as cell
use Rattle.harp_cells.specs.declared.change.Change.TheVariants as change
use Rattle.harp_cells.specs.Effect.{Cells}
use Rattle.cell_changes.specs.Table.{set_by, slot_pair}
use Rattle.nfs_calls.specs.declared.updates.relocation.Relocation.{Relocation}
use Rattle.nfs_calls.specs.TreeCells.{object_at}
use Rattle.nfs_calls.specs.Plans.{planned, totals_of}
use Rattle.nfs_calls.specs.Entries.{relinked}
use Rattle.nfs_calls.specs.Moves.{slot_changes, directory_changes, moved_inode, moved_outcome, IsMoving}
use Rattle.nfs_calls.proofs.Sets.{place_at, set_by_change}
use Rattle.nfs_calls.proofs.Entries.{subdirectories, subdirectories_set, subdirectories_entered, share_of_found, slots_at}
use Rattle.nfs_calls.proofs.Losses.{body_at, put_of, slot_by}
use Rattle.nfs_calls.proofs.MovedEntry.{are_apart, entered_at, entered_beside, moved_put, directory_moved, slots_put, directories_put}
use Rattle.nfs_calls.proofs.MovesIn.{moved_slot, tree_in, Enters, enters, in_planned}

-- there is room
pub room_ok : (tree : Tree) (number size : ℕ)
    → used_blocks tree + blocks_of size ≤ 65536 + blocks_at (place tree number)
    → room tree number size ≡ Ok tt
room_ok tree number size le =
    rw (le-ltb (65536 + blocks_at (place tree number)) (used_blocks tree + blocks_of size) le) refl

abbrev pub within : Relocation → Relocation
within m = record m { dir = m.to_dir }

within_done : (cells : Cells) (tree : Tree) (m : Relocation) (name to_name : List ℕ) (now : Time)
    (j : ℕ) → IsSound tree → IsMoving tree (within m) name to_name
    → entry (slots_of (place tree m.to_dir)) to_name ≡ None
    → j ≡ min m.slot (free_from 0 (slots_of (place tree m.to_dir)))
    → planned cells tree (call.Rename m.to_dir name m.to_dir to_name)
    (moved_outcome tree m.to_dir (m.slot, m.number) m.to_dir to_name None now)
    ≡ Ok (
      Done,
      slot_changes (within m) j to_name
          ++ directory_changes (within m) (relinked now m.to.links m.to) now
          ++ change.Put (cell.Object m.number) (value.Object (moved_inode m now)) ∷ [],
      totals_of tree,
    )
within_done cells tree m name to_name now j sound is none first =
    let d = m.to_dir in
    let o = object_at tree d in
    let slots = slots_of (place tree d) in
    let body = body_at tree d m.to is.to in
    let x : ℕ × ℕ = (m.slot, m.number) in
    let f : IsFound slots name x = found slots name x is.entry in
    let free = set slots m.slot None in
    let s = moved_slot m to_name in
    let full = with_entry free s in
    let new = tree_in tree (within m) full now in
    let apart = are_apart tree (within m) name to_name sound is in
    let same : freed d d m.slot slots ≡ free = let t : (d == d) ≡ true = eq-eqb d d refl in
    rw t refl in
    let at : free_from 0 free ≡ j = freed_is_free slots m.slot f.within ∙ sym first in
    let long : length free ≡ length slots = length-set slots m.slot None in
    let many : length full ≡ length slots =
    omega (arith, entry_grows free s, at, first, long, f.within) in
    let blocks : blocks_at (place tree d) ≡ blocks_of (264 * length slots) =
    ap blocks_at is.to.own.at ∙ ap (λ (b : Body). blocks_of (size_of b)) body in
    let size : blocks_of (264 * length full) ≡ blocks_of (264 * length slots) =
    ap (λ (n : ℕ). blocks_of (264 * n)) many in
    let enough : used_blocks tree + blocks_of (264 * length full) ≤ 65536 + blocks_at
    (place tree d) = omega (arith, blocks, size, sound.limits.room) in
    let enough_freed : used_blocks tree + blocks_of
    (264 * length (with_entry (freed d d m.slot slots) s)) ≤ 65536 + blocks_at (place tree d) =
    subst (λ (ss : Slots). used_blocks tree + blocks_of
    (264 * length (with_entry ss s)) ≤ 65536 + blocks_at (place tree d)) (sym same) enough in
    let whole : IsSound new =
    subst (λ (ss : Slots). IsSound (tree_in tree (within m) (with_entry ss s) now)) same
    (sound_moved_in tree d d o o slots slots name to_name x now sound is.to.own.at body is.to.own.at
    body f is.right (none_named slots to_name none) is.apart enough_freed) in
    let p = slot_changed now m.slot None o in
    let p_body : p.body ≡ Directory free = ap (λ (b : Body). slot_replaced b m.slot None) body in
    let e : Enters tree (within m) now free full p =
    enters tree (within m) name to_name now free p sound is whole
    (place_at (set_by_change tree d (slot_changed now m.slot None) o is.to.own.at)) p_body in
    let stored = slots_at tree d m.to slots is.to.own body in
    let links : m.to.links ≡ 2 + subdirectories tree full = omega (
      arith,
      stored.0,
      subdirectories_entered tree free s,
      subdirectories_set tree slots m.slot None f.within,
      share_of_found tree slots name x f,
    ) in
    let to_put = put_of new d (relinked now m.to.links m.to)
    (directory_moved tree new (within m) d m.to full now m.to.links m.to.size m.to.slots sound
    e.moved is.to e.to_at
    (e.kept d (λ k. apart.to (sym k))) links (stored.1 ∙ ap (λ (n : ℕ). 264 * n) (sym many))
    (stored.2 ∙ sym many)) in
    let new_put =
    slot_by new d j (reslotted now full p) full (Some s) e.to_at refl
    (ap (λ (n : ℕ). get_or full n None) (sym at) ∙ entered_at free s) in
    let old_put = λ (ne : d ≡ d → m.slot ≡ j → ⊥).
    slot_by new d m.slot (reslotted now full p) full None e.to_at refl
    (entered_beside free s m.slot (omega (arith, long, f.within)) (λ k. ne refl (k ∙ at))
    ∙ get_or-set_same slots m.slot None None f.within) in
    let used : used_blocks new ≡ used_blocks tree = let h =
    ap (λ (n : ℕ). blocks_of (264 * n)) long in omega (arith, e.used, size, h) in
    in_planned cells tree (within m) name to_name now free _ _ _ _ is.entry none same
    (room_ok tree d (264 * length full) enough)
    (ap (λ (n : ℕ). set_by new (slot_pair d m.slot d n)) at
    ∙ slots_put new (within m) j to_name new_put old_put)
    (directories_put new (within m) (relinked now m.to.links m.to) now to_put
    (λ ne. absurd (ne refl)))
    (moved_put tree new (within m) now is.moved e.moved)
    (rw (used, e.next) refl)

-- both directories are one
pub within_planned : (cells : Cells) (tree : Tree) (m : Relocation) (name to_name : List ℕ)
    (now : Time) (j : ℕ) → IsSound tree → m.dir ≡ m.to_dir → IsMoving tree m name to_name
    → entry (slots_of (place tree m.to_dir)) to_name ≡ None
    → j ≡ min m.slot (free_from 0 (slots_of (place tree m.to_dir)))
    → planned cells tree (call.Rename m.dir name m.to_dir to_name)
    (moved_outcome tree m.dir (m.slot, m.number) m.to_dir to_name None now)
    ≡ Ok (
      Done,
      slot_changes m j to_name ++ directory_changes m (relinked now m.to.links m.to) now
          ++ change.Put (cell.Object m.number) (value.Object (moved_inode m now)) ∷ [],
      totals_of tree,
    )
within_planned cells tree m name to_name now j sound one is none first =
    let same : m ≡ within m = ap (λ (d : ℕ). record m { dir = d }) one in
    subst (λ (n : Relocation). planned cells tree (call.Rename n.dir name n.to_dir to_name)
    (moved_outcome tree n.dir (n.slot, n.number) n.to_dir to_name None now)
    ≡ Ok (
      Done,
      slot_changes n j to_name ++ directory_changes n (relinked now n.to.links n.to) now
          ++ change.Put (cell.Object n.number) (value.Object (moved_inode n now)) ∷ [],
      totals_of tree,
    )) (sym same)
    (within_done cells tree m name to_name now j sound
    (subst (λ (n : Relocation). IsMoving tree n name to_name) same is) none first)
