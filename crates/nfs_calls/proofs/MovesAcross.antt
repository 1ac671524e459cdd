-- An entry that moves to a new slot of another directory.
use Rattle.std.proofs.Common.{◌≡◌, ℕ, ◌+◌, ◌*◌, ◌-◌, ◌≤◌, ◌==◌, Bool, true, false, List, [], ◌∷◌, ◌++◌, length, get_or, set, None, Some, Ok, Err, refl, sym, ap, ◌∙◌, subst, arith}
use Rattle.std.proofs.lemmas.Bool.{ne_eqb, ltb-false}
use Rattle.std.proofs.lemmas.List.{get_or-set_same}
use Rattle.harp_types.specs.declared.attr.Time.{Time}
use Rattle.harp_types.specs.declared.call.Call.TheVariants as call
use Rattle.harp_types.specs.declared.reply.Reply.TheVariants.{Done}
use Rattle.harp_types.specs.declared.reply.Status.{Status}
use Rattle.harp_types.specs.declared.reply.Status.TheVariants.{NoSpc}
use Rattle.file_tree.specs.declared.object.Body.{Body}
use Rattle.file_tree.specs.Tree.{Tree, Slots, place, slots_of, size_of, blocks_of, blocks_at, used_blocks, entry, free_from, with_entry}
use Rattle.file_tree.specs.Tries.{◌>>=◌, refuse, room}
use Rattle.file_tree.specs.Outcome.{slot_changed, reslotted}
use Rattle.file_tree.specs.Rename.{freed, check_target, moved_in}
use Rattle.file_tree.specs.Sound.{IsSound}
use Rattle.file_tree.proofs.Bounds.{subdirectories-le, blocks_placed}
use Rattle.file_tree.proofs.SlotLaws.{IsFound, found, none_named}
use Rattle.file_tree.proofs.SoundRename.{sound_moved_in}
use Rattle.file_tree.proofs.TryLaws.{done, unless, given_at}
use Rattle.inode_dirs.proofs.SlotCounts.{entry_grows}
use Rattle.harp_cells.specs.declared.value.Inode.{Inode}
use Rattle.harp_cells.specs.declared.value.Value.TheVariants as value
use Rattle.harp_cells.specs.declared.cell.Cell.TheVariants as cell
use Rattle.harp_cells.specs.declared.change.Change.TheVariants as change
use Rattle.harp_cells.specs.Effect.{Cells}
use Rattle.cell_changes.specs.Table.{set_by, slot_pair}
use Rattle.nfs_calls.specs.declared.updates.relocation.Relocation.{Relocation}
use Rattle.nfs_calls.specs.TreeCells.{object_at}
use Rattle.nfs_calls.specs.Plans.{planned}
use Rattle.nfs_calls.specs.NewEntries.{entered}
use Rattle.nfs_calls.specs.Space.{replaced_blocks}
use Rattle.nfs_calls.specs.Entries.{link_of}
use Rattle.nfs_calls.specs.Moves.{slot_changes, directory_changes, moved_inode, moved_outcome, IsMoving}
use Rattle.nfs_calls.proofs.Sets.{place_other, set_by_change}
use Rattle.nfs_calls.proofs.Entries.{directory_share, subdirectories_entered, slots_at}
use Rattle.nfs_calls.proofs.Losses.{body_at, put_of, slot_by, link-le, link_share}
use Rattle.nfs_calls.proofs.MovedEntry.{are_apart, entered_at, moved_put, directory_moved, from_put, slots_put, directories_put}
use Rattle.nfs_calls.proofs.MovesIn.{moved_slot, tree_in, Enters, enters, freed_is, in_planned}
use Rattle.nfs_calls.proofs.MovesWithin.{room_ok}

-- the blocks that a tree uses where those of an object were replaced
pub record AreReplaced (used old new after : ℕ) : Type 0 where
  pub enough : used + blocks_of new ≤ 65536 + blocks_of old
  pub after_is : after ≡ used + blocks_of new - blocks_of old

pub replaced_are : (used old new after : ℕ) → replaced_blocks used old new ≡ Ok after
    → AreReplaced used old new after
replaced_are used old new after e =
    given_at (replaced_blocks used old new) (AreReplaced used old new) after
    (unless NoSpc _ _ (AreReplaced used old new)
    (λ b. done _ (AreReplaced used old new) (record { enough = ltb-false _ _ b; after_is = refl })))
    e

stays_there : (m : Relocation) (slots : Slots) → (m.dir ≡ m.to_dir → ⊥)
    → freed m.dir m.to_dir m.slot slots ≡ slots
stays_there m slots ne = let t : (m.dir == m.to_dir) ≡ false = ne_eqb m.dir m.to_dir ne in rw t refl

pub across_planned : (cells : Cells) (tree : Tree) (m : Relocation) (name to_name : List ℕ)
    (now : Time) (j many used : ℕ) → IsSound tree → (m.dir ≡ m.to_dir → ⊥)
    → IsMoving tree m name to_name
    → entry (slots_of (place tree m.to_dir)) to_name ≡ None
    → j ≡ free_from 0 (slots_of (place tree m.to_dir))
    → many ≡ length (with_entry (slots_of (place tree m.to_dir)) (moved_slot m to_name))
    → replaced_blocks (used_blocks tree) m.to.size (264 * many) ≡ Ok used
    → planned cells tree (call.Rename m.dir name m.to_dir to_name)
    (moved_outcome tree m.dir (m.slot, m.number) m.to_dir to_name None now)
    ≡ Ok (
      Done,
      slot_changes m j to_name ++ directory_changes m
          (entered m.to many (link_of m.moved.kind) now) now
          ++ change.Put (cell.Object m.number) (value.Object (moved_inode m now)) ∷ [],
      record { next = length tree; used = used },
    )
unfolding entered
across_planned cells tree m name to_name now j many used sound two is none first count fits =
    let o = object_at tree m.dir in
    let e = object_at tree m.to_dir in
    let slots = slots_of (place tree m.dir) in
    let to_slots = slots_of (place tree m.to_dir) in
    let body = body_at tree m.dir m.from is.from in
    let to_body = body_at tree m.to_dir m.to is.to in
    let x : ℕ × ℕ = (m.slot, m.number) in
    let f : IsFound slots name x = found slots name x is.entry in
    let s = moved_slot m to_name in
    let full = with_entry to_slots s in
    let new = tree_in tree m full now in
    let apart = are_apart tree m name to_name sound is in
    let same = stays_there m to_slots two in
    let stored = slots_at tree m.to_dir m.to to_slots is.to.own to_body in
    let replaced = replaced_are (used_blocks tree) m.to.size (264 * many) used fits in
    let blocks : blocks_at (place tree m.to_dir) ≡ blocks_of (264 * length to_slots) =
    ap blocks_at is.to.own.at ∙ ap (λ (b : Body). blocks_of (size_of b)) to_body in
    let old_size : blocks_of m.to.size ≡ blocks_of (264 * length to_slots) =
    ap blocks_of stored.1 in
    let new_size : blocks_of (264 * length full) ≡ blocks_of (264 * many) =
    ap (λ (n : ℕ). blocks_of (264 * n)) (sym count) in
    let enough : used_blocks tree + blocks_of (264 * length full) ≤ 65536 + blocks_at
    (place tree m.to_dir) = omega (arith, replaced.enough, blocks, old_size, new_size) in
    let enough_freed : used_blocks tree + blocks_of
    (264 * length (with_entry (freed m.dir m.to_dir m.slot to_slots) s)) ≤ 65536 + blocks_at
    (place tree m.to_dir) =
    subst (λ (ss : Slots). used_blocks tree + blocks_of
    (264 * length (with_entry ss s)) ≤ 65536 + blocks_at (place tree m.to_dir))
    (sym same) enough in
    let whole : IsSound new =
    subst (λ (ss : Slots). IsSound (tree_in tree m (with_entry ss s) now)) same
    (sound_moved_in tree m.dir m.to_dir o e slots to_slots name to_name x now sound is.from.own.at
    body is.to.own.at to_body f is.right
    (none_named to_slots to_name none) is.apart enough_freed) in
    let there =
    place_other (set_by_change tree m.dir
    (slot_changed now m.slot None) o is.from.own.at) m.to_dir (λ k. two (sym k))
    ∙ is.to.own.at in
    let ent : Enters tree m now to_slots full e =
    enters tree m name to_name now to_slots e sound is whole there to_body in
    let few : blocks_of (264 * many) ≤ 65536 =
    omega (arith, enough, new_size, blocks_placed tree m.to_dir) in
    let share : directory_share tree (Some s) ≡ link_of m.moved.kind =
    sym (link_share tree m.number m.moved is.moved) in
    let one : link_of m.moved.kind ≤ 1 = link-le m.moved in
    let grown = entry_grows to_slots s in
    let to_put = put_of new m.to_dir (entered m.to many (link_of m.moved.kind) now)
    (directory_moved tree new m m.to_dir m.to full now _ _ _ sound ent.moved is.to ent.to_at
    (ent.kept m.to_dir (λ k. apart.to (sym k)))
    (omega (
      arith,
      stored.0,
      subdirectories_entered tree to_slots s,
      share,
      subdirectories-le tree to_slots,
      few,
      count,
      one,
      grown,
    ))
    (omega (arith, few, count)) (omega (arith, few, count))) in
    let new_put =
    slot_by new m.to_dir j (reslotted now full e) full (Some s) ent.to_at refl
    (ap (λ (n : ℕ). get_or full n None) first ∙ entered_at to_slots s) in
    let changed = freed_is now m.slot slots o body in
    let from_at = ent.from_at two ∙ ap Some changed in
    let old_put =
    slot_by new m.dir m.slot (reslotted now (set slots m.slot None) o)
    (set slots m.slot None) None from_at refl
    (get_or-set_same slots m.slot None None f.within) in
    let blocks_used : used_blocks new ≡ used =
    omega (arith, ent.used, replaced.after_is, old_size, new_size) in
    in_planned cells tree m name to_name now to_slots _ _ _ _ is.entry none same
    (room_ok tree m.to_dir (264 * length full) enough)
    (ap (λ (n : ℕ). set_by new (slot_pair m.dir m.slot m.to_dir n)) (sym first)
    ∙ slots_put new m j to_name new_put (λ ne. old_put))
    (directories_put new m (entered m.to many (link_of m.moved.kind) now) now to_put
    (λ ne. from_put tree new m name to_name now sound is ent.moved from_at
    (ent.kept m.dir (λ k. apart.from (sym k)))))
    (moved_put tree new m now is.moved ent.moved)
    (rw (blocks_used, ent.next) refl)

-- where there is no room
refusing : (b : Bool) (after : ℕ) (status : Status)
    → (refuse NoSpc b >>= (λ u. Ok after)) ≡ Err status → refuse NoSpc b ≡ Err status
refusing true after status e = let same : NoSpc ≡ status = cc in rw same refl
refusing false after status e = absurd cc

no_room : (tree : Tree) (number old new : ℕ) (status : Status)
    → blocks_at (place tree number) ≡ blocks_of old
    → replaced_blocks (used_blocks tree) old new ≡ Err status
    → room tree number new ≡ Err status
no_room tree number old new status blocks e = rw blocks (refusing _ _ status e)

pub across_full : (cells : Cells) (tree : Tree) (m : Relocation) (name to_name : List ℕ)
    (now : Time) (status : Status) → (m.dir ≡ m.to_dir → ⊥) → IsMoving tree m name to_name
    → replaced_blocks (used_blocks tree) m.to.size
    (264 * length (with_entry (slots_of (place tree m.to_dir)) (moved_slot m to_name))) ≡ Err status
    → planned cells tree (call.Rename m.dir name m.to_dir to_name)
    (moved_outcome tree m.dir (m.slot, m.number) m.to_dir to_name None now) ≡ Err status
unfolding check_target moved_in
across_full cells tree m name to_name now status two is full =
    let to_slots = slots_of (place tree m.to_dir) in
    let blocks : blocks_at (place tree m.to_dir) ≡ blocks_of m.to.size =
    ap blocks_at is.to.own.at ∙ ap blocks_of (sym (ap (λ (i : Inode). i.size) is.to.own.is)) in
    let none =
    no_room tree m.to_dir m.to.size
    (264 * length (with_entry to_slots (moved_slot m to_name))) status blocks full in
    rw (stays_there m to_slots two) (rw none refl)
