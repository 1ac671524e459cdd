-- The changes of a rename that succeeds lead to the tree with the entry moved.
use Rattle.std.proofs.Common.{◌≡◌, ℕ, Bool, List, [], ◌∷◌, ◌++◌, set, Some, None, refl, ap, ◌∙◌, sym, subst, arith}
use Rattle.std.proofs.Common.{inl}
use Rattle.std.specs.Bool.{if◌then◌else◌}
use Rattle.std.specs.List.{All}
use Rattle.std.proofs.lemmas.Bool.{ne_eqb}
use Rattle.std.proofs.lemmas.List.{get_or-set_other}
use Rattle.std.proofs.lemmas.List.Elements.{All-append}
use Rattle.harp_types.specs.declared.attr.Time.{Time}
use Rattle.file_tree.specs.declared.object.Slot.{Slot}
use Rattle.file_tree.specs.Tree.{Tree, Slots, place, slots_of, names_at, free_from, with_entry}
use Rattle.file_tree.specs.Outcome.{change, slot_changed, reslotted, set_ctime, lost_entry}
use Rattle.file_tree.specs.Rename.{freed, moved_over}
use Rattle.file_tree.proofs.SlotLaws.{IsFound, names_set, names_entered}
use Rattle.file_tree.proofs.Reslots.{Reslots, reslots_changed, reslots_reslotted, other_place}
use Rattle.file_tree.proofs.WaysUp.{IsBare}
use Rattle.file_tree.proofs.SoundChanges.{one_other}
use Rattle.file_tree.proofs.SoundMoves.{share_found, found_held}
use Rattle.file_tree.proofs.SoundRename.{freed_at, still_found}
use Rattle.file_tree.proofs.TryLaws.{IsDirectoryOf}
use Rattle.harp_cells.specs.declared.cell.Cell.{Cell}
use Rattle.harp_cells.specs.declared.cell.Cell.TheVariants as cell
use Rattle.harp_cells.specs.declared.change.Change.{Change}
use Rattle.harp_cells.specs.Effect.{Cells, after}
use Rattle.harp_cells.specs.CellsOfTree.{StandForTree}
use Rattle.cell_changes.specs.Table.{set_by, loses, slot_pair, dir_pair, moves}
use Rattle.cell_changes.specs.Stands.{AllStand}
use Rattle.cell_changes.proofs.RightCells.{IsBy, Spares, by_set, spared_both, first_other}
use Rattle.cell_changes.proofs.MovedEntries.{Move, IsSlotOf, KeepsAlike, MovesTo, keeps_then, keeps_reslots}
use Rattle.cell_changes.proofs.MovedEntries.{keeps_timed, moves_alike, moves_lost, moves_timed, entered_other}
use Rattle.cell_changes.proofs.MovedCells.{IsLeft, Covers, move_leads, by_loss, loss_sets, loss_ends, spared_slots}
use Rattle.cell_changes.proofs.MovedCells.{spared_dirs}
use Rattle.cell_changes.proofs.Takes.{bare_apart, clears_slot}

-- ---- into a new entry

-- the slot that a moved entry takes
abbrev pub new_slot : ℕ → ℕ → ℕ → Slots → ℕ
new_slot dir to_dir i to_slots = free_from 0 (freed dir to_dir i to_slots)

-- an entry moves to a slot, where none loses one
abbrev pub entering : ℕ → ℕ × ℕ → ℕ → ℕ → Move
entering dir x to_dir j =
    record { dir = dir; slot = x.0; to_dir = to_dir; to_slot = j; moved = x.1; target = x.1 }

enters_slot : (m : Move) (slots : Slots) (name : List ℕ) → m.to_slot ≡ free_from 0 slots
    → IsSlotOf m m.to_dir slots (with_entry slots (record { name = name; number = m.moved }))
enters_slot m slots name first = record {
  aside = λ n a. a.to_dir;
  others = λ s o. entered_other slots (record { name = name; number = m.moved }) s
      (λ e. o.to refl (e ∙ sym first));
  names = λ k nm nt.
      omega (
        arith,
        names_entered slots (record { name = name; number = m.moved }) k,
        one_other m.moved k nm,
      );
}

-- the slots with the moved entry, and the tree with them
abbrev pub slots_with : ℕ → ℕ × ℕ → ℕ → Slots → List ℕ → Slots
slots_with dir x to_dir to_slots to_name =
    with_entry (freed dir to_dir x.0 to_slots) (record { name = to_name; number = x.1 })

abbrev pub tree_with : Tree → ℕ → ℕ × ℕ → ℕ → Slots → List ℕ → Time → Tree
tree_with tree dir x to_dir to_slots to_name now =
    change (change tree dir (slot_changed now x.0 None)) to_dir
    (reslotted now (slots_with dir x to_dir to_slots to_name))

pub entered : (tree : Tree) (dir to_dir : ℕ) (slots to_slots : Slots) (name to_name : List ℕ)
    (x : ℕ × ℕ) (now : Time)
    → IsDirectoryOf tree dir slots → IsDirectoryOf tree to_dir to_slots → IsFound slots name x
    → KeepsAlike (entering dir x to_dir (new_slot dir to_dir x.0 to_slots)) tree
    (change (tree_with tree dir x to_dir to_slots to_name now) x.1 (set_ctime now))
entered tree dir to_dir slots to_slots name to_name x now from to f =
    let m = entering dir x to_dir (new_slot dir to_dir x.0 to_slots) in
    let left = set slots x.0 None in
    let free = freed dir to_dir x.0 to_slots in
    let full = slots_with dir x to_dir to_slots to_name in
    let cleared = change tree dir (slot_changed now x.0 None) in
    let moved = tree_with tree dir x to_dir to_slots to_name now in
    let r : Reslots tree cleared dir slots left =
    reslots_changed tree dir from.object slots x.0 None now from.at from.body in
    let between =
    freed_at tree dir to_dir slots to_slots x.0 from.object to.object now from.at from.body to.at
    to.body in
    let s : Reslots cleared moved to_dir free full =
    reslots_reslotted cleared to_dir between.0 free full now between.1 between.2 in
    keeps_timed m tree moved now
    (keeps_then m tree cleared moved
    (keeps_reslots m tree cleared dir slots left r (clears_slot m slots name f))
    (keeps_reslots m cleared moved to_dir free full s (enters_slot m free to_name refl)))

-- ---- over another entry

-- an entry moves to a slot whose object loses its entry
abbrev pub replacing : ℕ → ℕ × ℕ → ℕ → ℕ × ℕ → Move
replacing dir x to_dir y =
    record { dir = dir; slot = x.0; to_dir = to_dir; to_slot = y.0; moved = x.1; target = y.1 }

replaces_slot : (m : Move) (slots : Slots) (name : List ℕ)
    → IsFound slots name (m.to_slot, m.target)
    → IsSlotOf m m.to_dir slots (set slots m.to_slot
    (Some (record { name = name; number = m.moved })))
replaces_slot m slots name f =
    let slot : Slot = record { name = name; number = m.moved } in
    record {
      aside = λ n a. a.to_dir;
      others = λ s o. get_or-set_other slots m.to_slot s (Some slot) None (o.to refl);
      names = λ k nm nt. omega (
        arith,
        share_found slots name (m.to_slot, m.target) k f,
        names_set slots m.to_slot (Some slot) k f.within,
        one_other m.moved k nm,
        one_other m.target k nt,
      );
    }

pub replaced : (tree : Tree) (dir to_dir : ℕ) (slots to_slots : Slots) (name to_name : List ℕ)
    (x y : ℕ × ℕ)
    (now : Time) → IsDirectoryOf tree dir slots → IsDirectoryOf tree to_dir to_slots
    → IsFound slots name x
    → IsFound to_slots to_name y → (y.1 ≡ x.1 → ⊥) → IsBare tree y.1
    → MovesTo (replacing dir x to_dir y) tree (moved_over tree dir x to_dir to_name y now)
unfolding moved_over
replaced tree dir to_dir slots to_slots name to_name x y now from to f g ne bare =
    let m = replacing dir x to_dir y in
    let slot : Slot = record { name = to_name; number = x.1 } in
    let over = set to_slots y.0 (Some slot) in
    let swapped = change tree to_dir (slot_changed now y.0 (Some slot)) in
    let r : Reslots tree swapped to_dir to_slots over =
    reslots_changed tree to_dir to.object to_slots y.0 (Some slot) now to.at to.body in
    let still =
    still_found tree dir to_dir from.object to.object slots to_slots name to_name x y slot now
    from.at from.body
    to.at to.body f g ne in
    let left = set still.1 x.0 None in
    let cleared = change swapped dir (slot_changed now x.0 None) in
    let s : Reslots swapped cleared dir still.1 left =
    reslots_changed swapped dir still.0 still.1 x.0 None now still.2 still.3 in
    let others : (n : ℕ) → (n ≡ dir → ⊥) → (n ≡ to_dir → ⊥) → place cleared n ≡ place tree n =
    λ (n : ℕ) (nd : n ≡ dir → ⊥) (nt : n ≡ to_dir → ⊥).
    other_place swapped cleared dir still.1 left s n nd
    ∙ other_place tree swapped to_dir to_slots over r n nt in
    let held = found_held tree dir from.object slots name x from.at from.body f in
    let to_held = found_held tree to_dir to.object to_slots to_name y to.at to.body g in
    let apart =
    others y.1 (bare_apart tree y.1 dir x.1 bare held)
    (bare_apart tree y.1 to_dir y.1 bare to_held) in
    moves_timed m tree (lost_entry cleared y.1 now) now
    (moves_lost m tree cleared now (record {
      keeps = keeps_then m tree swapped cleared
          (keeps_reslots m tree swapped to_dir to_slots over r (replaces_slot m to_slots to_name g))
          (keeps_reslots m swapped cleared dir still.1 left s (clears_slot m still.1 name still.4));
      others = others;
      bare = λ k. ap (names_at k) apart ∙ bare k;
    }))

-- ---- the changes

-- those of the slots and of the directories
abbrev pair_changes : Tree → ℕ → ℕ → ℕ → ℕ → List Change
pair_changes new dir i to_dir j =
    set_by new (slot_pair dir i to_dir j) ++ set_by new (dir_pair dir to_dir)

by_pairs : (new : Tree) (dir i to_dir j : ℕ) → All (IsBy new) (pair_changes new dir i to_dir j)
by_pairs new dir i to_dir j =
    All-append (IsBy new) (set_by new (slot_pair dir i to_dir j)) (set_by new (dir_pair dir to_dir))
    (by_set new (slot_pair dir i to_dir j)) (by_set new (dir_pair dir to_dir))

-- a cell that they leave, and that isn't one of the objects'
left_by : (m : Move) (new : Tree) (c : Cell)
    → Spares c (pair_changes new m.dir m.slot m.to_dir m.to_slot)
    → (cell.Object m.moved ≡ c → ⊥) → (cell.Object m.target ≡ c → ⊥) → IsLeft m c
left_by m new c spares moved target =
    let pair = set_by new (slot_pair m.dir m.slot m.to_dir m.to_slot) in
    let parts = spared_both c pair (set_by new (dir_pair m.dir m.to_dir)) spares in
    let slots = spared_slots new c m.dir m.slot m.to_dir m.to_slot parts.0 in
    let dirs = spared_dirs new c m.dir m.to_dir parts.1 in
    record {
      slot = slots.0;
      to_slot = slots.1;
      dir = dirs.0;
      to_dir = dirs.1;
      moved = moved;
      target = target;
    }

enters_cover : (new : Tree) (dir to_dir j : ℕ) (x : ℕ × ℕ)
    → Covers (entering dir x to_dir j) new
    (pair_changes new dir x.0 to_dir j ++ set_by new (cell.Object x.1 ∷ []))
enters_cover new dir to_dir j x =
    let pairs = pair_changes new dir x.0 to_dir j in
    let last = set_by new (cell.Object x.1 ∷ []) in
    record {
      by = All-append (IsBy new) pairs last (by_pairs new dir x.0 to_dir j)
          (by_set new (cell.Object x.1 ∷ []));
      others = λ c spares.
          let parts = spared_both c pairs last spares in
          let moved = first_other new c (cell.Object x.1) [] parts.1 in
          left_by (entering dir x to_dir j) new c parts.0 moved moved;
    }

pub enters_lead : (cells : Cells) (old new : Tree) (stamp dir to_dir : ℕ) (x : ℕ × ℕ)
    (to_slots : Slots)
    → StandForTree cells old stamp → slots_of (place old to_dir) ≡ to_slots
    → KeepsAlike (entering dir x to_dir (new_slot dir to_dir x.0 to_slots)) old new
    → AllStand (after (moves old new dir to_dir x None) cells) new
unfolding moves
enters_lead cells old new stamp dir to_dir x to_slots stand are is =
    let j = new_slot dir to_dir x.0 (slots_of (place old to_dir)) in
    let keeps : KeepsAlike (entering dir x to_dir j) old new =
    subst (λ (ss : Slots). KeepsAlike (entering dir x to_dir (new_slot dir to_dir x.0 ss)) old new)
    (sym are) is in
    move_leads cells old new stamp (entering dir x to_dir j)
    (pair_changes new dir x.0 to_dir j ++ set_by new (cell.Object x.1 ∷ [])) stand
    (moves_alike (entering dir x to_dir j) old new keeps) (enters_cover new dir to_dir j x)
    (inl (keeps.alike x.1))

replaces_cover : (old new : Tree) (dir to_dir : ℕ) (x y : ℕ × ℕ)
    → Covers (replacing dir x to_dir y) new
    (pair_changes new dir x.0 to_dir y.0 ++ loses old new y.1 ++ set_by new (cell.Object x.1 ∷ []))
replaces_cover old new dir to_dir x y =
    let pairs = pair_changes new dir x.0 to_dir y.0 in
    let lost = loses old new y.1 in
    let last = set_by new (cell.Object x.1 ∷ []) in
    record {
      by = All-append (IsBy new) (pairs ++ lost) last
          (All-append (IsBy new) pairs lost (by_pairs new dir x.0 to_dir y.0) (by_loss old new y.1))
          (by_set new (cell.Object x.1 ∷ []));
      others = λ c spares.
          let parts = spared_both c (pairs ++ lost) last spares in
          let front = spared_both c pairs lost parts.0 in
          let moved = first_other new c (cell.Object x.1) [] parts.1 in
          left_by (replacing dir x to_dir y) new c front.0 moved (loss_sets old new y.1 c front.1);
    }

pub replaces_lead : (cells : Cells) (old new : Tree) (stamp dir to_dir : ℕ) (x y : ℕ × ℕ)
    → StandForTree cells old stamp → (y.1 ≡ x.1 → ⊥) → MovesTo (replacing dir x to_dir y) old new
    → AllStand (after (moves old new dir to_dir x (Some y)) cells) new
unfolding moves
replaces_lead cells old new stamp dir to_dir x y stand ne is =
    let m = replacing dir x to_dir y in
    let pairs = pair_changes new dir x.0 to_dir y.0 in
    let lost = loses old new y.1 in
    let last = set_by new (cell.Object x.1 ∷ []) in
    let ends = loss_ends m old new (pairs ++ lost ++ last) is
    (λ c spares. (spared_both c pairs lost (spared_both c (pairs ++ lost) last spares).0).1) in
    subst (λ (same : Bool). AllStand (after (if same then [] else pairs ++ lost ++ last) cells) new)
    (sym (ne_eqb y.1 x.1 ne))
    (move_leads cells old new stamp m (pairs ++ lost ++ last) stand is
    (replaces_cover old new dir to_dir x y) ends)
