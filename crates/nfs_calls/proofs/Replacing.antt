-- The plan of an entry that takes the place of another one, in its directory or in another.
use Rattle.std.proofs.Common.{◌≡◌, ℕ, ◌+◌, ◌*◌, ◌≤◌, ◌==◌, true, false, List, [], ◌∷◌, ◌++◌, length, get_or, set, None, Some, Ok, refl, sym, ap, ◌∙◌, subst, arith, inl, inr}
use Rattle.std.proofs.lemmas.Bool.{cases_eq, eq-eqb, ne_eqb}
use Rattle.std.proofs.lemmas.List.{length-set, get_or-set_same, get_or-set_other}
use Rattle.harp_types.specs.declared.attr.Time.{Time}
use Rattle.harp_types.specs.declared.call.Call.TheVariants as call
use Rattle.harp_types.specs.declared.reply.Reply.TheVariants.{Done}
use Rattle.file_tree.specs.declared.object.Slot.{Slot}
use Rattle.file_tree.specs.declared.object.Body.{Body}
use Rattle.file_tree.specs.declared.object.Body.TheVariants.{Directory}
use Rattle.file_tree.specs.Tree.{Tree, place, slots_of, names_in}
use Rattle.file_tree.specs.Outcome.{change, slot_changed, slot_replaced, reslotted}
use Rattle.file_tree.specs.Rename.{check_target}
use Rattle.file_tree.specs.Sound.{IsSound}
use Rattle.file_tree.proofs.SlotLaws.{IsFound, found}
use Rattle.file_tree.proofs.SoundChanges.{one_itself, one_other}
use Rattle.file_tree.proofs.SoundMoves.{cleared_names}
use Rattle.harp_cells.specs.declared.value.Inode.{Inode}
use Rattle.harp_cells.specs.declared.value.Value.TheVariants as value
use Rattle.harp_cells.specs.declared.cell.Cell.TheVariants as cell
use Rattle.harp_cells.specs.declared.change.Change.TheVariants as change
use Rattle.harp_cells.specs.Effect.{Cells}
use Rattle.nfs_calls.specs.declared.updates.relocation.Relocation.{Relocation}
use Rattle.nfs_calls.specs.TreeCells.{object_at}
use Rattle.nfs_calls.specs.Plans.{planned, totals_of}
use Rattle.nfs_calls.specs.Entries.{relinked, loss, after_loss}
use Rattle.nfs_calls.specs.Moves.{slot_changes, directory_changes, moved_inode, links_over, moved_outcome, IsMoving}
use Rattle.nfs_calls.proofs.Sets.{place_at, place_other, set_by_change}
use Rattle.nfs_calls.proofs.Entries.{subdirectories, directory_share, subdirectories_set, share_of_found, slots_at}
use Rattle.nfs_calls.proofs.Losses.{body_at, put_of, slot_by, links_freed}
use Rattle.nfs_calls.proofs.MovedEntry.{are_apart, moved_put, directory_moved, from_put, slots_put, directories_put}
use Rattle.nfs_calls.proofs.MovesIn.{moved_slot}
use Rattle.nfs_calls.proofs.MovesWithin.{within}
use Rattle.nfs_calls.proofs.MovesOver.{IsTarget, tree_over, over_slots, swapped, Replaces, slot_is, is_aside, over_names, replaces, over_planned}

-- the new directory has as many subdirectories
same_subdirectories : (tree : Tree) (m : Relocation) (to_name : List ℕ) (y : ℕ × ℕ) (j : Inode)
    → IsTarget tree m to_name y j
    → subdirectories tree (over_slots tree m to_name y)
    ≡ subdirectories tree (slots_of (place tree m.to_dir))
same_subdirectories tree m to_name y j target =
    let to_slots = slots_of (place tree m.to_dir) in
    let g : IsFound to_slots to_name y = found to_slots to_name y target.entry in
    let share : directory_share tree (get_or to_slots y.0 None)
    ≡ directory_share tree (Some (moved_slot m to_name)) =
    share_of_found tree to_slots to_name y g ∙ rw target.kinds refl in
    omega (
      arith,
      share,
      subdirectories_set tree to_slots y.0
          (Some (moved_slot m to_name)) g.within,
    )

across_target : (cells : Cells) (tree : Tree) (m : Relocation) (name to_name : List ℕ) (y : ℕ × ℕ)
    (j : Inode) (now : Time) → IsSound tree → (m.dir ≡ m.to_dir → ⊥) → IsMoving tree m name to_name
    → IsTarget tree m to_name y j → check_target tree m.number (Some y) ≡ Ok tt
    → planned cells tree (call.Rename m.dir name m.to_dir to_name)
    (moved_outcome tree m.dir (m.slot, m.number) m.to_dir to_name (Some y) now)
    ≡ Ok (
      Done,
      slot_changes m y.0 to_name ++ directory_changes m (relinked now (links_over m) m.to) now
          ++ loss y.1 j now
          ++ change.Put (cell.Object m.number) (value.Object (moved_inode m now)) ∷ [],
      after_loss (totals_of tree) j,
    )
across_target cells tree m name to_name y j now sound two is target checked =
    let o = object_at tree m.dir in
    let e = object_at tree m.to_dir in
    let slots = slots_of (place tree m.dir) in
    let to_slots = slots_of (place tree m.to_dir) in
    let body = body_at tree m.dir m.from is.from in
    let to_body = body_at tree m.to_dir m.to is.to in
    let x : ℕ × ℕ = (m.slot, m.number) in
    let f : IsFound slots name x = found slots name x is.entry in
    let g : IsFound to_slots to_name y = found to_slots to_name y target.entry in
    let s = moved_slot m to_name in
    let over = over_slots tree m to_name y in
    let new = tree_over tree m to_name y now in
    let apart = are_apart tree m name to_name sound is in
    let aside = is_aside tree m name to_name y j is target in
    let s1 = set_by_change tree m.to_dir (slot_changed now y.0 (Some s)) e is.to.own.at in
    let q_at : place (swapped tree m to_name y now) m.dir ≡ Some o = place_other s1 m.dir two
    ∙ is.from.own.at in
    let s2 = set_by_change (swapped tree m to_name y now) m.dir
    (slot_changed now m.slot None) o q_at in
    let there = place_other s2 m.to_dir (λ h. two (sym h)) ∙ place_at s1
    ∙ ap Some (slot_is now y.0 (Some s) to_slots e to_body) in
    let named : 1 ≤ names_in m.number over =
    omega (
      arith,
      over_names to_slots to_name y s m.number g,
      one_itself m.number,
      one_other y.1 m.number (λ h. target.other (sym h)),
    ) in
    let r : Replaces tree m to_name y j now over o =
    replaces tree m name to_name y j now slots over o sound is target q_at body f there named in
    let stored = slots_at tree m.to_dir m.to to_slots is.to.own to_body in
    let long = length-set to_slots y.0 (Some s) in
    let links : links_over m ≡ 2 + subdirectories tree over =
    let t : (m.dir == m.to_dir) ≡ false = ne_eqb m.dir m.to_dir two in
    rw t (stored.0 ∙ ap (λ (n : ℕ). 2 + n) (sym (same_subdirectories tree m to_name y j target))) in
    let to_put = put_of new m.to_dir (relinked now (links_over m) m.to)
    (directory_moved tree new m m.to_dir m.to over now
    (links_over m) m.to.size m.to.slots sound r.moved is.to r.to_at
    (r.kept m.to_dir (λ h. apart.to (sym h)) (λ h. aside.to (sym h))) links
    (stored.1 ∙ ap (λ (n : ℕ). 264 * n) (sym long)) (stored.2 ∙ sym long)) in
    let new_put =
    slot_by new m.to_dir y.0 (reslotted now over e) over (Some s) r.to_at refl
    (get_or-set_same to_slots y.0 (Some s) None g.within) in
    let from_at = r.from_at ∙ ap Some (slot_is now m.slot None slots o body) in
    let old_put =
    slot_by new m.dir m.slot (reslotted now (set slots m.slot None) o)
    (set slots m.slot None) None from_at refl
    (get_or-set_same slots m.slot None None f.within) in
    over_planned cells tree m name to_name y now _ _ _ _ _ is.entry target.entry target.other
    checked
    (slots_put new m y.0 to_name new_put (λ h. old_put))
    (directories_put new m (relinked now (links_over m) m.to) now to_put
    (λ h. from_put tree new m name to_name now sound is r.moved from_at
    (r.kept m.dir (λ k. apart.from (sym k)) (λ k. aside.from (sym k)))))
    r.lost
    (moved_put tree new m now is.moved r.moved)
    (sym r.totals)

within_target : (cells : Cells) (tree : Tree) (m : Relocation) (name to_name : List ℕ) (y : ℕ × ℕ)
    (j : Inode) (now : Time) → IsSound tree → IsMoving tree (within m) name to_name
    → IsTarget tree m to_name y j → check_target tree m.number (Some y) ≡ Ok tt
    → planned cells tree (call.Rename m.to_dir name m.to_dir to_name)
    (moved_outcome tree m.to_dir (m.slot, m.number) m.to_dir to_name (Some y) now)
    ≡ Ok (
      Done,
      slot_changes (within m) y.0 to_name
          ++ directory_changes (within m) (relinked now (links_over (within m)) m.to) now
          ++ loss y.1 j now
          ++ change.Put (cell.Object m.number) (value.Object (moved_inode m now)) ∷ [],
      after_loss (totals_of tree) j,
    )
within_target cells tree m name to_name y j now sound is goal checked =
    let n = within m in
    let d = m.to_dir in
    let o = object_at tree d in
    let slots = slots_of (place tree d) in
    let body = body_at tree d m.to is.to in
    let x : ℕ × ℕ = (m.slot, m.number) in
    let target : IsTarget tree n to_name y j =
    record {
      entry = goal.entry;
      object = goal.object;
      other = goal.other;
      bare = goal.bare;
      kinds = goal.kinds;
    } in
    let f : IsFound slots name x = found slots name x is.entry in
    let g : IsFound slots to_name y = found slots to_name y target.entry in
    let s = moved_slot m to_name in
    let over = over_slots tree n to_name y in
    let after = set over m.slot None in
    let new = tree_over tree n to_name y now in
    let apart = are_apart tree n name to_name sound is in
    let aside = is_aside tree n name to_name y j is target in
    let differ : m.slot ≡ y.0 → ⊥ = λ (e : m.slot ≡ y.0).
    let slot_same : Some f.slot ≡ Some g.slot = sym f.at ∙ ap (λ (i : ℕ). get_or slots i None) e
    ∙ g.at in
    let both : f.slot ≡ g.slot = cc in
    target.other (sym g.number ∙ ap (λ (t : Slot). t.number) (sym both) ∙ f.number) in
    let long1 = length-set slots y.0 (Some s) in
    let long2 = length-set over m.slot None in
    let f_over : IsFound over name x = record {
      slot = f.slot;
      within = omega (arith, f.within, long1);
      at = get_or-set_other slots y.0 m.slot (Some s) None differ ∙ f.at;
      named = f.named;
      number = f.number;
    } in
    let q = slot_changed now y.0 (Some s) o in
    let q_body : q.body ≡ Directory over = ap (λ (b : Body). slot_replaced b y.0 (Some s)) body in
    let s1 = set_by_change tree d (slot_changed now y.0 (Some s)) o is.to.own.at in
    let q_at : place (swapped tree n to_name y now) d ≡ Some q = place_at s1 in
    let s2 = set_by_change (swapped tree n to_name y now) d (slot_changed now m.slot None) q q_at in
    let there : place (change (swapped tree n to_name y now) d (slot_changed now m.slot None)) d
    ≡ Some (reslotted now after o) =
    place_at s2 ∙ ap Some (slot_is now m.slot None over q q_body) in
    let named : 1 ≤ names_in m.number after = omega (
      arith,
      over_names slots to_name y s m.number g,
      one_itself m.number,
      one_other y.1 m.number (λ h. target.other (sym h)),
      cleared_names slots name x m.number f,
      cleared_names over name x m.number f_over,
    ) in
    let r : Replaces tree n to_name y j now after q =
    replaces tree n name to_name y j now over after q sound is target q_at q_body f_over there
    named in
    let stored = slots_at tree d m.to slots is.to.own body in
    let over_links : m.to.links ≡ 2 + subdirectories tree over = stored.0
    ∙ ap (λ (k : ℕ). 2 + k) (sym (same_subdirectories tree n to_name y j target)) in
    let links : links_over n ≡ 2 + subdirectories tree after =
    let t : (d == d) ≡ true = eq-eqb d d refl in
    rw t (links_freed tree d over name x m.to m.moved f_over is.moved over_links) in
    let long : length after ≡ length slots = long2 ∙ long1 in
    let to_put = put_of new d (relinked now (links_over n) m.to)
    (directory_moved tree new n d m.to after now
    (links_over n) m.to.size m.to.slots sound r.moved is.to r.to_at
    (r.kept d (λ h. apart.to (sym h)) (λ h. aside.to (sym h))) links
    (stored.1 ∙ ap (λ (k : ℕ). 264 * k) (sym long)) (stored.2 ∙ sym long)) in
    let new_put = slot_by new d y.0 (reslotted now after o) after (Some s) r.to_at refl
    (get_or-set_other over m.slot y.0 None None (λ h. differ (sym h))
    ∙ get_or-set_same slots y.0 (Some s) None g.within) in
    let old_put =
    slot_by new d m.slot (reslotted now after o) after None r.to_at refl
    (get_or-set_same over m.slot None None f_over.within) in
    over_planned cells tree n name to_name y now _ _ _ _ _ is.entry target.entry target.other
    checked
    (slots_put new n y.0 to_name new_put (λ h. old_put))
    (directories_put new n (relinked now (links_over n) m.to) now to_put (λ h. absurd (h refl)))
    r.lost
    (moved_put tree new n now is.moved r.moved)
    (sym r.totals)

pub target_planned : (cells : Cells) (tree : Tree) (m : Relocation) (name to_name : List ℕ)
    (y : ℕ × ℕ) (j : Inode) (now : Time) → IsSound tree → IsMoving tree m name to_name
    → IsTarget tree m to_name y j → check_target tree m.number (Some y) ≡ Ok tt
    → planned cells tree (call.Rename m.dir name m.to_dir to_name)
    (moved_outcome tree m.dir (m.slot, m.number) m.to_dir to_name (Some y) now)
    ≡ Ok (
      Done,
      slot_changes m y.0 to_name ++ directory_changes m (relinked now (links_over m) m.to) now
          ++ loss y.1 j now
          ++ change.Put (cell.Object m.number) (value.Object (moved_inode m now)) ∷ [],
      after_loss (totals_of tree) j,
    )
target_planned cells tree m name to_name y j now sound is target checked =
    elim (cases_eq m.dir m.to_dir) [
      | inl one_dir ↦
          let same : m ≡ within m = ap (λ (d : ℕ). record m { dir = d }) one_dir in
          subst (λ (n : Relocation). planned cells tree (call.Rename n.dir name n.to_dir to_name)
          (moved_outcome tree n.dir (n.slot, n.number) n.to_dir to_name (Some y) now)
          ≡ Ok (
            Done,
            slot_changes n y.0 to_name ++ directory_changes n (relinked now (links_over n) n.to) now
                ++ loss y.1 j now
                ++ change.Put (cell.Object n.number) (value.Object (moved_inode n now)) ∷ [],
            after_loss (totals_of tree) j,
          )) (sym same)
          (within_target cells tree m name to_name y j now sound
          (subst (λ (n : Relocation). IsMoving tree n name to_name) same is) target checked)
      | inr two ↦ across_target cells tree m name to_name y j now sound two is target checked
    ]
