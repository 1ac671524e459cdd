-- The changes of REMOVE and RMDIR lead to the tree without the entry.
use Rattle.std.proofs.Common.{◌≡◌, ℕ, not, List, [], ◌∷◌, set, Option, Some, None, Ok, refl, sym, ap, ◌∙◌, subst, arith}
use Rattle.std.proofs.lemmas.Bool.{not-false}
use Rattle.std.proofs.lemmas.List.{get_or-set_other}
use Rattle.std.proofs.lemmas.List.Elements.{All-append}
use Rattle.harp_types.specs.declared.attr.Time.{Time}
use Rattle.harp_types.specs.declared.call.Call.TheVariants as call
use Rattle.harp_types.specs.declared.cred.Cred.{Cred}
use Rattle.harp_types.specs.declared.reply.Reply.{Reply}
use Rattle.harp_types.specs.declared.reply.Status.TheVariants.{Perm, NoEnt, NotDir, IsDir, NotEmpty}
use Rattle.file_tree.specs.Tree.{Tree, Slots, place, slots_of, slots_within, names_at, entry, is_directory_at}
use Rattle.file_tree.specs.Tries.{is_dots, check_name, some_or}
use Rattle.file_tree.specs.Permissions.{writing, allowed, searched}
use Rattle.file_tree.specs.Outcome.{change, slot_changed, removed, find, doomed, remove, remove_dir, has_no_entry}
use Rattle.file_tree.proofs.Holders.{Holds}
use Rattle.file_tree.proofs.SlotLaws.{IsFound, found}
use Rattle.file_tree.proofs.Reslots.{Reslots, reslots_changed, other_place}
use Rattle.file_tree.proofs.WaysUp.{IsBare, file_is_bare}
use Rattle.file_tree.proofs.SoundChanges.{one_other}
use Rattle.file_tree.proofs.SoundMoves.{cleared_names, found_held}
use Rattle.file_tree.proofs.SoundCalls.{empty_is_bare}
use Rattle.file_tree.proofs.TryLaws.{Given, done, step, unless, given_at, IsDirectoryOf, searched_is}
use Rattle.harp_cells.specs.declared.cell.Cell.TheVariants as cell
use Rattle.harp_cells.specs.Effect.{Cells, after}
use Rattle.harp_cells.specs.CellsOfTree.{StandForTree}
use Rattle.cell_changes.specs.TreeCells.{TreeCells}
use Rattle.cell_changes.specs.Table.{set_by, loses, takes, entry_in, tree_changes}
use Rattle.cell_changes.specs.Stands.{AllStand}
use Rattle.cell_changes.proofs.RightCells.{IsBy, by_set, spared_both, first_other, rest_spared}
use Rattle.cell_changes.proofs.MovedEntries.{Move, IsSlotOf, MovesTo, keeps_reslots, moves_lost}
use Rattle.cell_changes.proofs.MovedCells.{Covers, move_leads, by_loss, loss_sets, loss_ends}

-- an entry goes, and its object loses it
abbrev pub taking : ℕ → ℕ × ℕ → Move
taking dir x =
    record { dir = dir; slot = x.0; to_dir = dir; to_slot = x.0; moved = x.1; target = x.1 }

-- ---- the tree

-- an object with an entry isn't without any
pub bare_apart : (tree : Tree) (number dir k : ℕ) → IsBare tree number → Holds tree dir k
    → number ≡ dir → ⊥
bare_apart tree number dir k bare held e =
    let none = bare k in
    let some : Holds tree number k = subst (λ (n : ℕ). Holds tree n k) (sym e) held in
    omega (arith, none, some)

-- the slot of the first directory is freed
pub clears_slot : (m : Move) (slots : Slots) (name : List ℕ) → IsFound slots name (m.slot, m.moved)
    → IsSlotOf m m.dir slots (set slots m.slot None)
clears_slot m slots name f = record {
  aside = λ n a. a.dir;
  others = λ s o. get_or-set_other slots m.slot s None None (o.from refl);
  names = λ k nm nt. omega (
    arith,
    cleared_names slots name (m.slot, m.moved) k f,
    one_other m.moved k nm,
  );
}

pub taken : (tree : Tree) (dir : ℕ) (slots : Slots) (name : List ℕ) (x : ℕ × ℕ) (now : Time)
    → IsDirectoryOf tree dir slots
    → IsFound slots name x → IsBare tree x.1 → MovesTo (taking dir x) tree (removed tree dir x now)
taken tree dir slots name x now is f bare =
    let cleared = change tree dir (slot_changed now x.0 None) in
    let left = set slots x.0 None in
    let r : Reslots tree cleared dir slots left =
    reslots_changed tree dir is.object slots x.0 None now is.at is.body in
    let held = found_held tree dir is.object slots name x is.at is.body f in
    let apart = bare_apart tree x.1 dir x.1 bare held in
    moves_lost (taking dir x) tree cleared now (record {
      keeps = keeps_reslots (taking dir x) tree cleared dir slots left r
          (clears_slot (taking dir x) slots name f);
      others = λ n nd nt. other_place tree cleared dir slots left r n nd;
      bare = λ k. ap (names_at k) (other_place tree cleared dir slots left r x.1 apart) ∙ bare k;
    })

-- ---- the changes

takes_cover : (old new : Tree) (dir : ℕ) (x : ℕ × ℕ)
    → Covers (taking dir x) new (takes old new dir (Some x))
takes_cover old new dir x =
    let first = set_by new (cell.Slot dir x.0 ∷ cell.Object dir ∷ []) in
    record {
      by = All-append (IsBy new) first (loses old new x.1)
          (by_set new (cell.Slot dir x.0 ∷ cell.Object dir ∷ [])) (by_loss old new x.1);
      others = λ c spares.
          let parts = spared_both c first (loses old new x.1) spares in
          let slot = first_other new c (cell.Slot dir x.0) (cell.Object dir ∷ []) parts.0 in
          let rest = rest_spared new c (cell.Slot dir x.0) (cell.Object dir ∷ []) parts.0 in
          let object = first_other new c (cell.Object dir) [] rest in
          let lost = loss_sets old new x.1 c parts.1 in
          record {
            slot = slot;
            to_slot = slot;
            dir = object;
            to_dir = object;
            moved = lost;
            target = lost;
          };
    }

takes_lead : (cells : Cells) (old new : Tree) (stamp dir : ℕ) (x : ℕ × ℕ)
    → StandForTree cells old stamp
    → MovesTo (taking dir x) old new → AllStand (after (takes old new dir (Some x)) cells) new
takes_lead cells old new stamp dir x stand moves =
    let first = set_by new (cell.Slot dir x.0 ∷ cell.Object dir ∷ []) in
    move_leads cells old new stamp (taking dir x) (takes old new dir (Some x)) stand moves
    (takes_cover old new dir x)
    (loss_ends (taking dir x) old new (takes old new dir (Some x)) moves
    (λ c spares. (spared_both c first (loses old new x.1) spares).1))

-- ---- the calls

-- the entry that a directory has
pub entry_is : (tree : Tree) (dir : ℕ) (slots : Slots) (name : List ℕ)
    → IsDirectoryOf tree dir slots
    → entry_in tree dir name ≡ entry slots name
entry_is tree dir slots name is =
    ap (λ (ss : Slots). entry ss name) (ap slots_of is.at ∙ ap slots_within is.body)

some_given : (x : Option (ℕ × ℕ)) → Given (some_or NoEnt x) (λ y. x ≡ Some y)
unfolding Given
some_given None = tt
some_given (Some y) = refl

doomed_entry : (slots : Slots) (name : List ℕ) (x : ℕ × ℕ) → doomed slots name ≡ Ok x
    → entry slots name ≡ Some x
doomed_entry slots name x e =
    given_at (doomed slots name) (λ y. entry slots name ≡ Some y) x
    (unless Perm (is_dots name) (λ u. find slots name) (λ y. entry slots name ≡ Some y)
    (λ dots. step (check_name name) (λ u. some_or NoEnt (entry slots name))
    (λ y. entry slots name ≡ Some y)
    (λ u checked. some_given (entry slots name)))) e

taken_leads : (cells : Cells) (tree : Tree) (stamp dir : ℕ) (slots : Slots) (name : List ℕ)
    (x : ℕ × ℕ) (now : Time)
    → StandForTree cells tree stamp → IsDirectoryOf tree dir slots → entry slots name ≡ Some x
    → IsBare tree x.1
    → AllStand (after (takes tree (removed tree dir x now) dir (entry_in tree dir name)) cells)
    (removed tree dir x now)
taken_leads cells tree stamp dir slots name x now stand is e bare =
    let new = removed tree dir x now in
    subst (λ (y : Option (ℕ × ℕ)). AllStand (after (takes tree new dir y) cells) new)
    (sym (entry_is tree dir slots name is ∙ e))
    (takes_lead cells tree new stamp dir x stand
    (taken tree dir slots name x now is (found slots name x e) bare))

-- the changes of a call that takes an entry lead to a tree
abbrev LeadsTo : Cells → Tree → ℕ → List ℕ → Reply × Tree → Type 0
LeadsTo cells tree dir name r =
    AllStand (after (takes tree r.1 dir (entry_in tree dir name)) cells) r.1

removes : (cells : Cells) (tree : Tree) (cred : Cred) (stamp dir : ℕ) (name : List ℕ) (now : Time)
    → StandForTree cells tree stamp
    → Given (remove tree cred dir name now) (LeadsTo cells tree dir name)
unfolding remove
removes cells tree cred stamp dir name now stand =
    let P = LeadsTo cells tree dir name in
    step (searched tree cred dir) _ P (λ slots d.
    step (doomed slots name) _ P (λ x f.
    step (allowed tree cred dir writing) _ P (λ v may.
    unless IsDir _ _ P (λ file.
    done _ P
    (taken_leads cells tree stamp dir slots name x now stand (searched_is tree cred dir slots d)
    (doomed_entry slots name x f)
    (file_is_bare tree x.1 file))))))

removes_dir : (cells : Cells) (tree : Tree) (cred : Cred) (stamp dir : ℕ) (name : List ℕ)
    (now : Time) → StandForTree cells tree stamp
    → Given (remove_dir tree cred dir name now) (LeadsTo cells tree dir name)
unfolding remove_dir
removes_dir cells tree cred stamp dir name now stand =
    let P = LeadsTo cells tree dir name in
    step (searched tree cred dir) _ P (λ slots d.
    step (doomed slots name) _ P (λ x f.
    step (allowed tree cred dir writing) _ P (λ v may.
    unless NotDir (not (is_directory_at (place tree x.1))) _ P (λ kind.
    unless NotEmpty (not (has_no_entry (slots_of (place tree x.1)))) _ P (λ empty.
    done _ P
    (taken_leads cells tree stamp dir slots name x now stand (searched_is tree cred dir slots d)
    (doomed_entry slots name x f)
    (empty_is_bare tree x.1 (not-false _ empty))))))))

-- REMOVE
pub remove_leads : (t : TreeCells) (cred : Cred) (dir : ℕ) (name : List ℕ) (now : Time)
    (reply : Reply) (new : Tree)
    → remove t.tree cred dir name now ≡ Ok (reply, new)
    → AllStand (after (tree_changes t.cells t.tree new (call.Remove dir name)) t.cells) new
unfolding tree_changes
remove_leads t cred dir name now reply new e =
    given_at (remove t.tree cred dir name now) (LeadsTo t.cells t.tree dir name) (reply, new)
    (removes t.cells t.tree cred t.stamp dir name now t.stand) e

-- RMDIR
pub remove_dir_leads : (t : TreeCells) (cred : Cred) (dir : ℕ) (name : List ℕ) (now : Time)
    (reply : Reply) (new : Tree)
    → remove_dir t.tree cred dir name now ≡ Ok (reply, new)
    → AllStand (after (tree_changes t.cells t.tree new (call.RmDir dir name)) t.cells) new
unfolding tree_changes
remove_dir_leads t cred dir name now reply new e =
    given_at (remove_dir t.tree cred dir name now) (LeadsTo t.cells t.tree dir name) (reply, new)
    (removes_dir t.cells t.tree cred t.stamp dir name now t.stand) e
