-- The changes of RENAME lead to the tree with the entry moved.
use Rattle.std.proofs.Common.{◌≡◌, ℕ, ◌==◌, ◌&&◌, true, List, length, Option, Some, None, Ok, refl, sym, ap, ◌∙◌, subst}
use Rattle.std.proofs.lemmas.Bool.{eqb-false}
use Rattle.harp_types.specs.declared.attr.Time.{Time}
use Rattle.harp_types.specs.declared.call.Call.TheVariants as call
use Rattle.harp_types.specs.declared.cred.Cred.{Cred}
use Rattle.harp_types.specs.declared.reply.Reply.{Reply}
use Rattle.harp_types.specs.declared.reply.Reply.TheVariants.{Done}
use Rattle.harp_types.specs.declared.reply.Status.TheVariants.{Perm, NoEnt}
use Rattle.file_tree.specs.Tree.{Tree, Slots, place, slots_of, slots_within, entry, is_directory_at}
use Rattle.file_tree.specs.Tries.{some_or, live, slots_in, is_dots, check_name, room}
use Rattle.file_tree.specs.Permissions.{searching, writing, allowed}
use Rattle.file_tree.specs.Rename.{is_above, check_target, moved_in, moved_to, rename}
use Rattle.file_tree.proofs.Kept.{live_place}
use Rattle.file_tree.proofs.SlotLaws.{found}
use Rattle.file_tree.proofs.RenameLaw.{target_bare}
use Rattle.file_tree.proofs.TryLaws.{Given, done, step, unless, either, given_at, slots_are, IsDirectoryOf, some_is}
use Rattle.harp_cells.specs.Effect.{Cells, after}
use Rattle.harp_cells.specs.CellsOfTree.{StandForTree}
use Rattle.cell_changes.specs.TreeCells.{TreeCells}
use Rattle.cell_changes.specs.Table.{moves, renames, entry_in, tree_changes}
use Rattle.cell_changes.specs.Stands.{AllStand}
use Rattle.cell_changes.proofs.Frame.{each_stands}
use Rattle.cell_changes.proofs.Takes.{entry_is}
use Rattle.cell_changes.proofs.Moves.{entered, replaced, enters_lead, replaces_lead}

-- a directory with an entry that moves, and one to move it to
record IsWay (tree : Tree) (dir : ℕ) (slots : Slots) (name : List ℕ) (x : ℕ × ℕ) (to_dir : ℕ)
    (to_slots : Slots)
    : Type 0 where
  from : IsDirectoryOf tree dir slots
  to : IsDirectoryOf tree to_dir to_slots
  entry : entry slots name ≡ Some x

-- the changes of an entry that moves lead to a tree
abbrev Leads : Cells → Tree → ℕ → ℕ → ℕ × ℕ → Option (ℕ × ℕ) → Tree → Type 0
Leads cells tree dir to_dir x y new = AllStand (after (moves tree new dir to_dir x y) cells) new

moved_in_leads : (cells : Cells) (tree : Tree) (stamp dir : ℕ) (slots : Slots) (name : List ℕ)
    (x : ℕ × ℕ) (to_dir : ℕ)
    (to_slots : Slots) (to_name : List ℕ) (now : Time) → StandForTree cells tree stamp
    → IsWay tree dir slots name x to_dir to_slots
    → Given (moved_in tree dir x to_dir to_slots to_name now) (Leads cells tree dir to_dir x None)
unfolding moved_in
moved_in_leads cells tree stamp dir slots name x to_dir to_slots to_name now stand way =
    let P = Leads cells tree dir to_dir x None in
    let are : slots_of (place tree to_dir) ≡ to_slots = ap slots_of way.to.at
    ∙ ap slots_within way.to.body in
    let f = found slots name x way.entry in
    step (room tree to_dir _) _ P (λ u enough.
    done _ P
    (enters_lead cells tree _ stamp dir to_dir x to_slots stand are
    (entered tree dir to_dir slots to_slots name to_name x now way.from way.to f)))

-- a rename onto the same object changes nothing
same_leads : (cells : Cells) (tree : Tree) (stamp dir to_dir : ℕ) (x y : ℕ × ℕ)
    → StandForTree cells tree stamp
    → (y.1 == x.1) ≡ true → Leads cells tree dir to_dir x (Some y) tree
unfolding moves
same_leads cells tree stamp dir to_dir x y stand same = rw same (each_stands cells tree stamp stand)

moved_to_leads : (cells : Cells) (tree : Tree) (stamp dir : ℕ) (slots : Slots) (name : List ℕ)
    (x : ℕ × ℕ) (to_dir : ℕ)
    (to_slots : Slots) (to_name : List ℕ) (y : Option (ℕ × ℕ)) (now : Time)
    → StandForTree cells tree stamp
    → IsWay tree dir slots name x to_dir to_slots → entry to_slots to_name ≡ y
    → check_target tree x.1 y ≡ Ok tt
    → Given (moved_to tree dir x to_dir to_slots to_name y now) (Leads cells tree dir to_dir x y)
moved_to_leads cells tree stamp dir slots name x to_dir to_slots to_name None now stand way e
    target =
    moved_in_leads cells tree stamp dir slots name x to_dir to_slots to_name now stand way
moved_to_leads cells tree stamp dir slots name x to_dir to_slots to_name
    (Some y) now stand way e target =
    let P = Leads cells tree dir to_dir x (Some y) in
    either (y.1 == x.1) _ _ P
    (λ same. done tree P (same_leads cells tree stamp dir to_dir x y stand same))
    (λ other.
    let ne = eqb-false y.1 x.1 other in
    let f = found slots name x way.entry in
    let g = found to_slots to_name y e in
    done _ P
    (replaces_lead cells tree _ stamp dir to_dir x y stand ne
    (replaced tree dir to_dir slots to_slots name to_name x y now way.from way.to f g ne
    (target_bare tree x.1 y target ne))))

-- the changes of a rename lead to a tree
abbrev LeadsTo : Cells → Tree → ℕ → List ℕ → ℕ → List ℕ → Reply × Tree → Type 0
LeadsTo cells tree dir name to_dir to_name r =
    AllStand (after (renames tree r.1 dir to_dir (entry_in tree dir name)
    (entry_in tree to_dir to_name)) cells) r.1

leads_by : (cells : Cells) (tree : Tree) (dir : ℕ) (slots : Slots) (name : List ℕ) (x : ℕ × ℕ)
    (to_dir : ℕ)
    (to_slots : Slots) (to_name : List ℕ) (reply : Reply) (new : Tree)
    → IsWay tree dir slots name x to_dir to_slots
    → Leads cells tree dir to_dir x (entry to_slots to_name) new
    → LeadsTo cells tree dir name to_dir to_name (reply, new)
leads_by cells tree dir slots name x to_dir to_slots to_name reply new way leads =
    subst
    (λ (e : Option (ℕ × ℕ)). AllStand
    (after (renames tree new dir to_dir e (entry_in tree to_dir to_name)) cells) new)
    (sym (entry_is tree dir slots name way.from ∙ way.entry))
    (subst (λ (e : Option (ℕ × ℕ)). Leads cells tree dir to_dir x e new)
    (sym (entry_is tree to_dir to_slots to_name way.to)) leads)

moved_leads : (cells : Cells) (tree : Tree) (stamp dir : ℕ) (slots : Slots) (name : List ℕ)
    (x : ℕ × ℕ) (to_dir : ℕ)
    (to_slots : Slots) (to_name : List ℕ) (now : Time) (reply : Reply) (new : Tree)
    → StandForTree cells tree stamp
    → IsWay tree dir slots name x to_dir to_slots
    → check_target tree x.1 (entry to_slots to_name) ≡ Ok tt
    → moved_to tree dir x to_dir to_slots to_name (entry to_slots to_name) now ≡ Ok new
    → LeadsTo cells tree dir name to_dir to_name (reply, new)
moved_leads cells tree stamp dir slots name x to_dir to_slots to_name now reply new stand way target
    moved =
    let y = entry to_slots to_name in
    leads_by cells tree dir slots name x to_dir to_slots to_name reply new way
    (given_at (moved_to tree dir x to_dir to_slots to_name y now)
    (Leads cells tree dir to_dir x y) new
    (moved_to_leads cells tree stamp dir slots name x to_dir to_slots to_name y now stand way refl
    target) moved)

renamed : (cells : Cells) (tree : Tree) (cred : Cred) (stamp dir : ℕ) (name : List ℕ) (to_dir : ℕ)
    (to_name : List ℕ) (now : Time)
    → StandForTree cells tree stamp
    → Given (rename tree cred dir name to_dir to_name now)
    (LeadsTo cells tree dir name to_dir to_name)
unfolding rename
renamed cells tree cred stamp dir name to_dir to_name now stand =
    let P = LeadsTo cells tree dir name to_dir to_name in
    step (live tree dir) _ P (λ d d_lives.
    step (live tree to_dir) _ P (λ e e_lives.
    step (slots_in d.body) _ P (λ slots d_slots.
    step (slots_in e.body) _ P (λ to_slots e_slots.
    step (allowed tree cred dir searching) _ P (λ a may_search.
    step (allowed tree cred to_dir searching) _ P (λ b may_search_to.
    unless Perm (is_dots name) _ P (λ dots.
    unless Perm (is_dots to_name) _ P (λ to_dots.
    step (check_name name) _ P (λ u checked.
    step (check_name to_name) _ P (λ v to_checked.
    step (some_or NoEnt (entry slots name)) _ P (λ x x_is.
    step (allowed tree cred dir writing) _ P (λ i may_write.
    step (allowed tree cred to_dir writing) _ P (λ j may_write_to.
    unless Perm (is_directory_at (place tree x.1) && is_above (length tree) tree x.1 to_dir) _ P
    (λ apart.
    step (check_target tree x.1 (entry to_slots to_name)) _ P (λ w target.
    step (moved_to tree dir x to_dir to_slots to_name (entry to_slots to_name) now) _ P
    (λ new moved.
    let way : IsWay tree dir slots name x to_dir to_slots = record {
      from = record {
        object = d;
        at = live_place tree dir d d_lives;
        body = slots_are d.body slots d_slots;
      };
      to = record {
        object = e;
        at = live_place tree to_dir e e_lives;
        body = slots_are e.body to_slots e_slots;
      };
      entry = some_is NoEnt (entry slots name) x x_is;
    } in
    done _ P
    (moved_leads cells tree stamp dir slots name x to_dir to_slots to_name now Done new stand way
    target
    moved)))))))))))))))))

-- RENAME
pub rename_leads : (t : TreeCells) (cred : Cred) (dir : ℕ) (name : List ℕ) (to_dir : ℕ)
    (to_name : List ℕ) (now : Time)
    (reply : Reply) (new : Tree) → rename t.tree cred dir name to_dir to_name now ≡ Ok (reply, new)
    → AllStand (after (tree_changes t.cells t.tree new
    (call.Rename dir name to_dir to_name)) t.cells) new
unfolding tree_changes
rename_leads t cred dir name to_dir to_name now reply new e =
    given_at (rename t.tree cred dir name to_dir to_name now)
    (LeadsTo t.cells t.tree dir name to_dir to_name) (reply, new)
    (renamed t.cells t.tree cred t.stamp dir name to_dir to_name now t.stand) e
