-- The changes of each update lead to the tree of its outcome, and those of the tree leave other
-- cells.
use Rattle.std.proofs.Common.{◌≡◌, ℕ, Bool, true, false, List, [], ◌∷◌, ◌++◌, Option, Some, None, Ok, Err, refl, sym, ap, ◌∙◌}
use Rattle.std.specs.Bool.{if◌then◌else◌}
use Rattle.std.specs.Prelude.{fold}
use Rattle.std.specs.List.{list_all}
use Rattle.std.proofs.lemmas.Bool.{and_parts, both_ways, false_from_ne_true}
use Rattle.harp_types.specs.declared.call.Call.{Call}
use Rattle.harp_types.specs.declared.call.Call.TheVariants as call
use Rattle.harp_types.specs.declared.reply.Reply.{Reply}
use Rattle.harp_types.specs.Time.{time_of}
use Rattle.file_tree.specs.Tree.{Tree}
use Rattle.file_tree.specs.Outcome.{Outcome}
use Rattle.file_tree.specs.Calls.{answered, settled}
use Rattle.harp_cells.specs.declared.cell.Cell.{Cell}
use Rattle.harp_cells.specs.declared.cell.Cell.TheVariants as cell
use Rattle.harp_cells.specs.declared.value.Value.{Value}
use Rattle.harp_cells.specs.declared.change.Change.{Change}
use Rattle.harp_cells.specs.declared.change.Change.TheVariants as change
use Rattle.harp_cells.specs.Effect.{after, changed, is_cell, is_block_from}
use Rattle.harp_cells.specs.CellsOfTree.{StandForTree}
use Rattle.harp_cells.proofs.CellLemmas.{is_cell_true}
use Rattle.cell_changes.specs.TreeCells.{TreeCells}
use Rattle.cell_changes.specs.Stands.{AllStand}
use Rattle.cell_changes.specs.Table.{tree_changes, changes_by, meta_put}
use Rattle.cell_changes.specs.Short.{changes_tree, is_kind_of, is_of_tree}
use Rattle.cell_changes.specs.Laws.{UpdatesLead, OthersStay}
use Rattle.cell_changes.proofs.Frame.{each_stands}
use Rattle.cell_changes.proofs.SetCells.{with_totals}
use Rattle.cell_changes.proofs.Sets.{set_attr_leads, write_leads}
use Rattle.cell_changes.proofs.NewObjects.{create_leads, make_dir_leads, make_link_leads}
use Rattle.cell_changes.proofs.Linked.{link_leads}
use Rattle.cell_changes.proofs.Takes.{remove_leads, remove_dir_leads}
use Rattle.cell_changes.proofs.Renames.{rename_leads}

-- ---- the tree of the outcome

-- where the changes of a call that isn't refused lead to its tree, so do those of the call with the
-- totals; a refused one leaves the tree
leads : (t : TreeCells) (c : Call) (stamp : ℕ) (r : Outcome)
    → ((reply : Reply) (new : Tree) → r ≡ Ok (reply, new)
    → AllStand (after (tree_changes t.cells t.tree new c) t.cells) new)
    → StandForTree (after (changes_by t.cells t.tree c r ++ meta_put (settled t.tree r).1 stamp
    ∷ []) t.cells)
    (settled t.tree r).1 stamp
leads t c stamp (Ok x) h =
    with_totals (tree_changes t.cells t.tree x.1 c) t.cells x.1 stamp (h x.0 x.1 refl)
leads t c stamp (Err status) h =
    with_totals [] t.cells t.tree stamp (each_stands t.cells t.tree t.stamp t.stand)

pub updates_lead : UpdatesLead
updates_lead t cred (call.SetAttr handle attr) stamp is =
    leads t (call.SetAttr handle attr) stamp
    (answered t.tree cred (call.SetAttr handle attr) (time_of stamp))
    (set_attr_leads t cred handle attr (time_of stamp))
updates_lead t cred (call.Write handle offset bytes) stamp is =
    leads t (call.Write handle offset bytes) stamp
    (answered t.tree cred (call.Write handle offset bytes) (time_of stamp))
    (write_leads t cred handle offset bytes (time_of stamp))
updates_lead t cred (call.Create dir name attr) stamp is =
    leads t (call.Create dir name attr) stamp
    (answered t.tree cred (call.Create dir name attr) (time_of stamp))
    (create_leads t cred dir name attr (time_of stamp))
updates_lead t cred (call.Remove dir name) stamp is =
    leads t (call.Remove dir name) stamp
    (answered t.tree cred (call.Remove dir name) (time_of stamp))
    (remove_leads t cred dir name (time_of stamp))
updates_lead t cred (call.Rename dir name to_dir to_name) stamp is =
    leads t (call.Rename dir name to_dir to_name) stamp
    (answered t.tree cred (call.Rename dir name to_dir to_name) (time_of stamp))
    (rename_leads t cred dir name to_dir to_name (time_of stamp))
updates_lead t cred (call.Link handle dir name) stamp is =
    leads t (call.Link handle dir name) stamp
    (answered t.tree cred (call.Link handle dir name) (time_of stamp))
    (link_leads t cred handle dir name (time_of stamp))
updates_lead t cred (call.SymLink dir name text attr) stamp is =
    leads t (call.SymLink dir name text attr) stamp
    (answered t.tree cred (call.SymLink dir name text attr) (time_of stamp))
    (make_link_leads t cred dir name text attr (time_of stamp))
updates_lead t cred (call.MkDir dir name attr) stamp is =
    leads t (call.MkDir dir name attr) stamp
    (answered t.tree cred (call.MkDir dir name attr) (time_of stamp))
    (make_dir_leads t cred dir name attr (time_of stamp))
updates_lead t cred (call.RmDir dir name) stamp is =
    leads t (call.RmDir dir name) stamp (answered t.tree cred (call.RmDir dir name) (time_of stamp))
    (remove_dir_leads t cred dir name (time_of stamp))
updates_lead t cred call.Null stamp is = absurd cc
updates_lead t cred (call.GetAttr handle) stamp is = absurd cc
updates_lead t cred (call.Lookup dir name) stamp is = absurd cc
updates_lead t cred (call.ReadLink handle) stamp is = absurd cc
updates_lead t cred (call.Read handle offset count) stamp is = absurd cc
updates_lead t cred (call.ReadDir dir cookie count) stamp is = absurd cc
updates_lead t cred (call.StatFs handle) stamp is = absurd cc

-- ---- cells of clients and of saved logs

other_cell : (d c : Cell) → is_of_tree d ≡ true → is_of_tree c ≡ false → is_cell d c ≡ false
other_cell d c of other =
    false_from_ne_true (is_cell d c)
    (λ e. both_ways (is_of_tree c) other (ap is_of_tree (sym (is_cell_true d c e)) ∙ of))

no_block : (object first : ℕ) (c : Cell) → is_of_tree c ≡ false
    → is_block_from object first c ≡ false
unfolding is_block_from
no_block object first cell.Meta other = refl
no_block object first (cell.Object o) other = refl
no_block object first (cell.Block o b) other = absurd cc
no_block object first (cell.Slot o s) other = refl
no_block object first (cell.Client n) other = refl
no_block object first (cell.Saved p) other = refl

one_stays : (x : Change) (c : Cell) (held : Option Value) → changes_tree x ≡ true
    → is_of_tree c ≡ false
    → changed c held x ≡ held
one_stays (change.Put d v) c held of other =
    ap (λ (t : Bool). if◌then◌else◌ {A = Option Value} t (Some v) held)
    (other_cell d c (and_parts (is_of_tree d) (is_kind_of d v) of).0 other)
one_stays (change.Erase d) c held of other =
    ap (λ (t : Bool). if◌then◌else◌ {A = Option Value} t None held)
    (other_cell d c of other)
one_stays (change.EraseFrom object first) c held of other =
    ap (λ (t : Bool). if◌then◌else◌ {A = Option Value} t None held) (no_block object first c other)

all_stay : (changes : List Change) (c : Cell) (held : Option Value)
    → list_all changes_tree changes ≡ true
    → is_of_tree c ≡ false
    → fold (changed c) held changes ≡ held
all_stay [] c held of other = refl
all_stay (x ∷ changes) c held of other =
    let parts = and_parts (changes_tree x) (list_all changes_tree changes) of in
    ap (λ (v : Option Value). fold (changed c) v changes) (one_stays x c held parts.0 other)
    ∙ all_stay changes c held parts.1 other

pub others_stay : OthersStay
others_stay changes cells c of other = all_stay changes c (cells c) of other
