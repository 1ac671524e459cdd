-- What cells that are alike stand for.
use Rattle.std.proofs.Common.{Option, refl, ap, ◌∙◌}
use Rattle.file_tree.specs.Book.{last_stamp, tree_after}
use Rattle.harp_cells.specs.declared.cell.Cell.TheVariants as cell
use Rattle.harp_cells.specs.declared.value.Value.{Value}
use Rattle.harp_cells.specs.CellsOfTree.{StandForTree, stands_for}
use Rattle.fuzzy_cells.specs.Laws.{AlikeCellsStand}

-- cells that are alike stand for the same book
pub alike_stand : AlikeCellsStand
alike_stand cells others entries same h =
    let tree = tree_after entries in
    let stamp = last_stamp entries in
    let stands : StandForTree cells tree stamp = record {
      meta = ap (λ (v : Option Value). stands_for tree cell.Meta v) (same cell.Meta refl)
          ∙ h.tree.meta;
      object = λ object. ap (λ (v : Option Value). stands_for tree (cell.Object object) v)
          (same (cell.Object object) refl) ∙ (h.tree.object object);
      block = λ object block. ap (λ (v : Option Value). stands_for tree
          (cell.Block object block) v) (same (cell.Block object block) refl)
          ∙ (h.tree.block object block);
      ends = λ object block past. same (cell.Block object block) refl
          ∙ h.tree.ends object block past;
      slot = λ object slot. ap (λ (v : Option Value). stands_for tree (cell.Slot object slot) v)
          (same (cell.Slot object slot) refl) ∙ (h.tree.slot object slot);
    } in
    record { tree = stands; client = λ client. same (cell.Client client) refl ∙ h.client client }
