use Rattle.std.proofs.Common.{◌≡◌, [], sym, subst, ◌∙◌}
use Rattle.std.specs.Prelude.{IfOk}
use Rattle.std.proofs.lemmas.List.{append-nil}
use Rattle.harp_cells.specs.ValueBytes.{ValueFits, value_bytes}
use Rattle.store_folder.specs.CellFile.{ReadsFile}
use Rattle.store_folder.proofs.CellLaws.{file_found, file_only}
use Rattle.store_folder.proofs.cell_file.read_spelled.Goals as goal

pub returns : goal.returns
returns c = record {
  found = subst (λ r. IfOk r (λ v. (c.args.bytes.now ≡ value_bytes v) × ValueFits v))
      (sym c.whole.ensures)
      (file_found c.args.bytes.now c.read_value.result c.read_value.ensures.found);
  only = λ v fits e.
      subst (ReadsFile v) (sym c.whole.ensures)
      (file_only c.args.bytes.now c.read_value.result v e
      (c.read_value.ensures.only v [] fits (e ∙ sym (append-nil (value_bytes v)))));
}
