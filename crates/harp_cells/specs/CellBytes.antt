-- Cells and their changes as bytes.
use Rattle.std.specs.Prelude.{ℕ, ◌<◌, ◌^◌, List, [], ◌∷◌, ◌++◌, Ok}
use Rattle.harp_base.specs.Fields.{Reader, ◌⊗◌, field_as, fields_by_tag, tag_at, u32_at, u32_bytes}
use Rattle.harp_cells.specs.declared.cell.Cell.{Cell}
use Rattle.harp_cells.specs.declared.cell.Cell.TheVariants as cell
use Rattle.harp_cells.specs.declared.change.Change.{Change}
use Rattle.harp_cells.specs.declared.change.Change.TheVariants as change
use Rattle.harp_cells.specs.declared.codec_forms.CellForm.{CellForm}
use Rattle.harp_cells.specs.declared.codec_forms.CellForm.TheVariants as form
use Rattle.harp_cells.specs.declared.codec_forms.ChangeForm.{ChangeForm}
use Rattle.harp_cells.specs.declared.codec_forms.ChangeForm.TheVariants as made
use Rattle.harp_cells.specs.ValueBytes.{ValueFits, value_bytes, value_at}

-- ---- cells

abbrev pub cell_form : Cell → CellForm
cell_form cell.Meta = form.Meta
cell_form (cell.Object object) = form.Object
cell_form (cell.Block object block) = form.Block
cell_form (cell.Slot object slot) = form.Slot
cell_form (cell.Client client) = form.Client
cell_form (cell.Saved at) = form.Saved

abbrev pub cell_form_number : CellForm → ℕ
cell_form_number form.Meta = 1
cell_form_number form.Object = 2
cell_form_number form.Block = 3
cell_form_number form.Slot = 4
cell_form_number form.Client = 5
cell_form_number form.Saved = 6

abbrev pub cell_forms : List CellForm
cell_forms = form.Meta ∷ form.Object ∷ form.Block ∷ form.Slot ∷ form.Client ∷ form.Saved ∷ []

abbrev pub cell_fields : Cell → List ℕ
cell_fields cell.Meta = []
cell_fields (cell.Object object) = u32_bytes object
cell_fields (cell.Block object block) = u32_bytes object ++ u32_bytes block
cell_fields (cell.Slot object slot) = u32_bytes object ++ u32_bytes slot
cell_fields (cell.Client client) = u32_bytes client
cell_fields (cell.Saved at) = u32_bytes at

-- the one spelling of a cell: the number of its form, and the numbers that name it
abbrev pub cell_bytes : Cell → List ℕ
cell_bytes c = cell_form_number (cell_form c) ∷ cell_fields c

abbrev pub CellFits : Cell → Type 0
CellFits cell.Meta = Unit {0}
CellFits (cell.Object object) = object < 2 ^ 32
CellFits (cell.Block object block) = (object < 2 ^ 32) × (block < 2 ^ 32)
CellFits (cell.Slot object slot) = (object < 2 ^ 32) × (slot < 2 ^ 32)
CellFits (cell.Client client) = client < 2 ^ 32
CellFits (cell.Saved at) = at < 2 ^ 32

unfoldable pub cell_fields_at : CellForm → Reader Cell
cell_fields_at form.Meta bytes at = Ok (cell.Meta, at)
cell_fields_at form.Object bytes at = field_as cell.Object u32_at bytes at
cell_fields_at form.Block bytes at =
    field_as (λ x. cell.Block x.0 x.1) (u32_at ⊗ u32_at) bytes at
cell_fields_at form.Slot bytes at = field_as (λ x. cell.Slot x.0 x.1) (u32_at ⊗ u32_at) bytes at
cell_fields_at form.Client bytes at = field_as cell.Client u32_at bytes at
cell_fields_at form.Saved bytes at = field_as cell.Saved u32_at bytes at

unfoldable pub cell_at : Reader Cell
cell_at = fields_by_tag (tag_at cell_form_number cell_forms) cell_fields_at

-- ---- changes

abbrev pub change_form : Change → ChangeForm
change_form (change.Put cell value) = made.Put
change_form (change.Erase cell) = made.Erase
change_form (change.EraseFrom object first) = made.EraseFrom

abbrev pub change_form_number : ChangeForm → ℕ
change_form_number made.Put = 1
change_form_number made.Erase = 2
change_form_number made.EraseFrom = 3

abbrev pub change_forms : List ChangeForm
change_forms = made.Put ∷ made.Erase ∷ made.EraseFrom ∷ []

abbrev pub change_fields : Change → List ℕ
change_fields (change.Put cell value) = cell_bytes cell ++ value_bytes value
change_fields (change.Erase cell) = cell_bytes cell
change_fields (change.EraseFrom object first) = u32_bytes object ++ u32_bytes first

-- the one spelling of a change: the number of its form, and its fields
abbrev pub change_bytes : Change → List ℕ
change_bytes c = change_form_number (change_form c) ∷ change_fields c

abbrev pub ChangeFits : Change → Type 0
ChangeFits (change.Put cell value) = CellFits cell × ValueFits value
ChangeFits (change.Erase cell) = CellFits cell
ChangeFits (change.EraseFrom object first) = (object < 2 ^ 32) × (first < 2 ^ 32)

unfoldable pub change_fields_at : ChangeForm → Reader Change
change_fields_at made.Put bytes at =
    field_as (λ x. change.Put x.0 x.1) (cell_at ⊗ value_at) bytes at
change_fields_at made.Erase bytes at = field_as change.Erase cell_at bytes at
change_fields_at made.EraseFrom bytes at =
    field_as (λ x. change.EraseFrom x.0 x.1) (u32_at ⊗ u32_at) bytes at

unfoldable pub change_at : Reader Change
change_at = fields_by_tag (tag_at change_form_number change_forms) change_fields_at
