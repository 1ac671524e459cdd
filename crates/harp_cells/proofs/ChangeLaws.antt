-- Cells and changes undo their bytes.
use Rattle.std.proofs.Common.{◌≡◌, ℕ, ◌+◌, List, ◌++◌, length, drop, Some, Ok, refl, ap, arith}
use Rattle.harp_base.specs.Fields.{Read, Reader, Spells, field_as}
use Rattle.harp_types.specs.Numbered.{value_with_number}
use Rattle.harp_base.proofs.Codec.{IsBytes, IsCodec, u32_codec, part_takes, nothing_takes, field_as_again, fields_by_tag_codec}
use Rattle.harp_base.proofs.AttributeLaws.{then}
use Rattle.harp_cells.specs.declared.cell.Cell.{Cell}
use Rattle.harp_cells.specs.declared.cell.Cell.TheVariants as cell
use Rattle.harp_cells.specs.declared.change.Change.{Change}
use Rattle.harp_cells.specs.declared.change.Change.TheVariants as change
use Rattle.harp_cells.specs.declared.codec_forms.CellForm.{CellForm}
use Rattle.harp_cells.specs.declared.codec_forms.CellForm.TheVariants as form
use Rattle.harp_cells.specs.declared.codec_forms.ChangeForm.{ChangeForm}
use Rattle.harp_cells.specs.declared.codec_forms.ChangeForm.TheVariants as made
use Rattle.harp_cells.specs.CellBytes.{cell_form, cell_form_number, cell_forms, cell_fields, cell_bytes, CellFits, cell_fields_at, cell_at, change_form, change_form_number, change_forms, change_fields, change_bytes, ChangeFits, change_fields_at, change_at}
use Rattle.harp_cells.proofs.ValueLaws.{value_codec}

-- ---- cells

abbrev ok_cell : Cell → ℕ → Read Cell
ok_cell c n = Ok (c, n)

whole_form : (f : CellForm) → value_with_number cell_form_number cell_forms (cell_form_number f)
    ≡ Some f
whole_form form.Meta = refl
whole_form form.Object = refl
whole_form form.Block = refl
whole_form form.Slot = refl
whole_form form.Client = refl
whole_form form.Saved = refl

module _ {A : Type 0} {r : Reader A} {s : A → List ℕ} {F : A → Type 0} (codec : IsCodec r s F) where
  cell_takes : (f : A → Cell) (t : CellForm)
      → ((a : A) → F a → (cell_fields (f a) ≡ s a) × CellFits (f a) × (cell_form (f a) ≡ t))
      → (bytes : List ℕ) (at : ℕ) (x : Cell × ℕ) → IsBytes bytes → field_as f r bytes at ≡ Ok x
      → Spells bytes at (cell_fields x.0) x.1 × CellFits x.0 × (cell_form x.0 ≡ t)
  cell_takes f t = part_takes codec f cell_fields CellFits cell_form t

  cell_again : (f : A → Cell) (a : A) → F a → (bytes : List ℕ) (at : ℕ) (rest : List ℕ)
      → drop at bytes ≡ s a ++ rest → field_as f r bytes at ≡ Ok (f a, at + length (s a))
  cell_again f a fits bytes at rest e = field_as_again f r s F codec bytes at a rest fits e

  change_takes : (f : A → Change) (t : ChangeForm)
      → ((a : A) → F a → (change_fields (f a) ≡ s a) × ChangeFits (f a) × (change_form (f a) ≡ t))
      → (bytes : List ℕ) (at : ℕ) (x : Change × ℕ) → IsBytes bytes → field_as f r bytes at ≡ Ok x
      → Spells bytes at (change_fields x.0) x.1 × ChangeFits x.0 × (change_form x.0 ≡ t)
  change_takes f t = part_takes codec f change_fields ChangeFits change_form t

  change_again : (f : A → Change) (a : A) → F a → (bytes : List ℕ) (at : ℕ) (rest : List ℕ)
      → drop at bytes ≡ s a ++ rest → field_as f r bytes at ≡ Ok (f a, at + length (s a))
  change_again f a fits bytes at rest e = field_as_again f r s F codec bytes at a rest fits e

cell_fields_take : (t : CellForm) (bytes : List ℕ) (at : ℕ) (x : Cell × ℕ) → IsBytes bytes
    → cell_fields_at t bytes at ≡ Ok x
    → Spells bytes at (cell_fields x.0) x.1 × CellFits x.0 × (cell_form x.0 ≡ t)
unfolding cell_fields_at
cell_fields_take form.Meta bytes at x fits e =
    nothing_takes cell.Meta cell_fields CellFits cell_form form.Meta refl tt refl bytes at x e
cell_fields_take form.Object bytes at x fits e =
    cell_takes u32_codec cell.Object form.Object (λ n f. (refl, f, refl)) bytes at x fits e
cell_fields_take form.Block bytes at x fits e =
    cell_takes (then u32_codec u32_codec) (λ x. cell.Block x.0 x.1) form.Block
    (λ n f. (refl, f, refl)) bytes at x fits e
cell_fields_take form.Slot bytes at x fits e =
    cell_takes (then u32_codec u32_codec) (λ x. cell.Slot x.0 x.1) form.Slot
    (λ n f. (refl, f, refl)) bytes at x fits e
cell_fields_take form.Client bytes at x fits e =
    cell_takes u32_codec cell.Client form.Client (λ n f. (refl, f, refl)) bytes at x fits e
cell_fields_take form.Saved bytes at x fits e =
    cell_takes u32_codec cell.Saved form.Saved (λ n f. (refl, f, refl)) bytes at x fits e

cell_fields_again : (c : Cell) (bytes : List ℕ) (at : ℕ) (rest : List ℕ) → CellFits c
    → drop at bytes ≡ cell_fields c ++ rest
    → cell_fields_at (cell_form c) bytes at ≡ Ok (c, at + length (cell_fields c))
unfolding cell_fields_at
cell_fields_again cell.Meta bytes at rest f e = ap (λ (n : ℕ). ok_cell cell.Meta n) (omega arith)
cell_fields_again (cell.Object n) bytes at rest f e =
    cell_again u32_codec cell.Object n f bytes at rest e
cell_fields_again (cell.Block n i) bytes at rest f e =
    cell_again (then u32_codec u32_codec) (λ x. cell.Block x.0 x.1) (n, i) f bytes at rest e
cell_fields_again (cell.Slot n i) bytes at rest f e =
    cell_again (then u32_codec u32_codec) (λ x. cell.Slot x.0 x.1) (n, i) f bytes at rest e
cell_fields_again (cell.Client n) bytes at rest f e =
    cell_again u32_codec cell.Client n f bytes at rest e
cell_fields_again (cell.Saved n) bytes at rest f e =
    cell_again u32_codec cell.Saved n f bytes at rest e

pub cell_codec : IsCodec cell_at cell_bytes CellFits
unfolding cell_at
cell_codec =
    fields_by_tag_codec cell_form_number cell_forms cell_fields_at cell_form cell_fields CellFits
    whole_form cell_fields_take cell_fields_again

-- ---- changes

whole_change : (f : ChangeForm)
    → value_with_number change_form_number change_forms (change_form_number f) ≡ Some f
whole_change made.Put = refl
whole_change made.Erase = refl
whole_change made.EraseFrom = refl

change_fields_take : (t : ChangeForm) (bytes : List ℕ) (at : ℕ) (x : Change × ℕ) → IsBytes bytes
    → change_fields_at t bytes at ≡ Ok x
    → Spells bytes at (change_fields x.0) x.1 × ChangeFits x.0 × (change_form x.0 ≡ t)
unfolding change_fields_at
change_fields_take made.Put bytes at x fits e =
    change_takes (then cell_codec value_codec) (λ x. change.Put x.0 x.1) made.Put
    (λ n f. (refl, f, refl)) bytes at x fits e
change_fields_take made.Erase bytes at x fits e =
    change_takes cell_codec change.Erase made.Erase (λ n f. (refl, f, refl)) bytes at x fits e
change_fields_take made.EraseFrom bytes at x fits e =
    change_takes (then u32_codec u32_codec) (λ x. change.EraseFrom x.0 x.1) made.EraseFrom
    (λ n f. (refl, f, refl)) bytes at x fits e

change_fields_again : (c : Change) (bytes : List ℕ) (at : ℕ) (rest : List ℕ) → ChangeFits c
    → drop at bytes ≡ change_fields c ++ rest
    → change_fields_at (change_form c) bytes at ≡ Ok (c, at + length (change_fields c))
unfolding change_fields_at
change_fields_again (change.Put c v) bytes at rest f e =
    change_again (then cell_codec value_codec) (λ x. change.Put x.0 x.1) (c, v) f bytes at rest e
change_fields_again (change.Erase c) bytes at rest f e =
    change_again cell_codec change.Erase c f bytes at rest e
change_fields_again (change.EraseFrom o n) bytes at rest f e =
    change_again (then u32_codec u32_codec) (λ x. change.EraseFrom x.0 x.1) (o, n) f bytes at rest e

pub change_codec : IsCodec change_at change_bytes ChangeFits
unfolding change_at
change_codec =
    fields_by_tag_codec change_form_number change_forms change_fields_at change_form change_fields
    ChangeFits whole_change change_fields_take change_fields_again
