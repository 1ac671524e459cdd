-- What is read of the cells that objects name.
use Rattle.std.proofs.Common.{◌≡◌, Bool, true, false, List, Option, Some, None, sym, ap, ◌∙◌}
use Rattle.std.proofs.Math.Logic.{∥∥₁_elim}
use Rattle.std.specs.Prelude.{if◌then◌else◌}
use mathlib.Core.Bool.{Bool-set}
use Rattle.harp_cells.specs.declared.cell.Cell.{Cell}
use Rattle.harp_cells.specs.declared.value.Value.{Value}
use Rattle.harp_cells.specs.Effect.{Cells, Reads}
use Rattle.audit.specs.declared.picture.Portrait.{Portrait}
use Rattle.audit.specs.Entries.{AreByNumber}
use Rattle.audit.specs.Named.{is_own, named_cells, named_told, names, own_value}

pub names_is : (objects : List Portrait) (c : Cell) (b : Bool) → ∥ AreByNumber objects ∥₁
    → (AreByNumber objects → b ≡ names objects c) → b ≡ names objects c
names_is objects c b order is = ∥∥₁_elim order (Bool-set b (names objects c)) is

shown_cell : (objects : List Portrait) (cells : Cells) (c : Cell) → names objects c ≡ true
    → named_cells objects cells c ≡ own_value c (cells c)
shown_cell objects cells c named =
    ap (λ (b : Bool). if b then own_value c (cells c) else None) named

-- a cell that is named
pub reads_named : (told : Option Cells) (objects : List Portrait) (c : Cell) (v : Option Value)
    (b : Bool) → names objects c ≡ true → Reads told c v → b ≡ is_own c v
    → Reads (named_told objects told) c (if b then v else None)
reads_named None objects c v b named read own = tt
reads_named (Some cells) objects c v b named read own =
    ap (λ (t : Bool). if t then v else None) own ∙ ap (own_value c) read
    ∙ sym (shown_cell objects cells c named)

-- and one that isn't
pub reads_nothing : (told : Option Cells) (objects : List Portrait) (c : Cell)
    → names objects c ≡ false → Reads (named_told objects told) c None
reads_nothing None objects c named = tt
reads_nothing (Some cells) objects c named =
    sym (ap (λ (b : Bool). if b then own_value c (cells c) else None) named)
