-- What is read of a cell's file.
use Rattle.std.proofs.Common.{◌≡◌, ℕ, Bool, true, false, cond, eqb, List, ◌++◌, length, drop, Result, Ok, Err, refl, sym, ap, subst, ◌∙◌}
use Rattle.std.specs.Prelude.{IfOk}
use Rattle.std.proofs.Math.Seq.{drop-length}
use Rattle.std.proofs.lemmas.Bool.{eqb-true, eq-eqb}
use Rattle.std.proofs.lemmas.List.{append-nil}
use Rattle.harp_base.specs.Fields.{Spells, Tells}
use Rattle.harp_base.specs.declared.field.FieldFault.{FieldFault}
use Rattle.harp_base.specs.declared.field.FieldFault.TheVariants as fault
use Rattle.harp_cells.specs.declared.value.Value.{Value}
use Rattle.harp_cells.specs.ValueBytes.{ValueFits, value_bytes}
use Rattle.store_folder.specs.CellFile.{ReadsFile, whole_file}

abbrev Read : Type 0
Read = Result (Value × ℕ) FieldFault

abbrev Found : List ℕ → Value → Type 0
Found bytes v = (bytes ≡ value_bytes v) × ValueFits v

found_if : (bytes : List ℕ) (x : Value × ℕ) (b : Bool) → eqb x.1 (length bytes) ≡ b
    → Spells bytes 0 (value_bytes x.0) x.1 × ValueFits x.0
    → IfOk (cond b (Ok x.0) (whole_file 0 (Err (fault.Short 0)))) (Found bytes)
found_if bytes x true is found = (
  found.0.parts
      ∙ ap (λ (l : List ℕ). value_bytes x.0 ++ l)
      (ap (λ (n : ℕ). drop n bytes) (eqb-true x.1 (length bytes) is) ∙ drop-length bytes)
      ∙ append-nil (value_bytes x.0),
  found.1,
)
found_if bytes x false is found = tt

pub file_found : (bytes : List ℕ) (r : Read)
    → IfOk r (λ x. Spells bytes 0 (value_bytes x.0) x.1 × ValueFits x.0)
    → IfOk (whole_file (length bytes) r) (Found bytes)
file_found bytes (Ok x) found = found_if bytes x (eqb x.1 (length bytes)) refl found
file_found bytes (Err fault.NoMemory) found = tt
file_found bytes (Err (fault.Short n)) found = tt
file_found bytes (Err (fault.BadTag n)) found = tt
file_found bytes (Err (fault.TooLong n)) found = tt

read_is : (x y : Value × ℕ) (r : Read) → r ≡ Ok x → r ≡ Ok y → x ≡ y
read_is x y r e f = cc

only_ok : (bytes : List ℕ) (v : Value) (x : Value × ℕ) → bytes ≡ value_bytes v
    → (v, length (value_bytes v)) ≡ x → ReadsFile v (whole_file (length bytes) (Ok x))
only_ok bytes v x e is =
    let size : eqb (length (value_bytes v)) (length bytes) ≡ true =
    eq-eqb _ _ (ap length (sym e)) in
    subst (λ (y : Value × ℕ). ReadsFile v (whole_file (length bytes) (Ok y))) is (rw size refl)

pub file_only : (bytes : List ℕ) (r : Read) (v : Value) → bytes ≡ value_bytes v
    → Tells r (Ok (v, length (value_bytes v))) → ReadsFile v (whole_file (length bytes) r)
file_only bytes (Ok x) v e told =
    only_ok bytes v x e (read_is (v, length (value_bytes v)) x (Ok x) (sym told) refl)
file_only bytes (Err fault.NoMemory) v e told = tt
file_only bytes (Err (fault.Short n)) v e told = absurd cc
file_only bytes (Err (fault.BadTag n)) v e told = absurd cc
file_only bytes (Err (fault.TooLong n)) v e told = absurd cc
