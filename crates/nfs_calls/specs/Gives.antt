-- What a function over cells gives.
use Rattle.std.specs.Prelude.{◌≡◌, Result, Ok, Err}
use Rattle.harp_types.specs.declared.reply.Status.{Status}
use Rattle.file_tree.specs.Tries.{Tried}
use Rattle.nfs_calls.specs.declared.error.CallError.{CallError}
use Rattle.nfs_calls.specs.declared.error.CallError.TheVariants as error

abbrev pub Fails : {Y : Type 0} → CallError → Tried Y → Type 0
Fails (error.Fault fault) step = Unit {0}
Fails (error.Status status) step = step ≡ Err status

-- what a function returned, seen by view, is the step's value or refusal, unless the cells couldn't
-- be read
abbrev pub Gives : {X Y : Type 0} → (X → Y) → Result X CallError → Tried Y → Type 0
Gives view (Ok x) step = step ≡ Ok (view x)
Gives view (Err e) step = Fails e step

-- the same of a function that reads no cells
abbrev pub Tells : {X Y : Type 0} → (X → Y) → Result X Status → Tried Y → Type 0
Tells view (Ok x) step = step ≡ Ok (view x)
Tells view (Err status) step = step ≡ Err status
