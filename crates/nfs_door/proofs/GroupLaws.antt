-- A word that isn't there.
use Rattle.std.proofs.Common.{◌≡◌, Err}
use Rattle.harp_base.specs.declared.field.Misread.{Misread}
use Rattle.harp_base.specs.declared.field.Misread.TheVariants.{Ends, BadTag, TooLong, NoMemory}
use Rattle.harp_base.specs.Fields.{Fails, Read}

-- what reading meets is a fault of it
pub fails_so : {A : Type 0} (e : Misread) (read : Read A) → read ≡ Err e → Fails e read
fails_so NoMemory read is = tt
fails_so (Ends from to) read is = is
fails_so (BadTag n) read is = is
fails_so (TooLong n) read is = is
