-- What shows of a folder that a store couldn't use, and what is said of it.
use Rattle.std.specs.Prelude.{ℕ, List, codes, Err, Ok, Option, Result}
use Rattle.harp_store.specs.Mark.{MarkFields}
use Rattle.harp_store.specs.declared.store.StoreFault.{StoreFault}
use Rattle.harp_store.specs.declared.store.StoreFault.TheVariants as fault
use Rattle.store_folder.specs.declared.trouble.Trouble.{Trouble}
use Rattle.store_folder.specs.declared.trouble.Trouble.TheVariants as trouble

-- behind the folder's name
abbrev pub said_of : Trouble → List ℕ
said_of trouble.NoFolder = codes " is no folder"
said_of trouble.InUse = codes " is in use"
said_of trouble.BadMark = codes "/mark can't be read"
said_of trouble.Other = codes " can't be used"

-- of a folder that is there and was free, by what its mark gave
abbrev pub shown_by : Result (Option MarkFields) StoreFault → Trouble
shown_by (Ok mark) = trouble.Other
shown_by (Err fault.Failed) = trouble.BadMark
shown_by (Err fault.NoMemory) = trouble.Other
