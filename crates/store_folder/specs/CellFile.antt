-- The file of a cell.
use Rattle.std.specs.Prelude.{◌≡◌, ℕ, ◌==◌, if◌then◌else◌, Result, Ok, Err}
use Rattle.event_record.specs.declared.record.RecordFields.{RecordFields}
use Rattle.harp_base.specs.declared.field.FieldFault.{FieldFault}
use Rattle.harp_base.specs.declared.field.FieldFault.TheVariants as fault
use Rattle.harp_cells.specs.declared.value.Value.{Value}
use Rattle.harp_cells.specs.declared.value.Value.TheVariants as value
use Rattle.harp_store.specs.declared.store.StoreFault.{StoreFault}
use Rattle.harp_store.specs.declared.store.StoreFault.TheVariants.{Failed, NoMemory}
use Rattle.power_save.specs.Saved.{IsValueOf}

-- this value was read, unless memory ran out
abbrev pub ReadsFile : Value → Result Value StoreFault → Type 0
ReadsFile v (Ok w) = w ≡ v
ReadsFile v (Err NoMemory) = Unit {0}
ReadsFile v (Err Failed) = ⊥

-- a saved record is exactly one of its form; any other value is whole as it is
abbrev pub IsWhole : Value → Type 0
IsWhole (value.SavedCred bytes) = (r : RecordFields) × IsValueOf (value.SavedCred bytes) r
IsWhole (value.Saved bytes) = (r : RecordFields) × IsValueOf (value.Saved bytes) r
IsWhole v = Unit {0}

-- what was read of a file of this length is its value where it is the whole file; any fault but
-- want of memory is a failure of the disk
abbrev pub whole_file : ℕ → Result (Value × ℕ) FieldFault → Result Value StoreFault
whole_file size (Ok x) = if x.1 == size then Ok x.0 else Err Failed
whole_file size (Err fault.NoMemory) = Err NoMemory
whole_file size (Err (fault.Short n)) = Err Failed
whole_file size (Err (fault.BadTag n)) = Err Failed
whole_file size (Err (fault.TooLong n)) = Err Failed
