-- Which of the unsynced changes of a disk a crash keeps.
use Rattle.std.specs.Prelude.{ℕ, ◌%◌, Bool, true, false, length, slice_index_or}
use Rattle.harp_types.specs.declared.pick.Pick.{Pick}
use Rattle.harp_types.specs.declared.pick.Pick.TheVariants as pick

-- whether an unsynced change is kept, by its place among them; bits are repeated along the places
abbrev pub is_kept : Pick → ℕ → Bool
is_kept pick.All place = true
is_kept pick.None place = false
is_kept (pick.Bits bits) place = slice_index_or bits (place % length bits) false
