-- The numbers of kinds of objects.
use Rattle.std.specs.Prelude.{ℕ, Bool, true, false, Option, None, Some}
use Rattle.harp_types.specs.declared.attr.Kind.{Kind}
use Rattle.harp_types.specs.Numbered.{value_with_number}
use Rattle.harp_types.specs.Kinds.{kind_number, kinds}

abbrev pub lacks_kind : Option Kind → Bool
lacks_kind None = true
lacks_kind (Some kind) = false

-- a number of no kind of object
abbrev pub is_other_kind : ℕ → Bool
is_other_kind n = lacks_kind (value_with_number kind_number kinds n)
