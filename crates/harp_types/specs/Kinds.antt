-- The numbers of kinds.
use Rattle.std.specs.Prelude.{ℕ, List, [], ◌∷◌}
use Rattle.harp_types.specs.declared.attr.Kind.{Kind}
use Rattle.harp_types.specs.declared.attr.Kind.TheVariants.{Regular, Directory, Link}

abbrev pub kind_number : Kind → ℕ
kind_number Regular = 1
kind_number Directory = 2
kind_number Link = 5

abbrev pub kinds : List Kind
kinds = Regular ∷ Directory ∷ Link ∷ []
