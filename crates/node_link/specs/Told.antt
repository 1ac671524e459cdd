-- The readings that a clock in memory keeps to tell them.
use Rattle.std.specs.Prelude.{ℕ, List, Option, Some, None, ◌+◌, ◌≤◌, length, ⊤}
use Rattle.std.specs.Global.{Vec}
use Rattle.std.specs.Option.{option_map}
use Rattle.std.specs.Vec.{vec_capacity, vec_len}
use Rattle.node_link.specs.declared.clock.Reading.{Reading}

abbrev pub shown : Option (Vec Reading) → Option (List Reading)
shown told = option_map (λ v. v.items) told

-- there is room to tell the readings ahead too
abbrev pub HasRoom : List ℕ → Option (Vec Reading) → Type 0
HasRoom ahead None = ⊤
HasRoom ahead (Some told) = vec_len told + length ahead ≤ vec_capacity told
