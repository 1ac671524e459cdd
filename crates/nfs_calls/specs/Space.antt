-- The blocks that a tree uses, by the sizes that are stored.
use Rattle.std.specs.Prelude.{ℕ, ◌+◌, ◌-◌, ◌==◌, nat_lt, min, Ok, if◌then◌else◌}
use Rattle.harp_types.specs.declared.reply.Status.TheVariants.{NoSpc}
use Rattle.file_tree.specs.Tree.{blocks_of}
use Rattle.file_tree.specs.Tries.{◌>>=◌, refuse, Tried}
use Rattle.harp_types.specs.Limits.{field_left, tree_blocks}
use Rattle.file_tree.specs.Outcome.{given}

-- a number as far as 32 bits hold it
abbrev pub capped : ℕ → ℕ
capped n = min n 4294967295

-- the used blocks where those of one size are replaced by those of another, as far as there is room
abbrev pub replaced_blocks : ℕ → ℕ → ℕ → Tried ℕ
replaced_blocks used old new = do
  _ ← refuse NoSpc (nat_lt (tree_blocks + blocks_of old) (used + blocks_of new))
  Ok (used + blocks_of new - blocks_of old)

-- the used blocks where a size is given
abbrev pub used_with : ℕ → ℕ → ℕ → Tried ℕ
used_with used old size = if size == field_left then Ok used else replaced_blocks used old size
