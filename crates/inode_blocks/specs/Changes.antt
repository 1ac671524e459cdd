-- The changes that writing and cutting a file's bytes are.
use Rattle.std.specs.Prelude.{◌≡◌, ℕ, ◌+◌, ◌-◌, ◌*◌, ◌/◌, ◌%◌, Bool, false, ◌&&◌, ◌==◌, nat_lt, List, [], ◌∷◌, ◌++◌, length, take, drop, map, Option, Some, None, if◌then◌else◌}
use Rattle.std.specs.List.{range_with_len}
use Rattle.harp_types.specs.Limits.{block_size}
use Rattle.file_tree.specs.Tree.{blocks_of}
use Rattle.file_tree.specs.Outcome.{written}
use Rattle.harp_cells.specs.declared.cell.Cell.{Cell}
use Rattle.harp_cells.specs.declared.cell.Cell.TheVariants as cell
use Rattle.harp_cells.specs.declared.value.Value.{Value}
use Rattle.harp_cells.specs.declared.value.Value.TheVariants as value
use Rattle.harp_cells.specs.declared.change.Change.{Change}
use Rattle.harp_cells.specs.declared.change.Change.TheVariants as change
use Rattle.harp_cells.specs.Effect.{Cells, after}
use Rattle.inode_blocks.specs.Holds.{stored, HoldsBytes, EndsAt}

-- ---- lists of changes

-- what was appended to a list of changes
abbrev pub added : List Change → List Change → List Change
added old new = drop (length old) new

-- a list of changes begins with these
abbrev pub BeginsWith : List Change → List Change → Type 0
BeginsWith new old = take (length old) new ≡ old

abbrev pub is_block_of : ℕ → Cell → Bool
is_block_of object (cell.Block of block) = of == object
is_block_of object cell.Meta = false
is_block_of object (cell.Object of) = false
is_block_of object (cell.Slot of slot) = false
is_block_of object (cell.Client client) = false
is_block_of object (cell.Saved at) = false

-- changes make the blocks of an object hold these bytes, and leave every other cell; where no block
-- stood past the size before, none stands past the end of these bytes
pub record LeadTo (changes : List Change) (cells : Cells) (object size : ℕ)
    (bytes : List ℕ) : Type 0 where
  pub holds : HoldsBytes (after changes cells) object bytes
  pub others : (c : Cell) → is_block_of object c ≡ false → after changes cells c ≡ cells c
  pub ends : EndsAt cells object size → EndsAt (after changes cells) object (length bytes)

abbrev pub put : ℕ → ℕ → List ℕ → Change
put object block bytes = change.Put (cell.Block object block) (value.Block bytes)

-- the object and the block that a change puts bytes in
abbrev pub block_put_at : Cell → Value → Option (ℕ × ℕ)
block_put_at (cell.Block object block) (value.Block bytes) = Some (object, block)
block_put_at c v = None

abbrev pub block_put : Change → Option (ℕ × ℕ)
block_put (change.Put c v) = block_put_at c v
block_put (change.Erase c) = None
block_put (change.EraseFrom object first) = None

-- ---- writing

-- the blocks that a range meets, ascending
abbrev pub blocks_met : ℕ → ℕ → List ℕ
blocks_met offset count =
    range_with_len (offset / block_size) (if count == 0 then 0
    else blocks_of (offset + count) - offset / block_size)

-- the part of bytes written at an offset that comes into a block
abbrev pub part_in : ℕ → List ℕ → ℕ → List ℕ
part_in offset bytes block =
    take (block_size - (offset - block_size * block)) (drop (block_size * block - offset) bytes)

-- what stands in a block of a file of a size: nothing past its end
abbrev pub stored_in : Cells → ℕ → ℕ → ℕ → List ℕ
stored_in cells object size block =
    if nat_lt (block_size * block) size then stored (cells (cell.Block object block)) else []

-- the bytes of a block after a write: what stood there before and behind those written, and zeros
-- between
abbrev pub block_written : Cells → ℕ → ℕ → ℕ → List ℕ → ℕ → List ℕ
block_written cells object size offset bytes block =
    written (stored_in cells object size block) (offset - block_size * block)
    (part_in offset bytes block)

-- a Put of each block that the range meets
abbrev pub puts : Cells → ℕ → ℕ → ℕ → List ℕ → List Change
puts cells object size offset bytes =
    map (λ block. put object block (block_written cells object size offset bytes block))
    (blocks_met offset (length bytes))

-- the text of a new link as its block 0, where it isn't empty
abbrev pub text_put : ℕ → List ℕ → List Change
text_put object [] = []
text_put object (b ∷ bytes) = put object 0 (b ∷ bytes) ∷ []

-- ---- cutting

-- what is kept of the block that a size cuts, where more stands there
abbrev pub kept_of : List ℕ → ℕ → Option (List ℕ)
kept_of bytes within =
    if (nat_lt 0 within)
    && (nat_lt within (length bytes)) then Some (take within bytes) else None

abbrev pub kept_in : Cells → ℕ → ℕ → Option (List ℕ)
kept_in cells object wanted =
    kept_of (stored (cells (cell.Block object (wanted / block_size)))) (wanted % block_size)

abbrev pub put_kept : ℕ → ℕ → Option (List ℕ) → List Change
put_kept object block None = []
put_kept object block (Some bytes) = put object block bytes ∷ []

-- an erasure, where whole blocks go
abbrev pub erasure : ℕ → ℕ → ℕ → List Change
erasure object size wanted =
    if nat_lt (block_size * blocks_of wanted) size then change.EraseFrom object (blocks_of wanted)
    ∷ [] else []

-- a Put of what is kept of the block that is cut, and an erasure; nothing where the file isn't cut
abbrev pub cuts : ℕ → ℕ → ℕ → Option (List ℕ) → List Change
cuts object size wanted kept =
    if nat_lt wanted size then put_kept object (wanted / block_size) kept
    ++ erasure object size wanted else []
