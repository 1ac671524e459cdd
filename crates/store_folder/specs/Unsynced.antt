-- What was put and erased since the last sync.
use Rattle.std.specs.Prelude.{◌≡◌, ℕ, Bool, true, false, ◌&&◌, ◌||◌, ◌==◌, nat_le, min, List, Option, Some, None, IfSome, is_some, if◌then◌else◌}
use Rattle.std.specs.List.{list_any}
use Rattle.std.specs.Map.{lookup}
use Rattle.harp_cells.specs.declared.cell.Cell.{Cell}
use Rattle.harp_cells.specs.declared.value.Value.{Value}
use Rattle.harp_cells.specs.declared.change.Change.{Change}
use Rattle.harp_cells.specs.Effect.{Cells, changed, is_cell, key, is_key}
use Rattle.harp_cells.specs.Memory.{Keyed, held}

-- the values put and not erased since; the cells put or erased, by their keys; by objects, the
-- blocks from which on the object's blocks were erased; and the blocks that the disk has or will
-- have, by object and number
pub record Pending : Type 0 where
  pub values : Keyed
  pub touched : List ((ℕ × ℕ × ℕ) × Cell)
  pub cuts : List (ℕ × ℕ)
  pub blocks : List (ℕ × ℕ)

unfoldable pub is_touched : List ((ℕ × ℕ × ℕ) × Cell) → Cell → Bool
is_touched touched c = is_some (lookup (is_key (key c)) touched)

-- each cell stands at its own key
abbrev pub IsKeyed : List ((ℕ × ℕ × ℕ) × Cell) → Type 0
IsKeyed touched = (c : Cell) → IfSome (lookup (is_key (key c)) touched) (λ d. d ≡ c)

abbrev pub cut_of : List (ℕ × ℕ) → ℕ → Option ℕ
cut_of cuts object = lookup (λ n. object == n) cuts

abbrev pub is_from : Option ℕ → ℕ → Bool
is_from None block = false
is_from (Some first) block = nat_le first block

-- the cut after the blocks from a first one on were erased
abbrev pub earlier : Option ℕ → ℕ → ℕ
earlier None first = first
earlier (Some cut) first = min cut first

abbrev pub is_cut_key : List (ℕ × ℕ) → ℕ × ℕ × ℕ → Bool
is_cut_key cuts k = (k.0 == 3) && is_from (cut_of cuts k.1) k.2

-- a block of an object from the cut on
unfoldable pub is_cut : List (ℕ × ℕ) → Cell → Bool
is_cut cuts c = is_cut_key cuts (key c)

abbrev pub is_block_of : List (ℕ × ℕ) → ℕ × ℕ × ℕ → Bool
is_block_of blocks k = (k.0 == 3) && list_any (λ b. (k.1 == b.0) && (k.2 == b.1)) blocks

-- a block that the disk has or will have
unfoldable pub is_stored : List (ℕ × ℕ) → Cell → Bool
is_stored blocks c = is_block_of blocks (key c)

abbrev pub made_if : Bool → Option Value → Option (Option Value)
made_if is_made held = if is_made then Some held else None

-- what was made of a cell: nothing, a value put, or an erasure
abbrev pub made_of : Pending → Cell → Option (Option Value)
made_of p c = made_if (is_touched p.touched c || is_cut p.cuts c) (held p.values c)

abbrev pub over : Option Value → Option (Option Value) → Option Value
over on_disk None = on_disk
over on_disk (Some value) = value

-- WHAT READS GIVE over a disk
abbrev pub seen : Pending → Cells → Cells
seen p disk c = over (disk c) (made_of p c)

-- reads give what the change makes of them, whatever the disk holds
abbrev pub IsChanged : Change → Pending → Pending → Type 0
IsChanged change old new = (disk : Cells) (c : Cell)
    → seen new disk c ≡ changed c (seen old disk c) change

-- reads give the same
abbrev pub IsAlike : Pending → Pending → Type 0
IsAlike old new = (disk : Cells) (c : Cell) → seen new disk c ≡ seen old disk c

-- what was made of each cell stays
abbrev pub Stays : Pending → Pending → Type 0
Stays old new = (new.values.entries ≡ old.values.entries) × (new.touched ≡ old.touched)
    × (new.cuts ≡ old.cuts)

-- the disk has no block less
abbrev pub HasBlocks : Pending → Pending → Type 0
HasBlocks old new = (c : Cell) → is_stored old.blocks c ≡ true → is_stored new.blocks c ≡ true

abbrev pub is_block : Cell → Bool
is_block c = (key c).0 == 3

-- where this cell is a block, the disk has it too, and no other one more
abbrev pub GainsBlock : Cell → Pending → Pending → Type 0
GainsBlock cell old new = (c : Cell)
    → is_stored new.blocks c ≡ (if (is_block cell && is_cell cell c) then true
    else is_stored old.blocks c)

-- reads give what the disk holds
abbrev pub IsNothing : Pending → Type 0
IsNothing p = (disk : Cells) (c : Cell) → seen p disk c ≡ disk c
