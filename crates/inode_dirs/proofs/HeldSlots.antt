-- What a slot holds that cells tell.
use Rattle.std.proofs.Common.{◌≡◌, ℕ, get_or, Option, None, ◌∙◌}
use Rattle.file_tree.specs.Tree.{Slots}
use Rattle.harp_cells.specs.Effect.{Cells}
use Rattle.inode_dirs.specs.Slots.{TellsSlots, TellsSlot}

-- the cells are as they were when they told the slots
pub slot_then : (told now : Option Cells) (dir many : ℕ) (slots : Slots) (i : ℕ) → now ≡ told
    → TellsSlots told dir many slots → TellsSlot now dir i (get_or slots i None)
slot_then told now dir many slots i kept t =
    record { cells = t.cells; are = kept ∙ t.are; holds = t.holds i }

pub slots_then : (told now : Option Cells) (dir many : ℕ) (slots : Slots) → now ≡ told
    → TellsSlots told dir many slots → TellsSlots now dir many slots
slots_then told now dir many slots kept t =
    record { cells = t.cells; are = kept ∙ t.are; holds = t.holds; count = t.count }
