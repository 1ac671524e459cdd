-- What holds of pictures and their findings.
use Rattle.std.specs.Prelude.{◌≡◌, ◌↔◌, ℕ, ◌<◌, ◌^◌, [], length}
use Rattle.file_tree.specs.Sound.{IsSound}
use Rattle.file_tree.specs.Tree.{Tree}
use Rattle.harp_cells.specs.CellsOfTree.{StandForTree}
use Rattle.harp_cells.specs.Effect.{Cells}
use Rattle.audit.specs.declared.picture.Picture.{Picture}
use Rattle.audit.specs.Flaws.{findings}
use Rattle.audit.specs.Named.{named_cells}
use Rattle.audit.specs.Pictures.{IsShaped, picture_of}
use Rattle.audit.specs.Rescued.{AreWell, StandForOne}
use Rattle.audit.specs.Sound.{IsSoundPicture, StandForNamed}

-- nothing is found exactly in a sound picture
abbrev pub SoundWhereNothingIsFound : Type 0
SoundWhereNothingIsFound = (p : Picture) → IsShaped p → findings p ≡ [] ↔ IsSoundPicture p

-- nothing is found in the picture of cells that stand for a tree as calls make them
abbrev pub NothingIsFoundInATree : Type 0
NothingIsFoundInATree = (cells : Cells) (tree : Tree) (stamp : ℕ) → length tree < 2 ^ 32
    → StandForNamed cells tree stamp → IsSound tree → findings (picture_of cells) ≡ []

-- cells that stand for a whole tree stand for what is named in it
abbrev pub WholeTreesStand : Type 0
WholeTreesStand = (cells : Cells) (tree : Tree) (stamp : ℕ) → StandForTree cells tree stamp
    → StandForNamed cells tree stamp

-- cells that are well formed one by one, and in whose picture nothing is found, stand for a tree
abbrev pub WellCellsStandForOne : Type 0
WellCellsStandForOne = (cells : Cells) → (picture_of cells).next < 2 ^ 32 → AreWell cells
    → findings (picture_of cells) ≡ [] → StandForOne cells

-- of cells that stand for what is named in a tree, those that their picture names stand for the
-- whole tree
abbrev pub NamedCellsStand : Type 0
NamedCellsStand = (cells : Cells) (tree : Tree) (stamp : ℕ) → StandForNamed cells tree stamp
    → IsSound tree
    → StandForTree (named_cells (picture_of cells).objects cells) tree stamp
