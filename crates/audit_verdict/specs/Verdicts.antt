-- When a verdict is the one on a disk.
use Rattle.std.specs.Prelude.{◌≡◌, ◌≢◌, ℕ, List, [], Option, Some, None}
use Rattle.audit.specs.Flaws.{findings}
use Rattle.audit.specs.Pictures.{picture_of}
use Rattle.audit.specs.Sound.{StandForNamed}
use Rattle.file_tree.specs.Sound.{IsSound}
use Rattle.file_tree.specs.Tree.{Tree}
use Rattle.harp_cells.specs.Effect.{Cells}
use Rattle.harp_store.specs.Disk.{Disk, Moments, reads}
use Rattle.tree_listing.specs.Listing.{tree_listed}
use Rattle.tree_listing.specs.declared.listing.Listed.{Listed}
use Rattle.audit_verdict.specs.Audited.{AreAudited, IsUnsaved}
use Rattle.audit_verdict.specs.declared.verdict.Verdict.{Verdict}
use Rattle.audit_verdict.specs.declared.verdict.Verdict.TheVariants as verdict

-- the objects are those of the tree that cells stand for
abbrev pub AreOfTree : Cells → List Listed → Type 0
AreOfTree held objects = (tree : Tree) (stamp : ℕ) → StandForNamed held tree stamp → IsSound tree
    → objects ≡ tree_listed tree

-- a verdict on cells after so many updates: what is wrong, or where nothing is the objects of the
-- tree that they stand for
abbrev pub IsVerdictOn : ℕ → Cells → Verdict → Type 0
IsVerdictOn cp held verdict.Unsaved = ⊥
IsVerdictOn cp held (verdict.Unsound found) =
    (found.items ≡ findings (picture_of held)) × (found.items ≢ [])
IsVerdictOn cp held (verdict.Sound listing) =
    (findings (picture_of held) ≡ []) × (listing.cp ≡ cp) × AreOfTree held listing.objects

-- on the cells of a disk that are audited
pub record IsOfAudited (d : Disk) (v : Verdict) : Type 0 where
  pub cp : ℕ
  pub held : Cells
  pub audited : AreAudited (reads d) d.mark cp held
  pub is : IsVerdictOn cp held v

-- THE VERDICT ON A DISK
abbrev pub IsVerdictOf : Disk → Verdict → Type 0
IsVerdictOf d verdict.Unsaved = IsUnsaved (reads d) d.mark
IsVerdictOf d (verdict.Unsound found) = IsOfAudited d (verdict.Unsound found)
IsVerdictOf d (verdict.Sound listing) = IsOfAudited d (verdict.Sound listing)

-- the same, where the disk is told
abbrev pub IsVerdictOfTold : Option Moments → Verdict → Type 0
IsVerdictOfTold None v = Unit {0}
IsVerdictOfTold (Some h) v = IsVerdictOf h.now v
