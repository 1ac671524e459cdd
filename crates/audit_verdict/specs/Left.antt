-- What a power failure leaves of a data server of the group.
use Rattle.std.specs.Prelude.{◌≡◌, ◌≢◌, ℕ, List, take, Some}
use Rattle.file_tree.specs.Book.{Entry, tree_after}
use Rattle.file_tree.specs.Tree.{Tree}
use Rattle.harp_store.specs.Disk.{Moments, reads}
use Rattle.harp_store.specs.Mark.{MarkFields}
use Rattle.harp_types.specs.declared.state.Role.TheVariants as role
use Rattle.power_save.specs.Saved.{HoldRecords, saved_mark}
use Rattle.tree_listing.specs.Listing.{tree_listed}
use Rattle.tree_log.specs.Reading.{HoldsTree}
use Rattle.volatile_log.specs.Log.{IsLog, LogValue}
use Rattle.audit_verdict.specs.declared.verdict.Verdict.{Verdict}
use Rattle.audit_verdict.specs.declared.verdict.Verdict.TheVariants as verdict

-- A WHOLE POWER FAILURE LEFT THIS DISK of a data server: its mark has the numbers of the log, with
-- LB at AP; the cells hold its records, which are those of the entries of a list after its base;
-- and each other cell is of some moment of the list between AP and a number that is at most CP
pub record IsLeftByPower (list : List Entry) (log : LogValue) (h : Moments) : Type 0 where
  pub ring : ℕ
  pub before : MarkFields
  pub marked : h.now.mark ≡ Some (saved_mark ring log before)
  pub storer : before.role ≢ role.Outside
  pub order : IsLog log
  pub held : HoldRecords ring (reads h.now) log.base log.records
  pub tree : HoldsTree list log.cp log (Some h)

-- the tree after the committed updates
abbrev pub tree_at_cp : List Entry → LogValue → Tree
tree_at_cp list log = tree_after (take log.cp list)

-- the verdict says that the tree after the committed updates is sound, and lists it
abbrev pub TellsTree : List Entry → LogValue → Verdict → Type 0
TellsTree list log verdict.Unsaved = ⊥
TellsTree list log (verdict.Unsound found) = ⊥
TellsTree list log (verdict.Sound listing) =
    (listing.cp ≡ log.cp) × (listing.objects ≡ tree_listed (tree_at_cp list log))
