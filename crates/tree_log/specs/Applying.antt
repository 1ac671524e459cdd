-- What a log brings to its store, and what that leaves of the cells kept beside it.
use Rattle.std.specs.Prelude.{◌≡◌, ℕ, ◌+◌, Bool, false, List, min, Option, Contains}
use Rattle.std.specs.List.{list_any}
use Rattle.applier.specs.Applied.{changes_between}
use Rattle.cell_cache.specs.Entries.{Entries}
use Rattle.harp_cells.specs.declared.cell.Cell.{Cell}
use Rattle.harp_cells.specs.declared.value.Value.{Value}
use Rattle.harp_cells.specs.declared.change.Change.{Change}
use Rattle.harp_cells.specs.Effect.{sets}
use Rattle.volatile_log.specs.Log.{LogValue}
use Rattle.tree_log.specs.TreeLog.{changes_in}

-- at most so many records after AP, up to CP
abbrev pub applied_by : ℕ → LogValue → ℕ
applied_by most log = min (log.ap + most) log.cp

-- THE CHANGES of these records, one after the other
abbrev pub changes_by : ℕ → LogValue → List Change
changes_by most log = changes_between log.base (changes_in log.records) log.ap (applied_by most log)

-- one of the changes sets the cell
unfoldable pub sets_one : List Change → Cell → Bool
sets_one changes c = list_any (λ x. sets x c) changes

-- of the entries those are left whose cells no change sets, and maybe fewer
pub record AreLeftBy (changes : List Change) (old new : Entries) : Type 0 where
  pub were : (e : Cell × Option Value) → Contains new e → Contains old e
  pub unset : (e : Cell × Option Value) → Contains new e → sets_one changes e.0 ≡ false
