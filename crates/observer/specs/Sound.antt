-- What the copies of an observer hold of the history of a group.
use Rattle.std.specs.Prelude.{◌≡◌, ℕ, ◌≤◌, ◌<◌, true, false, max, length, Option, Some, None}
use Rattle.std.specs.Prelude.{if◌then◌else◌}
use Rattle.fuzzy_cells.specs.Fuzzy.{IsOfMoment}
use Rattle.fuzzy_cells.specs.History.{History, cells_at}
use Rattle.harp_cells.specs.declared.cell.Cell.{Cell}
use Rattle.harp_cells.specs.declared.value.Value.{Value}
use Rattle.harp_cells.specs.Effect.{Cells, is_cell}
use Rattle.harp_cells.specs.Memory.{Keyed, held}
use Rattle.cell_changes.specs.Short.{is_of_tree}
use Rattle.observer.specs.declared.phase.Phase.{Phase}
use Rattle.observer.specs.declared.phase.Phase.TheVariants as phase
use Rattle.observer.specs.declared.progress.Copied.{Copied}
use Rattle.observer.specs.declared.progress.Progress.{Progress}
use Rattle.observer.specs.Phases.{has_cells, is_to_come}

-- an observer: how far its copies are, and the cells of the finished one and of the new one
pub record ObserverValue : Type 0 where
  pub progress : Progress
  pub finished : Keyed
  pub copied : Keyed

-- a cell holds what was shown of it, and the others what they held
abbrev pub IsWith : Cell → Option Value → Keyed → Keyed → Type 0
IsWith d v old new = (c : Cell) → held new c ≡ (if is_cell d c then v else held old c)

-- ---- copies

-- each cell of the tree is the one after so many updates; those of clients are left aside
abbrev pub IsExact : History → ℕ → Cells → Type 0
IsExact history top cells = (c : Cell) → is_of_tree c ≡ true → cells c ≡ cells_at history top c

-- the phases that a copy comes to
abbrev pub IsPhase : Phase → Type 0
IsPhase (phase.Object number next) = number < next
IsPhase (phase.Part p number next at count) = number < next
IsPhase p = Unit {0}

-- A COPY UNDER WAY: each cell of the tree that isn't to come any more holds what it held after some
-- number of updates, from the copy's top to the greatest CP shown, chosen cell by cell; what is to
-- come is absent. Once no cell is to come, it is fuzzy between them
pub record IsUnderWay (history : History) (p : Copied) (cells : Cells) : Type 0 where
  pub phase : IsPhase p.phase
  pub order : has_cells p.phase ≡ false → p.top ≤ p.greatest
  pub within : max p.greatest p.top ≤ length history
  pub cell : (c : Cell) → is_of_tree c ≡ true → is_to_come p.phase c ≡ false
      → IsOfMoment history p.top (max p.greatest p.top) c (cells c)
  pub rest : (c : Cell) → is_of_tree c ≡ true → is_to_come p.phase c ≡ true → cells c ≡ None

abbrev pub IsSoundCopy : History → Option Copied → Cells → Type 0
IsSoundCopy history None cells = Unit {0}
IsSoundCopy history (Some p) cells = IsUnderWay history p cells

abbrev pub IsSoundFinished : History → Option ℕ → Cells → Type 0
IsSoundFinished history None cells = Unit {0}
IsSoundFinished history (Some top) cells = (top ≤ length history) × IsExact history top cells

-- THE OBSERVER IS SOUND: its finished copy is exact, and the new one is what it can be
pub record IsSoundObserver (history : History) (o : ObserverValue) : Type 0 where
  pub finished : IsSoundFinished history o.progress.finished (held o.finished)
  pub copy : IsSoundCopy history o.progress.copy (held o.copied)
