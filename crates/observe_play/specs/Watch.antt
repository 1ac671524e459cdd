-- An observer and what was shown to it, as those of an observed run.
use Rattle.std.specs.Prelude.{◌≡◌, List, [], ◌∷◌, map, Option, None, Some, false, ⊤}
use Rattle.std.specs.List.{AllByRecursion}
use Rattle.fuzzy_cells.specs.History.{History}
use Rattle.group_trace.specs.Scene.{Measures}
use Rattle.harp_types.specs.Update.{is_update}
use Rattle.observed_text.specs.declared.line.ObservedLine.{ObservedLine}
use Rattle.observed_text.specs.declared.step.Act.{Act}
use Rattle.observed_text.specs.declared.step.Act.TheVariants as act
use Rattle.observer.specs.Sound.{IsSoundObserver, ObserverValue}
use Rattle.record_changes.specs.Records.{AreUpdates, history_of}
use Rattle.shown.specs.declared.shown.Shown.{Shown}
use Rattle.shown.specs.Truth.{IsShownOf}
use Rattle.observe_laws.specs.Run.{act_refusal, acted, given_lines}
use Rattle.observe_laws.specs.Scene.{ObservedScene, showing_of}

-- the observer, and what was shown to it, each under its place from 0
pub record WatchValue : Type 0 where
  pub observer : ObserverValue
  pub shown : List Shown

-- they are as far as those of an observed scene
pub record IsWatchOf (w : ObservedScene) (x : WatchValue) : Type 0 where
  pub progress : x.observer.progress ≡ w.progress
  pub shown : map showing_of x.shown ≡ w.shown

-- the observer is sound with a history, and all that was shown was shown truly of it
pub record IsTrueTo (history : History) (x : WatchValue) : Type 0 where
  pub sound : IsSoundObserver history x.observer
  pub truly : AllByRecursion (IsShownOf history) x.shown

-- THEY STAND AT AN OBSERVED SCENE: as far as there, and true to the updates of its group
pub record StandsAt (w : ObservedScene) (x : WatchValue) : Type 0 where
  pub is_of : IsWatchOf w x
  pub is_true : IsTrueTo (history_of w.scene.group.committed) x

-- ---- what an act leads to

-- the line that an act gives behind its event line, as a list
abbrev pub as_lines : Option ObservedLine → List ObservedLine
as_lines None = []
as_lines (Some l) = l ∷ []

-- AN ACT IS DONE in an observed scene: it isn't refused there, this is its line behind its event
-- line, and now the observer stands where it leads
pub record IsDone (m : Measures) (o : ObservedScene) (a : Act) (given : Option ObservedLine)
    (new : WatchValue) : Type 0 where
  pub not_refused : act_refusal o a ≡ None
  pub line_is : as_lines given ≡ given_lines m o a
  pub watch : StandsAt (acted m o a) new

-- in each observed scene whose list holds updates
abbrev pub Does : (old new : WatchValue) → Act → Option ObservedLine → Type 0
Does old new a given = (m : Measures) (o : ObservedScene)
    → AreUpdates o.scene.group.committed → StandsAt o old → IsDone m o a given new

-- a call that the observer is asked reads
abbrev pub AsksReads : Act → Type 0
AsksReads (act.Peek call) = is_update call ≡ false
AsksReads a = ⊤
