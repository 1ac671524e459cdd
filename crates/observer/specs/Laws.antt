-- What holds of observers, as the book goes on.
use Rattle.std.specs.Prelude.{ℕ, ◌≤◌, List, ◌++◌, Option, Some, None}
use Rattle.file_tree.specs.Book.{Entry}
use Rattle.record_changes.specs.Records.{history_of}
use Rattle.observer.specs.declared.progress.Progress.{Progress}
use Rattle.shown.specs.declared.shown.Shown.{Shown}
use Rattle.shown.specs.Truth.{IsShownOf}
use Rattle.observer.specs.Progress.{taken}
use Rattle.observer.specs.Sound.{IsSoundObserver, ObserverValue}

-- sound with a book, it is sound with a longer one
abbrev pub BooksGoOn : Type 0
BooksGoOn = (entries more : List Entry) (o : ObserverValue)
    → IsSoundObserver (history_of entries) o → IsSoundObserver (history_of (entries ++ more)) o

-- what was shown truly stays so, so it may be taken late
abbrev pub ShownStaysTrue : Type 0
ShownStaysTrue = (entries more : List Entry) (s : Shown) → IsShownOf (history_of entries) s
    → IsShownOf (history_of (entries ++ more)) s

-- a finished copy with no fewer updates
abbrev pub IsNoOlder : Option ℕ → Option ℕ → Type 0
IsNoOlder None after = Unit {0}
IsNoOlder (Some top) None = ⊥
IsNoOlder (Some top) (Some after) = top ≤ after

-- the finished copy stays, and never has fewer updates
abbrev pub TopsNeverFall : Type 0
TopsNeverFall = (o : Progress) (s : Shown) → IsNoOlder o.finished (taken o s).finished
