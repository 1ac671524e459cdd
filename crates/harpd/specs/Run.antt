-- How the program ends.
use Rattle.std.specs.Prelude.{◌≡◌, ◌⊎◌, ℕ, List, String}
use Rattle.std.specs.Global.{Global}
use Rattle.harpd.specs.Door.{DoorEnds, Doorway}
use Rattle.harpd.specs.Folders.{Done, with_made}
use Rattle.harpd.specs.Serve.{Outer, ServerEnds}
use Rattle.harpd.specs.Texts.{UsageEnds, Writes, WritesSome, version_text}
use Rattle.harpd.specs.Words.{AsksFor, IsForm, texts, word_at}
use Rattle.harpd.specs.declared.exit.Exit.{Exit}
use Rattle.harpd.specs.declared.exit.Exit.TheVariants as exit
use Rattle.harpd.specs.declared.words.Command.{Command}
use Rattle.harpd.specs.declared.words.Command.TheVariants as command

-- with 0 this folder was made
abbrev pub InitEnds : List ℕ → (was is : List Done) → Exit → Type 0
InitEnds folder was is exit.Done = is ≡ with_made folder was
InitEnds folder was is exit.DiskFailed = is ≡ was
InitEnds folder was is exit.NoMemory = is ≡ was
InitEnds folder was is exit.SinkFailed = ⊥
InitEnds folder was is exit.LinkFailed = ⊥
InitEnds folder was is exit.RefusedWords = ⊥

-- What each command does, over what it runs on, by these words: a server is run in the folder that
-- the fourth one names, and the one that the second names is made. Nothing else is done to folders,
-- and what makes one, or serves connections, writes nothing
abbrev pub CommandEnds : {N L C : Type 0} → Command → List (List ℕ) → Doorway N L C
    → (old new : Outer) → Exit → Type 0
CommandEnds (command.Server place runs) words door old new e =
    ServerEnds place runs (word_at words 3) old new e
CommandEnds (command.Door serves) words door old new e =
    DoorEnds door serves e × (new.done ≡ old.done) × (new.written ≡ old.written)
CommandEnds command.Init words door old new e =
    InitEnds (word_at words 1) old.done new.done e × (new.written ≡ old.written)
CommandEnds command.Help words door old new e =
    WritesSome old.written new.written e × (new.done ≡ old.done)
CommandEnds command.Version words door old new e =
    Writes version_text old.written new.written e × (new.done ≡ old.done)

-- the words ask for a command, and it was done
pub record DoesCommand {N L C : Type 0} (words : List (String Global)) (door : Doorway N L C)
    (old new : Outer) (e : Exit) : Type 0 where
  pub command : Command
  pub asked : AsksFor words command
  pub ends : CommandEnds command (texts words) door old new e

-- on words of no form it is said how the program is called
pub record SaysUsage (words : List (String Global)) (old new : Outer) (e : Exit) : Type 0 where
  pub no_form : IsForm words → ⊥
  pub usage : UsageEnds old.written new.written e
  pub kept : new.done ≡ old.done

-- HOW THE PROGRAM ENDS: it does what the words ask for, or says how it is called
abbrev pub Ends : {N L C : Type 0} → List (String Global) → Doorway N L C → (old new : Outer) → Exit
    → Type 0
Ends words door old new e = DoesCommand words door old new e ⊎ SaysUsage words old new e
