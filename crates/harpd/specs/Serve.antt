-- How a server ends that stays up.
use Rattle.std.specs.Prelude.{◌≡◌, ◌⊎◌, ℕ, ◌^◌, List, Option}
use Rattle.std.specs.Io.KnownBytes.{Appends}
use Rattle.harp_types.specs.Streams.{GrewByPart}
use Rattle.harp_types.specs.declared.server.ServerId.{ServerId}
use Rattle.node_loop.specs.Stay.{IsStay, IsStayCut, Outer as Around}
use Rattle.node_loop.specs.declared.counts.Stayed.{Stayed}
use Rattle.harpd.specs.Folders.{Done, with_entered, with_left}
use Rattle.harpd.specs.Texts.{stopped_line}
use Rattle.harpd.specs.Words.{delta_of}
use Rattle.harpd.specs.declared.exit.Exit.{Exit}
use Rattle.harpd.specs.declared.exit.Exit.TheVariants as exit
use Rattle.harpd.specs.declared.words.Loop.{Loop}

-- what a server runs on, as far as it is told, what was done to folders, and what was written
pub record Outer : Type 0 where
  pub around : Around
  pub done : List Done
  pub written : Option (List ℕ)

abbrev pub outer : Around → List Done → Option (List ℕ) → Outer
outer around done written = record { around = around; done = done; written = written }

-- so many turns it takes at most, if nobody tells it to stop
abbrev pub most_turns : ℕ
most_turns = 2 ^ 62

-- ---- what it did

-- it stayed up until it was told to stop, saved its log, and did this
abbrev pub HasStayed : ServerId → Loop → Outer → Outer → Stayed → Type 0
HasStayed place runs old new served =
    IsStay (delta_of runs.delta) place most_turns old.around served new.around

-- it was cut off in this folder, or never started; and nothing was written
pub record WasCut (place : ServerId) (runs : Loop) (folder : List ℕ) (old new : Outer)
    : Type 0 where
  pub left : IsStayCut (delta_of runs.delta) place most_turns old.around new.around
  pub silent : new.written ≡ old.written
  pub entered : (new.done ≡ old.done) ⊎ (new.done ≡ with_entered folder old.done)

-- ---- the exits

-- What it did was written whole, or a first part of it. Where its folder failed behind its end,
-- nothing was written
abbrev pub Tells : Stayed → Option (List ℕ) → Option (List ℕ) → Exit → Type 0
Tells served before after exit.Done = Appends before after (stopped_line served)
Tells served before after exit.SinkFailed = GrewByPart before after (stopped_line served)
Tells served before after exit.NoMemory =
    (after ≡ before) ⊎ GrewByPart before after (stopped_line served)
Tells served before after exit.DiskFailed = after ≡ before
Tells served before after exit.LinkFailed = ⊥
Tells served before after exit.RefusedWords = ⊥

-- Its folder was left behind its end. Where that failed, and maybe without memory, it wasn't
abbrev pub Leaves : List ℕ → List Done → List Done → Exit → Type 0
Leaves folder was is exit.Done = is ≡ with_left folder was
Leaves folder was is exit.SinkFailed = is ≡ with_left folder was
Leaves folder was is exit.NoMemory = (is ≡ was) ⊎ (is ≡ with_left folder was)
Leaves folder was is exit.DiskFailed = is ≡ was
Leaves folder was is exit.LinkFailed = ⊥
Leaves folder was is exit.RefusedWords = ⊥

-- it stayed up in this folder, and what it did was written, so far as this exit says
pub record TellsStay (place : ServerId) (runs : Loop) (folder : List ℕ) (old new : Outer)
    (e : Exit) : Type 0 where
  pub served : Stayed
  pub stayed : HasStayed place runs old new served
  pub tells : Tells served old.written new.written e
  pub leaves : Leaves folder (with_entered folder old.done) new.done e

-- How a server ends that is run in this folder: with 0 it stayed up until it was told to stop, saved
-- its log, and the line was written; where the link failed, it was cut off. Where the disk or its
-- folder failed, and without memory, it is either, and so it is where the folder was refused
abbrev pub ServerEnds : ServerId → Loop → List ℕ → Outer → Outer → Exit → Type 0
ServerEnds place runs folder old new exit.Done = TellsStay place runs folder old new exit.Done
ServerEnds place runs folder old new exit.SinkFailed =
    TellsStay place runs folder old new exit.SinkFailed
ServerEnds place runs folder old new exit.LinkFailed = WasCut place runs folder old new
ServerEnds place runs folder old new exit.DiskFailed =
    WasCut place runs folder old new ⊎ TellsStay place runs folder old new exit.DiskFailed
ServerEnds place runs folder old new exit.NoMemory =
    WasCut place runs folder old new ⊎ TellsStay place runs folder old new exit.NoMemory
ServerEnds place runs folder old new exit.RefusedWords = ⊥
