-- How a command ends that runs servers.
use Rattle.std.specs.Prelude.{◌≡◌, ◌⊎◌, ℕ, List, [], ◌∷◌, ◌++◌, codes, decimal, Option}
use Rattle.std.specs.Io.KnownBytes.{Appends}
use Rattle.harp_types.specs.Streams.{GrewByPart}
use Rattle.harp_types.specs.declared.server.ServerId.{ServerId}
use Rattle.node_loop.specs.Cut.{IsCutOff}
use Rattle.node_loop.specs.Run.{IsRun}
use Rattle.node_loop.specs.Scene.{Around, start}
use Rattle.node_loop.specs.declared.counts.Served.{Served}
use Rattle.text_spelling.specs.Text.{spaced}
use Rattle.play_commands.specs.declared.exit.Exit.{Exit}
use Rattle.play_commands.specs.declared.exit.Exit.TheVariants as exit
use Rattle.harp_cli.specs.declared.loop_words.Loop.{Loop}
use Rattle.harp_cli.specs.Words.{delta_of}

-- ---- what is written

-- the line with its line feed
unfoldable pub served_line : Served → List ℕ
served_line s =
    codes "turns" ++ spaced (decimal s.turns) ++ codes " taken" ++ spaced (decimal s.taken)
    ++ codes " sent" ++ spaced (decimal s.sent) ++ 10 ∷ []

-- ---- what servers did

-- the servers of these places took all their turns, and did this
abbrev pub HaveServed : List ServerId → Loop → Around → Around → Served → Type 0
HaveServed places runs old new served =
    IsRun (delta_of runs.delta) places runs.turns (start old.disks old.link old.clock) served
    new.disks new.link new.clock

-- they were cut off, and left this
abbrev pub AreCutOff : List ServerId → Loop → Around → Around → Type 0
AreCutOff places runs old new =
    IsCutOff (delta_of runs.delta) places runs.turns (start old.disks old.link old.clock) new

-- ---- the exits

-- what servers did was written whole, or a first part of it
abbrev pub WriteEnds : Served → Option (List ℕ) → Option (List ℕ) → Exit → Type 0
WriteEnds served before after exit.Done = Appends before after (served_line served)
WriteEnds served before after exit.SinkFailed = GrewByPart before after (served_line served)
WriteEnds served before after exit.NoMemory = GrewByPart before after (served_line served)
WriteEnds served before after exit.SaysNo = ⊥
WriteEnds served before after exit.RefusedWords = ⊥
WriteEnds served before after exit.SourceFailed = ⊥
WriteEnds served before after exit.RefusedLine = ⊥
WriteEnds served before after exit.RefusedRecord = ⊥
WriteEnds served before after exit.NetFull = ⊥
WriteEnds served before after exit.CallSpent = ⊥
WriteEnds served before after exit.DiskFailed = ⊥
WriteEnds served before after exit.LinkFailed = ⊥

-- they took all their turns, and what they did was written, so far as this exit says
pub record TellServed (places : List ServerId) (runs : Loop) (old new : Around)
    (before after : Option (List ℕ)) (e : Exit) : Type 0 where
  pub served : Served
  pub run : HaveServed places runs old new served
  pub wrote : WriteEnds served before after e

-- How servers of these places end: with 0 they took all their turns and the line was written, and
-- where the sink failed a part of it. Where a disk or the link failed they were cut off, and
-- nothing was written. Without memory it is either
abbrev pub ServeEnds : List ServerId → Loop → Around → Around → Option (List ℕ)
    → Option (List ℕ) → Exit → Type 0
ServeEnds places runs old new before after exit.Done =
    TellServed places runs old new before after exit.Done
ServeEnds places runs old new before after exit.SinkFailed =
    TellServed places runs old new before after exit.SinkFailed
ServeEnds places runs old new before after exit.DiskFailed =
    (after ≡ before) × AreCutOff places runs old new
ServeEnds places runs old new before after exit.LinkFailed =
    (after ≡ before) × AreCutOff places runs old new
ServeEnds places runs old new before after exit.NoMemory =
    ((after ≡ before) × AreCutOff places runs old new)
    ⊎ TellServed places runs old new before after exit.NoMemory
ServeEnds places runs old new before after exit.SaysNo = ⊥
ServeEnds places runs old new before after exit.RefusedWords = ⊥
ServeEnds places runs old new before after exit.SourceFailed = ⊥
ServeEnds places runs old new before after exit.RefusedLine = ⊥
ServeEnds places runs old new before after exit.RefusedRecord = ⊥
ServeEnds places runs old new before after exit.NetFull = ⊥
ServeEnds places runs old new before after exit.CallSpent = ⊥
