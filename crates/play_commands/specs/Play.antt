-- How a play of a schedule ends, on three servers with the disks and the packets of real ones.
use Rattle.std.specs.Prelude.{◌≡◌, ℕ, List, Option, ⊤}
use Rattle.group_trace.specs.DiskCalls.{measures_of}
use Rattle.schedule_play.specs.Ends.{PlayEnds}
use Rattle.schedule_play.specs.declared.exit.Exit.{Exit as Played}
use Rattle.schedule_play.specs.declared.exit.Exit.TheVariants as played
use Rattle.group_trace.specs.Scene.{Measures}
use Rattle.world.specs.World.{IsWorld, WorldValue}
use Rattle.world_rules.specs.Spellings.{spellings}
use Rattle.play_commands.specs.declared.exit.Exit.{Exit}
use Rattle.play_commands.specs.declared.exit.Exit.TheVariants as exit

-- the numbers of bytes of the records and messages of these servers
abbrev pub sizes : Measures
sizes = measures_of spellings

-- the exit of a play that ended so
abbrev pub exit_of_play : Played → Exit
exit_of_play played.Done = exit.Done
exit_of_play played.RefusedLine = exit.RefusedLine
exit_of_play played.SourceFailed = exit.SourceFailed
exit_of_play played.SinkFailed = exit.SinkFailed
exit_of_play played.NoMemory = exit.NoMemory

-- a play of a text ended so, in this world
pub record HasPlayed (text : List ℕ) (source before after : Option (List ℕ)) (world : WorldValue)
    (e : Exit) : Type 0 where
  pub ended : Played
  pub exit_is : e ≡ exit_of_play ended
  pub ends : PlayEnds spellings text source before after (λ w. IsWorld w world) ended

-- a play can end so
abbrev pub EndsPlay : Exit → Type 0
EndsPlay exit.Done = ⊤
EndsPlay exit.SaysNo = ⊥
EndsPlay exit.RefusedWords = ⊥
EndsPlay exit.SourceFailed = ⊤
EndsPlay exit.SinkFailed = ⊤
EndsPlay exit.RefusedLine = ⊤
EndsPlay exit.RefusedRecord = ⊥
EndsPlay exit.NoMemory = ⊤
EndsPlay exit.DiskFailed = ⊥
EndsPlay exit.LinkFailed = ⊥
EndsPlay exit.CallSpent = ⊥
EndsPlay exit.NetFull = ⊥
