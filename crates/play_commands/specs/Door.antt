-- How doors to servers in memory end.
use Rattle.std.specs.Prelude.{◌≡◌, ◌⊎◌, ℕ, List, [], ◌∷◌, ◌++◌, Option, Some, Result, Ok, Err, ⊤}
use Rattle.harp_types.specs.declared.cred.Cred.{Cred}
use Rattle.door_play.specs.Played.{HasAnswered, HasGivenUp, IsLeft, calls_of}
use Rattle.rpc_door.specs.Group.{Tells, Unanswered}
use Rattle.rpc_door.specs.Serving.{DoorEnds, closed, side}
use Rattle.rpc_door.specs.declared.fault.DoorFault.{DoorFault}
use Rattle.rpc_door.specs.declared.fault.DoorFault.TheVariants as door
use Rattle.world.specs.World.{IsWorld, WorldValue}
use Rattle.world_rules.specs.Spellings.{spellings}
use Rattle.play_commands.specs.declared.exit.Exit.{Exit}
use Rattle.play_commands.specs.declared.exit.Exit.TheVariants as exit

-- how a command ends whose door ended so; a group in memory is full before it gives up a call
abbrev pub exit_of_door : Result ℕ DoorFault → Exit
exit_of_door (Ok number) = exit.Done
exit_of_door (Err door.ReadFault) = exit.SourceFailed
exit_of_door (Err door.WriteFault) = exit.SinkFailed
exit_of_door (Err (door.BadRecord number)) = exit.RefusedRecord
exit_of_door (Err door.GroupFailed) = exit.NetFull
exit_of_door (Err door.GroupSpent) = exit.NetFull
exit_of_door (Err door.NoMemory) = exit.NoMemory

-- ---- what was done behind a door

-- the calls so far were answered as by the one tree
abbrev pub Answered : Cred → Tells ⊤
Answered cred start made = HasAnswered spellings cred made

-- so they were, and this world is left where they led
abbrev pub AnsweredIn : Cred → WorldValue → Tells ⊤
AnsweredIn cred world start made =
    HasAnswered spellings cred made × IsLeft spellings cred made (λ w. IsWorld w world)

-- one call more was given up, since the network is full, and this world is left
abbrev pub GivenUpIn : Cred → WorldValue → Unanswered ⊤
GivenUpIn cred world why start made by call =
    HasGivenUp spellings cred (calls_of made ++ call ∷ []) (λ w. IsWorld w world)

-- A DOOR ENDED SO, where the calls so far are told like this
abbrev pub EndsIn : Cred → List ℕ → Option (List ℕ) → Option (List ℕ) → Option (List ℕ)
    → WorldValue → Tells ⊤ → Result ℕ DoorFault → Type 0
EndsIn cred input source before after world told ended =
    DoorEnds cred input source (closed before) (side told (GivenUpIn cred world) after) ended

-- nothing was read or written
abbrev pub IsUntouched : List ℕ → Option (List ℕ) → Option (List ℕ) → Option (List ℕ) → Type 0
IsUntouched input source before after = (source ≡ Some input) × (after ≡ before)

-- ---- the exits

-- HOW A DOOR TO SERVERS IN MEMORY ENDS: the calls that it made are answered as by the one tree, and
-- the world is left where they led. With status 10 one call more was given up, since the network was
-- full, or was full already as the view was opened. Without memory the world may be anything
abbrev pub DoorPlayed : Cred → List ℕ → Option (List ℕ) → Option (List ℕ) → Option (List ℕ)
    → WorldValue → Exit → Type 0
DoorPlayed cred input source before after world exit.Done =
    (number : ℕ) × EndsIn cred input source before after world (AnsweredIn cred world) (Ok number)
DoorPlayed cred input source before after world exit.SourceFailed =
    EndsIn cred input source before after world (AnsweredIn cred world) (Err door.ReadFault)
DoorPlayed cred input source before after world exit.SinkFailed =
    EndsIn cred input source before after world (AnsweredIn cred world) (Err door.WriteFault)
DoorPlayed cred input source before after world exit.RefusedRecord =
    (number : ℕ)
    × EndsIn cred input source before after world (AnsweredIn cred world)
    (Err (door.BadRecord number))
DoorPlayed cred input source before after world exit.NetFull =
    (IsUntouched input source before after
    × HasGivenUp spellings cred [] (λ w. IsWorld w world))
    ⊎ EndsIn cred input source before after world (Answered cred) (Err door.GroupFailed)
DoorPlayed cred input source before after world exit.NoMemory =
    IsUntouched input source before after
    ⊎ EndsIn cred input source before after world (Answered cred) (Err door.NoMemory)
DoorPlayed cred input source before after world exit.SaysNo = ⊥
DoorPlayed cred input source before after world exit.RefusedWords = ⊥
DoorPlayed cred input source before after world exit.RefusedLine = ⊥
DoorPlayed cred input source before after world exit.DiskFailed = ⊥
DoorPlayed cred input source before after world exit.LinkFailed = ⊥
DoorPlayed cred input source before after world exit.CallSpent = ⊥

-- a door in memory can end so
abbrev pub EndsDoorPlay : Exit → Type 0
EndsDoorPlay exit.Done = ⊤
EndsDoorPlay exit.SaysNo = ⊥
EndsDoorPlay exit.RefusedWords = ⊥
EndsDoorPlay exit.SourceFailed = ⊤
EndsDoorPlay exit.SinkFailed = ⊤
EndsDoorPlay exit.RefusedLine = ⊥
EndsDoorPlay exit.RefusedRecord = ⊤
EndsDoorPlay exit.NoMemory = ⊤
EndsDoorPlay exit.DiskFailed = ⊥
EndsDoorPlay exit.LinkFailed = ⊥
EndsDoorPlay exit.CallSpent = ⊥
EndsDoorPlay exit.NetFull = ⊤
