-- How doors to three servers end.
use Rattle.std.specs.Prelude.{◌≡◌, ℕ, List, Option, Result, Ok, Err, ⊤}
use Rattle.door_group.specs.Served.{DoorServed}
use Rattle.door_group.specs.declared.fault.ServedFault.{ServedFault}
use Rattle.door_group.specs.declared.fault.ServedFault.TheVariants as served
use Rattle.door_group.specs.declared.served.Caller.{Caller}
use Rattle.node_loop.specs.Scene.{Scene}
use Rattle.play_commands.specs.declared.exit.Exit.{Exit}
use Rattle.play_commands.specs.declared.exit.Exit.TheVariants as exit

-- how a command ends whose door to three servers ended so
abbrev pub exit_of_served : Result ℕ ServedFault → Exit
exit_of_served (Ok number) = exit.Done
exit_of_served (Err served.SourceFailed) = exit.SourceFailed
exit_of_served (Err served.SinkFailed) = exit.SinkFailed
exit_of_served (Err (served.BadRecord number)) = exit.RefusedRecord
exit_of_served (Err served.DiskFailed) = exit.DiskFailed
exit_of_served (Err served.LinkFailed) = exit.LinkFailed
exit_of_served (Err served.CallSpent) = exit.CallSpent
exit_of_served (Err served.NoMemory) = exit.NoMemory

-- HOW A DOOR TO THREE SERVERS ENDS: with this exit, and what it is that of
abbrev pub DoorServes : Caller → List ℕ → Option (List ℕ) → Option (List ℕ) → Option (List ℕ)
    → Scene → Scene → Exit → Type 0
DoorServes caller input source before after a now e =
    (ended : Result ℕ ServedFault) × (e ≡ exit_of_served ended)
    × DoorServed caller input source before after a now ended

-- it can end so
abbrev pub EndsDoor : Exit → Type 0
EndsDoor exit.Done = ⊤
EndsDoor exit.SaysNo = ⊥
EndsDoor exit.RefusedWords = ⊥
EndsDoor exit.SourceFailed = ⊤
EndsDoor exit.SinkFailed = ⊤
EndsDoor exit.RefusedLine = ⊥
EndsDoor exit.RefusedRecord = ⊤
EndsDoor exit.NoMemory = ⊤
EndsDoor exit.DiskFailed = ⊤
EndsDoor exit.LinkFailed = ⊤
EndsDoor exit.CallSpent = ⊤
EndsDoor exit.NetFull = ⊥
