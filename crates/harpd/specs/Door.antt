-- How a door ends.
use Rattle.std.specs.Prelude.{◌≡◌, ◌⊎◌, ◌≤◌, Result, Ok, Err, ⊤}
use Rattle.door_seats.specs.Doors.{Serves, Tells, outer_of}
use Rattle.door_seats.specs.declared.door.Outside.{Outside}
use Rattle.door_seats.specs.declared.rule.Rule.{Rule}
use Rattle.node_link.specs.declared.link.LinkFault.{LinkFault}
use Rattle.node_link.specs.declared.link.LinkFault.TheVariants.{Failed, NoMemory}
use Rattle.harpd.specs.declared.exit.Exit.{Exit}
use Rattle.harpd.specs.declared.exit.Exit.TheVariants as exit
use Rattle.harpd.specs.declared.words.Serving.{Serving}

-- what a door has around it, before and behind, and what that tells
pub record Doorway (N L C : Type 0) : Type 0 where
  pub tells : Tells N L C
  pub was : Outside N L C
  pub is : Outside N L C

abbrev pub doorway : {N L C : Type 0} → Tells N L C → Outside N L C → Outside N L C → Doorway N L C
doorway tells was is = record { tells = tells; was = was; is = is }

-- nothing was told anew
abbrev pub TellsNothing : {N L C : Type 0} → Tells N L C → Outside N L C → Outside N L C → Type 0
TellsNothing t was is = outer_of t is ≡ outer_of t was

-- by what records are answered, and of which servers their calls are asked: as the words say
abbrev pub rule_of : Serving → Rule
rule_of serves = record { everyone = serves.everyone; port = serves.port }

abbrev pub exit_of_served : Result ⊤ LinkFault → Exit
exit_of_served (Ok x) = exit.Done
exit_of_served (Err Failed) = exit.LinkFailed
exit_of_served (Err NoMemory) = exit.NoMemory

-- connections were served behind the opening of the door, by which nothing was told
pub record HasServed {N L C : Type 0} (d : Doorway N L C) (serves : Serving)
    (result : Result ⊤ LinkFault) : Type 0 where
  pub opened : Outside N L C
  pub silent : TellsNothing d.tells d.was opened
  pub count : d.tells.faults d.was.link ≤ d.tells.faults opened.link
  pub served : Serves d.tells (rule_of serves) serves.client result opened d.is

-- HOW A DOOR ENDS: with 0 it took its turns; where connections or link failed it wasn't opened, or
-- was cut off, and without memory it was cut off
abbrev pub DoorEnds : {N L C : Type 0} → Doorway N L C → Serving → Exit → Type 0
DoorEnds d serves exit.Done = HasServed d serves (Ok tt)
DoorEnds d serves exit.LinkFailed =
    TellsNothing d.tells d.was d.is ⊎ HasServed d serves (Err Failed)
DoorEnds d serves exit.NoMemory = HasServed d serves (Err NoMemory)
DoorEnds d serves exit.SinkFailed = ⊥
DoorEnds d serves exit.DiskFailed = ⊥
DoorEnds d serves exit.RefusedWords = ⊥
