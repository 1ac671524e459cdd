-- HOW A DOOR TO THREE SERVERS ENDS.
use Rattle.std.specs.Prelude.{◌≡◌, ◌⊎◌, ℕ, List, Option, None, Some, Result, Ok, Err, ⊤}
use Rattle.harp_types.specs.Limits.{first_promise}
use Rattle.harp_types.specs.declared.call.Call.{Call}
use Rattle.harp_types.specs.declared.cred.Cred.{Cred}
use Rattle.harp_types.specs.declared.server.ServerId.TheVariants.{Zero}
use Rattle.door_group.specs.Rule.{AreMade, Before, GivesUp, IsMade, Outcome}
use Rattle.client_calls.specs.First.{first_number}
use Rattle.door_group.specs.Local.{AskBreaks, AskedAt, TurnBreaks, Turned}
use Rattle.node_link.specs.Readings.{MayTell}
use Rattle.node_loop.specs.Chain.{Chain}
use Rattle.node_loop.specs.Cut.{IsUnstarted}
use Rattle.node_loop.specs.Run.{BootsAt}
use Rattle.node_loop.specs.Scene.{Around, Scene, all_places, around_in}
use Rattle.node_loop.specs.declared.fault.LoopFault.{LoopFault}
use Rattle.node_loop.specs.declared.fault.LoopFault.TheVariants as loop
use Rattle.rpc_door.specs.Group.{Tells, Unanswered}
use Rattle.rpc_door.specs.Serving.{DoorEnds, closed, side}
use Rattle.rpc_door.specs.declared.fault.DoorFault.{DoorFault}
use Rattle.rpc_door.specs.declared.fault.DoorFault.TheVariants as door
use Rattle.rpc_door.specs.declared.group.Exchange.{Exchange}
use Rattle.rpc_door.specs.declared.group.GroupFault.{GroupFault}
use Rattle.door_group.specs.declared.fault.ServedFault.{ServedFault}
use Rattle.door_group.specs.declared.fault.ServedFault.TheVariants as fault
use Rattle.door_group.specs.declared.served.Caller.{Caller}

-- ---- faults

abbrev pub by_loop : LoopFault → ServedFault
by_loop loop.StoreFailed = fault.DiskFailed
by_loop loop.LinkFailed = fault.LinkFailed
by_loop loop.NoMemory = fault.NoMemory

-- the fault of a door whose servers were ended by this
abbrev pub by_ended : Option LoopFault → ServedFault
by_ended None = fault.NoMemory
by_ended (Some f) = by_loop f

abbrev pub by_door : DoorFault → Option LoopFault → ServedFault
by_door door.ReadFault ended = fault.SourceFailed
by_door door.WriteFault ended = fault.SinkFailed
by_door (door.BadRecord number) ended = fault.BadRecord number
by_door door.GroupFailed ended = by_ended ended
by_door door.GroupSpent ended = fault.CallSpent
by_door door.NoMemory ended = fault.NoMemory

-- by these faults servers aren't started
abbrev pub Shuts : Result ℕ ServedFault → Type 0
Shuts (Ok number) = ⊥
Shuts (Err fault.SourceFailed) = ⊥
Shuts (Err fault.SinkFailed) = ⊥
Shuts (Err (fault.BadRecord number)) = ⊥
Shuts (Err fault.DiskFailed) = ⊤
Shuts (Err fault.LinkFailed) = ⊤
Shuts (Err fault.CallSpent) = ⊥
Shuts (Err fault.NoMemory) = ⊤

-- ---- the servers and their calls

-- BEFORE THE FIRST CALL the clock of server 0 is read, which gives the number of that call. It is
-- asked at server 0
pub record BeginsAt (booted : Scene) (first : Before Scene) : Type 0 where
  pub reading : ℕ
  pub read : MayTell (record { place = Zero; millis = reading }) booted.clock first.scene.clock
  pub scene_is : first.scene ≡ record booted { clock = first.scene.clock }
  pub number_is : first.number ≡ first_number reading
  pub place_is : first.place ≡ Zero

-- calls are made of them one after the other, and answered
abbrev pub AreMadeBy : Caller → List Exchange → Before Scene → Before Scene → Type 0
AreMadeBy caller made a c =
    AreMade Turned AskedAt TurnBreaks AskBreaks caller.client caller.turns made a c

-- this becomes of a call that is made of them now
abbrev pub Becomes : Caller → Cred → Call → Before Scene
    → Outcome Scene Around → Type 0
Becomes caller cred call c o =
    IsMade Turned AskedAt TurnBreaks AskBreaks caller.turns
    (record { client = caller.client; number = c.number; cred = cred; call = call })
    o c.place c.scene

-- they run on these disks, this link and this clock
abbrev pub IsOver : Scene → Scene → Type 0
IsOver now c = (c.disks ≡ now.disks) × (c.link ≡ now.link) × (c.clock ≡ now.clock)

-- ---- what is told of the calls

-- those so far were answered
abbrev pub Answered : Caller → Before Scene → Tells ⊤
Answered caller first start made = (c : Before Scene) × AreMadeBy caller made first c

-- and the servers are where the last one left them
abbrev pub AnsweredSoFar : Caller → Before Scene → Scene → Tells ⊤
AnsweredSoFar caller first now start made =
    (c : Before Scene) × AreMadeBy caller made first c × IsOver now c.scene

-- one call more was given up: its turns are over, or one of them or an ask was cut off
abbrev pub GivenUp : Caller → Before Scene → Scene → Unanswered ⊤
GivenUp caller first now why start made cred call =
    (c : Before Scene) × AreMadeBy caller made first c
    × GivesUp (IsOver now) (around_in now) (Becomes caller cred call c) why

-- the servers are where the last one left them, or one more was given up
abbrev pub AnsweredOrGivenUp : Caller → Before Scene → Scene → Tells ⊤
AnsweredOrGivenUp caller first now start made =
    AnsweredSoFar caller first now start made
    ⊎ ((why : GroupFault) × (cred : Cred) × (call : Call)
    × GivenUp caller first now why start made cred call)

-- what is told of the calls where a door ended so; of a call that wasn't answered more is told
-- beside it
abbrev pub told_of : Result ℕ DoorFault → Caller → Before Scene → Scene → Tells ⊤
told_of (Ok number) caller first now = AnsweredSoFar caller first now
told_of (Err door.ReadFault) caller first now = AnsweredSoFar caller first now
told_of (Err door.WriteFault) caller first now = AnsweredSoFar caller first now
told_of (Err (door.BadRecord number)) caller first now = AnsweredSoFar caller first now
told_of (Err door.GroupFailed) caller first now = Answered caller first
told_of (Err door.GroupSpent) caller first now = Answered caller first
told_of (Err door.NoMemory) caller first now = AnsweredOrGivenUp caller first now

-- ---- the end

-- a door ended so, where this was before the first call of its servers, which are here now
abbrev pub EndsAfter : Caller → List ℕ → Option (List ℕ) → Option (List ℕ) → Option (List ℕ)
    → Before Scene → Scene → Result ℕ DoorFault → Type 0
EndsAfter caller input source before after first now ended =
    DoorEnds caller.cred input source (closed before)
    (side (told_of ended caller first now) (GivenUp caller first now) after) ended

-- IT ENDED SO for this reason, where its servers stood so before the clock was read for the first
-- call
pub record HasServed (caller : Caller) (input : List ℕ) (source before after : Option (List ℕ))
    (booted now : Scene) (ended : Result ℕ DoorFault) : Type 0 where
  pub first : Before Scene
  pub begins : BeginsAt booted first
  pub ends : EndsAfter caller input source before after first now ended

abbrev pub IsServed : Caller → List ℕ → Option (List ℕ) → Option (List ℕ) → Option (List ℕ)
    → Scene → Scene → Result ℕ ServedFault → Type 0
IsServed caller input source before after booted now (Ok number) =
    HasServed caller input source before after booted now (Ok number)
IsServed caller input source before after booted now (Err fault.SourceFailed) =
    HasServed caller input source before after booted now (Err door.ReadFault)
IsServed caller input source before after booted now (Err fault.SinkFailed) =
    HasServed caller input source before after booted now (Err door.WriteFault)
IsServed caller input source before after booted now (Err (fault.BadRecord number)) =
    HasServed caller input source before after booted now (Err (door.BadRecord number))
IsServed caller input source before after booted now (Err fault.DiskFailed) =
    HasServed caller input source before after booted now (Err door.GroupFailed)
IsServed caller input source before after booted now (Err fault.LinkFailed) =
    HasServed caller input source before after booted now (Err door.GroupFailed)
IsServed caller input source before after booted now (Err fault.CallSpent) =
    HasServed caller input source before after booted now (Err door.GroupSpent)
IsServed caller input source before after booted now (Err fault.NoMemory) =
    HasServed caller input source before after booted now (Err door.NoMemory)

-- the servers weren't started, by this: nothing was read or written, and at most they were booted
pub record WasShut (input : List ℕ) (source before after : Option (List ℕ)) (a now : Scene)
    (ended : Result ℕ ServedFault) : Type 0 where
  pub unread : source ≡ Some input
  pub unwritten : after ≡ before
  pub unstarted : IsUnstarted first_promise all_places a (around_in now)
  pub why : Shuts ended

-- THREE SERVERS ARE STARTED: they are booted from their disks, where promises last as long as at
-- first, and then a door to them ended so
pub record HasStarted (caller : Caller) (input : List ℕ) (source before after : Option (List ℕ))
    (a now : Scene) (ended : Result ℕ ServedFault) : Type 0 where
  pub booted : Scene
  pub boots : Chain (BootsAt first_promise) all_places a booted
  pub served : IsServed caller input source before after booted now ended

-- A DOOR TO THREE SERVERS ENDED SO: before they were started, or after that
abbrev pub DoorServed : Caller → List ℕ → Option (List ℕ) → Option (List ℕ) → Option (List ℕ)
    → Scene → Scene → Result ℕ ServedFault → Type 0
DoorServed caller input source before after a now ended =
    WasShut input source before after a now ended
    ⊎ HasStarted caller input source before after a now ended
