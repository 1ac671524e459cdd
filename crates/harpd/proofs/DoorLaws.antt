-- How a door ends.
use Rattle.std.proofs.Common.{◌≡◌, sym, subst, inr, Ok, Err}
use Rattle.std.specs.Prelude.{Result, ⊤}
use Rattle.node_link.specs.declared.link.LinkFault.{LinkFault}
use Rattle.node_link.specs.declared.link.LinkFault.TheVariants.{Failed, NoMemory}
use Rattle.harpd.specs.Door.{DoorEnds, Doorway, HasServed, exit_of_served}
use Rattle.harpd.specs.declared.exit.Exit.{Exit}
use Rattle.harpd.specs.declared.words.Serving.{Serving}

by_result : {N L C : Type 0} (d : Doorway N L C) (serves : Serving) (result : Result ⊤ LinkFault)
    → HasServed d serves result → DoorEnds d serves (exit_of_served result)
by_result d serves (Ok x) served = served
by_result d serves (Err Failed) served = inr served
by_result d serves (Err NoMemory) served = served

-- it served connections, and ended as that did
pub ends_served : {N L C : Type 0} (d : Doorway N L C) (serves : Serving)
    (result : Result ⊤ LinkFault) → HasServed d serves result → (e : Exit)
    → e ≡ exit_of_served result → DoorEnds d serves e
ends_served d serves result served e is =
    subst (DoorEnds d serves) (sym is) (by_result d serves result served)
