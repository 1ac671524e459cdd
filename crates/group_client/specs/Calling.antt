-- The words of a client's own values: what is outside it, and what it asks.
use Rattle.std.specs.Prelude.{◌≡◌, ◌≤◌, ℕ, false, List, Option, Result, Err}
use Rattle.harp_types.specs.Streams.{Rose}
use Rattle.harp_types.specs.declared.server.ServerId.TheVariants.{Zero}
use Rattle.node_link.specs.Traffic.{Traffic}
use Rattle.node_link.specs.declared.clock.Reading.{Reading}
use Rattle.rpc_door.specs.declared.group.GroupFault.{GroupFault}
use Rattle.rpc_door.specs.declared.group.GroupFault.TheVariants as group
use Rattle.group_client.specs.declared.asking.Asking.{Asking}
use Rattle.group_client.specs.declared.client.GroupClient.{GroupClient}
use Rattle.group_client.specs.declared.asking.Outside.{Outside}
use Rattle.group_client.specs.Rule.{Asked, Before, Caller, Scene, asked}

-- what its link and its clock tell
abbrev pub scene_of : {L C : Type 0} → (L → Option Traffic) → (C → Option (List Reading))
    → Outside L C → Scene
scene_of link clock o = record { link = link o.link; clock = clock o.clock }

-- the call that is asked
abbrev pub asking_of : Asking → Asked
asking_of a = asked a.ticket a.call.now

-- a call of the link that failed is counted, and no count falls
abbrev pub IsCounted : {A : Type 0} → Result A GroupFault → ℕ → ℕ → Type 0
IsCounted result old new = (old ≤ new) × (result ≡ Err group.Failed → Rose old new)

-- who asks
abbrev pub caller_of : {L C : Type 0} → GroupClient L C → Caller
caller_of g = record { client = g.client; port = g.port; steps = g.steps }

-- the number of its next call, where it is asked first, and what is outside
abbrev pub before_call : {L C : Type 0} → (L → Option Traffic) → (C → Option (List Reading))
    → GroupClient L C → Before
before_call link clock g = record {
  number = g.next;
  place = g.place;
  scene = scene_of link clock g.outside;
}

-- a client that has asked nothing yet
pub record IsNew {L C : Type 0} (g : GroupClient L C) (port client first steps : ℕ) : Type 0 where
  pub caller : caller_of g ≡ record { client = client; port = port; steps = steps }
  pub number : g.next ≡ first
  pub place : g.place ≡ Zero
  pub spent : g.spent ≡ 0
  pub runs : g.stopped ≡ false
