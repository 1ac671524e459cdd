-- How a door to three servers ends, by how its servers ended.
use Rattle.std.proofs.Common.{◌≡◌, ℕ, List, Option, None, Some, Result, Err, inl, inr, refl, subst}
use Rattle.harp_types.specs.declared.server.ServerId.{ServerId}
use Rattle.harp_types.specs.declared.server.ServerId.TheVariants.{Zero}
use Rattle.door_group.specs.Rule.{Before}
use Rattle.client_calls.specs.First.{first_number}
use Rattle.door_group.specs.Local.{HasFailed}
use Rattle.node_link.specs.Readings.{MayTell}
use Rattle.node_loop.specs.Scene.{Scene}
use Rattle.node_loop.specs.declared.fault.LoopFault.{LoopFault}
use Rattle.node_loop.specs.declared.fault.LoopFault.TheVariants as loop
use Rattle.rpc_door.specs.declared.fault.DoorFault.{DoorFault}
use Rattle.rpc_door.specs.declared.fault.DoorFault.TheVariants as door
use Rattle.door_group.specs.Served.{EndsAfter, HasServed, IsServed, Shuts, by_door, by_ended, by_loop}
use Rattle.door_group.specs.declared.served.Caller.{Caller}

module _ (caller : Caller) (input : List ℕ) (source before after : Option (List ℕ))
    (booted now : Scene) where
  -- the servers run on what they ran on at the end, and so the calls were those of the caller
  pub has_served : (client turns number reading : ℕ) (place : ServerId) (scene then_ : Scene)
      (r : Result ℕ DoorFault) → client ≡ caller.client → turns ≡ caller.turns
      → number ≡ first_number reading → place ≡ Zero
      → scene ≡ record booted { clock = scene.clock }
      → MayTell (record { place = Zero; millis = reading }) booted.clock scene.clock
      → then_ ≡ now
      → EndsAfter (record { cred = caller.cred; client = client; turns = turns }) input source
      before after (record { number = number; place = place; scene = scene }) then_ r
      → HasServed caller input source before after booted now r
  has_served client turns number reading place scene then_ r clients all numbers at stays read over
      ends =
      let first : Before Scene = record { number = number; place = place; scene = scene } in
      let mine : EndsAfter (record { cred = caller.cred; client = caller.client; turns = turns })
      input source before after first then_ r =
      subst (λ (n : ℕ). EndsAfter (record { cred = caller.cred; client = n; turns = turns }) input
      source before after first then_ r) clients ends in
      let ours : EndsAfter caller input source before after first then_ r =
      subst (λ (n : ℕ). EndsAfter
      (record { cred = caller.cred; client = caller.client; turns = n }) input source before after
      first then_ r) all mine in
      record {
        first = first;
        begins = record {
          reading = reading;
          read = read;
          scene_is = stays;
          number_is = numbers;
          place_is = at;
        };
        ends = subst (λ (s : Scene). EndsAfter caller input source before after first s r) over ours;
      }

  by_fault : (ended : Option LoopFault) → HasFailed ended
      → HasServed caller input source before after booted now (Err door.GroupFailed)
      → IsServed caller input source before after booted now (Err (by_ended ended))
  by_fault None (inl is) h = absurd cc
  by_fault None (inr is) h = absurd cc
  by_fault (Some loop.StoreFailed) failed h = h
  by_fault (Some loop.LinkFailed) failed h = h
  by_fault (Some loop.NoMemory) (inl is) h = absurd cc
  by_fault (Some loop.NoMemory) (inr is) h = absurd cc

  -- the servers were ended by this, which shows where they failed
  pub is_served : (f : DoorFault) (ended : Option LoopFault)
      → (f ≡ door.GroupFailed → HasFailed ended)
      → HasServed caller input source before after booted now (Err f)
      → IsServed caller input source before after booted now (Err (by_door f ended))
  is_served door.ReadFault ended failed h = h
  is_served door.WriteFault ended failed h = h
  is_served (door.BadRecord number) ended failed h = h
  is_served door.GroupFailed ended failed h = by_fault ended (failed refl) h
  is_served door.GroupSpent ended failed h = h
  is_served door.NoMemory ended failed h = h

-- servers that aren't started end a door so
pub shuts : (f : LoopFault) → Shuts (Err (by_loop f))
shuts loop.StoreFailed = tt
shuts loop.LinkFailed = tt
shuts loop.NoMemory = tt
