-- A door to three servers, in the words of the top call.
use Rattle.std.proofs.Common.{◌≡◌, ℕ, List, Option, Some, Err, inl, refl, subst, sym}
use Rattle.harp_store.specs.declared.store.StoreFault.{StoreFault}
use Rattle.harp_store.specs.declared.store.StoreFault.TheVariants as store
use Rattle.node_loop.specs.Scene.{Scene, around_in}
use Rattle.door_group.specs.declared.fault.ServedFault.TheVariants as served
use Rattle.door_group.specs.declared.served.Caller.{Caller}
use Rattle.harp_cli.specs.declared.door_words.Doorway.{Doorway}
use Rattle.play_commands.specs.declared.exit.Exit.{Exit}
use Rattle.harp_cli.specs.DoorServers.{DoorServes}
use Rattle.harp_cli.specs.Exit.{exit_of_store}

module _ (caller : Caller) (input : List ℕ) (source before : Option (List ℕ)) (a now : Scene)
    (unread : source ≡ Some input) (kept : around_in now ≡ around_in a) where
  shut : (f : StoreFault) → DoorServes caller input source before before a now (exit_of_store f)
  shut store.Failed = (
    Err served.DiskFailed,
    refl,
    inl (record { unread = unread; unwritten = refl; unstarted = inl kept; why = tt }),
  )
  shut store.NoMemory = (
    Err served.NoMemory,
    refl,
    inl (record { unread = unread; unwritten = refl; unstarted = inl kept; why = tt }),
  )

  -- nothing was done
  pub door_shut : (f : StoreFault) (e : Exit) → e ≡ exit_of_store f
      → DoorServes caller input source before before a now e
  door_shut f e is = subst (DoorServes caller input source before before a now) (sym is) (shut f)

-- the same door
pub same_servers : (d door : Doorway) (input : List ℕ) (source before after : Option (List ℕ))
    (a now : Scene) (e : Exit) → d ≡ door
    → DoorServes d.caller input source before after a now e
    → DoorServes door.caller input source before after a now e
same_servers d door input source before after a now e is ends =
    subst (λ (x : Doorway). DoorServes x.caller input source before after a now e) is ends
