-- An event, whole or cut, in the world once the clocks are set: where it leads.
use Rattle.std.proofs.Common.{◌≡◌, Bool, true, false, List, [], ◌∷◌, ◌++◌, Option, None, Some, refl}
use Rattle.group_trace.specs.DiskRun.{DiskScene}
use Rattle.harp_types.specs.Trio.{value_of}
use Rattle.harp_types.specs.declared.trio.Trio.{Trio}
use Rattle.node.specs.declared.input.Input.{Input}
use Rattle.node_link.specs.declared.link.Datagram.{Datagram}
use Rattle.node_loop.specs.Arriving.{Arrives}
use Rattle.world.specs.World.{WorldValue}
use Rattle.running_laws.specs.Events.{Boots, Does, Ends, Event, Saves, Site, Takes, What}
use Rattle.running_laws.specs.Follows.{Follows}
use Rattle.running_laws.specs.Histories.{IsInTime, IsNotForged}
use Rattle.running_laws.specs.Lives.{HappensBy, Steps}
use Rattle.running_laws.proofs.Broken.{cut_step}
use Rattle.running_laws.proofs.Moving.{IsAt}
use Rattle.running_laws.proofs.Steps.{own_deed}
use Rattle.running_laws.proofs.Left.{IsNext, Leaves}
use Rattle.running_laws.proofs.Happened.{nothing_arrives, set_world}
use Rattle.running_laws.proofs.Resting.{boot_happens, cut_boot, end_happens}
use Rattle.running_laws.proofs.Saving.{cut_save, whole_save}
use Rattle.running_laws.proofs.Stepping.{arrives, arrives_runs, deed_happens, deed_runs}

module _ (before : List Event) (e : Event) (a c : Trio Site) (w : DiskScene) (x : WorldValue)
    (k : IsNext before e a c w x) where
  abbrev f : Follows before a w x
  f = k.follows

  abbrev in_time : IsInTime before e
  in_time = k.in_time

  abbrev set : WorldValue
  set = set_world before e a c w x k

  abbrev es : List Event
  es = before ++ e ∷ []

  abbrev here : Site
  here = value_of a e.place

  abbrev there : Site
  there = value_of c e.place

  -- ---- events that are cut

  cut_arrives : (v : DiskScene) → IsAt es v set → (d : Datagram) (given : Option Input)
      → e.what ≡ Takes d → Arrives d given → Steps true e.now given e.outs here there
      → IsNotForged before e.place (Takes d) → Leaves before e c v set
  cut_arrives v at d None what_is come step network =
      nothing_arrives before e a c w x k v at step.0 step.1
  cut_arrives v at d (Some given) what_is come step network =
      cut_step before e a c w x k v at given step
      (arrives_runs before e a c w x k v at d given what_is come network step.old step.was)

  event_cut : (v : DiskScene) → IsAt es v set → (what : What) → e.what ≡ what
      → HappensBy e.place e.now what true e.outs here there → IsNotForged before e.place what
      → Leaves before e c v set
  event_cut v at (Boots delta) what_is by network =
      cut_boot before e a c w x k v at delta by.0 by.0.part by.1
  event_cut v at (Does given) what_is by network =
      cut_step before e a c w x k v at given by.1
      (deed_runs before e a c w x k v at given (own_deed es e.place given by.0) by.1.old by.1.was)
  event_cut v at (Takes d) what_is by network =
      cut_arrives v at d by.0 what_is by.1 by.2 network
  event_cut v at Saves what_is by network = cut_save before e a c w x k v at by.0 by.1
  event_cut v at Ends what_is by network =
      end_happens before e a c w x k v at by.0 by.1

  event_leaves : (v : DiskScene) → IsAt es v set → (what : What) → e.what ≡ what
      → HappensBy e.place e.now what false e.outs here there → IsNotForged before e.place what
      → Leaves before e c v set
  event_leaves v at (Boots delta) what_is by network =
      boot_happens before e a c w x k v at delta by.0 by.1
  event_leaves v at (Does given) what_is by network =
      deed_happens before e a c w x k v at given (own_deed es e.place given by.0) by.1
  event_leaves v at (Takes d) what_is by network =
      arrives before e a c w x k v at d by.0 what_is by.1 network by.2
  event_leaves v at Saves what_is by network = whole_save before e a c w x k v at by.0 by.1
  event_leaves v at Ends what_is by network =
      end_happens before e a c w x k v at by.0 by.1

  pub cut_or_whole : (v : DiskScene) → IsAt es v set → (cut : Bool)
      → HappensBy e.place e.now e.what cut e.outs here there → IsNotForged before e.place e.what
      → Leaves before e c v set
  cut_or_whole v at false by network = event_leaves v at e.what refl by network
  cut_or_whole v at true by network = event_cut v at e.what refl by network
