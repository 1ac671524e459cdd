-- The start: new places follow the scene in which each server fell behind its first boot.
use Rattle.std.proofs.Common.{◌≡◌, ℕ, ◌≤◌, false, [], ◌++◌, None, Some, inr, refl, sym, ap, ◌∙◌, subst, arith}
use Rattle.group_rules.specs.Limits.{room}
use Rattle.group_rules.specs.Names.{place_of}
use Rattle.group_rules.specs.Places.{all_of}
use Rattle.group_rules.specs.State.{mark_of}
use Rattle.group_rules.specs.Step.{first_group}
use Rattle.group_trace.specs.DiskRun.{DiskScene, disk_run, empty_stores, first_disk_scene}
use Rattle.harp_store.specs.Disk.{Disk as ToldDisk, IsLeftOf}
use Rattle.harp_store.specs.Mark.{first_mark}
use Rattle.harp_store.specs.Memory.{nothing_stored}
use Rattle.harp_types.specs.Limits.{first_promise}
use Rattle.harp_types.specs.Trio.{value_of}
use Rattle.harp_types.specs.declared.server.ServerId.{ServerId}
use Rattle.harp_types.specs.declared.server.ServerId.TheVariants as server
use Rattle.node.specs.Node.{IsServer, NodeValue, mark_with}
use Rattle.store_laws.proofs.Disks.{marks_follow, new_disks_are}
use Rattle.trace_laws.proofs.DiskRuns.{disk_runs_right}
use Rattle.world.proofs.First.{first_stands, first_world}
use Rattle.world.specs.World.{WorldValue}
use Rattle.world_rules.specs.Host.{HasMark, HostValue, IsHost, IsHostAt, disk_of, no_stock}
use Rattle.world_rules.specs.Spellings.{spellings}
use Rattle.running_laws.specs.Books.{HasBook}
use Rattle.running_laws.specs.Events.{Site, new_sites}
use Rattle.running_laws.specs.Follows.{ClocksFollow, Follows, HasAskers, IsPlace, first_disk}
use Rattle.running_laws.specs.Statement.{RunningServersAreTheGroup, Stands}
use Rattle.running_laws.proofs.Endings.{IsEnding, disk_fallen, end_led, world_fallen}
use Rattle.running_laws.proofs.Following.{events_follow}
use Rattle.running_laws.proofs.Left.{none_some, same_some}
use Rattle.running_laws.proofs.Listed.{first_listed}
use Rattle.running_laws.proofs.Moving.{IsAt, LedTo, answers_of, answers_on, leads_on, led_on}

-- ---- the servers that booted on new disks

node_first : ServerId → NodeValue
node_first place = record {
  me = place_of place;
  halted = false;
  mark = first_mark place first_promise;
  plain = first_group.server (place_of place);
  records = [];
  pulled = [];
  peers = [];
  cached = [];
}

first_served : (place : ServerId) → IsServer (node_first place)
unfolding node_first all_of room
first_served server.Zero = record { up = refl; mark = λ items. refl }
first_served server.One = record { up = refl; mark = λ items. refl }
first_served server.Two = record { up = refl; mark = λ items. refl }

first_machine : (place : ServerId) → mark_with [] (first_mark place first_promise)
    ≡ mark_of (first_group.server (place_of place))
unfolding all_of room
first_machine server.Zero = refl
first_machine server.One = refl
first_machine server.Two = refl

first_has_mark : (place : ServerId)
    → HasMark (first_group.server (place_of place)) [] (place_of place) (first_disk place)
first_has_mark place = record {
  mark = first_mark place first_promise;
  written = refl;
  machine = first_machine place;
  saves = record { top = refl; synced = refl; held = λ k d lt. absurd (omega (arith, lt)) };
  base = λ two. refl;
}

first_server_is : (place : ServerId)
    → record (first_group.server (place_of place)) {
      saved = Some (record { base = 0; cp = 0; items = [] });
    } ≡ first_group.server (place_of place)
unfolding all_of room
first_server_is server.Zero = refl
first_server_is server.One = refl
first_server_is server.Two = refl

first_host_at : (place : ServerId) → IsHostAt (first_group.server (place_of place)) no_stock []
    (empty_stores (place_of place)) (place_of place) (Some (node_first place)) (first_disk place)
unfolding node_first
first_host_at place = record {
  node = record {
    me = refl;
    server = first_server_is place;
    stock = refl;
    mark = refl;
  };
  mark = first_has_mark place;
  disk = marks_follow nothing_stored.now (empty_stores (place_of place))
      (first_mark place first_promise) (new_disks_are (place_of place));
}

-- what is left of its disk is all of it
first_left : (place : ServerId) → IsLeftOf (first_disk place) (first_disk place)
first_left place = record {
  image = record { cells = λ c. (0, None, omega arith, refl, refl); mark = refl };
  synced = refl;
}

first_clocks : ClocksFollow [] (record { zero = 0; one = 0; two = 0 })
first_clocks = record {
  top = 0;
  near = λ now near. omega arith;
  low = λ place. omega arith;
  high = λ place. all_zero place;
  behind = λ place now rises near. all_below place now;
}
  where
    all_below : (place : ServerId) (n : ℕ)
        → value_of (record { zero = 0; one = 0; two = 0 }) place ≤ n
    all_below server.Zero n = omega arith
    all_below server.One n = omega arith
    all_below server.Two n = omega arith

    all_zero : (place : ServerId) → value_of (record { zero = 0; one = 0; two = 0 }) place ≤ 0
    all_zero place = all_below place 0

-- the place of a server that booted on a new disk, and fell
abbrev first_site : ServerId → Site
first_site place = record {
  node = None;
  disk = record { past = []; now = first_disk place };
}

-- before it fell
up_site : ServerId → Site
up_site place = record {
  node = Some (node_first place);
  disk = record { past = []; now = first_disk place };
}

abbrev host_first : ServerId → HostValue
host_first place = record {
  me = place_of place;
  node = Some (node_first place);
  disk = (first_listed place).list;
}

first_host : (place : ServerId) → IsHost (first_group.server (place_of place)) no_stock []
    (empty_stores (place_of place)) (host_first place)
first_host place = subst (λ (d : ToldDisk). IsHostAt (first_group.server (place_of place))
    no_stock [] (empty_stores (place_of place)) (place_of place) (Some (node_first place)) d)
    (sym (first_listed place).is) (first_host_at place)

abbrev world_first : WorldValue
world_first =
    first_world (host_first server.Zero) (host_first server.One) (host_first server.Two)

at_first : IsAt [] first_disk_scene world_first
unfolding disk_run
at_first = record {
  reached = record { steps = []; taken = tt; leads = refl };
  asks = tt;
  stands = first_stands (host_first server.Zero) (host_first server.One)
      (host_first server.Two) refl refl refl (first_host server.Zero) (first_host server.One)
      (first_host server.Two);
}

-- ---- each falls

ending : (x : WorldValue) (place : ServerId) → value_of x.hosts place ≡ host_first place
    → IsEnding x place (up_site place) (first_site place)
unfolding up_site
ending x place is = record {
  site = record {
    node = ap (λ (h : HostValue). h.node) is;
    disk = ap disk_of is ∙ (first_listed place).is;
    served = λ n e. subst IsServer (same_some (node_first place) n e) (first_served place);
    synced = λ none. absurd (none_some (node_first place) (sym none));
  };
  me = ap (λ (h : HostValue). h.me) is;
  ending = record { old = node_first place; was = refl; gone = refl; left = first_left place };
}

end_zero : IsEnding world_first server.Zero (up_site server.Zero) (first_site server.Zero)
end_zero = ending world_first server.Zero refl

abbrev world_one : WorldValue
world_one =
    world_fallen world_first server.Zero (up_site server.Zero) (first_site server.Zero) end_zero

end_one : IsEnding world_one server.One (up_site server.One) (first_site server.One)
end_one = ending world_one server.One refl

abbrev world_two : WorldValue
world_two =
    world_fallen world_one server.One (up_site server.One) (first_site server.One) end_one

end_two : IsEnding world_two server.Two (up_site server.Two) (first_site server.Two)
end_two = ending world_two server.Two refl

abbrev world_down : WorldValue
world_down =
    world_fallen world_two server.Two (up_site server.Two) (first_site server.Two) end_two

down_led : LedTo [] first_disk_scene world_down []
down_led = led_on [] first_disk_scene world_two world_down [] []
    (led_on [] first_disk_scene world_one world_two [] []
    (end_led world_first server.Zero (up_site server.Zero) (first_site server.Zero) end_zero []
    first_disk_scene at_first)
    (λ v at. end_led world_one server.One (up_site server.One) (first_site server.One) end_one []
    v at))
    (λ v at. end_led world_two server.Two (up_site server.Two) (first_site server.Two) end_two []
    v at)

-- ---- new places follow

places_new : (place : ServerId)
    → IsPlace place (value_of world_down.hosts place) (value_of new_sites place)
unfolding end_zero ending end_one end_two
places_new server.Zero = inr (record {
  new = record { gone = refl; empty = refl };
  node = refl;
  disk = (disk_fallen world_first server.Zero (up_site server.Zero) (first_site server.Zero)
      end_zero).is;
})
places_new server.One = inr (record {
  new = record { gone = refl; empty = refl };
  node = refl;
  disk = (disk_fallen world_one server.One (up_site server.One) (first_site server.One)
      end_one).is;
})
places_new server.Two = inr (record {
  new = record { gone = refl; empty = refl };
  node = refl;
  disk = (disk_fallen world_two server.Two (up_site server.Two) (first_site server.Two)
      end_two).is;
})

no_stops : (place : ServerId) → value_of world_down.stops place ≡ None
no_stops server.Zero = refl
no_stops server.One = refl
no_stops server.Two = refl

nobody_lives : (place : ServerId) (n : NodeValue) → (value_of new_sites place).node ≡ Some n
    → HasAskers [] n.plain n.peers
nobody_lives server.Zero n is = absurd (none_some n is)
nobody_lives server.One n is = absurd (none_some n is)
nobody_lives server.Two n is = absurd (none_some n is)

-- THE START follows
start_follows : Follows [] new_sites down_led.scene world_down
start_follows = record {
  reached = down_led.there.reached;
  asks = down_led.there.asks;
  stands = down_led.there.stands;
  sites_are = places_new;
  no_stop = no_stops;
  posted = λ d has. let none = has.1 in absurd (omega (arith, none));
  clocks = first_clocks;
  askers = nobody_lives;
}

-- HISTORIES are runs
pub histories_are_runs : RunningServersAreTheGroup
histories_are_runs events left is =
    let on = events_follow [] events new_sites left down_led.scene world_down start_follows
    is.lives is.network is.clocks in
    let led = leads_on first_disk_scene down_led.scene on.scene down_led.led on.led in
    record {
      steps = led.steps;
      taken = led.taken;
      right = disk_runs_right spellings led.steps led.taken;
      stands = λ place. subst (λ (w : DiskScene). Stands w place (value_of left place))
          (sym led.leads) (on.places place);
      answers = answers_on first_disk_scene down_led.scene on.scene down_led.led on.led
          ∙ ap (λ ls. ls ++ answers_of down_led.scene on.led.steps) down_led.says ∙ on.answers;
      book = subst (HasBook events) (on.follows.stands.book.entries
          ∙ ap (λ (w : DiskScene). w.scene.group.book) (sym led.leads)) on.book;
    }
