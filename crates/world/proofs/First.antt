-- The world of three servers that have just booted on new disks.
use Rattle.std.proofs.Common.{◌≡◌, [], None, refl}
use Rattle.group_trace.specs.DiskRun.{empty_stores, first_disk_scene}
use Rattle.group_rules.specs.Limits.{room}
use Rattle.group_rules.specs.Names.{place_of}
use Rattle.group_rules.specs.Places.{Zero, One, Two, Place, all_of}
use Rattle.group_rules.specs.Step.{first_group}
use Rattle.harp_types.specs.Limits.{first_promise}
use Rattle.harp_types.specs.Trio.{value_of}
use Rattle.harp_types.specs.declared.server.ServerId.{ServerId}
use Rattle.harp_types.specs.declared.server.ServerId.TheVariants as server
use Rattle.world_laws.specs.Waits.{HasWaits}
use Rattle.world_rules.specs.Host.{HostValue, IsHost, no_stock}
use Rattle.world_rules.specs.Steps.{IsStop}
use Rattle.world_lines.proofs.Machine.{none_stand}
use Rattle.world_laws.proofs.Starts.{starts_right}
use Rattle.world.specs.World.{IsServer, IsWorld, WorldValue}
use Rattle.world.proofs.Sends.{none_carried}

-- nobody leads an open view
first_waits : (q : Place) → HasWaits (first_group.server q) no_stock
unfolding all_of room
first_waits Zero e = absurd cc
first_waits One e = absurd cc
first_waits Two e = absurd cc

first_server : (y : ServerId) (h : HostValue) → h.me ≡ place_of y
    → IsHost (first_group.server (place_of y)) no_stock [] (empty_stores (place_of y)) h
    → IsServer first_disk_scene y h
first_server y h me host = record {
  me = me;
  stock = no_stock;
  saved = [];
  host = host;
  has_stock = starts_right.stocks (place_of y);
  are_saved = starts_right.saved (place_of y);
  waits = first_waits (place_of y);
  rests = λ _. refl;
}

-- these servers as a world in which nothing was sent or entered
abbrev pub first_world : HostValue → HostValue → HostValue → WorldValue
first_world zero one two = record {
  hosts = record { zero = zero; one = one; two = two };
  clocks = record { zero = 0; one = 0; two = 0 };
  delta = first_promise;
  packets = [];
  book = record { entries = []; updates = 0 };
  stops = record { zero = None; one = None; two = None };
}

pub first_stands : (zero one two : HostValue) → zero.me ≡ Zero → one.me ≡ One → two.me ≡ Two
    → IsHost (first_group.server Zero) no_stock [] (empty_stores Zero) zero
    → IsHost (first_group.server One) no_stock [] (empty_stores One) one
    → IsHost (first_group.server Two) no_stock [] (empty_stores Two) two
    → IsWorld first_disk_scene (first_world zero one two)
first_stands zero one two me0 me1 me2 host0 host1 host2 = record {
  servers = λ y. elim y as (λ y. IsServer first_disk_scene y
      (value_of (first_world zero one two).hosts y)) [
        | server.Zero ↦ first_server server.Zero zero me0 host0
        | server.One ↦ first_server server.One one me1 host1
        | server.Two ↦ first_server server.Two two me2 host2
      ];
  stops = λ y. elim y as (λ y. IsStop (value_of (first_world zero one two).stops y)
      (first_disk_scene.scene.armed (place_of y)) (first_disk_scene.picks (place_of y))) [
        | server.Zero ↦ refl
        | server.One ↦ refl
        | server.Two ↦ refl
      ];
  clocks = λ y. elim y as (λ y. value_of (first_world zero one two).clocks y
      ≡ first_disk_scene.scene.group.clock (place_of y)) [
        | server.Zero ↦ refl
        | server.One ↦ refl
        | server.Two ↦ refl
      ];
  delta = refl;
  packets = record {
    packets = none_stand;
    records = none_carried first_disk_scene.scene.group.page;
    bytes = refl;
  };
  book = record { entries = refl; updates = refl };
}
