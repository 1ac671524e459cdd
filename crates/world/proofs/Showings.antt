-- What a server shows is true, and leaves the world where it stands.
use Rattle.std.proofs.Common.{◌≡◌, Option, None, Some, true, refl, sym, ap, subst, ◌∙◌, true≢false}
use Rattle.file_tree.specs.Book.{Entry}
use Rattle.group_trace.specs.DiskRun.{DiskScene}
use Rattle.group_rules.specs.Names.{place_of}
use Rattle.group_rules.specs.State.{Server}
use Rattle.harp_types.specs.Trio.{value_of}
use Rattle.harp_types.specs.declared.server.ServerId.{ServerId}
use Rattle.node.specs.Node.{NodeValue}
use Rattle.schedule_play.specs.Stage.{IsReached}
use Rattle.shown.specs.declared.shown.Shown.{Shown}
use Rattle.shown.specs.declared.shown.Want.{Want}
use Rattle.world.proofs.Tables.{each_value}
use Rattle.world.specs.Shows.{HasStill}
use Rattle.world.specs.World.{IsServer, IsWorld, WorldValue}
use Rattle.world_host.proofs.Stills.{host_still}
use Rattle.world_host.specs.Shows.{HostShows, IsStill, ShowsOver}
use Rattle.world_laws.proofs.Truths.{nodes_show}
use Rattle.world_laws.specs.Shown.{IsShownIn}
use Rattle.world_rules.specs.Host.{HostValue, IsNodeOf, disk_of}
use Rattle.world_rules.specs.Spellings.{spellings}

node_right : (w : DiskScene) → IsReached spellings w → (server : ServerId) (h : HostValue)
    → IsServer w server h → (w.scene.group.server (place_of server)).up ≡ true
    → (m : Option NodeValue) → h.node ≡ m → (want : Want) (o : Option Shown)
    → ShowsOver m (disk_of h) want o → IsShownIn w (place_of server) want o
node_right w r server h own up None is want o shows =
    let s = w.scene.group.server (place_of server) in
    let fell = subst (λ (x : Option NodeValue).
    IsNodeOf s own.stock own.saved h.me (disk_of h) x) is own.host.node in
    absurd (true≢false (sym up ∙ ap (λ (x : Server Entry). x.up) (sym fell.server)))
node_right w r server h own up (Some n) is want o shows =
    nodes_show w r (place_of server) own.stock own.saved h own.me own.host own.has_stock n is want
    o shows

-- what a server that is up shows
pub shown_right : (w : DiskScene) → IsReached spellings w → (x : WorldValue) → IsWorld w x
    → (server : ServerId) → (w.scene.group.server (place_of server)).up ≡ true → (want : Want)
    (o : Option Shown) → HostShows (value_of x.hosts server) want o
    → IsShownIn w (place_of server) want o
shown_right w r x world server up want o shows =
    let h = value_of x.hosts server in
    node_right w r server h (world.servers server) up h.node refl want o shows

still_server : (w : DiskScene) (server : ServerId) (old new : HostValue) → IsStill old new
    → IsServer w server old → IsServer w server new
still_server w server old new still own = record {
  me = still.me ∙ own.me;
  stock = own.stock;
  saved = own.saved;
  host = host_still (w.scene.group.server (place_of server)) own.stock own.saved
      (w.disks (place_of server)) old new still own.host;
  has_stock = own.has_stock;
  are_saved = own.are_saved;
  waits = own.waits;
  rests = own.rests;
}

pub world_still : (w : DiskScene) (old new : WorldValue) (server : ServerId)
    → HasStill old new server → IsWorld w old → IsWorld w new
world_still w old new server has world =
    let there = value_of new.hosts server in
    subst (IsWorld w) (sym has.world.world) (record {
      servers = each_value (IsServer w) old.hosts server there (λ y other. world.servers y)
          (still_server w server (value_of old.hosts server) there has.host (world.servers server));
      stops = world.stops;
      clocks = world.clocks;
      delta = world.delta;
      packets = world.packets;
      book = world.book;
    })
