-- What follows a history is a run of the group, in the words of the statement.
use Rattle.std.proofs.Common.{List, Option, inl, inr, subst, ⊎_elim}
use Rattle.group_rules.specs.Names.{place_of}
use Rattle.group_rules.specs.Places.{Place}
use Rattle.group_trace.specs.DiskRun.{DiskScene}
use Rattle.harp_store.specs.Disk.{Disk as ToldDisk}
use Rattle.harp_types.specs.Trio.{value_of}
use Rattle.harp_types.specs.declared.server.ServerId.{ServerId}
use Rattle.harp_types.specs.declared.trio.Trio.{Trio}
use Rattle.node.specs.Node.{NodeValue}
use Rattle.world.specs.World.{IsWorld, WorldValue}
use Rattle.world_rules.specs.Host.{IsHostAt, disk_of}
use Rattle.running_laws.specs.Events.{Event, Site}
use Rattle.running_laws.specs.Follows.{Follows, IsNew, IsSite}
use Rattle.running_laws.specs.Statement.{IsServerOf, Stands}
use Rattle.running_laws.proofs.Bootings.{down_so}

server_is : (w : DiskScene) (x : WorldValue) (place : ServerId) (s : Site) → IsWorld w x
    → IsSite (value_of x.hosts place) s → IsServerOf w place s
server_is w x place a world site =
    let own = world.servers place in
    let s = w.scene.group.server (place_of place) in
    let r = w.disks (place_of place) in
    let h = value_of x.hosts place in
    record {
      stock = own.stock;
      saved = own.saved;
      host = subst (λ (o : Option NodeValue). IsHostAt s own.stock own.saved r (place_of place) o
          a.disk.now) site.node
          (subst (λ (d : ToldDisk). IsHostAt s own.stock own.saved r (place_of place) h.node d)
          site.disk
          (subst (λ (q : Place). IsHostAt s own.stock own.saved r q h.node (disk_of h)) own.me
          own.host));
    }

-- each place is a server of the scene, or new
pub places_are : (before : List Event) (sites : Trio Site) (w : DiskScene) (x : WorldValue)
    → Follows before sites w x → (place : ServerId) → Stands w place (value_of sites place)
places_are before sites w x f place = ⊎_elim
    (λ (s : IsSite (value_of x.hosts place) (value_of sites place)).
    inl (server_is w x place (value_of sites place) f.stands s))
    (λ (k : IsNew place (value_of x.hosts place) (value_of sites place)).
    inr (k.new, down_so x place k.node w f.stands))
    (f.sites_are place)
