-- The world of a schedule as a scene of a run with disks.
use Rattle.std.specs.Prelude.{◌≡◌, ℕ, false, List, length, Option, Some, slice_get}
use Rattle.event_record.specs.declared.record.RecordFields.{RecordFields}
use Rattle.file_tree.specs.Book.{Entry}
use Rattle.world_lines.specs.Book.{BookValue}
use Rattle.group_trace.specs.DiskRun.{DiskScene}
use Rattle.world_rules.specs.Steps.{IsStop}
use Rattle.world_rules.specs.declared.stop.Stop.{Stop}
use Rattle.group_rules.specs.Names.{place_of}
use Rattle.group_rules.specs.Places.{Zero, One, Two, Place, Trio, get}
use Rattle.group_rules.specs.State.{Group, Message, Page}
use Rattle.harp_types.specs.Trio.{value_of}
use Rattle.harp_types.specs.declared.server.ServerId.{ServerId}
use Rattle.harp_types.specs.declared.server.ServerId.TheVariants as server
use Rattle.harp_types.specs.declared.trio.Trio.{Trio as Each}
use Rattle.world_laws.specs.Waits.{HasWaits}
use Rattle.world_rules.specs.Host.{HostValue, IsHost, no_stock}
use Rattle.node.specs.Stock.{Stock}
use Rattle.node_outputs.specs.Messages.{heard}
use Rattle.node_outputs.specs.Records.{carried}
use Rattle.world_lines.specs.Machine.{StandFor}
use Rattle.world_lines.specs.Posted.{Posted, bytes_sent}
use Rattle.world_laws.specs.Stocks.{AreSaved, Carries, HasStock}

-- The servers, their clocks, how long the promises of later boots last, what was sent, the book, and
-- the stops that are armed
pub record WorldValue : Type 0 where
  pub hosts : Each HostValue
  pub clocks : Each ℕ
  pub delta : ℕ
  pub packets : List Posted
  pub book : BookValue
  pub stops : Each (Option Stop)

-- what its clocks read
abbrev pub clocks_in : WorldValue → Trio ℕ
clocks_in x = record {
  zero_th = x.clocks.zero;
  one_th = x.clocks.one;
  two_th = x.clocks.two;
}

-- A HOST IS A SERVER of the scene, with the records of its views' lists, over the scene's disk; each
-- update that an open leader hasn't committed has somebody who waits for it, and while the server is
-- down nothing stands in memory
pub record IsServer (w : DiskScene) (server : ServerId) (h : HostValue) : Type 0 where
  pub me : h.me ≡ place_of server
  pub stock : Stock
  pub saved : List RecordFields
  pub host : IsHost (w.scene.group.server (place_of server)) stock saved
      (w.disks (place_of server)) h
  pub has_stock : HasStock w.scene.group (place_of server) stock
  pub are_saved : AreSaved w.scene.group.page (w.scene.group.server (place_of server)) saved
  pub waits : HasWaits (w.scene.group.server (place_of server)) stock
  pub rests : (w.scene.group.server (place_of server)).up ≡ false → stock ≡ no_stock

-- the messages of packets carry the records of their views' lists
abbrev pub AreCarried : (ℕ → Page Entry) → List Posted → Type 0
AreCarried page sent = (n : ℕ) (p : Posted) (m : Message Entry) → slice_get sent n ≡ Some p
    → heard p.packet.message ≡ Some m → Carries page m (carried p.packet.message)

-- THE PACKETS ARE THE GROUP'S, with the records of their views' lists, and so are their bytes
pub record HasPackets (w : DiskScene) (sent : List Posted) : Type 0 where
  pub packets : StandFor sent w.scene.group.packets w.scene.delivered
  pub records : AreCarried w.scene.group.page sent
  pub bytes : w.scene.sent ≡ bytes_sent sent

-- the book is the group's, and so many of its calls are updates
pub record HasBook (g : Group Entry) (book : BookValue) : Type 0 where
  pub entries : book.entries ≡ g.book
  pub updates : book.updates ≡ length g.committed

-- A WORLD STANDS AT A SCENE of a run with disks
pub record IsWorld (w : DiskScene) (x : WorldValue) : Type 0 where
  pub servers : (server : ServerId) → IsServer w server (value_of x.hosts server)
  pub stops : (server : ServerId) → IsStop (value_of x.stops server)
      (w.scene.armed (place_of server)) (w.picks (place_of server))
  pub clocks : (server : ServerId)
      → value_of x.clocks server ≡ w.scene.group.clock (place_of server)
  pub delta : x.delta ≡ w.scene.group.delta
  pub packets : HasPackets w x.packets
  pub book : HasBook w.scene.group x.book

-- its clocks are those of the scene
pub clocks_are : (x : WorldValue) (w : DiskScene) → IsWorld w x → (q : Place)
    → get (clocks_in x) q ≡ w.scene.group.clock q
clocks_are x w h Zero = h.clocks server.Zero
clocks_are x w h One = h.clocks server.One
clocks_are x w h Two = h.clocks server.Two
