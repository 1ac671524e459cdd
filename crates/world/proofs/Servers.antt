-- The servers of the world, where one of them turns.
use Rattle.std.proofs.Common.{◌≡◌, List, None, sym, ap, ◌∙◌, subst}
use Rattle.event_record.specs.declared.record.RecordFields.{RecordFields}
use Rattle.fuzzy_cells.specs.Disk.{Disk}
use Rattle.file_tree.specs.Book.{Entry}
use Rattle.world_lines.specs.Book.{BookValue}
use Rattle.group_trace.specs.DiskRun.{DiskScene}
use Rattle.group_rules.specs.Names.{place_of}
use Rattle.group_rules.specs.Places.{Place, at}
use Rattle.group_rules.specs.State.{Server}
use Rattle.group_safety.proofs.Moving.{at_self}
use Rattle.harp_types.specs.Trio.{value_of, with_value}
use Rattle.harp_types.specs.declared.server.ServerId.{ServerId}
use Rattle.world_laws.specs.Waits.{HasWaits}
use Rattle.world_rules.specs.Host.{HostValue, IsHost}
use Rattle.world_rules.specs.Steps.{IsStop}
use Rattle.node.specs.Stock.{Stock}
use Rattle.world_lines.specs.Posted.{Posted}
use Rattle.world_laws.specs.StockLaws.{Stays}
use Rattle.world_laws.specs.Stocks.{AreSaved, HasStock}
use Rattle.world.specs.World.{HasBook, HasPackets, IsServer, IsWorld, WorldValue}
use Rattle.world.proofs.Tables.{at_other, each_value}

-- a server that stays as it is, with its disk, where its records stay right
pub server_kept : (w w' : DiskScene) (y : ServerId) (h : HostValue)
    → ((k : Stock) → HasStock w.scene.group (place_of y) k
    → HasStock w'.scene.group (place_of y) k)
    → ((records : List RecordFields)
    → AreSaved w.scene.group.page (w.scene.group.server (place_of y)) records
    → AreSaved w'.scene.group.page (w'.scene.group.server (place_of y)) records)
    → w'.scene.group.server (place_of y) ≡ w.scene.group.server (place_of y)
    → w'.disks (place_of y) ≡ w.disks (place_of y) → IsServer w y h → IsServer w' y h
server_kept w w' y h stocks saved same disk o = record {
  me = o.me;
  stock = o.stock;
  saved = o.saved;
  host = subst (λ (s : Server Entry). IsHost s o.stock o.saved (w'.disks (place_of y)) h) (sym same)
      (subst (λ (d : Disk). IsHost (w.scene.group.server (place_of y)) o.stock o.saved d h)
      (sym disk) o.host);
  has_stock = stocks o.stock o.has_stock;
  are_saved = saved o.saved o.are_saved;
  waits = subst (λ (s : Server Entry). HasWaits s o.stock) (sym same) o.waits;
  rests = λ down. o.rests (ap (λ (s : Server Entry). s.up) (sym same) ∙ down);
}

-- ONE SERVER TURNS: the others stay with their disks, and so do the clocks; no stop is armed at it
-- any more
pub record OneTurns (w w' : DiskScene) (q : Place) : Type 0 where
  pub stays : Stays w.scene.group w'.scene.group
  pub others : (y : Place) → (y ≡ q → ⊥) → w'.scene.group.server y ≡ w.scene.group.server y
  pub disks : (y : Place) → (y ≡ q → ⊥) → w'.disks y ≡ w.disks y
  pub clock : w'.scene.group.clock ≡ w.scene.group.clock
  pub delta : w'.scene.group.delta ≡ w.scene.group.delta
  pub armed : w'.scene.armed ≡ at w.scene.armed q None
  pub picks : w'.picks ≡ w.picks

-- the world with another host of one server, whose stop is spent, and with these packets and book
abbrev pub turned_to : WorldValue → ServerId → HostValue → List Posted → BookValue → WorldValue
turned_to x server h ps b = record {
  hosts = with_value x.hosts server h;
  clocks = x.clocks;
  delta = x.delta;
  packets = ps;
  book = b;
  stops = with_value x.stops server None;
}

pub world_turned : (w w' : DiskScene) (x : WorldValue) (server : ServerId) (h : HostValue)
    (ps : List Posted) (b : BookValue) → IsWorld w x → OneTurns w w' (place_of server)
    → IsServer w' server h → HasPackets w' ps → HasBook w'.scene.group b
    → IsWorld w' (turned_to x server h ps b)
world_turned w w' x server h ps b world turn own packets book = record {
  servers = each_value (λ y h. IsServer w' y h) x.hosts server h
      (λ y n. server_kept w w' y (value_of x.hosts y)
      (λ k. turn.stays.stocks (place_of y) k (turn.others (place_of y) n))
      (λ records. turn.stays.saved (place_of y) records (turn.others (place_of y) n))
      (turn.others (place_of y) n) (turn.disks (place_of y) n) (world.servers y)) own;
  stops = each_value (λ y o. IsStop o (w'.scene.armed (place_of y)) (w'.picks (place_of y)))
      x.stops server None
      (λ y n. subst (λ m. IsStop (value_of x.stops y) m (w'.picks (place_of y)))
      (sym (ap (λ f. f (place_of y)) turn.armed
      ∙ at_other w.scene.armed (place_of server) (place_of y) None n))
      (subst (λ p. IsStop (value_of x.stops y) (w.scene.armed (place_of y)) p)
      (sym (ap (λ f. f (place_of y)) turn.picks)) (world.stops y)))
      (ap (λ f. f (place_of server)) turn.armed
      ∙ at_self w.scene.armed (place_of server) None);
  clocks = λ y. world.clocks y ∙ ap (λ f. f (place_of y)) (sym turn.clock);
  delta = world.delta ∙ sym turn.delta;
  packets = packets;
  book = book;
}
