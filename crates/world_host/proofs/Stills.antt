-- A host that is still as it was.
use Rattle.std.proofs.Common.{◌≡◌, List, Option, None, Some, sym, ap, subst, ◌∙◌}
use Rattle.cell_cache.specs.Entries.{AreOf}
use Rattle.event_record.specs.declared.record.RecordFields.{RecordFields}
use Rattle.file_tree.specs.Book.{Entry}
use Rattle.fuzzy_cells.specs.Disk.{Disk}
use Rattle.group_rules.specs.Places.{Place}
use Rattle.group_rules.specs.State.{Server}
use Rattle.harp_store.specs.Disk.{Disk as ToldDisk, reads}
use Rattle.node.specs.Node.{IsServer, NodeValue}
use Rattle.node.specs.Stock.{Stock}
use Rattle.world_host.specs.Shows.{IsNodeStill, IsStill}
use Rattle.world_rules.specs.Host.{HostValue, IsHost, IsHostAt, IsRunning, Runs, disk_of}

-- its node can go on
pub running_still : (d e : ToldDisk) (n m : NodeValue) → m ≡ record n { cached = m.cached }
    → IsRunning d n → AreOf (Some (reads e)) m.cached → IsRunning e m
running_still d e n m is h cached = record {
  up = ap (λ (x : NodeValue). x.halted) is ∙ h.up;
  served = subst IsServer (sym is) (record { up = h.served.up; mark = h.served.mark });
  cached = cached;
}

at_still : (s : Server Entry) (k : Stock) (saved : List RecordFields) (r : Disk) (q : Place)
    (d : ToldDisk) (o p : Option NodeValue) → IsNodeStill o p → IsHostAt s k saved r q o d
    → IsHostAt s k saved r q p d
at_still s k saved r q d None p is h =
    subst (λ (x : Option NodeValue). IsHostAt s k saved r q x d) (sym is) h
at_still s k saved r q d (Some n) None is h = absurd is
at_still s k saved r q d (Some n) (Some m) is h = record {
  node = subst (Runs s k saved q d) (sym is) (record {
    me = h.node.me;
    server = h.node.server;
    stock = h.node.stock;
    mark = h.node.mark;
  });
  mark = h.mark;
  disk = h.disk;
}

-- it is the same server
pub host_still : (s : Server Entry) (k : Stock) (saved : List RecordFields) (r : Disk)
    (old new : HostValue) → IsStill old new → IsHost s k saved r old → IsHost s k saved r new
host_still s k saved r old new still h =
    subst (λ (x : Place). IsHostAt s k saved r x new.node (disk_of new)) (sym still.me)
    (subst (λ (x : ToldDisk). IsHostAt s k saved r old.me new.node x) (sym still.disk)
    (at_still s k saved r old.me (disk_of old) old.node new.node still.node h))
