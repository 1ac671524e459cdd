-- The save at the end of a server that runs alone.
use Rattle.std.proofs.Common.{◌≡◌, Option, None, refl}
use Rattle.harp_types.specs.Trio.{with_value}
use Rattle.harp_types.specs.declared.server.ServerId.{ServerId}
use Rattle.harp_types.specs.declared.server.ServerId.TheVariants.{Zero, One, Two}
use Rattle.harp_store.specs.Disk.{Moments}
use Rattle.node_loop.specs.Scene.{Scene, Spot, alone, around, only}
use Rattle.node_loop.specs.Stay.{FailsSave, Saves, SavesAt, SavesAtInPart}

-- it is gone, and its disk is this
abbrev pub gone : ServerId → Spot → Option Moments → Scene
gone place s disk = record (alone place s) {
  servers = with_value (alone place s).servers place None;
  disks = with_value (alone place s).disks place disk;
}

pub saves-alone : (place : ServerId) (s : Spot) (disk : Option Moments)
    → Saves s.server.node s.disk disk → SavesAt place s.server (alone place s) (gone place s disk)
saves-alone Zero s disk h = record { disk = disk; was = refl; saves = h; is = refl }
saves-alone One s disk h = record { disk = disk; was = refl; saves = h; is = refl }
saves-alone Two s disk h = record { disk = disk; was = refl; saves = h; is = refl }

pub disks-left : (place : ServerId) (s : Spot) (disk : Option Moments)
    → only place disk ≡ (gone place s disk).disks
disks-left Zero s disk = refl
disks-left One s disk = refl
disks-left Two s disk = refl

pub save-part : (place : ServerId) (s : Spot) (disk : Option Moments)
    → FailsSave s.server.node s.disk disk
    → SavesAtInPart place (alone place s) (around (only place disk) s.link s.clock)
save-part Zero s disk h =
    record { server = s.server; disk = disk; was = refl; saves = h; is = refl }
save-part One s disk h =
    record { server = s.server; disk = disk; was = refl; saves = h; is = refl }
save-part Two s disk h =
    record { server = s.server; disk = disk; was = refl; saves = h; is = refl }
