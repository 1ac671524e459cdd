-- Counts of faults, and what servers run on.
use Rattle.std.proofs.Common.{◌≡◌, ◌≤◌, ℕ, Some, None, arith, inl, inr, refl}
use Rattle.harp_types.specs.Streams.{Rose}
use Rattle.harp_types.specs.declared.server.ServerId.TheVariants.{Zero, One, Two}
use Rattle.harp_types.specs.declared.trio.Trio.{Trio}
use Rattle.door_group.specs.Rule.{Fails}
use Rattle.door_group.specs.declared.servers.ServersFault.TheVariants.{Failed}
use Rattle.node_loop.specs.Scene.{NoneFell, OneRose}
use Rattle.node_loop.specs.declared.fault.LoopFault.{LoopFault}
use Rattle.node_loop.specs.declared.fault.LoopFault.TheVariants as fault
use Rattle.door_group.specs.Local.{Basis, HasFailed, IsLater, all_faults, of_loop}

module _ (link link' : ℕ) (disks disks' : Trio ℕ) (link_count : link ≤ link')
    (disk_count : NoneFell disks disks') where
  pub all_grow : all_faults link disks ≤ all_faults link' disks'
  all_grow = omega (arith, link_count, disk_count Zero, disk_count One, disk_count Two)

  link_rises : Rose link link' → Rose (all_faults link disks) (all_faults link' disks')
  link_rises rose = omega (arith, rose, disk_count Zero, disk_count One, disk_count Two)

  disk_rises : OneRose disks disks' → Rose (all_faults link disks) (all_faults link' disks')
  disk_rises (Zero, rose) = omega (arith, link_count, rose, disk_count One, disk_count Two)
  disk_rises (One, rose) = omega (arith, link_count, disk_count Zero, rose, disk_count Two)
  disk_rises (Two, rose) = omega (arith, link_count, disk_count Zero, disk_count One, rose)

  -- servers that a fault of this loop ended show it
  pub fails : (f : LoopFault) → (f ≡ fault.LinkFailed → Rose link link')
      → (f ≡ fault.StoreFailed → OneRose disks disks') → of_loop f ≡ Failed
      → Fails (HasFailed (Some f)) (all_faults link disks) (all_faults link' disks')
  fails fault.StoreFailed link_rose disk_rose is = (inr refl, disk_rises (disk_rose refl))
  fails fault.LinkFailed link_rose disk_rose is = (inl refl, link_rises (link_rose refl))
  fails fault.NoMemory link_rose disk_rose is = absurd cc

-- WHERE SERVERS BEGIN nothing failed yet
pub begins : (o : Basis) → IsLater None o o
begins o = record {
  three = refl;
  link = refl;
  disks = refl;
  clock = refl;
  link_count = omega (arith);
  disk_count = λ p. omega (arith);
  link_rose = λ is. absurd cc;
  disk_rose = λ is. absurd cc;
}
