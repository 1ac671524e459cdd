use Rattle.harp_store.specs.Memory.{stored_of}
use Rattle.harp_store.proofs.Stops.{starts, stays_sound}
use Rattle.harp_store.proofs.stores.SoundStore.stop_after.Goals as goal

pub invariant_of-result : goal.invariant_of-result
invariant_of-result c = record {
  sound = stays_sound c.args.self.store.failing c.settle.new.self.failing c.args.self.sound
      c.settle.ensures.failing;
  stops = starts c.args.calls (stored_of c.settle.new.self) (stored_of c.args.self.store)
      c.ranges.calls.fits c.settle.ensures.stored;
}
