-- What stands in stores, as callers see it.
use Rattle.harp_store.specs.Disk.{Moments}
use Rattle.harp_store.specs.Memory.{stored_of}
use Rattle.harp_store.specs.Stopping.{told_by}
use Rattle.harp_store.specs.declared.stores.SoundStore.{SoundStore}
use Rattle.harp_store.specs.declared.stores.StoppingStore.{StoppingStore}

-- the disk at each moment
abbrev pub stored : SoundStore → Moments
stored s = stored_of s.store

-- what stands on the disk of a store with a stop
abbrev pub stands : StoppingStore → Moments
stands s = stored_of s.store

-- and what it tells
abbrev pub told : StoppingStore → Moments
told s = told_by s.left s.stopped (stands s)
