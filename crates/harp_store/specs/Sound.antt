-- A store of which no call fails.
use Rattle.std.specs.Prelude.{◌≡◌, None}
use Rattle.harp_store.specs.declared.failing.Failing.{Failing}
use Rattle.harp_store.specs.declared.failing.Stop.TheVariants as stop

-- no stop is set, and no read is to fail
pub record IsSound (f : Failing) : Type 0 where
  pub stop : f.stop ≡ stop.Never
  pub read : f.read ≡ None
