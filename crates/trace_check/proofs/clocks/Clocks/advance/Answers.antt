use Rattle.std.proofs.Common.{◌≡◌, ℕ, ◌+◌}
use Rattle.std.specs.Prelude.{min}
use Rattle.harp_types.specs.Trio.{value_of}
use Rattle.harp_types.specs.declared.server.ServerId.{ServerId}
use Rattle.harp_types.specs.declared.server.ServerId.TheVariants as server
use Rattle.harp_types.specs.declared.trio.Trio.{Trio}
use Rattle.trace_check.specs.ClocksRead.{last_moment}
use Rattle.trace_check.proofs.clocks.Clocks.advance.Goals as goal

each : (old : Trio ℕ) (millis a b d : ℕ) → a ≡ min (old.zero + millis) last_moment
    → b ≡ min (old.one + millis) last_moment → d ≡ min (old.two + millis) last_moment
    → (s : ServerId) → value_of {T = ℕ} (record { zero = a; one = b; two = d }) s
    ≡ min (value_of old s + millis) last_moment
each old millis a b d x y z server.Zero = x
each old millis a b d x y z server.One = y
each old millis a b d x y z server.Two = z

pub returns : goal.returns
returns c s =
    each c.args.self.now.readings c.args.millis c.saturating_add-self.result
    c.saturating_add-self-2.result c.saturating_add-self-3.result c.saturating_add-self.ensures
    c.saturating_add-self-2.ensures c.saturating_add-self-3.ensures s
