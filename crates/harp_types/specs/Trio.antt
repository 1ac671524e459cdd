-- One value for each server.
use Rattle.std.specs.Borrow.{Lends, Fml, RattleType, MutBor}
use Rattle.harp_types.specs.contracts.trio.Trio.{the_row}
use Rattle.harp_types.specs.declared.trio.Trio.{Trio}
use Rattle.harp_types.specs.declared.server.ServerId.{ServerId}
use Rattle.harp_types.specs.declared.server.ServerId.TheVariants.{Zero, One, Two}

-- the value of a server
abbrev pub value_of : {T : Type 0} → Trio T → ServerId → T
value_of trio Zero = trio.zero
value_of trio One = trio.one
value_of trio Two = trio.two

-- the other two values stay
abbrev pub with_value : {T : Type 0} → Trio T → ServerId → T → Trio T
with_value trio Zero x = record { zero = x; one = trio.one; two = trio.two }
with_value trio One x = record { zero = trio.zero; one = x; two = trio.two }
with_value trio Two x = record { zero = trio.zero; one = trio.one; two = x }

module _ (T : RattleType) (trio : MutBor (Trio T.Denot)) where
  -- once the borrow r ends, the server has the value last written through r
  abbrev pub LendsValue : ServerId → MutBor T.Denot → Fml
  LendsValue place r = Lends (the_row T) T trio r (with_value trio.now place)
