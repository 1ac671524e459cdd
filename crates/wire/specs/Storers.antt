-- The storers of a view.
use Rattle.std.specs.Prelude.{Option, Some, None}
use Rattle.harp_types.specs.declared.server.ServerId.{ServerId}
use Rattle.harp_types.specs.declared.server.ServerId.TheVariants.{Zero, One, Two}
use Rattle.wire.specs.declared.storers.Storers.{Storers}
use Rattle.wire.specs.declared.storers.Storers.TheVariants.{ZeroOne, ZeroTwo, OneTwo}

abbrev pub leader_of : Storers → ServerId
leader_of ZeroOne = Zero
leader_of ZeroTwo = Zero
leader_of OneTwo = One

abbrev pub partner_of : Storers → ServerId
partner_of ZeroOne = One
partner_of ZeroTwo = Two
partner_of OneTwo = Two

-- a leader has a lower number than its partner
abbrev pub storers_of : ServerId → ServerId → Option Storers
storers_of Zero One = Some ZeroOne
storers_of Zero Two = Some ZeroTwo
storers_of One Two = Some OneTwo
storers_of Zero Zero = None
storers_of One Zero = None
storers_of One One = None
storers_of Two Zero = None
storers_of Two One = None
storers_of Two Two = None
