-- Places, views and messages of the machine as the code and its traces name them.
use Rattle.std.specs.Prelude.{ℕ, ◌+◌, ◌*◌, ◌/◌}
use Rattle.harp_types.specs.Server.{number_of}
use Rattle.harp_types.specs.View.{View}
use Rattle.harp_types.specs.declared.server.ServerId.{ServerId}
use Rattle.harp_types.specs.declared.server.ServerId.TheVariants as server
use Rattle.group_rules.specs.Places.{Zero, One, Two, Place, coordinator}

abbrev pub place_of : ServerId → Place
place_of server.Zero = Zero
place_of server.One = One
place_of server.Two = Two

abbrev pub id_of : Place → ServerId
id_of Zero = server.Zero
id_of One = server.One
id_of Two = server.Two

-- a view's number of the machine, and the view of such a number
abbrev pub number_of_view : View → ℕ
number_of_view v = 3 * v.count + number_of v.coordinator

abbrev pub view_of : ℕ → View
view_of v = record { count = v / 3; coordinator = id_of (coordinator v) }
