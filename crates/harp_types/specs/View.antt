-- The numbers of views, and their order.
use Rattle.std.specs.Prelude.{ℕ, Bool, nat_lt, ◌==◌, if◌then◌else◌}
use Rattle.harp_types.specs.declared.server.ServerId.{ServerId}
use Rattle.harp_types.specs.Server.{number_of}

-- a view's number
pub record View : Type 0 where
  pub count : ℕ
  pub coordinator : ServerId

-- ordered by count, and then by coordinator
abbrev pub above : View → View → Bool
above v w =
    if v.count == w.count then nat_lt (number_of w.coordinator) (number_of v.coordinator)
    else nat_lt w.count v.count
