-- The keys of marks.
use Rattle.harp_types.specs.Server.{number_of}
use Rattle.harp_types.specs.View.{View}
use Rattle.harp_types.specs.declared.server.ServerId.{ServerId}
use Rattle.trace_check.specs.Marks.{Key}

-- a server in a view
abbrev pub place_key : ServerId → View → Key
place_key s view = (number_of s, view.count, number_of view.coordinator, 0)

-- from one server to another in a view
abbrev pub way_key : ServerId → ServerId → View → Key
way_key from to view = (number_of from, number_of to, view.count, number_of view.coordinator)
