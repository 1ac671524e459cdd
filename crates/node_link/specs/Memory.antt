-- A link in memory.
use Rattle.std.specs.Prelude.{List, Option, Some, None, filter_map}
use Rattle.harp_types.specs.Memory.{Failing}
use Rattle.harp_types.specs.declared.server.ServerId.{ServerId}
use Rattle.harp_types.specs.declared.server.ServerId.TheVariants.{Zero, One, Two}
use Rattle.node_link.specs.Traffic.{Traffic}
use Rattle.node_link.specs.declared.link.Datagram.{Datagram}
use Rattle.node_link.specs.declared.link.Waiting.{Waiting}

-- a link in memory: its datagrams, and which of its calls fail
pub record Carrying : Type 0 where
  pub traffic : Traffic
  pub failing : Failing

abbrev pub datagram_at : ServerId → ServerId → Datagram → Option Datagram
datagram_at Zero Zero d = Some d
datagram_at Zero One d = None
datagram_at Zero Two d = None
datagram_at One Zero d = None
datagram_at One One d = Some d
datagram_at One Two d = None
datagram_at Two Zero d = None
datagram_at Two One d = None
datagram_at Two Two d = Some d

abbrev pub datagram_for : ServerId → Waiting → Option Datagram
datagram_for place w = datagram_at w.place place w.datagram

-- the datagrams that wait for a place, in order
abbrev pub waiting_at : ServerId → List Waiting → List Datagram
waiting_at place waiting = filter_map (datagram_for place) waiting
