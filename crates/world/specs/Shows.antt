-- What is left of the world where a server shows something.
use Rattle.std.specs.Prelude.{◌≡◌, Option, Result, Ok, Err}
use Rattle.harp_types.specs.Trio.{value_of}
use Rattle.harp_types.specs.declared.server.ServerId.{ServerId}
use Rattle.schedule_play.specs.declared.refusal.Refusal.{Refusal}
use Rattle.schedule_play.specs.declared.refusal.Refusal.TheVariants as refusals
use Rattle.shown.specs.declared.shown.Shown.{Shown}
use Rattle.world.specs.Hosts.{HasHost}
use Rattle.world.specs.World.{WorldValue}
use Rattle.world_host.specs.Shows.{IsStill}

-- the world with one host that is still as it was, but for the cells that its node keeps in memory
pub record HasStill (old new : WorldValue) (server : ServerId) : Type 0 where
  pub world : HasHost old new server
  pub host : IsStill (value_of old.hosts server) (value_of new.hosts server)

-- WHAT SHOWING LEAVES: that. A server that is down is refused, and nothing changes; else it is
-- refused for want of memory alone, and then the world may be anything
abbrev pub LeavesWorld : Result (Option Shown) Refusal → (old new : WorldValue) → ServerId → Type 0
LeavesWorld (Ok o) old new server = HasStill old new server
LeavesWorld (Err refusals.ServerDown) old new server = new ≡ old
LeavesWorld (Err why) old new server = why ≡ refusals.NoMemory
