-- A world of which one host changes.
use Rattle.std.specs.Prelude.{◌≡◌}
use Rattle.harp_types.specs.Trio.{value_of, with_value}
use Rattle.harp_types.specs.declared.server.ServerId.{ServerId}
use Rattle.world.specs.World.{WorldValue}

-- nothing of it changes but that host, which stays the host of the same server
pub record HasHost (old new : WorldValue) (server : ServerId) : Type 0 where
  pub world : new ≡ record old {
    hosts = with_value old.hosts server (value_of new.hosts server);
  }
  pub me : (value_of new.hosts server).me ≡ (value_of old.hosts server).me
