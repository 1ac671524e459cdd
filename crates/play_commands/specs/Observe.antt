-- How the play of an observed schedule ends, on three servers with the disks and the packets of
-- real ones.
use Rattle.std.specs.Prelude.{◌≡◌, ℕ, List, Option}
use Rattle.observe_play.specs.Ends.{ObserveEnds}
use Rattle.schedule_play.specs.declared.exit.Exit.{Exit as Played}
use Rattle.world.specs.World.{IsWorld, WorldValue}
use Rattle.world_rules.specs.Spellings.{spellings}
use Rattle.play_commands.specs.declared.exit.Exit.{Exit}
use Rattle.play_commands.specs.Play.{exit_of_play}

-- the play of an observed text ended so, in this world
pub record HasObserved (text : List ℕ) (source before after : Option (List ℕ)) (world : WorldValue)
    (e : Exit) : Type 0 where
  pub ended : Played
  pub exit_is : e ≡ exit_of_play ended
  pub ends : ObserveEnds spellings text source before after (λ w. IsWorld w world) ended
