-- The turn of a server: the scene that it leads to, and the lines that it gives.
use Rattle.std.specs.Prelude.{◌≡◌, ℕ, ◌+◌, true, List, [], ◌++◌, Option, None, Some}
use Rattle.file_tree.specs.Book.{Entry}
use Rattle.group_trace.specs.DiskCalls.{measures_of}
use Rattle.group_trace.specs.DiskRun.{DiskScene, disks_after_at, is_whole}
use Rattle.world_rules.specs.Steps.{IsStop}
use Rattle.world_rules.specs.declared.stop.Stop.{Stop}
use Rattle.schedule_play.specs.Stage.{IsReached}
use Rattle.group_rules.specs.Moves.{Move}
use Rattle.group_rules.specs.Names.{place_of}
use Rattle.group_rules.specs.Places.{Place, at}
use Rattle.group_rules.specs.State.{Group}
use Rattle.group_rules.specs.Step.{Comes, Does, Input as Begins, Power, list_of, numbered}
use Rattle.group_trace.specs.Calls.{moves_of}
use Rattle.group_trace.specs.Lines.{lines_of_moves}
use Rattle.group_trace.specs.Run.{bytes_of, moved_in}
use Rattle.harp_types.specs.declared.server.ServerId.{ServerId}
use Rattle.world_rules.specs.Spellings.{spellings}
use Rattle.world_rules.specs.Steps.{listing_by}
use Rattle.node.specs.Input.{came, input_of}
use Rattle.node.specs.declared.input.Input.{Input}
use Rattle.world_laws.specs.StockLaws.{GoesOn}
use Rattle.world_laws.specs.Stocks.{Carries}
use Rattle.trace_types.specs.declared.line.Line.{Line}
use Rattle.harp_types.specs.declared.pick.Pick.{Pick}
use Rattle.tree_listing.specs.declared.listing.Listing.{Listing}
use Rattle.world.specs.World.{IsWorld, WorldValue}

-- the moves of a server's turn, which a stop may cut
abbrev pub turn_moves : DiskScene → Option ℕ → Place → Begins → List (Move Entry)
turn_moves w most q i = moves_of (measures_of spellings) w.scene.group most q i

-- THE SCENE AFTER A TURN that begins so, with this stop and its pick; no stop is armed at the server
-- any more
abbrev pub after_turn : DiskScene → Option ℕ → Pick → Place → Begins → DiskScene
after_turn w most pick q i = record {
  scene = record {
    group = moved_in w.scene.group (q, turn_moves w most q i);
    delivered = w.scene.delivered;
    armed = at w.scene.armed q None;
    sent = w.scene.sent + bytes_of (measures_of spellings)
        (list_of (moved_in w.scene.group (q, turn_moves w most q i)) q) (turn_moves w most q i);
  };
  disks = disks_after_at spellings w most pick q i;
  picks = w.picks;
}

-- the same with the stop that is armed at the server
abbrev pub after_armed_turn : DiskScene → Place → Begins → DiskScene
after_armed_turn w q i = after_turn w (w.scene.armed q) (w.picks q) q i

-- the lines of a turn, beside the event line and before a listing
abbrev pub turn_lines : DiskScene → Option ℕ → Place → Begins → List Line
turn_lines w most q i =
    lines_of_moves w.scene.group (moved_in w.scene.group (q, turn_moves w most q i)) q
    (turn_moves w most q i) []

-- ---- steps

-- a step begins with a deed after which a server goes on, or with a message that was sent to it and
-- comes with its records
abbrev pub BeginsRightly : Group Entry → Place → Input → Begins → Type 0
BeginsRightly g q given (Does d) = GoesOn d
BeginsRightly g q given (Comes from m) = (n : ℕ)
    × (numbered g.packets n ≡ Some (record { from = from; to = q; body = m }))
    × Carries g.page m (came given)

-- A TURN BEGINS with what is given to a server that is up, in a scene to which steps lead and at
-- which the world stands
pub record TurnBegins (w : DiskScene) (x : WorldValue) (q : Place) (given : Input)
    (i : Begins) : Type 0 where
  pub reached : IsReached spellings w
  pub stands : IsWorld w x
  pub up : (w.scene.group.server q).up ≡ true
  pub begins : input_of given ≡ Some i
  pub rightly : BeginsRightly w.scene.group q given i

-- WHAT A TURN LEAVES: the world at the scene after it, its lines behind those before, and the listing
-- that was asked for, where no stop came
pub record TurnLeaves (w : DiskScene) (q : Place) (given : Input) (i : Begins) (new : WorldValue)
    (before after : List Line) (listing : Option Listing) : Type 0 where
  pub left : IsWorld (after_armed_turn w q i) new
  pub lines : after ≡ before ++ turn_lines w (w.scene.armed q) q i
  pub listed : is_whole spellings w.scene.group (w.scene.armed q) q i ≡ true
      → listing ≡ listing_by (w.scene.group.server q) q (list_of w.scene.group q) given

-- in each such scene
abbrev pub Turns : (old new : WorldValue) → ServerId → Input → (before after : List Line)
    → Option Listing → Type 0
Turns old new server given before after listing = (w : DiskScene) (i : Begins)
    → TurnBegins w old (place_of server) given i
    → TurnLeaves w (place_of server) given i new before after listing

-- ---- power failures

-- what a power failure with this stop and pick leaves
pub record FailureLeaves (w : DiskScene) (most : Option ℕ) (pick : Pick) (q : Place)
    (new : WorldValue) (before after : List Line) : Type 0 where
  pub left : IsWorld (after_turn w most pick q (Does Power)) new
  pub lines : after ≡ before ++ turn_lines w most q (Does Power)

-- in each scene to which steps lead, at which the world stands and in which the server is up
abbrev pub PowerFails : (old new : WorldValue) → ServerId → Option Stop
    → (before after : List Line) → Type 0
PowerFails old new server stop before after = (w : DiskScene) (most : Option ℕ) (pick : Pick)
    → IsReached spellings w → IsWorld w old
    → (w.scene.group.server (place_of server)).up ≡ true → IsStop stop most pick
    → FailureLeaves w most pick (place_of server) new before after
