-- The delivery of a packet.
use Rattle.std.specs.Prelude.{◌≡◌, ℕ, List, [], ◌++◌, Some, slice_get}
use Rattle.std.specs.Option.{option_map}
use Rattle.group_trace.specs.DiskCalls.{measures_of}
use Rattle.group_trace.specs.DiskRun.{DiskScene, disks_next}
use Rattle.schedule_play.specs.Stage.{IsReached}
use Rattle.group_trace.specs.Run.{lines_where, next, turn}
use Rattle.world_rules.specs.Spellings.{spellings}
use Rattle.world_lines.specs.Posted.{Posted}
use Rattle.world_lines.specs.declared.packet.Packet.{Packet}
use Rattle.trace_types.specs.declared.line.Line.{Line}
use Rattle.trace_types.specs.declared.step.Step.TheVariants as step
use Rattle.world.specs.World.{IsWorld, WorldValue}

-- the scene after packet n reached its server, before it counts as delivered
abbrev pub after_arrival : DiskScene → ℕ → DiskScene
after_arrival w n = record {
  scene = record (next (measures_of spellings) w.scene (step.Deliver n)) {
    delivered = w.scene.delivered;
  };
  disks = disks_next spellings w (step.Deliver n);
  picks = w.picks;
}

-- what the arrival leaves
pub record ArrivalLeaves (w : DiskScene) (n : ℕ) (new : WorldValue) (before after : List Line)
    : Type 0 where
  pub left : IsWorld (after_arrival w n) new
  pub lines : after ≡ before
      ++ lines_where w.scene.group (turn (measures_of spellings) w.scene (step.Deliver n)) []

-- in each scene to which steps lead, at which the world stands, and of each number that the packet
-- has
abbrev pub Arrives : (old new : WorldValue) → Packet → (before after : List Line) → Type 0
Arrives old new packet before after = (w : DiskScene) (n : ℕ)
    → IsReached spellings w → IsWorld w old
    → option_map (λ (p : Posted). p.packet) (slice_get old.packets n) ≡ Some packet
    → ArrivalLeaves w n new before after
