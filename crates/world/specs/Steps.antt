-- Steps that are taken, and such as aren't.
use Rattle.std.specs.Prelude.{◌≡◌, ◌<◌, ◌∷◌, List, length, Option, None, Some, IfSome, ⊤}
use Rattle.group_trace.specs.DiskCalls.{measures_of}
use Rattle.group_trace.specs.DiskRun.{DiskScene, disk_next}
use Rattle.schedule_play.specs.Stage.{IsReached, fault_of}
use Rattle.schedule_play.specs.declared.refusal.Refusal.{Refusal}
use Rattle.group_trace.specs.Refusals.{own_refusal}
use Rattle.group_trace.specs.Run.{step_lines}
use Rattle.world_rules.specs.Spellings.{spellings}
use Rattle.trace_types.specs.declared.line.Line.{Line}
use Rattle.trace_types.specs.declared.line.Line.TheVariants as line
use Rattle.trace_types.specs.declared.line.LineFault.{LineFault}
use Rattle.trace_types.specs.declared.step.Step.{Step}
use Rattle.trace_types.specs.declared.step.Step.TheVariants as step
use Rattle.world.specs.World.{IsWorld, WorldValue}

-- A STEP LEADS from a scene to where the world stands now, and these are its lines behind its event
-- line
pub record Leads (w : DiskScene) (s : Step) (lines : List Line) (new : WorldValue) : Type 0 where
  pub lines_are : line.Event s ∷ lines ≡ step_lines (measures_of spellings) w.scene s
  pub left : IsWorld (disk_next spellings w s) new

-- A STEP IS TAKEN in each scene to which steps lead, at which the world stands and in which the step
-- isn't refused, however much was sent before it
abbrev pub Takes : (old new : WorldValue) → Step → List Line → Type 0
Takes old new s lines = (w : DiskScene) → IsReached spellings w → IsWorld w old
    → own_refusal (measures_of spellings) w.scene.group s ≡ None → Leads w s lines new

-- A REASON IS GIVEN just where there is one, and it is that one, if it isn't want of memory
abbrev pub IsReason : Option Refusal → Option LineFault → Type 0
IsReason None fault = fault ≡ None
IsReason (Some why) fault = IfSome (fault_of why) (λ f. fault ≡ Some f)

-- a packet is delivered that was sent, and no pump is taken
abbrev pub IsReady : WorldValue → Step → Type 0
IsReady x (step.Deliver n) = n < length x.packets
IsReady x (step.Pump among) = ⊥
IsReady x s = ⊤
