-- What is asked of a world in which steps are taken: that it stands where they lead.
use Rattle.std.specs.Prelude.{◌≡◌, ℕ, ◌+◌, ◌<◌, ◌^◌, List, ◌∷◌, Option, None, Some, IfSome}
use Rattle.trace_types.specs.declared.line.Line.{Line}
use Rattle.trace_types.specs.declared.line.Line.TheVariants as line
use Rattle.trace_types.specs.declared.line.LineFault.{LineFault}
use Rattle.trace_types.specs.declared.line.LineFault.TheVariants as fault
use Rattle.trace_types.specs.declared.step.Step.{Step}
use Rattle.trace_types.specs.declared.step.Step.TheVariants as step
use Rattle.group_rules.specs.Names.{place_of}
use Rattle.group_rules.specs.Places.{Trio, with_at}
use Rattle.group_trace.specs.Refusals.{refusal}
use Rattle.group_trace.specs.Run.{CanFollow, step_lines}
use Rattle.group_trace.specs.Scene.{first_scene}
use Rattle.group_trace.specs.DiskCalls.{Spellings, measures_of}
use Rattle.group_trace.specs.DiskRun.{DiskScene, disk_next, disk_run, first_disk_scene}
use Rattle.schedule_play.specs.declared.refusal.Refusal.{Refusal}
use Rattle.schedule_play.specs.declared.refusal.Refusal.TheVariants as refusals

-- steps that only a full net may refuse lead from the first scene to this one
pub record IsReached (f : Spellings) (w : DiskScene) : Type 0 where
  pub steps : List Step
  pub taken : CanFollow (measures_of f) first_scene steps
  pub leads : disk_run f first_disk_scene steps ≡ w

-- A step was taken in a scene: it isn't refused there, these are its lines behind its event line,
-- and now the world stands where it leads
pub record IsTaken (f : Spellings) (w : DiskScene) (s : Step) (lines : List Line)
    (stands : DiskScene → Type 0) : Type 0 where
  pub not_refused : refusal (measures_of f) w.scene s ≡ None
  pub lines_are : line.Event s ∷ lines ≡ step_lines (measures_of f) w.scene s
  pub left : stands (disk_next f w s)

-- the fault of the line of a step that is refused; want of memory is no fault of it
abbrev pub fault_of : Refusal → Option LineFault
fault_of refusals.NoPacket = Some fault.NoPacket
fault_of refusals.ServerDown = Some fault.ServerDown
fault_of refusals.ServerUp = Some fault.ServerUp
fault_of refusals.ClockBack = Some fault.ClockBack
fault_of refusals.ClockApart = Some fault.ClockApart
fault_of refusals.NoiseIsMessage = Some fault.NoiseIsMessage
fault_of refusals.NetFull = Some fault.NetFull
fault_of refusals.NoMemory = None

-- a step is refused in a scene for just this reason, if it isn't want of memory
abbrev pub IsRefused : Spellings → DiskScene → Step → Refusal → Type 0
IsRefused f w s why =
    IfSome (fault_of why) (λ fault. refusal (measures_of f) w.scene s ≡ Some fault)

-- ---- clocks

-- what the clocks read after a step
abbrev pub clocks_after : Trio ℕ → Step → Trio ℕ
clocks_after clocks (step.Clock server reading) = with_at clocks (place_of server) reading
clocks_after clocks (step.Advance millis) =
    record {
      zero_th = clocks.zero_th + millis;
      one_th = clocks.one_th + millis;
      two_th = clocks.two_th + millis;
    }
clocks_after clocks s = clocks

-- each reading is below 2^62
abbrev pub AreReadings : Trio ℕ → Type 0
AreReadings clocks = (clocks.zero_th < 2 ^ 62) × (clocks.one_th < 2 ^ 62) × (clocks.two_th < 2 ^ 62)
