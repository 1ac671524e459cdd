-- WHAT A DOOR HAS DONE in the group that is played: which calls were answered there, and how.
use Rattle.std.specs.Prelude.{◌≡◌, List, map, None, Some}
use Rattle.harp_types.specs.declared.call.Call.{Call}
use Rattle.harp_types.specs.declared.cred.Cred.{Cred}
use Rattle.trace_types.specs.declared.line.LineFault.TheVariants as fault
use Rattle.group_trace.specs.DiskCalls.{Spellings, measures_of}
use Rattle.group_trace.specs.DiskRun.{DiskScene, disk_run, first_disk_scene}
use Rattle.group_trace.specs.Run.{run_lines}
use Rattle.group_trace.specs.Scene.{Measures, first_scene}
use Rattle.rpc_door.specs.declared.group.Exchange.{Exchange}
use Rattle.schedule_play.specs.Reading.{Reading}
use Rattle.door_play.specs.Replies.{answers_in, numbered_from, replies_to}
use Rattle.door_play.specs.Steps.{door_steps, taken_from}

-- what is taken of the steps of these calls
abbrev pub reading_of_calls : Measures → Cred → List Call → Reading
reading_of_calls m cred calls = taken_from m (door_steps cred calls) first_scene

abbrev pub calls_of : List Exchange → List Call
calls_of made = map (λ x. x.call) made

-- A DOOR HAS ANSWERED these calls of one user and group: none of their steps was refused, and each
-- reply is that of the one tree and stands in the lines of the run
pub record HasAnswered (f : Spellings) (cred : Cred) (made : List Exchange) : Type 0 where
  pub replies : map (λ x. x.reply) made ≡ replies_to cred (calls_of made)
  pub taken : (reading_of_calls (measures_of f) cred (calls_of made)).refused ≡ None
  pub said : answers_in (run_lines (measures_of f) first_scene
      (reading_of_calls (measures_of f) cred (calls_of made)).steps)
      ≡ numbered_from 1 (map (λ x. x.reply) made)

-- the world stands where their steps lead
abbrev pub IsLeft : Spellings → Cred → List Exchange → (DiskScene → Type 0) → Type 0
IsLeft f cred made stands = stands (disk_run f first_disk_scene
    (reading_of_calls (measures_of f) cred (calls_of made)).steps)

-- IT HAS GIVEN UP the last of these calls: one of its steps is refused, since the network is full,
-- and the world stands where the steps before lead
pub record HasGivenUp (f : Spellings) (cred : Cred) (calls : List Call)
    (stands : DiskScene → Type 0) : Type 0 where
  pub refused : (reading_of_calls (measures_of f) cred calls).refused ≡ Some (0, fault.NetFull)
  pub left : stands (disk_run f first_disk_scene
      (reading_of_calls (measures_of f) cred calls).steps)
