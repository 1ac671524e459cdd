-- What a pump leaves.
use Rattle.std.specs.Prelude.{◌≡◌, ℕ, List, [], ◌∷◌, ◌++◌, Option, Some, None, Ok}
use Rattle.harp_types.specs.declared.server.ServerId.{ServerId}
use Rattle.trace_types.specs.declared.step.Step.TheVariants as step
use Rattle.schedule_text.specs.Reading.{meaning_of}
use Rattle.group_trace.specs.Pump.{due}
use Rattle.group_trace.specs.Run.{run}
use Rattle.group_trace.specs.Scene.{Measures, first_scene}
use Rattle.schedule_play.specs.Reading.{reading_of}

-- BEHIND A PUMP NOTHING IS DUE: where lines of a schedule end with a pump, and none of them is
-- refused, each packet among its servers was delivered
abbrev pub PumpsLeaveNone : Measures → Type 0
PumpsLeaveNone m = (lines : List (List ℕ)) (line : List ℕ)
    (among : Option (ServerId × ServerId)) → meaning_of line ≡ Ok (Some (step.Pump among))
    → let read = reading_of m (lines ++ line ∷ []) in
    read.refused ≡ None → due among (run m first_scene read.steps) ≡ None
