-- THE STEPS OF A DOOR: what a play takes for the calls of one user and group, one after the other.
use Rattle.std.specs.Prelude.{ℕ, ◌+◌, ◌%◌, ◌==◌, List, [], ◌∷◌, ◌++◌, None, if◌then◌else◌}
use Rattle.trace_types.specs.declared.step.Step.{Step}
use Rattle.trace_types.specs.declared.step.Step.TheVariants as step
use Rattle.harp_types.specs.declared.attr.SetAttr.{SetAttr}
use Rattle.harp_types.specs.declared.call.Call.{Call}
use Rattle.harp_types.specs.declared.call.Call.TheVariants as call
use Rattle.harp_types.specs.declared.cred.Cred.{Cred}
use Rattle.harp_types.specs.declared.server.ServerId.TheVariants.{Zero, One}
use Rattle.group_trace.specs.Pump.{spelled_out}
use Rattle.group_trace.specs.Scene.{Measures, Scene}
use Rattle.schedule_play.specs.Reading.{Reading, all_read, with_steps}

-- ---- calls as they are asked

-- the low 12 bits of a mode; 2^32 - 1 sets none
abbrev pub cut_mode : ℕ → ℕ
cut_mode mode = if mode == 4294967295 then mode else mode % 4096

abbrev pub cut_attr : SetAttr → SetAttr
cut_attr a = record a { mode = cut_mode a.mode }

-- a call with its mode cut
abbrev pub cut : Call → Call
cut (call.SetAttr h a) = call.SetAttr h (cut_attr a)
cut (call.Create d n a) = call.Create d n (cut_attr a)
cut (call.SymLink d n t a) = call.SymLink d n t (cut_attr a)
cut (call.MkDir d n a) = call.MkDir d n (cut_attr a)
cut c = c

-- ---- steps

-- view 1.0 is opened
abbrev pub opening : List Step
opening = step.Suspect Zero ∷ step.Pump None ∷ step.Advance 2050 ∷ step.Tick Zero ∷ step.Pump None
    ∷ []

-- the servers tell each other how far they are, bring their disks up to it, and tell that
abbrev pub upkeep : List Step
upkeep = step.Tick Zero ∷ step.Pump None ∷ step.Apply Zero 64 ∷ step.Apply One 64 ∷ step.Flush Zero
    ∷ step.Flush One
    ∷ step.Tick Zero ∷ step.Pump None ∷ []

-- the call with this number is asked, and all that it leads to is delivered
abbrev pub steps_of_call : Cred → ℕ → Call → List Step
steps_of_call cred number c =
    step.Ask Zero 0 number cred (cut c) ∷ step.Pump None
    ∷ (if number % 64 == 0 then upkeep else [])

-- calls, of which the first has this number
abbrev pub steps_of_calls : Cred → ℕ → List Call → List Step
steps_of_calls cred number [] = []
steps_of_calls cred number (c ∷ cs) =
    steps_of_call cred number c ++ steps_of_calls cred (number + 1) cs

-- the view is opened, and then the calls are asked, from number 1 on
abbrev pub door_steps : Cred → List Call → List Step
door_steps cred calls = opening ++ steps_of_calls cred 1 calls

-- what is taken of steps in a scene: the deliveries of a pump one by one, up to the first step that
-- is refused
abbrev pub taken_from : Measures → List Step → Scene → Reading
taken_from m [] w = all_read
taken_from m (s ∷ ss) w = with_steps m 0 (spelled_out m w s) (taken_from m ss) w
