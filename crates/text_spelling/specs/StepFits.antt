-- Values that have a spelling.
use Rattle.std.specs.Prelude.{ℕ, ◌<◌, ◌≤◌, ◌^◌, Bool, List, length, slice_index}
use Rattle.harp_types.specs.declared.pick.Pick.{Pick}
use Rattle.harp_types.specs.declared.pick.Pick.TheVariants as pick
use Rattle.trace_types.specs.declared.step.Step.{Step}
use Rattle.trace_types.specs.declared.step.Step.TheVariants as step
use Rattle.text_spelling.specs.Fits.{CredFits, CallFits, AmongFits}

-- from 1 to 64 bits
abbrev pub PickFits : Pick → Type 0
PickFits pick.All = Unit {0}
PickFits pick.None = Unit {0}
PickFits (pick.Bits bits) = (1 ≤ length bits) × (length bits ≤ 64)

abbrev pub AreAnyBytes : List ℕ → Type 0
AreAnyBytes bytes = (i : ℕ) → slice_index bytes i < 256

abbrev pub StepFits : Step → Type 0
StepFits (step.Ask server client number cred call) =
    (client < 2 ^ 32) × (number < 10 ^ 18) × CredFits cred × CallFits call
StepFits (step.Deliver packet) = packet < 10 ^ 18
StepFits (step.Pump among) = AmongFits among
StepFits (step.Tick server) = Unit {0}
StepFits (step.Suspect server) = Unit {0}
StepFits (step.Apply server most) = (1 ≤ most) × (most ≤ 100000)
StepFits (step.Flush server) = Unit {0}
StepFits (step.List server) = Unit {0}
StepFits (step.Boot server) = Unit {0}
StepFits (step.Power server) = Unit {0}
StepFits (step.PowerCut server calls pick) = (calls < 10 ^ 18) × PickFits pick
StepFits (step.Crash server pick) = PickFits pick
StepFits (step.Stop server calls pick) = (calls ≤ 100000) × PickFits pick
StepFits (step.Noise server bytes) = AreAnyBytes bytes
StepFits (step.Clock server reading) = reading < 10 ^ 18
StepFits (step.Advance millis) = millis ≤ 10 ^ 9
StepFits (step.Delta millis) = (500 ≤ millis) × (millis ≤ 100000)
