-- The forms of steps, and what stands behind their names.
use Rattle.std.proofs.Common.{◌≡◌, ℕ, List, ◌++◌}
use Rattle.std.specs.Prelude.{decimal, codes}
use Rattle.harp_types.specs.declared.server.ServerId.{ServerId}
use Rattle.trace_types.specs.declared.step.Step.{Step}
use Rattle.trace_types.specs.declared.step.Step.TheVariants as step
use Rattle.text_spelling.specs.Text.{spaced, hex_text, among_text}
use Rattle.text_spelling.specs.Steps.{pick_text}
use Rattle.text_spelling.specs.StepFits.{StepFits}
use Rattle.schedule_text.proofs.FieldLaws.{server_text}
use Rattle.schedule_text.specs.declared.form.Form.{Form}
use Rattle.schedule_text.specs.declared.form.Form.TheVariants as form
use Rattle.schedule_text.proofs.AskLaws.{asked_text}

abbrev pub spaced_server : ServerId → List ℕ
spaced_server s = spaced (server_text s)

-- the form of a step
abbrev pub form_of : Step → Form
form_of (step.Ask server client number cred asked) = form.Ask
form_of (step.Deliver packet) = form.Deliver
form_of (step.Pump among) = form.Pump
form_of (step.Tick server) = form.Tick
form_of (step.Suspect server) = form.Suspect
form_of (step.Apply server most) = form.Apply
form_of (step.Flush server) = form.Flush
form_of (step.List server) = form.List
form_of (step.Boot server) = form.Boot
form_of (step.Power server) = form.Power
form_of (step.PowerCut server calls pick) = form.Power
form_of (step.Crash server pick) = form.Crash
form_of (step.Stop server calls pick) = form.Stop
form_of (step.Noise server bytes) = form.Noise
form_of (step.Clock server reading) = form.Clock
form_of (step.Advance millis) = form.Advance
form_of (step.Delta millis) = form.Delta

-- what stands behind the name of a step
abbrev pub rest_text : Step → List ℕ
rest_text (step.Ask server client number cred asked) =
    ((spaced_server server ++ spaced (decimal client)) ++ spaced (decimal number))
    ++ asked_text (cred, asked)
rest_text (step.Deliver packet) = spaced (decimal packet)
rest_text (step.Pump among) = among_text among
rest_text (step.Tick server) = spaced_server server
rest_text (step.Suspect server) = spaced_server server
rest_text (step.Apply server most) = spaced_server server ++ spaced (decimal most)
rest_text (step.Flush server) = spaced_server server
rest_text (step.List server) = spaced_server server
rest_text (step.Boot server) = spaced_server server
rest_text (step.Power server) = spaced_server server ++ spaced (codes "all")
rest_text (step.PowerCut server calls pick) =
    (spaced_server server ++ spaced (decimal calls)) ++ spaced (pick_text pick)
rest_text (step.Crash server pick) = spaced_server server ++ spaced (pick_text pick)
rest_text (step.Stop server calls pick) =
    (spaced_server server ++ spaced (decimal calls)) ++ spaced (pick_text pick)
rest_text (step.Noise server bytes) = spaced_server server ++ spaced (hex_text bytes)
rest_text (step.Clock server reading) = spaced_server server ++ spaced (decimal reading)
rest_text (step.Advance millis) = spaced (decimal millis)
rest_text (step.Delta millis) = spaced (decimal millis)

-- the step is of this form, and fits
abbrev pub IsOfForm : Form → Step → Type 0
IsOfForm f s = StepFits s × (form_of s ≡ f)
