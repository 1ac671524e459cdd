-- Worked rows of an opening, and what other rows begin with.
use Rattle.std.specs.Prelude.{◌≡◌, List, [], ◌∷◌, ◌++◌}
use Rattle.harp_types.specs.declared.call.Call.TheVariants as call
use Rattle.harp_types.specs.declared.cred.TheConstants.{SUPERUSER}
use Rattle.harp_types.specs.declared.reply.Reply.TheVariants as reply
use Rattle.harp_types.specs.declared.reply.Status.TheVariants as status
use Rattle.harp_types.specs.declared.server.ServerId.TheVariants as server
use Rattle.harp_types.specs.declared.state.Held.TheVariants as held
use Rattle.harp_types.specs.declared.state.Mode.TheVariants as mode
use Rattle.harp_types.specs.declared.state.Role.TheVariants as role
use Rattle.harp_types.specs.declared.cause.Cause.TheVariants as cause
use Rattle.trace_types.specs.declared.step.Step.{Step}
use Rattle.trace_types.specs.declared.step.Step.TheVariants as step
use Rattle.trace_types.specs.declared.line.Line.{Line}
use Rattle.trace_types.specs.declared.line.Line.TheVariants as line
use Rattle.trace_types.specs.declared.line.ShownMessage.TheVariants as shown
use Rattle.group_trace.specs.Run.{AreTaken, run_lines}
use Rattle.group_trace.specs.Scene.{first_scene}
use Rattle.group_trace.specs.RowWords.{plain_measures, directory, entry, mode_755, state, time, view_zero, view_one}

-- the steps are taken, and these are their lines
abbrev pub Plays : List Step → List Line → Type 0
Plays steps lines = AreTaken plain_measures first_scene steps
    × (run_lines plain_measures first_scene steps ≡ lines)

-- view 1.0 is opened
abbrev pub opening_steps : List Step
opening_steps =
    step.Suspect server.Zero ∷
    step.Deliver 0 ∷
    step.Deliver 1 ∷
    step.Deliver 2 ∷
    step.Deliver 3 ∷
    step.Deliver 4 ∷
    step.Deliver 5 ∷
    step.Advance 2050 ∷
    step.Tick server.Zero ∷
    step.Deliver 6 ∷
    step.Deliver 7 ∷
    step.Deliver 8 ∷
    []

-- its lines
abbrev pub opening_lines : List Line
opening_lines =
    line.Event (step.Suspect server.Zero) ∷
    line.Sent 0 server.Zero server.One (shown.Invite view_one) ∷
    line.Sent 1 server.Zero server.Two (shown.Invite view_one) ∷
    state server.Zero mode.Calls view_one view_zero (role.Leads server.One) held.Held 0 0 0 0 0 ∷
    line.Event (step.Deliver 0) ∷
    line.Sent 2 server.One server.Zero (shown.Join view_one held.Held view_zero 0 0 0 0 2000) ∷
    state server.One mode.Joined view_one view_zero (role.Follows server.Zero) held.Held 0 0 0 0 0 ∷
    line.Event (step.Deliver 1) ∷
    line.Sent 3 server.Two server.Zero (shown.Join view_one held.Empty view_zero 0 0 0 0 2000) ∷
    state server.Two mode.Joined view_one view_zero role.Outside held.Empty 0 0 0 0 0 ∷
    line.Event (step.Deliver 2) ∷
    line.Sent 4 server.Zero server.One
    (shown.Form view_one server.Zero server.One server.Zero 0 0 0 2000) ∷
    state server.Zero mode.Waits view_one view_one (role.Leads server.One) held.Held 0 0 0 0 0 ∷
    line.Event (step.Deliver 3) ∷
    line.Event (step.Deliver 4) ∷
    line.Sent 5 server.One server.Zero (shown.Formed view_one 0) ∷
    state server.One mode.Waits view_one view_one (role.Follows server.Zero) held.Held 0 0 0 0 0 ∷
    line.Event (step.Deliver 5) ∷
    line.Event (step.Advance 2050) ∷
    line.Event (step.Tick server.Zero) ∷
    line.Sent 6 server.Zero server.Two (shown.Demote view_one) ∷
    line.Sent 7 server.Zero server.One (shown.Beat view_one 0 0) ∷
    state server.Zero mode.Open view_one view_one (role.Leads server.One) held.Held 0 0 0 0 0 ∷
    line.Event (step.Deliver 6) ∷
    state server.Two mode.Rests view_one view_one role.Outside held.Empty 0 0 0 0 0 ∷
    line.Event (step.Deliver 7) ∷
    line.Sent 8 server.One server.Zero (shown.Ack view_one 0 0 4050) ∷
    state server.One mode.Live view_one view_one (role.Follows server.Zero) held.Held 0 0 0 0 0 ∷
    line.Event (step.Deliver 8) ∷
    []

-- view 1.0 is opened, and three updates are answered in it
abbrev pub three_updates_steps : List Step
three_updates_steps =
    opening_steps ++
    (step.Ask server.Zero 7 1 SUPERUSER (call.MkDir 1 (0x61 ∷ []) mode_755) ∷
    step.Ask server.Zero 7 2 SUPERUSER (call.MkDir 1 (0x62 ∷ []) mode_755) ∷
    step.Ask server.Zero 7 3 SUPERUSER (call.Remove 1 (0x7a ∷ [])) ∷
    step.Deliver 9 ∷
    step.Deliver 10 ∷
    step.Deliver 11 ∷
    step.Deliver 12 ∷
    step.Deliver 13 ∷
    step.Deliver 14 ∷
    [])

-- its lines
abbrev pub three_updates_lines : List Line
three_updates_lines =
    opening_lines ++
    (line.Event (step.Ask server.Zero 7 1 SUPERUSER (call.MkDir 1 (0x61 ∷ []) mode_755)) ∷
    line.Sent 9 server.Zero server.One (shown.Event view_one 1 0 0 7 1) ∷
    state server.Zero mode.Open view_one view_one (role.Leads server.One) held.Held 0 0 0 0 1 ∷
    line.Event (step.Ask server.Zero 7 2 SUPERUSER (call.MkDir 1 (0x62 ∷ []) mode_755)) ∷
    line.Sent 10 server.Zero server.One (shown.Event view_one 2 0 0 7 2) ∷
    state server.Zero mode.Open view_one view_one (role.Leads server.One) held.Held 0 0 0 0 2 ∷
    line.Event (step.Ask server.Zero 7 3 SUPERUSER (call.Remove 1 (0x7a ∷ []))) ∷
    line.Sent 11 server.Zero server.One (shown.Event view_one 3 0 0 7 3) ∷
    state server.Zero mode.Open view_one view_one (role.Leads server.One) held.Held 0 0 0 0 3 ∷
    line.Event (step.Deliver 9) ∷
    line.Sent 12 server.One server.Zero (shown.Ack view_one 1 0 4050) ∷
    state server.One mode.Live view_one view_one (role.Follows server.Zero) held.Held 0 0 0 0 1 ∷
    line.Event (step.Deliver 10) ∷
    line.Sent 13 server.One server.Zero (shown.Ack view_one 2 0 4050) ∷
    state server.One mode.Live view_one view_one (role.Follows server.Zero) held.Held 0 0 0 0 2 ∷
    line.Event (step.Deliver 11) ∷
    line.Sent 14 server.One server.Zero (shown.Ack view_one 3 0 4050) ∷
    state server.One mode.Live view_one view_one (role.Follows server.Zero) held.Held 0 0 0 0 3 ∷
    line.Event (step.Deliver 12) ∷
    line.Entered 1
    (entry 1 7 1 2050 (call.MkDir 1 (0x61 ∷ []) mode_755)
    (reply.Node 2 (directory 493 2 0 0 2 (time 2 50000) (time 2 50000) (time 2 50000)))) ∷
    line.Answered server.Zero 7 1 1
    (reply.Node 2 (directory 493 2 0 0 2 (time 2 50000) (time 2 50000) (time 2 50000))) ∷
    state server.Zero mode.Open view_one view_one (role.Leads server.One) held.Held 0 0 0 1 3 ∷
    line.Event (step.Deliver 13) ∷
    line.Entered 2
    (entry 2 7 2 2050 (call.MkDir 1 (0x62 ∷ []) mode_755)
    (reply.Node 3 (directory 493 2 0 0 3 (time 2 50000) (time 2 50000) (time 2 50000)))) ∷
    line.Answered server.Zero 7 2 2
    (reply.Node 3 (directory 493 2 0 0 3 (time 2 50000) (time 2 50000) (time 2 50000))) ∷
    state server.Zero mode.Open view_one view_one (role.Leads server.One) held.Held 0 0 0 2 3 ∷
    line.Event (step.Deliver 14) ∷
    line.Entered 3 (entry 3 7 3 2050 (call.Remove 1 (0x7a ∷ [])) (reply.Refused status.NoEnt)) ∷
    line.Answered server.Zero 7 3 3 (reply.Refused status.NoEnt) ∷
    state server.Zero mode.Open view_one view_one (role.Leads server.One) held.Held 0 0 0 3 3 ∷
    [])

-- and server 1, which heard of them, applies them
abbrev pub applied_steps : List Step
applied_steps =
    three_updates_steps ++
    (step.Tick server.Zero ∷
    step.Deliver 15 ∷
    step.Deliver 16 ∷
    step.Apply server.One 3 ∷
    [])

-- its lines
abbrev pub applied_lines : List Line
applied_lines =
    three_updates_lines ++
    (line.Event (step.Tick server.Zero) ∷
    line.Sent 15 server.Zero server.One (shown.Beat view_one 3 0) ∷
    line.Event (step.Deliver 15) ∷
    line.Sent 16 server.One server.Zero (shown.Ack view_one 3 0 4050) ∷
    state server.One mode.Live view_one view_one (role.Follows server.Zero) held.Held 0 0 0 3 3 ∷
    line.Event (step.Deliver 16) ∷
    line.Event (step.Apply server.One 3) ∷
    state server.One mode.Live view_one view_one (role.Follows server.Zero) held.Held 0 0 3 3 3 ∷
    [])

-- its steps
abbrev pub opening_at_its_moment_steps : List Step
opening_at_its_moment_steps =
    step.Suspect server.Zero ∷
    step.Deliver 0 ∷
    step.Deliver 1 ∷
    step.Deliver 2 ∷
    step.Deliver 3 ∷
    step.Deliver 4 ∷
    step.Deliver 5 ∷
    step.Ask server.Zero 7 1 SUPERUSER call.Null ∷
    step.Advance 2049 ∷
    step.Tick server.Zero ∷
    step.Ask server.Zero 7 1 SUPERUSER call.Null ∷
    step.Advance 1 ∷
    step.Tick server.Zero ∷
    []

-- its lines
abbrev pub opening_at_its_moment_lines : List Line
opening_at_its_moment_lines =
    line.Event (step.Suspect server.Zero) ∷
    line.Sent 0 server.Zero server.One (shown.Invite view_one) ∷
    line.Sent 1 server.Zero server.Two (shown.Invite view_one) ∷
    state server.Zero mode.Calls view_one view_zero (role.Leads server.One) held.Held 0 0 0 0 0 ∷
    line.Event (step.Deliver 0) ∷
    line.Sent 2 server.One server.Zero (shown.Join view_one held.Held view_zero 0 0 0 0 2000) ∷
    state server.One mode.Joined view_one view_zero (role.Follows server.Zero) held.Held 0 0 0 0 0 ∷
    line.Event (step.Deliver 1) ∷
    line.Sent 3 server.Two server.Zero (shown.Join view_one held.Empty view_zero 0 0 0 0 2000) ∷
    state server.Two mode.Joined view_one view_zero role.Outside held.Empty 0 0 0 0 0 ∷
    line.Event (step.Deliver 2) ∷
    line.Sent 4 server.Zero server.One
    (shown.Form view_one server.Zero server.One server.Zero 0 0 0 2000) ∷
    state server.Zero mode.Waits view_one view_one (role.Leads server.One) held.Held 0 0 0 0 0 ∷
    line.Event (step.Deliver 3) ∷
    line.Event (step.Deliver 4) ∷
    line.Sent 5 server.One server.Zero (shown.Formed view_one 0) ∷
    state server.One mode.Waits view_one view_one (role.Follows server.Zero) held.Held 0 0 0 0 0 ∷
    line.Event (step.Deliver 5) ∷
    line.Event (step.Ask server.Zero 7 1 SUPERUSER call.Null) ∷
    line.Refused server.Zero 7 1 cause.NotYetOpen ∷
    line.Event (step.Advance 2049) ∷
    line.Event (step.Tick server.Zero) ∷
    line.Event (step.Ask server.Zero 7 1 SUPERUSER call.Null) ∷
    line.Refused server.Zero 7 1 cause.NotYetOpen ∷
    line.Event (step.Advance 1) ∷
    line.Event (step.Tick server.Zero) ∷
    line.Sent 6 server.Zero server.Two (shown.Demote view_one) ∷
    line.Sent 7 server.Zero server.One (shown.Beat view_one 0 0) ∷
    state server.Zero mode.Open view_one view_one (role.Leads server.One) held.Held 0 0 0 0 0 ∷
    []

-- a leader opens its view at the moment when all promises of views below have ended, and refuses
-- asks until then
abbrev pub OpeningAtItsMoment : Type 0
OpeningAtItsMoment = Plays opening_at_its_moment_steps opening_at_its_moment_lines
