-- Worked rows over views: a late acknowledgement, and a view that is never opened.
use Rattle.std.specs.Prelude.{List, [], ◌∷◌, ◌++◌}
use Rattle.harp_types.specs.declared.call.Call.TheVariants as call
use Rattle.harp_types.specs.declared.cred.TheConstants.{SUPERUSER}
use Rattle.harp_types.specs.declared.reply.Reply.TheVariants as reply
use Rattle.harp_types.specs.declared.server.ServerId.TheVariants as server
use Rattle.harp_types.specs.declared.state.Held.TheVariants as held
use Rattle.harp_types.specs.declared.state.Mode.TheVariants as mode
use Rattle.harp_types.specs.declared.state.Role.TheVariants as role
use Rattle.harp_types.specs.declared.pick.Pick.TheVariants as pick
use Rattle.trace_types.specs.declared.step.Step.{Step}
use Rattle.trace_types.specs.declared.step.Step.TheVariants as step
use Rattle.trace_types.specs.declared.line.Line.{Line}
use Rattle.trace_types.specs.declared.line.Line.TheVariants as line
use Rattle.trace_types.specs.declared.line.ShownMessage.TheVariants as shown
use Rattle.group_trace.specs.RowWords.{directory, entry, mode_755, state, time, view, view_one}
use Rattle.group_trace.specs.RowsOfOpening.{Plays, opening_lines, opening_steps}

-- its steps
abbrev pub late_acknowledgement_steps : List Step
late_acknowledgement_steps =
    opening_steps ++
    (step.Ask server.Zero 7 1 SUPERUSER (call.MkDir 1 (0x61 ∷ []) mode_755) ∷
    step.Deliver 9 ∷
    step.Suspect server.One ∷
    step.Deliver 12 ∷
    step.Deliver 13 ∷
    step.Deliver 14 ∷
    step.Deliver 15 ∷
    step.Deliver 16 ∷
    step.Deliver 17 ∷
    step.Advance 2050 ∷
    step.Tick server.One ∷
    step.Deliver 10 ∷
    [])

-- its lines
abbrev pub late_acknowledgement_lines : List Line
late_acknowledgement_lines =
    opening_lines ++
    (line.Event (step.Ask server.Zero 7 1 SUPERUSER (call.MkDir 1 (0x61 ∷ []) mode_755)) ∷
    line.Sent 9 server.Zero server.One (shown.Event view_one 1 0 0 7 1) ∷
    state server.Zero mode.Open view_one view_one (role.Leads server.One) held.Held 0 0 0 0 1 ∷
    line.Event (step.Deliver 9) ∷
    line.Sent 10 server.One server.Zero (shown.Ack view_one 1 0 4050) ∷
    state server.One mode.Live view_one view_one (role.Follows server.Zero) held.Held 0 0 0 0 1 ∷
    line.Event (step.Suspect server.One) ∷
    line.Sent 11 server.One server.Zero (shown.Invite (view 2 server.One)) ∷
    line.Sent 12 server.One server.Two (shown.Invite (view 2 server.One)) ∷
    state server.One mode.Calls (view 2 server.One) view_one (role.Follows server.Zero) held.Held 0
    0 0 0 1 ∷
    line.Event (step.Deliver 12) ∷
    line.Sent 13 server.Two server.One
    (shown.Join (view 2 server.One) held.Empty view_one 0 0 0 0 2000) ∷
    state server.Two mode.Joined (view 2 server.One) view_one role.Outside held.Empty 0 0 0 0 0 ∷
    line.Event (step.Deliver 13) ∷
    line.Sent 14 server.One server.Two
    (shown.Form (view 2 server.One) server.One server.Two server.One 0 0 1 4050) ∷
    state server.One mode.Waits (view 2 server.One) (view 2 server.One) (role.Leads server.Two)
    held.Held 0 0 0 0 1 ∷
    line.Event (step.Deliver 14) ∷
    line.Sent 15 server.Two server.One (shown.Fetch (view 2 server.One) 1) ∷
    state server.Two mode.Pulls (view 2 server.One) view_one role.Outside held.Empty 0 0 0 0 0 ∷
    line.Event (step.Deliver 15) ∷
    line.Sent 16 server.One server.Two (shown.Give (view 2 server.One) 1 1) ∷
    line.Event (step.Deliver 16) ∷
    line.Sent 17 server.Two server.One (shown.Formed (view 2 server.One) 0) ∷
    state server.Two mode.Waits (view 2 server.One) (view 2 server.One) (role.Follows server.One)
    held.Held 0 0 0 0 1 ∷
    line.Event (step.Deliver 17) ∷
    line.Event (step.Advance 2050) ∷
    line.Event (step.Tick server.One) ∷
    line.Entered 1
    (entry 1 7 1 2050 (call.MkDir 1 (0x61 ∷ []) mode_755)
    (reply.Node 2 (directory 493 2 0 0 2 (time 2 50000) (time 2 50000) (time 2 50000)))) ∷
    line.Sent 18 server.One server.Two (shown.Beat (view 2 server.One) 1 0) ∷
    state server.One mode.Open (view 2 server.One) (view 2 server.One) (role.Leads server.Two)
    held.Held 0 0 0 1 1 ∷
    line.Event (step.Deliver 10) ∷
    line.Answered server.Zero 7 1 1
    (reply.Node 2 (directory 493 2 0 0 2 (time 2 50000) (time 2 50000) (time 2 50000))) ∷
    state server.Zero mode.Open view_one view_one (role.Leads server.One) held.Held 0 0 0 1 1 ∷
    [])

-- an update is committed by the next leader at its opening, and answered late by the old one
abbrev pub LateAcknowledgement : Type 0
LateAcknowledgement = Plays late_acknowledgement_steps late_acknowledgement_lines

-- its steps
abbrev pub abandoned_formation_steps : List Step
abandoned_formation_steps =
    opening_steps ++
    (step.Ask server.Zero 7 1 SUPERUSER (call.MkDir 1 (0x61 ∷ []) mode_755) ∷
    step.Ask server.Zero 7 2 SUPERUSER (call.MkDir 1 (0x62 ∷ []) mode_755) ∷
    step.Deliver 9 ∷
    step.Deliver 11 ∷
    step.Suspect server.Zero ∷
    step.Deliver 12 ∷
    step.Deliver 14 ∷
    step.Deliver 15 ∷
    step.Crash server.Zero pick.None ∷
    step.Suspect server.One ∷
    step.Deliver 18 ∷
    step.Deliver 19 ∷
    step.Deliver 20 ∷
    step.Deliver 21 ∷
    step.Deliver 22 ∷
    step.Deliver 23 ∷
    step.Advance 2050 ∷
    step.Tick server.One ∷
    step.List server.One ∷
    [])

-- its lines
abbrev pub abandoned_formation_lines : List Line
abandoned_formation_lines =
    opening_lines ++
    (line.Event (step.Ask server.Zero 7 1 SUPERUSER (call.MkDir 1 (0x61 ∷ []) mode_755)) ∷
    line.Sent 9 server.Zero server.One (shown.Event view_one 1 0 0 7 1) ∷
    state server.Zero mode.Open view_one view_one (role.Leads server.One) held.Held 0 0 0 0 1 ∷
    line.Event (step.Ask server.Zero 7 2 SUPERUSER (call.MkDir 1 (0x62 ∷ []) mode_755)) ∷
    line.Sent 10 server.Zero server.One (shown.Event view_one 2 0 0 7 2) ∷
    state server.Zero mode.Open view_one view_one (role.Leads server.One) held.Held 0 0 0 0 2 ∷
    line.Event (step.Deliver 9) ∷
    line.Sent 11 server.One server.Zero (shown.Ack view_one 1 0 4050) ∷
    state server.One mode.Live view_one view_one (role.Follows server.Zero) held.Held 0 0 0 0 1 ∷
    line.Event (step.Deliver 11) ∷
    line.Entered 1
    (entry 1 7 1 2050 (call.MkDir 1 (0x61 ∷ []) mode_755)
    (reply.Node 2 (directory 493 2 0 0 2 (time 2 50000) (time 2 50000) (time 2 50000)))) ∷
    line.Answered server.Zero 7 1 1
    (reply.Node 2 (directory 493 2 0 0 2 (time 2 50000) (time 2 50000) (time 2 50000))) ∷
    state server.Zero mode.Open view_one view_one (role.Leads server.One) held.Held 0 0 0 1 2 ∷
    line.Event (step.Suspect server.Zero) ∷
    line.Sent 12 server.Zero server.One (shown.Invite (view 2 server.Zero)) ∷
    line.Sent 13 server.Zero server.Two (shown.Invite (view 2 server.Zero)) ∷
    state server.Zero mode.Calls (view 2 server.Zero) view_one (role.Leads server.One) held.Held 0 0
    0 1 2 ∷
    line.Event (step.Deliver 12) ∷
    line.Sent 14 server.One server.Zero
    (shown.Join (view 2 server.Zero) held.Held view_one 0 0 0 1 4050) ∷
    state server.One mode.Joined (view 2 server.Zero) view_one (role.Follows server.Zero) held.Held
    0 0 0 0 1 ∷
    line.Event (step.Deliver 14) ∷
    line.Sent 15 server.Zero server.One
    (shown.Form (view 2 server.Zero) server.Zero server.One server.Zero 0 1 2 4050) ∷
    state server.Zero mode.Waits (view 2 server.Zero) (view 2 server.Zero) (role.Leads server.One)
    held.Held 0 0 0 1 2 ∷
    line.Event (step.Deliver 15) ∷
    line.Sent 16 server.One server.Zero (shown.Fetch (view 2 server.Zero) 1) ∷
    state server.One mode.Pulls (view 2 server.Zero) view_one (role.Follows server.Zero) held.Held 0
    0 0 0 1 ∷
    line.Event (step.Crash server.Zero pick.None) ∷
    line.Down server.Zero ∷
    line.Event (step.Suspect server.One) ∷
    line.Sent 17 server.One server.Zero (shown.Invite (view 3 server.One)) ∷
    line.Sent 18 server.One server.Two (shown.Invite (view 3 server.One)) ∷
    state server.One mode.Calls (view 3 server.One) view_one (role.Follows server.Zero) held.Held 0
    0 0 0 1 ∷
    line.Event (step.Deliver 18) ∷
    line.Sent 19 server.Two server.One
    (shown.Join (view 3 server.One) held.Empty view_one 0 0 0 0 2000) ∷
    state server.Two mode.Joined (view 3 server.One) view_one role.Outside held.Empty 0 0 0 0 0 ∷
    line.Event (step.Deliver 19) ∷
    line.Sent 20 server.One server.Two
    (shown.Form (view 3 server.One) server.One server.Two server.One 0 0 1 4050) ∷
    state server.One mode.Waits (view 3 server.One) (view 3 server.One) (role.Leads server.Two)
    held.Held 0 0 0 0 1 ∷
    line.Event (step.Deliver 20) ∷
    line.Sent 21 server.Two server.One (shown.Fetch (view 3 server.One) 1) ∷
    state server.Two mode.Pulls (view 3 server.One) view_one role.Outside held.Empty 0 0 0 0 0 ∷
    line.Event (step.Deliver 21) ∷
    line.Sent 22 server.One server.Two (shown.Give (view 3 server.One) 1 1) ∷
    line.Event (step.Deliver 22) ∷
    line.Sent 23 server.Two server.One (shown.Formed (view 3 server.One) 0) ∷
    state server.Two mode.Waits (view 3 server.One) (view 3 server.One) (role.Follows server.One)
    held.Held 0 0 0 0 1 ∷
    line.Event (step.Deliver 23) ∷
    line.Event (step.Advance 2050) ∷
    line.Event (step.Tick server.One) ∷
    line.Sent 24 server.One server.Two (shown.Beat (view 3 server.One) 1 0) ∷
    state server.One mode.Open (view 3 server.One) (view 3 server.One) (role.Leads server.Two)
    held.Held 0 0 0 1 1 ∷
    line.Event (step.List server.One) ∷
    line.Listed server.One 1 2 ∷
    line.Object (directory 493 3 264 1 1 (time 0 0) (time 2 50000) (time 2 50000)) ∷
    line.Slot 1 0 2 (0x61 ∷ []) ∷
    line.Object (directory 493 2 0 0 2 (time 2 50000) (time 2 50000) (time 2 50000)) ∷
    [])

-- a formation is given up while server 1 pulls: its old log stands, and the acknowledged update
-- with it
abbrev pub AbandonedFormation : Type 0
AbandonedFormation = Plays abandoned_formation_steps abandoned_formation_lines
