-- Worked rows of power failures at both data servers.
use Rattle.std.specs.Prelude.{true, false, List, [], ◌∷◌, ◌++◌}
use Rattle.harp_types.specs.declared.call.Call.TheVariants as call
use Rattle.harp_types.specs.declared.cred.TheConstants.{SUPERUSER}
use Rattle.harp_types.specs.declared.reply.Reply.TheVariants as reply
use Rattle.harp_types.specs.declared.server.ServerId.TheVariants as server
use Rattle.harp_types.specs.declared.state.Held.TheVariants as held
use Rattle.harp_types.specs.declared.state.Mode.TheVariants as mode
use Rattle.harp_types.specs.declared.state.Role.TheVariants as role
use Rattle.harp_types.specs.declared.pick.Pick.TheVariants as pick
use Rattle.trace_types.specs.declared.step.Step.{Step}
use Rattle.trace_types.specs.declared.step.Step.TheVariants as step
use Rattle.trace_types.specs.declared.line.Line.{Line}
use Rattle.trace_types.specs.declared.line.Line.TheVariants as line
use Rattle.trace_types.specs.declared.line.ShownMessage.TheVariants as shown
use Rattle.group_trace.specs.RowWords.{directory, entry, mode_755, state, time, view, view_one}
use Rattle.group_trace.specs.RowsOfOpening.{Plays, opening_lines, opening_steps, three_updates_lines, three_updates_steps}

-- its steps
abbrev pub power_failure_steps : List Step
power_failure_steps =
    three_updates_steps ++
    (step.Power server.Zero ∷
    step.Power server.One ∷
    step.Boot server.Zero ∷
    step.Boot server.One ∷
    step.Suspect server.Zero ∷
    step.Deliver 15 ∷
    step.Deliver 16 ∷
    step.Deliver 17 ∷
    step.Deliver 18 ∷
    step.Deliver 19 ∷
    step.Deliver 20 ∷
    step.Deliver 21 ∷
    step.Deliver 22 ∷
    step.Advance 2050 ∷
    step.Tick server.Zero ∷
    step.Deliver 23 ∷
    step.Deliver 24 ∷
    step.Deliver 25 ∷
    step.List server.Zero ∷
    [])

-- its lines
abbrev pub power_failure_lines : List Line
power_failure_lines =
    three_updates_lines ++
    (line.Event (step.Power server.Zero) ∷
    line.Down server.Zero ∷
    line.Event (step.Power server.One) ∷
    line.Down server.One ∷
    line.Event (step.Boot server.Zero) ∷
    state server.Zero mode.Rests view_one view_one (role.Leads server.One) held.Held 0 0 0 3 3 ∷
    line.Event (step.Boot server.One) ∷
    state server.One mode.Rests view_one view_one (role.Follows server.Zero) held.Held 0 0 0 0 3 ∷
    line.Event (step.Suspect server.Zero) ∷
    line.Sent 15 server.Zero server.One (shown.Invite (view 2 server.Zero)) ∷
    line.Sent 16 server.Zero server.Two (shown.Invite (view 2 server.Zero)) ∷
    state server.Zero mode.Calls (view 2 server.Zero) view_one (role.Leads server.One) held.Held 0 0
    0 3 3 ∷
    line.Event (step.Deliver 15) ∷
    line.Sent 17 server.One server.Zero
    (shown.Join (view 2 server.Zero) held.Held view_one 0 0 0 3 4050) ∷
    state server.One mode.Joined (view 2 server.Zero) view_one (role.Follows server.Zero) held.Held
    0 0 0 0 3 ∷
    line.Event (step.Deliver 16) ∷
    line.Sent 18 server.Two server.Zero
    (shown.Join (view 2 server.Zero) held.Empty view_one 0 0 0 0 2000) ∷
    state server.Two mode.Joined (view 2 server.Zero) view_one role.Outside held.Empty 0 0 0 0 0 ∷
    line.Event (step.Deliver 17) ∷
    line.Sent 19 server.Zero server.One
    (shown.Form (view 2 server.Zero) server.Zero server.One server.Zero 0 3 3 4050) ∷
    state server.Zero mode.Waits (view 2 server.Zero) (view 2 server.Zero) (role.Leads server.One)
    held.Held 0 0 0 3 3 ∷
    line.Event (step.Deliver 18) ∷
    line.Event (step.Deliver 19) ∷
    line.Sent 20 server.One server.Zero (shown.Fetch (view 2 server.Zero) 1) ∷
    state server.One mode.Pulls (view 2 server.Zero) view_one (role.Follows server.Zero) held.Held 0
    0 0 0 3 ∷
    line.Event (step.Deliver 20) ∷
    line.Sent 21 server.Zero server.One (shown.Give (view 2 server.Zero) 1 3) ∷
    line.Event (step.Deliver 21) ∷
    line.Sent 22 server.One server.Zero (shown.Formed (view 2 server.Zero) 0) ∷
    state server.One mode.Waits (view 2 server.Zero) (view 2 server.Zero) (role.Follows server.Zero)
    held.Held 0 0 0 3 3 ∷
    line.Event (step.Deliver 22) ∷
    line.Event (step.Advance 2050) ∷
    line.Event (step.Tick server.Zero) ∷
    line.Sent 23 server.Zero server.Two (shown.Demote (view 2 server.Zero)) ∷
    line.Sent 24 server.Zero server.One (shown.Beat (view 2 server.Zero) 3 0) ∷
    state server.Zero mode.Open (view 2 server.Zero) (view 2 server.Zero) (role.Leads server.One)
    held.Held 0 0 0 3 3 ∷
    line.Event (step.Deliver 23) ∷
    state server.Two mode.Rests (view 2 server.Zero) (view 2 server.Zero) role.Outside held.Empty 0
    0 0 0 0 ∷
    line.Event (step.Deliver 24) ∷
    line.Sent 25 server.One server.Zero (shown.Ack (view 2 server.Zero) 3 0 6100) ∷
    state server.One mode.Live (view 2 server.Zero) (view 2 server.Zero) (role.Follows server.Zero)
    held.Held 0 0 0 3 3 ∷
    line.Event (step.Deliver 25) ∷
    line.Event (step.List server.Zero) ∷
    line.Listed server.Zero 3 3 ∷
    line.Object (directory 493 4 528 1 1 (time 0 0) (time 2 50000) (time 2 50000)) ∷
    line.Slot 1 0 2 (0x61 ∷ []) ∷
    line.Slot 1 1 3 (0x62 ∷ []) ∷
    line.Object (directory 493 2 0 0 2 (time 2 50000) (time 2 50000) (time 2 50000)) ∷
    line.Object (directory 493 2 0 0 3 (time 2 50000) (time 2 50000) (time 2 50000)) ∷
    [])

-- both save their logs: all three updates stand
abbrev pub PowerFailure : Type 0
PowerFailure = Plays power_failure_steps power_failure_lines

-- its steps
abbrev pub power_failure_cut_off_steps : List Step
power_failure_cut_off_steps =
    three_updates_steps ++
    (step.PowerCut server.Zero 2 pick.None ∷
    step.Power server.One ∷
    step.Boot server.Zero ∷
    step.Boot server.One ∷
    step.Suspect server.Zero ∷
    step.Deliver 15 ∷
    step.Deliver 16 ∷
    step.Deliver 17 ∷
    step.Deliver 18 ∷
    step.Deliver 19 ∷
    step.Deliver 20 ∷
    step.Deliver 21 ∷
    step.Deliver 22 ∷
    step.Advance 2050 ∷
    step.Tick server.Zero ∷
    step.Deliver 23 ∷
    step.Deliver 24 ∷
    step.Deliver 25 ∷
    step.List server.Zero ∷
    [])

-- its lines
abbrev pub power_failure_cut_off_lines : List Line
power_failure_cut_off_lines =
    three_updates_lines ++
    (line.Event (step.PowerCut server.Zero 2 pick.None) ∷
    line.Down server.Zero ∷
    line.Event (step.Power server.One) ∷
    line.Down server.One ∷
    line.Event (step.Boot server.Zero) ∷
    state server.Zero mode.Rests view_one view_one (role.Leads server.One) held.Lost 0 0 0 0 0 ∷
    line.Event (step.Boot server.One) ∷
    state server.One mode.Rests view_one view_one (role.Follows server.Zero) held.Held 0 0 0 0 3 ∷
    line.Event (step.Suspect server.Zero) ∷
    line.Sent 15 server.Zero server.One (shown.Invite (view 2 server.Zero)) ∷
    line.Sent 16 server.Zero server.Two (shown.Invite (view 2 server.Zero)) ∷
    state server.Zero mode.Calls (view 2 server.Zero) view_one (role.Leads server.One) held.Lost 0 0
    0 0 0 ∷
    line.Event (step.Deliver 15) ∷
    line.Sent 17 server.One server.Zero
    (shown.Join (view 2 server.Zero) held.Held view_one 0 0 0 3 4050) ∷
    state server.One mode.Joined (view 2 server.Zero) view_one (role.Follows server.Zero) held.Held
    0 0 0 0 3 ∷
    line.Event (step.Deliver 16) ∷
    line.Sent 18 server.Two server.Zero
    (shown.Join (view 2 server.Zero) held.Empty view_one 0 0 0 0 2000) ∷
    state server.Two mode.Joined (view 2 server.Zero) view_one role.Outside held.Empty 0 0 0 0 0 ∷
    line.Event (step.Deliver 17) ∷
    line.Sent 19 server.Zero server.One
    (shown.Form (view 2 server.Zero) server.Zero server.One server.One 0 0 3 4050) ∷
    line.Sent 20 server.Zero server.One (shown.Fetch (view 2 server.Zero) 1) ∷
    state server.Zero mode.Pulls (view 2 server.Zero) view_one (role.Leads server.One) held.Lost 0 0
    0 0 0 ∷
    line.Event (step.Deliver 18) ∷
    line.Event (step.Deliver 19) ∷
    line.Sent 21 server.One server.Zero (shown.Formed (view 2 server.Zero) 0) ∷
    state server.One mode.Waits (view 2 server.Zero) (view 2 server.Zero) (role.Follows server.Zero)
    held.Held 0 0 0 0 3 ∷
    line.Event (step.Deliver 20) ∷
    line.Sent 22 server.One server.Zero (shown.Give (view 2 server.Zero) 1 3) ∷
    line.Event (step.Deliver 21) ∷
    line.Event (step.Deliver 22) ∷
    state server.Zero mode.Waits (view 2 server.Zero) (view 2 server.Zero) (role.Leads server.One)
    held.Held 0 0 0 0 3 ∷
    line.Event (step.Advance 2050) ∷
    line.Event (step.Tick server.Zero) ∷
    line.Sent 23 server.Zero server.Two (shown.Demote (view 2 server.Zero)) ∷
    line.Sent 24 server.Zero server.One (shown.Beat (view 2 server.Zero) 3 0) ∷
    state server.Zero mode.Open (view 2 server.Zero) (view 2 server.Zero) (role.Leads server.One)
    held.Held 0 0 0 3 3 ∷
    line.Event (step.Deliver 23) ∷
    state server.Two mode.Rests (view 2 server.Zero) (view 2 server.Zero) role.Outside held.Empty 0
    0 0 0 0 ∷
    line.Event (step.Deliver 24) ∷
    line.Sent 25 server.One server.Zero (shown.Ack (view 2 server.Zero) 3 0 6100) ∷
    state server.One mode.Live (view 2 server.Zero) (view 2 server.Zero) (role.Follows server.Zero)
    held.Held 0 0 0 3 3 ∷
    line.Event (step.Deliver 25) ∷
    line.Event (step.List server.Zero) ∷
    line.Listed server.Zero 3 3 ∷
    line.Object (directory 493 4 528 1 1 (time 0 0) (time 2 50000) (time 2 50000)) ∷
    line.Slot 1 0 2 (0x61 ∷ []) ∷
    line.Slot 1 1 3 (0x62 ∷ []) ∷
    line.Object (directory 493 2 0 0 2 (time 2 50000) (time 2 50000) (time 2 50000)) ∷
    line.Object (directory 493 2 0 0 3 (time 2 50000) (time 2 50000) (time 2 50000)) ∷
    [])

-- one save is cut off: the server boots lost, the other's log is pulled, and all three stand
abbrev pub PowerFailureCutOff : Type 0
PowerFailureCutOff = Plays power_failure_cut_off_steps power_failure_cut_off_lines

-- its steps
abbrev pub stop_in_a_save_steps : List Step
stop_in_a_save_steps =
    opening_steps ++
    (step.Ask server.Zero 7 1 SUPERUSER (call.MkDir 1 (0x61 ∷ []) mode_755) ∷
    step.Ask server.Zero 7 2 SUPERUSER (call.MkDir 1 (0x62 ∷ []) mode_755) ∷
    step.Deliver 9 ∷
    step.Deliver 10 ∷
    step.Deliver 11 ∷
    step.Deliver 12 ∷
    step.PowerCut server.Zero 2 (pick.Bits (false ∷ true ∷ [])) ∷
    step.Boot server.Zero ∷
    step.Power server.One ∷
    step.Boot server.One ∷
    step.Suspect server.Zero ∷
    step.Deliver 13 ∷
    step.Deliver 14 ∷
    step.Deliver 15 ∷
    step.Deliver 16 ∷
    step.Deliver 17 ∷
    step.Deliver 18 ∷
    step.Deliver 19 ∷
    step.Deliver 20 ∷
    step.Advance 2050 ∷
    step.Tick server.Zero ∷
    step.Deliver 21 ∷
    step.Deliver 22 ∷
    step.Deliver 23 ∷
    step.List server.Zero ∷
    step.List server.One ∷
    [])

-- its lines
abbrev pub stop_in_a_save_lines : List Line
stop_in_a_save_lines =
    opening_lines ++
    (line.Event (step.Ask server.Zero 7 1 SUPERUSER (call.MkDir 1 (0x61 ∷ []) mode_755)) ∷
    line.Sent 9 server.Zero server.One (shown.Event view_one 1 0 0 7 1) ∷
    state server.Zero mode.Open view_one view_one (role.Leads server.One) held.Held 0 0 0 0 1 ∷
    line.Event (step.Ask server.Zero 7 2 SUPERUSER (call.MkDir 1 (0x62 ∷ []) mode_755)) ∷
    line.Sent 10 server.Zero server.One (shown.Event view_one 2 0 0 7 2) ∷
    state server.Zero mode.Open view_one view_one (role.Leads server.One) held.Held 0 0 0 0 2 ∷
    line.Event (step.Deliver 9) ∷
    line.Sent 11 server.One server.Zero (shown.Ack view_one 1 0 4050) ∷
    state server.One mode.Live view_one view_one (role.Follows server.Zero) held.Held 0 0 0 0 1 ∷
    line.Event (step.Deliver 10) ∷
    line.Sent 12 server.One server.Zero (shown.Ack view_one 2 0 4050) ∷
    state server.One mode.Live view_one view_one (role.Follows server.Zero) held.Held 0 0 0 0 2 ∷
    line.Event (step.Deliver 11) ∷
    line.Entered 1
    (entry 1 7 1 2050 (call.MkDir 1 (0x61 ∷ []) mode_755)
    (reply.Node 2 (directory 493 2 0 0 2 (time 2 50000) (time 2 50000) (time 2 50000)))) ∷
    line.Answered server.Zero 7 1 1
    (reply.Node 2 (directory 493 2 0 0 2 (time 2 50000) (time 2 50000) (time 2 50000))) ∷
    state server.Zero mode.Open view_one view_one (role.Leads server.One) held.Held 0 0 0 1 2 ∷
    line.Event (step.Deliver 12) ∷
    line.Entered 2
    (entry 2 7 2 2050 (call.MkDir 1 (0x62 ∷ []) mode_755)
    (reply.Node 3 (directory 493 2 0 0 3 (time 2 50000) (time 2 50000) (time 2 50000)))) ∷
    line.Answered server.Zero 7 2 2
    (reply.Node 3 (directory 493 2 0 0 3 (time 2 50000) (time 2 50000) (time 2 50000))) ∷
    state server.Zero mode.Open view_one view_one (role.Leads server.One) held.Held 0 0 0 2 2 ∷
    line.Event (step.PowerCut server.Zero 2 (pick.Bits (false ∷ true ∷ []))) ∷
    line.Down server.Zero ∷
    line.Event (step.Boot server.Zero) ∷
    state server.Zero mode.Rests view_one view_one (role.Leads server.One) held.Lost 0 0 0 0 0 ∷
    line.Event (step.Power server.One) ∷
    line.Down server.One ∷
    line.Event (step.Boot server.One) ∷
    state server.One mode.Rests view_one view_one (role.Follows server.Zero) held.Held 0 0 0 0 2 ∷
    line.Event (step.Suspect server.Zero) ∷
    line.Sent 13 server.Zero server.One (shown.Invite (view 2 server.Zero)) ∷
    line.Sent 14 server.Zero server.Two (shown.Invite (view 2 server.Zero)) ∷
    state server.Zero mode.Calls (view 2 server.Zero) view_one (role.Leads server.One) held.Lost 0 0
    0 0 0 ∷
    line.Event (step.Deliver 13) ∷
    line.Sent 15 server.One server.Zero
    (shown.Join (view 2 server.Zero) held.Held view_one 0 0 0 2 4050) ∷
    state server.One mode.Joined (view 2 server.Zero) view_one (role.Follows server.Zero) held.Held
    0 0 0 0 2 ∷
    line.Event (step.Deliver 14) ∷
    line.Sent 16 server.Two server.Zero
    (shown.Join (view 2 server.Zero) held.Empty view_one 0 0 0 0 2000) ∷
    state server.Two mode.Joined (view 2 server.Zero) view_one role.Outside held.Empty 0 0 0 0 0 ∷
    line.Event (step.Deliver 15) ∷
    line.Sent 17 server.Zero server.One
    (shown.Form (view 2 server.Zero) server.Zero server.One server.One 0 0 2 4050) ∷
    line.Sent 18 server.Zero server.One (shown.Fetch (view 2 server.Zero) 1) ∷
    state server.Zero mode.Pulls (view 2 server.Zero) view_one (role.Leads server.One) held.Lost 0 0
    0 0 0 ∷
    line.Event (step.Deliver 16) ∷
    line.Event (step.Deliver 17) ∷
    line.Sent 19 server.One server.Zero (shown.Formed (view 2 server.Zero) 0) ∷
    state server.One mode.Waits (view 2 server.Zero) (view 2 server.Zero) (role.Follows server.Zero)
    held.Held 0 0 0 0 2 ∷
    line.Event (step.Deliver 18) ∷
    line.Sent 20 server.One server.Zero (shown.Give (view 2 server.Zero) 1 2) ∷
    line.Event (step.Deliver 19) ∷
    line.Event (step.Deliver 20) ∷
    state server.Zero mode.Waits (view 2 server.Zero) (view 2 server.Zero) (role.Leads server.One)
    held.Held 0 0 0 0 2 ∷
    line.Event (step.Advance 2050) ∷
    line.Event (step.Tick server.Zero) ∷
    line.Sent 21 server.Zero server.Two (shown.Demote (view 2 server.Zero)) ∷
    line.Sent 22 server.Zero server.One (shown.Beat (view 2 server.Zero) 2 0) ∷
    state server.Zero mode.Open (view 2 server.Zero) (view 2 server.Zero) (role.Leads server.One)
    held.Held 0 0 0 2 2 ∷
    line.Event (step.Deliver 21) ∷
    state server.Two mode.Rests (view 2 server.Zero) (view 2 server.Zero) role.Outside held.Empty 0
    0 0 0 0 ∷
    line.Event (step.Deliver 22) ∷
    line.Sent 23 server.One server.Zero (shown.Ack (view 2 server.Zero) 2 0 6100) ∷
    state server.One mode.Live (view 2 server.Zero) (view 2 server.Zero) (role.Follows server.Zero)
    held.Held 0 0 0 2 2 ∷
    line.Event (step.Deliver 23) ∷
    line.Event (step.List server.Zero) ∷
    line.Listed server.Zero 2 3 ∷
    line.Object (directory 493 4 528 1 1 (time 0 0) (time 2 50000) (time 2 50000)) ∷
    line.Slot 1 0 2 (0x61 ∷ []) ∷
    line.Slot 1 1 3 (0x62 ∷ []) ∷
    line.Object (directory 493 2 0 0 2 (time 2 50000) (time 2 50000) (time 2 50000)) ∷
    line.Object (directory 493 2 0 0 3 (time 2 50000) (time 2 50000) (time 2 50000)) ∷
    line.Event (step.List server.One) ∷
    line.Listed server.One 2 3 ∷
    line.Object (directory 493 4 528 1 1 (time 0 0) (time 2 50000) (time 2 50000)) ∷
    line.Slot 1 0 2 (0x61 ∷ []) ∷
    line.Slot 1 1 3 (0x62 ∷ []) ∷
    line.Object (directory 493 2 0 0 2 (time 2 50000) (time 2 50000) (time 2 50000)) ∷
    line.Object (directory 493 2 0 0 3 (time 2 50000) (time 2 50000) (time 2 50000)) ∷
    [])

-- one save is cut off between its Puts and its sync: the mark keeps the old state
abbrev pub StopInASave : Type 0
StopInASave = Plays stop_in_a_save_steps stop_in_a_save_lines
