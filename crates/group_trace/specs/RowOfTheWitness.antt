-- A worked row of the witness.
use Rattle.std.specs.Prelude.{List, [], ◌∷◌, ◌++◌}
use Rattle.harp_types.specs.declared.call.Call.TheVariants as call
use Rattle.harp_types.specs.declared.cred.TheConstants.{SUPERUSER}
use Rattle.harp_types.specs.declared.reply.Reply.TheVariants as reply
use Rattle.harp_types.specs.declared.server.ServerId.TheVariants as server
use Rattle.harp_types.specs.declared.state.Held.TheVariants as held
use Rattle.harp_types.specs.declared.state.Mode.TheVariants as mode
use Rattle.harp_types.specs.declared.state.Role.TheVariants as role
use Rattle.harp_types.specs.declared.pick.Pick.TheVariants as pick
use Rattle.trace_types.specs.declared.step.Step.{Step}
use Rattle.trace_types.specs.declared.step.Step.TheVariants as step
use Rattle.trace_types.specs.declared.line.Line.{Line}
use Rattle.trace_types.specs.declared.line.Line.TheVariants as line
use Rattle.trace_types.specs.declared.line.ShownMessage.TheVariants as shown
use Rattle.group_trace.specs.RowWords.{directory, entry, mode_755, state, time, view, view_one}
use Rattle.group_trace.specs.RowsOfOpening.{Plays, opening_lines, opening_steps}

-- its steps
abbrev pub witness_steps : List Step
witness_steps =
    opening_steps ++
    (step.Power server.One ∷
    step.Suspect server.Zero ∷
    step.Deliver 9 ∷
    step.Deliver 10 ∷
    step.Deliver 11 ∷
    step.Deliver 12 ∷
    step.Deliver 13 ∷
    step.Deliver 14 ∷
    step.Deliver 15 ∷
    step.Ask server.Zero 7 1 SUPERUSER (call.MkDir 1 (0x61 ∷ []) mode_755) ∷
    step.Ask server.Zero 7 2 SUPERUSER (call.MkDir 1 (0x62 ∷ []) mode_755) ∷
    step.Ask server.Zero 7 3 SUPERUSER (call.MkDir 1 (0x63 ∷ []) mode_755) ∷
    step.Ask server.Zero 7 4 SUPERUSER (call.MkDir 1 (0x64 ∷ []) mode_755) ∷
    step.Ask server.Zero 7 5 SUPERUSER (call.MkDir 1 (0x65 ∷ []) mode_755) ∷
    step.Deliver 16 ∷
    step.Deliver 17 ∷
    step.Deliver 18 ∷
    step.Deliver 19 ∷
    step.Deliver 20 ∷
    step.Deliver 21 ∷
    step.Deliver 22 ∷
    step.Deliver 23 ∷
    step.Deliver 24 ∷
    step.Deliver 25 ∷
    step.Crash server.Zero pick.None ∷
    step.Boot server.One ∷
    step.Suspect server.One ∷
    step.Deliver 26 ∷
    step.Deliver 27 ∷
    step.Deliver 28 ∷
    step.Deliver 29 ∷
    step.Deliver 30 ∷
    step.Deliver 31 ∷
    step.Deliver 32 ∷
    step.Advance 2050 ∷
    step.Tick server.One ∷
    step.Deliver 33 ∷
    step.Deliver 34 ∷
    step.Boot server.Zero ∷
    step.Suspect server.Zero ∷
    step.Deliver 35 ∷
    step.Deliver 36 ∷
    step.Deliver 37 ∷
    step.Deliver 38 ∷
    step.Deliver 39 ∷
    step.Deliver 40 ∷
    step.Deliver 41 ∷
    step.Deliver 42 ∷
    step.Advance 2050 ∷
    step.Tick server.Zero ∷
    step.Deliver 43 ∷
    step.Deliver 44 ∷
    step.Deliver 45 ∷
    [])

-- its lines
abbrev pub witness_lines : List Line
witness_lines =
    opening_lines ++
    (line.Event (step.Power server.One) ∷
    line.Down server.One ∷
    line.Event (step.Suspect server.Zero) ∷
    line.Sent 9 server.Zero server.One (shown.Invite (view 2 server.Zero)) ∷
    line.Sent 10 server.Zero server.Two (shown.Invite (view 2 server.Zero)) ∷
    state server.Zero mode.Calls (view 2 server.Zero) view_one (role.Leads server.One) held.Held 0 0
    0 0 0 ∷
    line.Event (step.Deliver 9) ∷
    line.Event (step.Deliver 10) ∷
    line.Sent 11 server.Two server.Zero
    (shown.Join (view 2 server.Zero) held.Empty view_one 0 0 0 0 2000) ∷
    state server.Two mode.Joined (view 2 server.Zero) view_one role.Outside held.Empty 0 0 0 0 0 ∷
    line.Event (step.Deliver 11) ∷
    line.Sent 12 server.Zero server.Two
    (shown.Form (view 2 server.Zero) server.Zero server.Two server.Zero 0 0 0 2000) ∷
    state server.Zero mode.Waits (view 2 server.Zero) (view 2 server.Zero) (role.Leads server.Two)
    held.Held 0 0 0 0 0 ∷
    line.Event (step.Deliver 12) ∷
    line.Sent 13 server.Two server.Zero (shown.Formed (view 2 server.Zero) 0) ∷
    state server.Two mode.Waits (view 2 server.Zero) (view 2 server.Zero) (role.Follows server.Zero)
    held.Held 0 0 0 0 0 ∷
    line.Event (step.Deliver 13) ∷
    line.Sent 14 server.Zero server.Two (shown.Beat (view 2 server.Zero) 0 0) ∷
    state server.Zero mode.Open (view 2 server.Zero) (view 2 server.Zero) (role.Leads server.Two)
    held.Held 0 0 0 0 0 ∷
    line.Event (step.Deliver 14) ∷
    line.Sent 15 server.Two server.Zero (shown.Ack (view 2 server.Zero) 0 0 4050) ∷
    state server.Two mode.Live (view 2 server.Zero) (view 2 server.Zero) (role.Follows server.Zero)
    held.Held 0 0 0 0 0 ∷
    line.Event (step.Deliver 15) ∷
    line.Event (step.Ask server.Zero 7 1 SUPERUSER (call.MkDir 1 (0x61 ∷ []) mode_755)) ∷
    line.Sent 16 server.Zero server.Two (shown.Event (view 2 server.Zero) 1 0 0 7 1) ∷
    state server.Zero mode.Open (view 2 server.Zero) (view 2 server.Zero) (role.Leads server.Two)
    held.Held 0 0 0 0 1 ∷
    line.Event (step.Ask server.Zero 7 2 SUPERUSER (call.MkDir 1 (0x62 ∷ []) mode_755)) ∷
    line.Sent 17 server.Zero server.Two (shown.Event (view 2 server.Zero) 2 0 0 7 2) ∷
    state server.Zero mode.Open (view 2 server.Zero) (view 2 server.Zero) (role.Leads server.Two)
    held.Held 0 0 0 0 2 ∷
    line.Event (step.Ask server.Zero 7 3 SUPERUSER (call.MkDir 1 (0x63 ∷ []) mode_755)) ∷
    line.Sent 18 server.Zero server.Two (shown.Event (view 2 server.Zero) 3 0 0 7 3) ∷
    state server.Zero mode.Open (view 2 server.Zero) (view 2 server.Zero) (role.Leads server.Two)
    held.Held 0 0 0 0 3 ∷
    line.Event (step.Ask server.Zero 7 4 SUPERUSER (call.MkDir 1 (0x64 ∷ []) mode_755)) ∷
    line.Sent 19 server.Zero server.Two (shown.Event (view 2 server.Zero) 4 0 0 7 4) ∷
    state server.Zero mode.Open (view 2 server.Zero) (view 2 server.Zero) (role.Leads server.Two)
    held.Held 0 0 0 0 4 ∷
    line.Event (step.Ask server.Zero 7 5 SUPERUSER (call.MkDir 1 (0x65 ∷ []) mode_755)) ∷
    line.Sent 20 server.Zero server.Two (shown.Event (view 2 server.Zero) 5 0 0 7 5) ∷
    state server.Zero mode.Open (view 2 server.Zero) (view 2 server.Zero) (role.Leads server.Two)
    held.Held 0 0 0 0 5 ∷
    line.Event (step.Deliver 16) ∷
    line.Sent 21 server.Two server.Zero (shown.Ack (view 2 server.Zero) 1 0 4050) ∷
    state server.Two mode.Live (view 2 server.Zero) (view 2 server.Zero) (role.Follows server.Zero)
    held.Held 0 0 0 0 1 ∷
    line.Event (step.Deliver 17) ∷
    line.Sent 22 server.Two server.Zero (shown.Ack (view 2 server.Zero) 2 0 4050) ∷
    state server.Two mode.Live (view 2 server.Zero) (view 2 server.Zero) (role.Follows server.Zero)
    held.Held 0 0 0 0 2 ∷
    line.Event (step.Deliver 18) ∷
    line.Sent 23 server.Two server.Zero (shown.Ack (view 2 server.Zero) 3 0 4050) ∷
    state server.Two mode.Live (view 2 server.Zero) (view 2 server.Zero) (role.Follows server.Zero)
    held.Held 0 0 0 0 3 ∷
    line.Event (step.Deliver 19) ∷
    line.Sent 24 server.Two server.Zero (shown.Ack (view 2 server.Zero) 4 0 4050) ∷
    state server.Two mode.Live (view 2 server.Zero) (view 2 server.Zero) (role.Follows server.Zero)
    held.Held 0 0 0 0 4 ∷
    line.Event (step.Deliver 20) ∷
    line.Sent 25 server.Two server.Zero (shown.Ack (view 2 server.Zero) 5 0 4050) ∷
    state server.Two mode.Live (view 2 server.Zero) (view 2 server.Zero) (role.Follows server.Zero)
    held.Held 0 0 0 0 5 ∷
    line.Event (step.Deliver 21) ∷
    line.Entered 1
    (entry 1 7 1 2050 (call.MkDir 1 (0x61 ∷ []) mode_755)
    (reply.Node 2 (directory 493 2 0 0 2 (time 2 50000) (time 2 50000) (time 2 50000)))) ∷
    line.Answered server.Zero 7 1 1
    (reply.Node 2 (directory 493 2 0 0 2 (time 2 50000) (time 2 50000) (time 2 50000))) ∷
    state server.Zero mode.Open (view 2 server.Zero) (view 2 server.Zero) (role.Leads server.Two)
    held.Held 0 0 0 1 5 ∷
    line.Event (step.Deliver 22) ∷
    line.Entered 2
    (entry 2 7 2 2050 (call.MkDir 1 (0x62 ∷ []) mode_755)
    (reply.Node 3 (directory 493 2 0 0 3 (time 2 50000) (time 2 50000) (time 2 50000)))) ∷
    line.Answered server.Zero 7 2 2
    (reply.Node 3 (directory 493 2 0 0 3 (time 2 50000) (time 2 50000) (time 2 50000))) ∷
    state server.Zero mode.Open (view 2 server.Zero) (view 2 server.Zero) (role.Leads server.Two)
    held.Held 0 0 0 2 5 ∷
    line.Event (step.Deliver 23) ∷
    line.Entered 3
    (entry 3 7 3 2050 (call.MkDir 1 (0x63 ∷ []) mode_755)
    (reply.Node 4 (directory 493 2 0 0 4 (time 2 50000) (time 2 50000) (time 2 50000)))) ∷
    line.Answered server.Zero 7 3 3
    (reply.Node 4 (directory 493 2 0 0 4 (time 2 50000) (time 2 50000) (time 2 50000))) ∷
    state server.Zero mode.Open (view 2 server.Zero) (view 2 server.Zero) (role.Leads server.Two)
    held.Held 0 0 0 3 5 ∷
    line.Event (step.Deliver 24) ∷
    line.Entered 4
    (entry 4 7 4 2050 (call.MkDir 1 (0x64 ∷ []) mode_755)
    (reply.Node 5 (directory 493 2 0 0 5 (time 2 50000) (time 2 50000) (time 2 50000)))) ∷
    line.Answered server.Zero 7 4 4
    (reply.Node 5 (directory 493 2 0 0 5 (time 2 50000) (time 2 50000) (time 2 50000))) ∷
    state server.Zero mode.Open (view 2 server.Zero) (view 2 server.Zero) (role.Leads server.Two)
    held.Held 0 0 0 4 5 ∷
    line.Event (step.Deliver 25) ∷
    line.Entered 5
    (entry 5 7 5 2050 (call.MkDir 1 (0x65 ∷ []) mode_755)
    (reply.Node 6 (directory 493 2 0 0 6 (time 2 50000) (time 2 50000) (time 2 50000)))) ∷
    line.Answered server.Zero 7 5 5
    (reply.Node 6 (directory 493 2 0 0 6 (time 2 50000) (time 2 50000) (time 2 50000))) ∷
    state server.Zero mode.Open (view 2 server.Zero) (view 2 server.Zero) (role.Leads server.Two)
    held.Held 0 0 0 5 5 ∷
    line.Event (step.Crash server.Zero pick.None) ∷
    line.Down server.Zero ∷
    line.Event (step.Boot server.One) ∷
    state server.One mode.Rests view_one view_one (role.Follows server.Zero) held.Held 0 0 0 0 0 ∷
    line.Event (step.Suspect server.One) ∷
    line.Sent 26 server.One server.Zero (shown.Invite (view 2 server.One)) ∷
    line.Sent 27 server.One server.Two (shown.Invite (view 2 server.One)) ∷
    state server.One mode.Calls (view 2 server.One) view_one (role.Follows server.Zero) held.Held 0
    0 0 0 0 ∷
    line.Event (step.Deliver 26) ∷
    line.Event (step.Deliver 27) ∷
    line.Sent 28 server.Two server.One
    (shown.Join (view 2 server.One) held.Held (view 2 server.Zero) 0 0 0 5 4050) ∷
    state server.Two mode.Joined (view 2 server.One) (view 2 server.Zero) (role.Follows server.Zero)
    held.Held 0 0 0 0 5 ∷
    line.Event (step.Deliver 28) ∷
    line.Sent 29 server.One server.Two
    (shown.Form (view 2 server.One) server.One server.Two server.Two 0 0 5 4050) ∷
    line.Sent 30 server.One server.Two (shown.Fetch (view 2 server.One) 1) ∷
    state server.One mode.Pulls (view 2 server.One) view_one (role.Follows server.Zero) held.Held 0
    0 0 0 0 ∷
    line.Event (step.Deliver 29) ∷
    line.Sent 31 server.Two server.One (shown.Formed (view 2 server.One) 0) ∷
    state server.Two mode.Waits (view 2 server.One) (view 2 server.One) (role.Follows server.One)
    held.Held 0 0 0 0 5 ∷
    line.Event (step.Deliver 30) ∷
    line.Sent 32 server.Two server.One (shown.Give (view 2 server.One) 1 5) ∷
    line.Event (step.Deliver 31) ∷
    line.Event (step.Deliver 32) ∷
    state server.One mode.Waits (view 2 server.One) (view 2 server.One) (role.Leads server.Two)
    held.Held 0 0 0 0 5 ∷
    line.Event (step.Advance 2050) ∷
    line.Event (step.Tick server.One) ∷
    line.Sent 33 server.One server.Two (shown.Beat (view 2 server.One) 5 0) ∷
    state server.One mode.Open (view 2 server.One) (view 2 server.One) (role.Leads server.Two)
    held.Held 0 0 0 5 5 ∷
    line.Event (step.Deliver 33) ∷
    line.Sent 34 server.Two server.One (shown.Ack (view 2 server.One) 5 0 6100) ∷
    state server.Two mode.Live (view 2 server.One) (view 2 server.One) (role.Follows server.One)
    held.Held 0 0 0 5 5 ∷
    line.Event (step.Deliver 34) ∷
    line.Event (step.Boot server.Zero) ∷
    state server.Zero mode.Rests (view 2 server.Zero) (view 2 server.Zero) (role.Leads server.Two)
    held.Lost 0 0 0 0 0 ∷
    line.Event (step.Suspect server.Zero) ∷
    line.Sent 35 server.Zero server.One (shown.Invite (view 3 server.Zero)) ∷
    line.Sent 36 server.Zero server.Two (shown.Invite (view 3 server.Zero)) ∷
    state server.Zero mode.Calls (view 3 server.Zero) (view 2 server.Zero) (role.Leads server.Two)
    held.Lost 0 0 0 0 0 ∷
    line.Event (step.Deliver 35) ∷
    line.Sent 37 server.One server.Zero
    (shown.Join (view 3 server.Zero) held.Held (view 2 server.One) 0 0 5 5 4050) ∷
    state server.One mode.Joined (view 3 server.Zero) (view 2 server.One) (role.Leads server.Two)
    held.Held 0 0 0 5 5 ∷
    line.Event (step.Deliver 36) ∷
    line.Sent 38 server.Two server.Zero
    (shown.Join (view 3 server.Zero) held.Held (view 2 server.One) 0 0 5 5 6100) ∷
    state server.Two mode.Joined (view 3 server.Zero) (view 2 server.One) (role.Follows server.One)
    held.Held 0 0 0 5 5 ∷
    line.Event (step.Deliver 37) ∷
    line.Sent 39 server.Zero server.One
    (shown.Form (view 3 server.Zero) server.Zero server.One server.One 0 5 5 6100) ∷
    line.Sent 40 server.Zero server.One (shown.Fetch (view 3 server.Zero) 1) ∷
    state server.Zero mode.Pulls (view 3 server.Zero) (view 2 server.Zero) (role.Leads server.Two)
    held.Lost 0 0 0 0 0 ∷
    line.Event (step.Deliver 38) ∷
    line.Event (step.Deliver 39) ∷
    line.Sent 41 server.One server.Zero (shown.Formed (view 3 server.Zero) 0) ∷
    state server.One mode.Waits (view 3 server.Zero) (view 3 server.Zero) (role.Follows server.Zero)
    held.Held 0 0 0 5 5 ∷
    line.Event (step.Deliver 40) ∷
    line.Sent 42 server.One server.Zero (shown.Give (view 3 server.Zero) 1 5) ∷
    line.Event (step.Deliver 41) ∷
    line.Event (step.Deliver 42) ∷
    state server.Zero mode.Waits (view 3 server.Zero) (view 3 server.Zero) (role.Leads server.One)
    held.Held 0 0 0 5 5 ∷
    line.Event (step.Advance 2050) ∷
    line.Event (step.Tick server.Zero) ∷
    line.Sent 43 server.Zero server.Two (shown.Demote (view 3 server.Zero)) ∷
    line.Sent 44 server.Zero server.One (shown.Beat (view 3 server.Zero) 5 0) ∷
    state server.Zero mode.Open (view 3 server.Zero) (view 3 server.Zero) (role.Leads server.One)
    held.Held 0 0 0 5 5 ∷
    line.Event (step.Deliver 43) ∷
    state server.Two mode.Rests (view 3 server.Zero) (view 3 server.Zero) role.Outside held.Empty 0
    0 0 0 0 ∷
    line.Event (step.Deliver 44) ∷
    line.Sent 45 server.One server.Zero (shown.Ack (view 3 server.Zero) 5 0 8150) ∷
    state server.One mode.Live (view 3 server.Zero) (view 3 server.Zero) (role.Follows server.Zero)
    held.Held 0 0 0 5 5 ∷
    line.Event (step.Deliver 45) ∷
    [])

-- server 2 takes server 1's place, serves its log, and is demoted
abbrev pub Witness : Type 0
Witness = Plays witness_steps witness_lines
