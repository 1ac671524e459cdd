-- Worked rows of disks: one that is fuzzy, bases that move, and two that lost their logs.
use Rattle.std.specs.Prelude.{true, false, List, [], ◌∷◌, ◌++◌}
use Rattle.harp_types.specs.declared.call.Call.TheVariants as call
use Rattle.harp_types.specs.declared.cred.TheConstants.{SUPERUSER}
use Rattle.harp_types.specs.declared.reply.Reply.TheVariants as reply
use Rattle.harp_types.specs.declared.server.ServerId.TheVariants as server
use Rattle.harp_types.specs.declared.state.Held.TheVariants as held
use Rattle.harp_types.specs.declared.state.Mode.TheVariants as mode
use Rattle.harp_types.specs.declared.state.Role.TheVariants as role
use Rattle.harp_types.specs.declared.pick.Pick.TheVariants as pick
use Rattle.trace_types.specs.declared.step.Step.{Step}
use Rattle.trace_types.specs.declared.step.Step.TheVariants as step
use Rattle.trace_types.specs.declared.line.Line.{Line}
use Rattle.trace_types.specs.declared.line.Line.TheVariants as line
use Rattle.trace_types.specs.declared.line.ShownMessage.TheVariants as shown
use Rattle.group_trace.specs.RowWords.{directory, entry, mode_755, state, time, view, view_one}
use Rattle.group_trace.specs.RowsOfOpening.{Plays, opening_lines, opening_steps, applied_lines, applied_steps}

-- its steps
abbrev pub fuzzy_disk_steps : List Step
fuzzy_disk_steps =
    applied_steps ++
    (step.Crash server.One (pick.Bits (true ∷ false ∷ [])) ∷
    step.Boot server.One ∷
    step.Suspect server.Zero ∷
    step.Deliver 17 ∷
    step.Deliver 18 ∷
    step.Deliver 19 ∷
    step.Deliver 20 ∷
    step.Deliver 21 ∷
    step.Deliver 22 ∷
    step.Deliver 23 ∷
    step.Deliver 24 ∷
    step.Advance 2050 ∷
    step.Tick server.Zero ∷
    step.Deliver 25 ∷
    step.Deliver 26 ∷
    step.Deliver 27 ∷
    step.List server.Zero ∷
    step.List server.One ∷
    [])

-- its lines
abbrev pub fuzzy_disk_lines : List Line
fuzzy_disk_lines =
    applied_lines ++
    (line.Event (step.Crash server.One (pick.Bits (true ∷ false ∷ []))) ∷
    line.Down server.One ∷
    line.Event (step.Boot server.One) ∷
    state server.One mode.Rests view_one view_one (role.Follows server.Zero) held.Lost 0 0 0 0 0 ∷
    line.Event (step.Suspect server.Zero) ∷
    line.Sent 17 server.Zero server.One (shown.Invite (view 2 server.Zero)) ∷
    line.Sent 18 server.Zero server.Two (shown.Invite (view 2 server.Zero)) ∷
    state server.Zero mode.Calls (view 2 server.Zero) view_one (role.Leads server.One) held.Held 0 0
    0 3 3 ∷
    line.Event (step.Deliver 17) ∷
    line.Sent 19 server.One server.Zero
    (shown.Join (view 2 server.Zero) held.Lost view_one 0 0 0 0 4050) ∷
    state server.One mode.Joined (view 2 server.Zero) view_one (role.Follows server.Zero) held.Lost
    0 0 0 0 0 ∷
    line.Event (step.Deliver 18) ∷
    line.Sent 20 server.Two server.Zero
    (shown.Join (view 2 server.Zero) held.Empty view_one 0 0 0 0 2000) ∷
    state server.Two mode.Joined (view 2 server.Zero) view_one role.Outside held.Empty 0 0 0 0 0 ∷
    line.Event (step.Deliver 19) ∷
    line.Sent 21 server.Zero server.One
    (shown.Form (view 2 server.Zero) server.Zero server.One server.Zero 0 3 3 4050) ∷
    state server.Zero mode.Waits (view 2 server.Zero) (view 2 server.Zero) (role.Leads server.One)
    held.Held 0 0 0 3 3 ∷
    line.Event (step.Deliver 20) ∷
    line.Event (step.Deliver 21) ∷
    line.Sent 22 server.One server.Zero (shown.Fetch (view 2 server.Zero) 1) ∷
    state server.One mode.Pulls (view 2 server.Zero) view_one (role.Follows server.Zero) held.Lost 0
    0 0 0 0 ∷
    line.Event (step.Deliver 22) ∷
    line.Sent 23 server.Zero server.One (shown.Give (view 2 server.Zero) 1 3) ∷
    line.Event (step.Deliver 23) ∷
    line.Sent 24 server.One server.Zero (shown.Formed (view 2 server.Zero) 0) ∷
    state server.One mode.Waits (view 2 server.Zero) (view 2 server.Zero) (role.Follows server.Zero)
    held.Held 0 0 0 3 3 ∷
    line.Event (step.Deliver 24) ∷
    line.Event (step.Advance 2050) ∷
    line.Event (step.Tick server.Zero) ∷
    line.Sent 25 server.Zero server.Two (shown.Demote (view 2 server.Zero)) ∷
    line.Sent 26 server.Zero server.One (shown.Beat (view 2 server.Zero) 3 0) ∷
    state server.Zero mode.Open (view 2 server.Zero) (view 2 server.Zero) (role.Leads server.One)
    held.Held 0 0 0 3 3 ∷
    line.Event (step.Deliver 25) ∷
    state server.Two mode.Rests (view 2 server.Zero) (view 2 server.Zero) role.Outside held.Empty 0
    0 0 0 0 ∷
    line.Event (step.Deliver 26) ∷
    line.Sent 27 server.One server.Zero (shown.Ack (view 2 server.Zero) 3 0 6100) ∷
    state server.One mode.Live (view 2 server.Zero) (view 2 server.Zero) (role.Follows server.Zero)
    held.Held 0 0 0 3 3 ∷
    line.Event (step.Deliver 27) ∷
    line.Event (step.List server.Zero) ∷
    line.Listed server.Zero 3 3 ∷
    line.Object (directory 493 4 528 1 1 (time 0 0) (time 2 50000) (time 2 50000)) ∷
    line.Slot 1 0 2 (0x61 ∷ []) ∷
    line.Slot 1 1 3 (0x62 ∷ []) ∷
    line.Object (directory 493 2 0 0 2 (time 2 50000) (time 2 50000) (time 2 50000)) ∷
    line.Object (directory 493 2 0 0 3 (time 2 50000) (time 2 50000) (time 2 50000)) ∷
    line.Event (step.List server.One) ∷
    line.Listed server.One 3 3 ∷
    line.Object (directory 493 4 528 1 1 (time 0 0) (time 2 50000) (time 2 50000)) ∷
    line.Slot 1 0 2 (0x61 ∷ []) ∷
    line.Slot 1 1 3 (0x62 ∷ []) ∷
    line.Object (directory 493 2 0 0 2 (time 2 50000) (time 2 50000) (time 2 50000)) ∷
    line.Object (directory 493 2 0 0 3 (time 2 50000) (time 2 50000) (time 2 50000)) ∷
    [])

-- a crash keeps some of the changes of an apply: the log is pulled again over the fuzzy disk, and
-- both servers list the same tree
abbrev pub FuzzyDisk : Type 0
FuzzyDisk = Plays fuzzy_disk_steps fuzzy_disk_lines

-- its steps
abbrev pub base_moves_steps : List Step
base_moves_steps =
    opening_steps ++
    (step.Ask server.Zero 7 1 SUPERUSER (call.MkDir 1 (0x61 ∷ []) mode_755) ∷
    step.Deliver 9 ∷
    step.Deliver 10 ∷
    step.Tick server.Zero ∷
    step.Deliver 11 ∷
    step.Deliver 12 ∷
    step.Apply server.Zero 1 ∷
    step.Apply server.One 1 ∷
    step.Flush server.Zero ∷
    step.Flush server.One ∷
    step.Tick server.Zero ∷
    step.Deliver 13 ∷
    step.Deliver 14 ∷
    step.Tick server.Zero ∷
    step.Deliver 15 ∷
    step.Deliver 16 ∷
    step.List server.Zero ∷
    step.List server.One ∷
    [])

-- its lines
abbrev pub base_moves_lines : List Line
base_moves_lines =
    opening_lines ++
    (line.Event (step.Ask server.Zero 7 1 SUPERUSER (call.MkDir 1 (0x61 ∷ []) mode_755)) ∷
    line.Sent 9 server.Zero server.One (shown.Event view_one 1 0 0 7 1) ∷
    state server.Zero mode.Open view_one view_one (role.Leads server.One) held.Held 0 0 0 0 1 ∷
    line.Event (step.Deliver 9) ∷
    line.Sent 10 server.One server.Zero (shown.Ack view_one 1 0 4050) ∷
    state server.One mode.Live view_one view_one (role.Follows server.Zero) held.Held 0 0 0 0 1 ∷
    line.Event (step.Deliver 10) ∷
    line.Entered 1
    (entry 1 7 1 2050 (call.MkDir 1 (0x61 ∷ []) mode_755)
    (reply.Node 2 (directory 493 2 0 0 2 (time 2 50000) (time 2 50000) (time 2 50000)))) ∷
    line.Answered server.Zero 7 1 1
    (reply.Node 2 (directory 493 2 0 0 2 (time 2 50000) (time 2 50000) (time 2 50000))) ∷
    state server.Zero mode.Open view_one view_one (role.Leads server.One) held.Held 0 0 0 1 1 ∷
    line.Event (step.Tick server.Zero) ∷
    line.Sent 11 server.Zero server.One (shown.Beat view_one 1 0) ∷
    line.Event (step.Deliver 11) ∷
    line.Sent 12 server.One server.Zero (shown.Ack view_one 1 0 4050) ∷
    state server.One mode.Live view_one view_one (role.Follows server.Zero) held.Held 0 0 0 1 1 ∷
    line.Event (step.Deliver 12) ∷
    line.Event (step.Apply server.Zero 1) ∷
    state server.Zero mode.Open view_one view_one (role.Leads server.One) held.Held 0 0 1 1 1 ∷
    line.Event (step.Apply server.One 1) ∷
    state server.One mode.Live view_one view_one (role.Follows server.Zero) held.Held 0 0 1 1 1 ∷
    line.Event (step.Flush server.Zero) ∷
    state server.Zero mode.Open view_one view_one (role.Leads server.One) held.Held 0 1 1 1 1 ∷
    line.Event (step.Flush server.One) ∷
    state server.One mode.Live view_one view_one (role.Follows server.Zero) held.Held 0 1 1 1 1 ∷
    line.Event (step.Tick server.Zero) ∷
    line.Sent 13 server.Zero server.One (shown.Beat view_one 1 0) ∷
    line.Event (step.Deliver 13) ∷
    line.Sent 14 server.One server.Zero (shown.Ack view_one 1 1 4050) ∷
    line.Event (step.Deliver 14) ∷
    state server.Zero mode.Open view_one view_one (role.Leads server.One) held.Held 1 1 1 1 1 ∷
    line.Event (step.Tick server.Zero) ∷
    line.Sent 15 server.Zero server.One (shown.Beat view_one 1 1) ∷
    line.Event (step.Deliver 15) ∷
    line.Sent 16 server.One server.Zero (shown.Ack view_one 1 1 4050) ∷
    state server.One mode.Live view_one view_one (role.Follows server.Zero) held.Held 1 1 1 1 1 ∷
    line.Event (step.Deliver 16) ∷
    line.Event (step.List server.Zero) ∷
    line.Listed server.Zero 1 2 ∷
    line.Object (directory 493 3 264 1 1 (time 0 0) (time 2 50000) (time 2 50000)) ∷
    line.Slot 1 0 2 (0x61 ∷ []) ∷
    line.Object (directory 493 2 0 0 2 (time 2 50000) (time 2 50000) (time 2 50000)) ∷
    line.Event (step.List server.One) ∷
    line.Listed server.One 1 2 ∷
    line.Object (directory 493 3 264 1 1 (time 0 0) (time 2 50000) (time 2 50000)) ∷
    line.Slot 1 0 2 (0x61 ∷ []) ∷
    line.Object (directory 493 2 0 0 2 (time 2 50000) (time 2 50000) (time 2 50000)) ∷
    [])

-- both data servers flush, and the leader drops the record that is on both disks
abbrev pub BaseMoves : Type 0
BaseMoves = Plays base_moves_steps base_moves_lines

-- its steps
abbrev pub no_view_steps : List Step
no_view_steps =
    opening_steps ++
    (step.Crash server.Zero pick.None ∷
    step.Crash server.One pick.None ∷
    step.Boot server.Zero ∷
    step.Boot server.One ∷
    step.Suspect server.Two ∷
    step.Deliver 9 ∷
    step.Deliver 10 ∷
    step.Deliver 11 ∷
    step.Deliver 12 ∷
    [])

-- its lines
abbrev pub no_view_lines : List Line
no_view_lines =
    opening_lines ++
    (line.Event (step.Crash server.Zero pick.None) ∷
    line.Down server.Zero ∷
    line.Event (step.Crash server.One pick.None) ∷
    line.Down server.One ∷
    line.Event (step.Boot server.Zero) ∷
    state server.Zero mode.Rests view_one view_one (role.Leads server.One) held.Lost 0 0 0 0 0 ∷
    line.Event (step.Boot server.One) ∷
    state server.One mode.Rests view_one view_one (role.Follows server.Zero) held.Lost 0 0 0 0 0 ∷
    line.Event (step.Suspect server.Two) ∷
    line.Sent 9 server.Two server.Zero (shown.Invite (view 2 server.Two)) ∷
    line.Sent 10 server.Two server.One (shown.Invite (view 2 server.Two)) ∷
    state server.Two mode.Calls (view 2 server.Two) view_one role.Outside held.Empty 0 0 0 0 0 ∷
    line.Event (step.Deliver 9) ∷
    line.Sent 11 server.Zero server.Two
    (shown.Join (view 2 server.Two) held.Lost view_one 0 0 0 0 4050) ∷
    state server.Zero mode.Joined (view 2 server.Two) view_one (role.Leads server.One) held.Lost 0 0
    0 0 0 ∷
    line.Event (step.Deliver 10) ∷
    line.Sent 12 server.One server.Two
    (shown.Join (view 2 server.Two) held.Lost view_one 0 0 0 0 4050) ∷
    state server.One mode.Joined (view 2 server.Two) view_one (role.Follows server.Zero) held.Lost 0
    0 0 0 0 ∷
    line.Event (step.Deliver 11) ∷
    line.Event (step.Deliver 12) ∷
    [])

-- both data servers crash: no view is formed without a log
abbrev pub NoView : Type 0
NoView = Plays no_view_steps no_view_lines
