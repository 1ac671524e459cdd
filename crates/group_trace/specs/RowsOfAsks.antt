-- Worked rows of asks: refusals, a repeat, an update acknowledged three times, one taken over.
use Rattle.std.specs.Prelude.{List, [], ◌∷◌, ◌++◌, None, Some, ◌≡◌, ◌+◌, ◌-◌, ◌<◌, ◌^◌, length}
use Rattle.harp_types.specs.declared.call.Call.TheVariants as call
use Rattle.harp_types.specs.declared.cred.TheConstants.{SUPERUSER}
use Rattle.harp_types.specs.declared.reply.Reply.TheVariants as reply
use Rattle.harp_types.specs.declared.server.ServerId.TheVariants as server
use Rattle.harp_types.specs.declared.state.Held.TheVariants as held
use Rattle.harp_types.specs.declared.state.Mode.TheVariants as mode
use Rattle.harp_types.specs.declared.state.Role.TheVariants as role
use Rattle.harp_types.specs.declared.cause.Cause.TheVariants as cause
use Rattle.trace_types.specs.declared.step.Step.{Step}
use Rattle.trace_types.specs.declared.step.Step.TheVariants as step
use Rattle.trace_types.specs.declared.line.Line.{Line}
use Rattle.trace_types.specs.declared.line.Line.TheVariants as line
use Rattle.trace_types.specs.declared.line.ShownMessage.TheVariants as shown
use Rattle.file_tree.specs.Book.{Entry}
use Rattle.group_rules.specs.Ask.{append, refuse}
use Rattle.group_rules.specs.Moves.{Appending, Sending}
use Rattle.group_rules.specs.Places.{partner}
use Rattle.group_rules.specs.State.{Event, LogFull, Server, top}
use Rattle.group_trace.specs.RowWords.{directory, entry, mode_755, state, time, view, view_one}
use Rattle.group_trace.specs.RowsOfOpening.{Plays, opening_lines, opening_steps}

-- its steps
abbrev pub refusals_of_an_ask_steps : List Step
refusals_of_an_ask_steps =
    opening_steps ++
    (step.Ask server.Zero 4096 1 SUPERUSER call.Null ∷
    step.Ask server.One 7 1 SUPERUSER call.Null ∷
    step.Ask server.Two 7 1 SUPERUSER call.Null ∷
    step.Ask server.Zero 7 5 SUPERUSER (call.SetAttr 1 mode_755) ∷
    step.Ask server.Zero 7 4 SUPERUSER (call.SetAttr 1 mode_755) ∷
    step.Deliver 9 ∷
    step.Deliver 10 ∷
    step.Ask server.Zero 7 4 SUPERUSER (call.SetAttr 1 mode_755) ∷
    [])

-- its lines
abbrev pub refusals_of_an_ask_lines : List Line
refusals_of_an_ask_lines =
    opening_lines ++
    (line.Event (step.Ask server.Zero 4096 1 SUPERUSER call.Null) ∷
    line.Refused server.Zero 4096 1 cause.BadClient ∷
    line.Event (step.Ask server.One 7 1 SUPERUSER call.Null) ∷
    line.Refused server.One 7 1 (cause.NotLeader (Some server.Zero)) ∷
    line.Event (step.Ask server.Two 7 1 SUPERUSER call.Null) ∷
    line.Refused server.Two 7 1 (cause.NotLeader None) ∷
    line.Event (step.Ask server.Zero 7 5 SUPERUSER (call.SetAttr 1 mode_755)) ∷
    line.Sent 9 server.Zero server.One (shown.Event view_one 1 0 0 7 5) ∷
    state server.Zero mode.Open view_one view_one (role.Leads server.One) held.Held 0 0 0 0 1 ∷
    line.Event (step.Ask server.Zero 7 4 SUPERUSER (call.SetAttr 1 mode_755)) ∷
    line.Refused server.Zero 7 4 cause.Old ∷
    line.Event (step.Deliver 9) ∷
    line.Sent 10 server.One server.Zero (shown.Ack view_one 1 0 4050) ∷
    state server.One mode.Live view_one view_one (role.Follows server.Zero) held.Held 0 0 0 0 1 ∷
    line.Event (step.Deliver 10) ∷
    line.Entered 1
    (entry 1 7 5 2050 (call.SetAttr 1 mode_755)
    (reply.Attr (directory 493 2 0 0 1 (time 0 0) (time 0 0) (time 2 50000)))) ∷
    line.Answered server.Zero 7 5 1
    (reply.Attr (directory 493 2 0 0 1 (time 0 0) (time 0 0) (time 2 50000))) ∷
    state server.Zero mode.Open view_one view_one (role.Leads server.One) held.Held 0 0 0 1 1 ∷
    line.Event (step.Ask server.Zero 7 4 SUPERUSER (call.SetAttr 1 mode_755)) ∷
    line.Refused server.Zero 7 4 cause.Old ∷
    [])

-- a client number above 4095, servers that don't lead, with their hints, and an old number
abbrev pub RefusalsOfAnAsk : Type 0
RefusalsOfAnAsk = Plays refusals_of_an_ask_steps refusals_of_an_ask_lines

-- its steps
abbrev pub repeat_steps : List Step
repeat_steps =
    opening_steps ++
    (step.Ask server.Zero 7 1 SUPERUSER (call.MkDir 1 (0x61 ∷ []) mode_755) ∷
    step.Deliver 9 ∷
    step.Deliver 10 ∷
    step.Ask server.Zero 7 1 SUPERUSER (call.MkDir 1 (0x61 ∷ []) mode_755) ∷
    [])

-- its lines
abbrev pub repeat_lines : List Line
repeat_lines =
    opening_lines ++
    (line.Event (step.Ask server.Zero 7 1 SUPERUSER (call.MkDir 1 (0x61 ∷ []) mode_755)) ∷
    line.Sent 9 server.Zero server.One (shown.Event view_one 1 0 0 7 1) ∷
    state server.Zero mode.Open view_one view_one (role.Leads server.One) held.Held 0 0 0 0 1 ∷
    line.Event (step.Deliver 9) ∷
    line.Sent 10 server.One server.Zero (shown.Ack view_one 1 0 4050) ∷
    state server.One mode.Live view_one view_one (role.Follows server.Zero) held.Held 0 0 0 0 1 ∷
    line.Event (step.Deliver 10) ∷
    line.Entered 1
    (entry 1 7 1 2050 (call.MkDir 1 (0x61 ∷ []) mode_755)
    (reply.Node 2 (directory 493 2 0 0 2 (time 2 50000) (time 2 50000) (time 2 50000)))) ∷
    line.Answered server.Zero 7 1 1
    (reply.Node 2 (directory 493 2 0 0 2 (time 2 50000) (time 2 50000) (time 2 50000))) ∷
    state server.Zero mode.Open view_one view_one (role.Leads server.One) held.Held 0 0 0 1 1 ∷
    line.Event (step.Ask server.Zero 7 1 SUPERUSER (call.MkDir 1 (0x61 ∷ []) mode_755)) ∷
    line.Answered server.Zero 7 1 1
    (reply.Node 2 (directory 493 2 0 0 2 (time 2 50000) (time 2 50000) (time 2 50000))) ∷
    [])

-- a repeat of a committed update is answered with the kept reply, and nothing is entered or sent
abbrev pub Repeat : Type 0
Repeat = Plays repeat_steps repeat_lines

-- its steps
abbrev pub acknowledged_three_times_steps : List Step
acknowledged_three_times_steps =
    opening_steps ++
    (step.Ask server.Zero 7 1 SUPERUSER (call.MkDir 1 (0x61 ∷ []) mode_755) ∷
    step.Deliver 9 ∷
    step.Deliver 9 ∷
    step.Deliver 11 ∷
    step.Deliver 10 ∷
    step.Deliver 10 ∷
    step.Deliver 9 ∷
    [])

-- its lines
abbrev pub acknowledged_three_times_lines : List Line
acknowledged_three_times_lines =
    opening_lines ++
    (line.Event (step.Ask server.Zero 7 1 SUPERUSER (call.MkDir 1 (0x61 ∷ []) mode_755)) ∷
    line.Sent 9 server.Zero server.One (shown.Event view_one 1 0 0 7 1) ∷
    state server.Zero mode.Open view_one view_one (role.Leads server.One) held.Held 0 0 0 0 1 ∷
    line.Event (step.Deliver 9) ∷
    line.Sent 10 server.One server.Zero (shown.Ack view_one 1 0 4050) ∷
    state server.One mode.Live view_one view_one (role.Follows server.Zero) held.Held 0 0 0 0 1 ∷
    line.Event (step.Deliver 9) ∷
    line.Sent 11 server.One server.Zero (shown.Ack view_one 1 0 4050) ∷
    line.Event (step.Deliver 11) ∷
    line.Entered 1
    (entry 1 7 1 2050 (call.MkDir 1 (0x61 ∷ []) mode_755)
    (reply.Node 2 (directory 493 2 0 0 2 (time 2 50000) (time 2 50000) (time 2 50000)))) ∷
    line.Answered server.Zero 7 1 1
    (reply.Node 2 (directory 493 2 0 0 2 (time 2 50000) (time 2 50000) (time 2 50000))) ∷
    state server.Zero mode.Open view_one view_one (role.Leads server.One) held.Held 0 0 0 1 1 ∷
    line.Event (step.Deliver 10) ∷
    line.Event (step.Deliver 10) ∷
    line.Event (step.Deliver 9) ∷
    line.Sent 12 server.One server.Zero (shown.Ack view_one 1 0 4050) ∷
    [])

-- Events and Acks come twice and out of order: the update is entered and answered once
abbrev pub AcknowledgedThreeTimes : Type 0
AcknowledgedThreeTimes = Plays acknowledged_three_times_steps acknowledged_three_times_lines

-- its steps
abbrev pub update_taken_over_steps : List Step
update_taken_over_steps =
    opening_steps ++
    (step.Ask server.Zero 7 1 SUPERUSER (call.MkDir 1 (0x61 ∷ []) mode_755) ∷
    step.Suspect server.Zero ∷
    step.Deliver 10 ∷
    step.Deliver 12 ∷
    step.Deliver 13 ∷
    step.Deliver 14 ∷
    step.Deliver 15 ∷
    step.Deliver 16 ∷
    step.Advance 2000 ∷
    step.Tick server.Zero ∷
    step.Advance 50 ∷
    step.Tick server.Zero ∷
    step.Ask server.Zero 7 1 SUPERUSER (call.MkDir 1 (0x61 ∷ []) mode_755) ∷
    [])

-- its lines
abbrev pub update_taken_over_lines : List Line
update_taken_over_lines =
    opening_lines ++
    (line.Event (step.Ask server.Zero 7 1 SUPERUSER (call.MkDir 1 (0x61 ∷ []) mode_755)) ∷
    line.Sent 9 server.Zero server.One (shown.Event view_one 1 0 0 7 1) ∷
    state server.Zero mode.Open view_one view_one (role.Leads server.One) held.Held 0 0 0 0 1 ∷
    line.Event (step.Suspect server.Zero) ∷
    line.Sent 10 server.Zero server.One (shown.Invite (view 2 server.Zero)) ∷
    line.Sent 11 server.Zero server.Two (shown.Invite (view 2 server.Zero)) ∷
    state server.Zero mode.Calls (view 2 server.Zero) view_one (role.Leads server.One) held.Held 0 0
    0 0 1 ∷
    line.Event (step.Deliver 10) ∷
    line.Sent 12 server.One server.Zero
    (shown.Join (view 2 server.Zero) held.Held view_one 0 0 0 0 4050) ∷
    state server.One mode.Joined (view 2 server.Zero) view_one (role.Follows server.Zero) held.Held
    0 0 0 0 0 ∷
    line.Event (step.Deliver 12) ∷
    line.Sent 13 server.Zero server.One
    (shown.Form (view 2 server.Zero) server.Zero server.One server.Zero 0 0 1 4050) ∷
    state server.Zero mode.Waits (view 2 server.Zero) (view 2 server.Zero) (role.Leads server.One)
    held.Held 0 0 0 0 1 ∷
    line.Event (step.Deliver 13) ∷
    line.Sent 14 server.One server.Zero (shown.Fetch (view 2 server.Zero) 1) ∷
    state server.One mode.Pulls (view 2 server.Zero) view_one (role.Follows server.Zero) held.Held 0
    0 0 0 0 ∷
    line.Event (step.Deliver 14) ∷
    line.Sent 15 server.Zero server.One (shown.Give (view 2 server.Zero) 1 1) ∷
    line.Event (step.Deliver 15) ∷
    line.Sent 16 server.One server.Zero (shown.Formed (view 2 server.Zero) 0) ∷
    state server.One mode.Waits (view 2 server.Zero) (view 2 server.Zero) (role.Follows server.Zero)
    held.Held 0 0 0 0 1 ∷
    line.Event (step.Deliver 16) ∷
    line.Event (step.Advance 2000) ∷
    line.Event (step.Tick server.Zero) ∷
    line.Event (step.Advance 50) ∷
    line.Event (step.Tick server.Zero) ∷
    line.Entered 1
    (entry 1 7 1 2050 (call.MkDir 1 (0x61 ∷ []) mode_755)
    (reply.Node 2 (directory 493 2 0 0 2 (time 2 50000) (time 2 50000) (time 2 50000)))) ∷
    line.Sent 17 server.Zero server.Two (shown.Demote (view 2 server.Zero)) ∷
    line.Sent 18 server.Zero server.One (shown.Beat (view 2 server.Zero) 1 0) ∷
    state server.Zero mode.Open (view 2 server.Zero) (view 2 server.Zero) (role.Leads server.One)
    held.Held 0 0 0 1 1 ∷
    line.Event (step.Ask server.Zero 7 1 SUPERUSER (call.MkDir 1 (0x61 ∷ []) mode_755)) ∷
    line.Answered server.Zero 7 1 1
    (reply.Node 2 (directory 493 2 0 0 2 (time 2 50000) (time 2 50000) (time 2 50000))) ∷
    [])

-- an update that no earlier view acknowledged is committed by the opening of the next one, and a
-- repeat is answered there
abbrev pub UpdateTakenOver : Type 0
UpdateTakenOver = Plays update_taken_over_steps update_taken_over_lines

-- a new update is refused where 32,768 records stand, and with fewer it is appended
pub record FullLog (s : Server Entry) (e : Entry) : Type 0 where
  pub full : length s.items ≡ 32768 → append s e ≡ refuse e.client e.number LogFull
  pub appended : length s.items < 32768 → top s < 2 ^ 62 - 1 → append s e ≡ Appending e
      ∷ Sending (partner s.plan.storers) (Event s.accepted (top s + 1) s.cp s.base e) ∷ []
