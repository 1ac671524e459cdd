-- Worked rows of steps that stop at a call which changes the disk.
use Rattle.std.specs.Prelude.{List, [], ◌∷◌, ◌++◌}
use Rattle.harp_types.specs.declared.server.ServerId.TheVariants as server
use Rattle.harp_types.specs.declared.state.Held.TheVariants as held
use Rattle.harp_types.specs.declared.state.Mode.TheVariants as mode
use Rattle.harp_types.specs.declared.state.Role.TheVariants as role
use Rattle.harp_types.specs.declared.pick.Pick.TheVariants as pick
use Rattle.trace_types.specs.declared.step.Step.{Step}
use Rattle.trace_types.specs.declared.step.Step.TheVariants as step
use Rattle.trace_types.specs.declared.line.Line.{Line}
use Rattle.trace_types.specs.declared.line.Line.TheVariants as line
use Rattle.trace_types.specs.declared.line.ShownMessage.TheVariants as shown
use Rattle.group_trace.specs.RowWords.{state, view_zero, view_one}
use Rattle.group_trace.specs.RowsOfOpening.{Plays, applied_lines, applied_steps}

-- its steps
abbrev pub stop_at_a_join_steps : List Step
stop_at_a_join_steps =
    step.Suspect server.Zero ∷
    step.Stop server.One 0 pick.None ∷
    step.Deliver 0 ∷
    step.Boot server.One ∷
    []

-- its lines
abbrev pub stop_at_a_join_lines : List Line
stop_at_a_join_lines =
    line.Event (step.Suspect server.Zero) ∷
    line.Sent 0 server.Zero server.One (shown.Invite view_one) ∷
    line.Sent 1 server.Zero server.Two (shown.Invite view_one) ∷
    state server.Zero mode.Calls view_one view_zero (role.Leads server.One) held.Held 0 0 0 0 0 ∷
    line.Event (step.Stop server.One 0 pick.None) ∷
    line.Event (step.Deliver 0) ∷
    line.Down server.One ∷
    line.Event (step.Boot server.One) ∷
    state server.One mode.Rests view_zero view_zero (role.Follows server.Zero) held.Held 0 0 0 0 0 ∷
    []

-- a join stops before its mark: the server never promised
abbrev pub StopAtAJoin : Type 0
StopAtAJoin = Plays stop_at_a_join_steps stop_at_a_join_lines

-- its steps
abbrev pub stop_before_the_mark_steps : List Step
stop_before_the_mark_steps =
    applied_steps ++
    (step.Stop server.One 1 pick.None ∷
    step.Flush server.One ∷
    step.Boot server.One ∷
    [])

-- its lines
abbrev pub stop_before_the_mark_lines : List Line
stop_before_the_mark_lines =
    applied_lines ++
    (line.Event (step.Stop server.One 1 pick.None) ∷
    line.Event (step.Flush server.One) ∷
    line.Down server.One ∷
    line.Event (step.Boot server.One) ∷
    state server.One mode.Rests view_one view_one (role.Follows server.Zero) held.Lost 0 0 0 0 0 ∷
    [])

-- a flush stops between its sync and its mark: LB stays
abbrev pub StopBeforeTheMark : Type 0
StopBeforeTheMark = Plays stop_before_the_mark_steps stop_before_the_mark_lines

-- its steps
abbrev pub stop_after_the_mark_steps : List Step
stop_after_the_mark_steps =
    applied_steps ++
    (step.Stop server.One 2 pick.None ∷
    step.Flush server.One ∷
    [])

-- its lines
abbrev pub stop_after_the_mark_lines : List Line
stop_after_the_mark_lines =
    applied_lines ++
    (line.Event (step.Stop server.One 2 pick.None) ∷
    line.Event (step.Flush server.One) ∷
    state server.One mode.Live view_one view_one (role.Follows server.Zero) held.Held 0 3 3 3 3 ∷
    [])

-- a stop that lets both calls of a flush pass: the flush is whole, and LB rises
abbrev pub StopAfterTheMark : Type 0
StopAfterTheMark = Plays stop_after_the_mark_steps stop_after_the_mark_lines
