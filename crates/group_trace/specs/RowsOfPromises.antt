-- Worked rows of promises: at the skew of clocks, running out, and of other lengths.
use Rattle.std.specs.Prelude.{◌≡◌, None, Some, List, [], ◌∷◌, ◌++◌}
use Rattle.harp_types.specs.declared.call.Call.TheVariants as call
use Rattle.harp_types.specs.declared.cred.TheConstants.{SUPERUSER}
use Rattle.harp_types.specs.declared.reply.Reply.TheVariants as reply
use Rattle.harp_types.specs.declared.server.ServerId.TheVariants as server
use Rattle.harp_types.specs.declared.state.Held.TheVariants as held
use Rattle.harp_types.specs.declared.state.Mode.TheVariants as mode
use Rattle.harp_types.specs.declared.state.Role.TheVariants as role
use Rattle.harp_types.specs.declared.cause.Cause.TheVariants as cause
use Rattle.harp_types.specs.declared.pick.Pick.TheVariants as pick
use Rattle.trace_types.specs.declared.step.Step.{Step}
use Rattle.trace_types.specs.declared.step.Step.TheVariants as step
use Rattle.trace_types.specs.declared.line.Line.{Line}
use Rattle.trace_types.specs.declared.line.Line.TheVariants as line
use Rattle.trace_types.specs.declared.line.ShownMessage.TheVariants as shown
use Rattle.file_tree.specs.Book.{Entry}
use Rattle.group_rules.specs.Effects.{booted}
use Rattle.group_rules.specs.Places.{Zero, One}
use Rattle.group_rules.specs.State.{Follows, Mark, Server, mark_of}
use Rattle.group_trace.specs.Lines.{state_line}
use Rattle.group_trace.specs.Shown.{shown_of}
use Rattle.group_trace.specs.RowWords.{directory, entry, state, time, view, view_zero, view_one}
use Rattle.group_trace.specs.RowsOfOpening.{Plays, opening_lines, opening_steps}

-- its steps
abbrev pub promises_at_the_skew_steps : List Step
promises_at_the_skew_steps =
    step.Suspect server.Zero ∷
    step.Deliver 0 ∷
    step.Deliver 1 ∷
    step.Deliver 2 ∷
    step.Deliver 3 ∷
    step.Deliver 4 ∷
    step.Deliver 5 ∷
    step.Advance 2000 ∷
    step.Clock server.Zero 2050 ∷
    step.Tick server.Zero ∷
    step.Deliver 6 ∷
    step.Deliver 7 ∷
    step.Deliver 8 ∷
    step.Advance 1949 ∷
    step.Ask server.Zero 9 1 SUPERUSER (call.GetAttr 1) ∷
    step.Suspect server.One ∷
    step.Deliver 10 ∷
    step.Deliver 11 ∷
    step.Deliver 12 ∷
    step.Deliver 13 ∷
    step.Clock server.One 3990 ∷
    step.Clock server.Two 4000 ∷
    step.Clock server.Zero 4000 ∷
    step.Ask server.Zero 9 2 SUPERUSER (call.GetAttr 1) ∷
    step.Clock server.One 4049 ∷
    step.Tick server.One ∷
    step.Clock server.One 4050 ∷
    step.Tick server.One ∷
    []

-- its lines
abbrev pub promises_at_the_skew_lines : List Line
promises_at_the_skew_lines =
    line.Event (step.Suspect server.Zero) ∷
    line.Sent 0 server.Zero server.One (shown.Invite view_one) ∷
    line.Sent 1 server.Zero server.Two (shown.Invite view_one) ∷
    state server.Zero mode.Calls view_one view_zero (role.Leads server.One) held.Held 0 0 0 0 0 ∷
    line.Event (step.Deliver 0) ∷
    line.Sent 2 server.One server.Zero (shown.Join view_one held.Held view_zero 0 0 0 0 2000) ∷
    state server.One mode.Joined view_one view_zero (role.Follows server.Zero) held.Held 0 0 0 0 0 ∷
    line.Event (step.Deliver 1) ∷
    line.Sent 3 server.Two server.Zero (shown.Join view_one held.Empty view_zero 0 0 0 0 2000) ∷
    state server.Two mode.Joined view_one view_zero role.Outside held.Empty 0 0 0 0 0 ∷
    line.Event (step.Deliver 2) ∷
    line.Sent 4 server.Zero server.One
    (shown.Form view_one server.Zero server.One server.Zero 0 0 0 2000) ∷
    state server.Zero mode.Waits view_one view_one (role.Leads server.One) held.Held 0 0 0 0 0 ∷
    line.Event (step.Deliver 3) ∷
    line.Event (step.Deliver 4) ∷
    line.Sent 5 server.One server.Zero (shown.Formed view_one 0) ∷
    state server.One mode.Waits view_one view_one (role.Follows server.Zero) held.Held 0 0 0 0 0 ∷
    line.Event (step.Deliver 5) ∷
    line.Event (step.Advance 2000) ∷
    line.Event (step.Clock server.Zero 2050) ∷
    line.Event (step.Tick server.Zero) ∷
    line.Sent 6 server.Zero server.Two (shown.Demote view_one) ∷
    line.Sent 7 server.Zero server.One (shown.Beat view_one 0 0) ∷
    state server.Zero mode.Open view_one view_one (role.Leads server.One) held.Held 0 0 0 0 0 ∷
    line.Event (step.Deliver 6) ∷
    state server.Two mode.Rests view_one view_one role.Outside held.Empty 0 0 0 0 0 ∷
    line.Event (step.Deliver 7) ∷
    line.Sent 8 server.One server.Zero (shown.Ack view_one 0 0 4000) ∷
    state server.One mode.Live view_one view_one (role.Follows server.Zero) held.Held 0 0 0 0 0 ∷
    line.Event (step.Deliver 8) ∷
    line.Event (step.Advance 1949) ∷
    line.Event (step.Ask server.Zero 9 1 SUPERUSER (call.GetAttr 1)) ∷
    line.Entered 1
    (entry 0 9 1 0 (call.GetAttr 1)
    (reply.Attr (directory 493 2 0 0 1 (time 0 0) (time 0 0) (time 0 0)))) ∷
    line.Answered server.Zero 9 1 0
    (reply.Attr (directory 493 2 0 0 1 (time 0 0) (time 0 0) (time 0 0))) ∷
    line.Event (step.Suspect server.One) ∷
    line.Sent 9 server.One server.Zero (shown.Invite (view 2 server.One)) ∷
    line.Sent 10 server.One server.Two (shown.Invite (view 2 server.One)) ∷
    state server.One mode.Calls (view 2 server.One) view_one (role.Follows server.Zero) held.Held 0
    0 0 0 0 ∷
    line.Event (step.Deliver 10) ∷
    line.Sent 11 server.Two server.One
    (shown.Join (view 2 server.One) held.Empty view_one 0 0 0 0 2000) ∷
    state server.Two mode.Joined (view 2 server.One) view_one role.Outside held.Empty 0 0 0 0 0 ∷
    line.Event (step.Deliver 11) ∷
    line.Sent 12 server.One server.Two
    (shown.Form (view 2 server.One) server.One server.Two server.One 0 0 0 4000) ∷
    state server.One mode.Waits (view 2 server.One) (view 2 server.One) (role.Leads server.Two)
    held.Held 0 0 0 0 0 ∷
    line.Event (step.Deliver 12) ∷
    line.Sent 13 server.Two server.One (shown.Formed (view 2 server.One) 0) ∷
    state server.Two mode.Waits (view 2 server.One) (view 2 server.One) (role.Follows server.One)
    held.Held 0 0 0 0 0 ∷
    line.Event (step.Deliver 13) ∷
    line.Event (step.Clock server.One 3990) ∷
    line.Event (step.Clock server.Two 4000) ∷
    line.Event (step.Clock server.Zero 4000) ∷
    line.Event (step.Ask server.Zero 9 2 SUPERUSER (call.GetAttr 1)) ∷
    line.Refused server.Zero 9 2 cause.NoPromise ∷
    line.Event (step.Clock server.One 4049) ∷
    line.Event (step.Tick server.One) ∷
    line.Event (step.Clock server.One 4050) ∷
    line.Event (step.Tick server.One) ∷
    line.Sent 14 server.One server.Two (shown.Beat (view 2 server.One) 0 0) ∷
    state server.One mode.Open (view 2 server.One) (view 2 server.One) (role.Leads server.Two)
    held.Held 0 0 0 0 0 ∷
    []

-- clocks as far apart as they may be: a read under the last millisecond of a promise, none after
-- it, and the next view opened no earlier
abbrev pub PromisesAtTheSkew : Type 0
PromisesAtTheSkew = Plays promises_at_the_skew_steps promises_at_the_skew_lines

-- its steps
abbrev pub promise_runs_out_steps : List Step
promise_runs_out_steps =
    opening_steps ++
    (step.Ask server.Zero 9 1 SUPERUSER (call.GetAttr 1) ∷
    step.Advance 1999 ∷
    step.Ask server.Zero 9 2 SUPERUSER (call.GetAttr 1) ∷
    step.Advance 1 ∷
    step.Ask server.Zero 9 3 SUPERUSER (call.GetAttr 1) ∷
    step.Tick server.Zero ∷
    step.Deliver 9 ∷
    step.Deliver 10 ∷
    step.Ask server.Zero 9 4 SUPERUSER (call.GetAttr 1) ∷
    [])

-- its lines
abbrev pub promise_runs_out_lines : List Line
promise_runs_out_lines =
    opening_lines ++
    (line.Event (step.Ask server.Zero 9 1 SUPERUSER (call.GetAttr 1)) ∷
    line.Entered 1
    (entry 0 9 1 0 (call.GetAttr 1)
    (reply.Attr (directory 493 2 0 0 1 (time 0 0) (time 0 0) (time 0 0)))) ∷
    line.Answered server.Zero 9 1 0
    (reply.Attr (directory 493 2 0 0 1 (time 0 0) (time 0 0) (time 0 0))) ∷
    line.Event (step.Advance 1999) ∷
    line.Event (step.Ask server.Zero 9 2 SUPERUSER (call.GetAttr 1)) ∷
    line.Entered 2
    (entry 0 9 2 0 (call.GetAttr 1)
    (reply.Attr (directory 493 2 0 0 1 (time 0 0) (time 0 0) (time 0 0)))) ∷
    line.Answered server.Zero 9 2 0
    (reply.Attr (directory 493 2 0 0 1 (time 0 0) (time 0 0) (time 0 0))) ∷
    line.Event (step.Advance 1) ∷
    line.Event (step.Ask server.Zero 9 3 SUPERUSER (call.GetAttr 1)) ∷
    line.Refused server.Zero 9 3 cause.NoPromise ∷
    line.Event (step.Tick server.Zero) ∷
    line.Sent 9 server.Zero server.One (shown.Beat view_one 0 0) ∷
    line.Event (step.Deliver 9) ∷
    line.Sent 10 server.One server.Zero (shown.Ack view_one 0 0 6050) ∷
    line.Event (step.Deliver 10) ∷
    line.Event (step.Ask server.Zero 9 4 SUPERUSER (call.GetAttr 1)) ∷
    line.Entered 3
    (entry 0 9 4 0 (call.GetAttr 1)
    (reply.Attr (directory 493 2 0 0 1 (time 0 0) (time 0 0) (time 0 0)))) ∷
    line.Answered server.Zero 9 4 0
    (reply.Attr (directory 493 2 0 0 1 (time 0 0) (time 0 0) (time 0 0))) ∷
    [])

-- a promise ends: reads are refused until the next Beat is acknowledged
abbrev pub PromiseRunsOut : Type 0
PromiseRunsOut = Plays promise_runs_out_steps promise_runs_out_lines

-- its steps
abbrev pub longer_promises_steps : List Step
longer_promises_steps =
    step.Delta 5000 ∷
    step.Power server.One ∷
    step.Boot server.One ∷
    step.Suspect server.Zero ∷
    step.Deliver 0 ∷
    step.Deliver 1 ∷
    step.Deliver 2 ∷
    step.Deliver 3 ∷
    step.Deliver 4 ∷
    step.Deliver 5 ∷
    step.Advance 5049 ∷
    step.Tick server.Zero ∷
    step.Advance 1 ∷
    step.Tick server.Zero ∷
    step.Deliver 6 ∷
    step.Deliver 7 ∷
    step.Deliver 8 ∷
    step.Delta 500 ∷
    step.Crash server.One pick.None ∷
    step.Boot server.One ∷
    step.Suspect server.Zero ∷
    step.Deliver 9 ∷
    []

-- its lines
abbrev pub longer_promises_lines : List Line
longer_promises_lines =
    line.Event (step.Delta 5000) ∷
    line.Event (step.Power server.One) ∷
    line.Down server.One ∷
    line.Event (step.Boot server.One) ∷
    state server.One mode.Rests view_zero view_zero (role.Follows server.Zero) held.Held 0 0 0 0 0 ∷
    line.Event (step.Suspect server.Zero) ∷
    line.Sent 0 server.Zero server.One (shown.Invite view_one) ∷
    line.Sent 1 server.Zero server.Two (shown.Invite view_one) ∷
    state server.Zero mode.Calls view_one view_zero (role.Leads server.One) held.Held 0 0 0 0 0 ∷
    line.Event (step.Deliver 0) ∷
    line.Sent 2 server.One server.Zero (shown.Join view_one held.Held view_zero 0 0 0 0 5000) ∷
    state server.One mode.Joined view_one view_zero (role.Follows server.Zero) held.Held 0 0 0 0 0 ∷
    line.Event (step.Deliver 1) ∷
    line.Sent 3 server.Two server.Zero (shown.Join view_one held.Empty view_zero 0 0 0 0 2000) ∷
    state server.Two mode.Joined view_one view_zero role.Outside held.Empty 0 0 0 0 0 ∷
    line.Event (step.Deliver 2) ∷
    line.Sent 4 server.Zero server.One
    (shown.Form view_one server.Zero server.One server.Zero 0 0 0 5000) ∷
    state server.Zero mode.Waits view_one view_one (role.Leads server.One) held.Held 0 0 0 0 0 ∷
    line.Event (step.Deliver 3) ∷
    line.Event (step.Deliver 4) ∷
    line.Sent 5 server.One server.Zero (shown.Formed view_one 0) ∷
    state server.One mode.Waits view_one view_one (role.Follows server.Zero) held.Held 0 0 0 0 0 ∷
    line.Event (step.Deliver 5) ∷
    line.Event (step.Advance 5049) ∷
    line.Event (step.Tick server.Zero) ∷
    line.Event (step.Advance 1) ∷
    line.Event (step.Tick server.Zero) ∷
    line.Sent 6 server.Zero server.Two (shown.Demote view_one) ∷
    line.Sent 7 server.Zero server.One (shown.Beat view_one 0 0) ∷
    state server.Zero mode.Open view_one view_one (role.Leads server.One) held.Held 0 0 0 0 0 ∷
    line.Event (step.Deliver 6) ∷
    state server.Two mode.Rests view_one view_one role.Outside held.Empty 0 0 0 0 0 ∷
    line.Event (step.Deliver 7) ∷
    line.Sent 8 server.One server.Zero (shown.Ack view_one 0 0 10050) ∷
    state server.One mode.Live view_one view_one (role.Follows server.Zero) held.Held 0 0 0 0 0 ∷
    line.Event (step.Deliver 8) ∷
    line.Event (step.Delta 500) ∷
    line.Event (step.Crash server.One pick.None) ∷
    line.Down server.One ∷
    line.Event (step.Boot server.One) ∷
    state server.One mode.Rests view_one view_one (role.Follows server.Zero) held.Lost 0 0 0 0 0 ∷
    line.Event (step.Suspect server.Zero) ∷
    line.Sent 9 server.Zero server.One (shown.Invite (view 2 server.Zero)) ∷
    line.Sent 10 server.Zero server.Two (shown.Invite (view 2 server.Zero)) ∷
    state server.Zero mode.Calls (view 2 server.Zero) view_one (role.Leads server.One) held.Held 0 0
    0 0 0 ∷
    line.Event (step.Deliver 9) ∷
    line.Sent 11 server.One server.Zero
    (shown.Join (view 2 server.Zero) held.Lost view_one 0 0 0 0 10050) ∷
    state server.One mode.Joined (view 2 server.Zero) view_one (role.Follows server.Zero) held.Lost
    0 0 0 0 0 ∷
    []

-- a boot takes up longer promises, and after a crash and a boot with shorter ones the join still
-- tells of the longer
abbrev pub LongerPromises : Type 0
LongerPromises = Plays longer_promises_steps longer_promises_lines

-- its steps
abbrev pub shorter_promises_steps : List Step
shorter_promises_steps =
    step.Delta 500 ∷
    step.Power server.One ∷
    step.Boot server.One ∷
    step.Delta 700 ∷
    step.Suspect server.Zero ∷
    step.Deliver 0 ∷
    step.Deliver 1 ∷
    step.Deliver 2 ∷
    step.Deliver 3 ∷
    step.Deliver 4 ∷
    step.Deliver 5 ∷
    step.Advance 2050 ∷
    step.Tick server.Zero ∷
    step.Deliver 6 ∷
    step.Deliver 7 ∷
    step.Deliver 8 ∷
    []

-- its lines
abbrev pub shorter_promises_lines : List Line
shorter_promises_lines =
    line.Event (step.Delta 500) ∷
    line.Event (step.Power server.One) ∷
    line.Down server.One ∷
    line.Event (step.Boot server.One) ∷
    state server.One mode.Rests view_zero view_zero (role.Follows server.Zero) held.Held 0 0 0 0 0 ∷
    line.Event (step.Delta 700) ∷
    line.Event (step.Suspect server.Zero) ∷
    line.Sent 0 server.Zero server.One (shown.Invite view_one) ∷
    line.Sent 1 server.Zero server.Two (shown.Invite view_one) ∷
    state server.Zero mode.Calls view_one view_zero (role.Leads server.One) held.Held 0 0 0 0 0 ∷
    line.Event (step.Deliver 0) ∷
    line.Sent 2 server.One server.Zero (shown.Join view_one held.Held view_zero 0 0 0 0 2000) ∷
    state server.One mode.Joined view_one view_zero (role.Follows server.Zero) held.Held 0 0 0 0 0 ∷
    line.Event (step.Deliver 1) ∷
    line.Sent 3 server.Two server.Zero (shown.Join view_one held.Empty view_zero 0 0 0 0 2000) ∷
    state server.Two mode.Joined view_one view_zero role.Outside held.Empty 0 0 0 0 0 ∷
    line.Event (step.Deliver 2) ∷
    line.Sent 4 server.Zero server.One
    (shown.Form view_one server.Zero server.One server.Zero 0 0 0 2000) ∷
    state server.Zero mode.Waits view_one view_one (role.Leads server.One) held.Held 0 0 0 0 0 ∷
    line.Event (step.Deliver 3) ∷
    line.Event (step.Deliver 4) ∷
    line.Sent 5 server.One server.Zero (shown.Formed view_one 0) ∷
    state server.One mode.Waits view_one view_one (role.Follows server.Zero) held.Held 0 0 0 0 0 ∷
    line.Event (step.Deliver 5) ∷
    line.Event (step.Advance 2050) ∷
    line.Event (step.Tick server.Zero) ∷
    line.Sent 6 server.Zero server.Two (shown.Demote view_one) ∷
    line.Sent 7 server.Zero server.One (shown.Beat view_one 0 0) ∷
    state server.Zero mode.Open view_one view_one (role.Leads server.One) held.Held 0 0 0 0 0 ∷
    line.Event (step.Deliver 6) ∷
    state server.Two mode.Rests view_one view_one role.Outside held.Empty 0 0 0 0 0 ∷
    line.Event (step.Deliver 7) ∷
    line.Sent 8 server.One server.Zero (shown.Ack view_one 0 0 2550) ∷
    state server.One mode.Live view_one view_one (role.Follows server.Zero) held.Held 0 0 0 0 0 ∷
    line.Event (step.Deliver 8) ∷
    []

-- a boot with a shorter delta joins with the longest, and promises for its own delta, whatever the
-- group's is then
abbrev pub ShorterPromises : Type 0
ShorterPromises = Plays shorter_promises_steps shorter_promises_lines

-- the mark of a partner, with two saved records, from before marks told of lengths
abbrev pub old_mark : Entry → Entry → Mark Entry
old_mark a b = record {
  promised = 3;
  accepted = 3;
  role = Follows Zero;
  lb = 16384;
  saved = Some (record { base = 16384; cp = 16385; items = a ∷ b ∷ [] });
  longest = None;
}

-- a boot from it
abbrev pub first_boot : Entry → Entry → Server Entry
first_boot a b = booted One 100 5000 (old_mark a b)

-- a boot later, after a crash
abbrev pub second_boot : Entry → Entry → Server Entry
second_boot a b = booted One 200 500 (mark_of (first_boot a b))

-- a boot from an old mark, and a second one, which still knows of the first one's length; and a
-- boot from it at a length below that of all old promises
pub record OldMark (a b : Entry) : Type 0 where
  pub first : state_line One (shown_of (first_boot a b)) ≡ state server.One mode.Rests view_one
      view_one (role.Follows server.Zero) held.Held 16384 16384 16384 16385 16386
  pub first_horizon : (first_boot a b).horizon ≡ 5100
  pub second : shown_of (second_boot a b) ≡ shown_of (first_boot a b)
  pub second_horizon : (second_boot a b).horizon ≡ 5200
  pub longest : (second_boot a b).longest ≡ Some 5000
  pub short_horizon : (booted One 100 500 (old_mark a b)).horizon ≡ 2100
