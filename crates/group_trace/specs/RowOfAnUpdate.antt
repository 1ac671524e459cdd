-- A worked row: a view is formed and opened, one update, a listing, a stop between two calls of a
-- flush, and one that ends with a listing.
use Rattle.std.specs.Prelude.{List, [], ◌∷◌, ◌++◌}
use Rattle.harp_types.specs.declared.attr.Attr.{Attr}
use Rattle.harp_types.specs.declared.call.Call.{Call}
use Rattle.harp_types.specs.declared.call.Call.TheVariants as call
use Rattle.harp_types.specs.declared.cred.TheConstants.{SUPERUSER}
use Rattle.harp_types.specs.declared.reply.Reply.TheVariants as reply
use Rattle.harp_types.specs.declared.server.ServerId.TheVariants as server
use Rattle.harp_types.specs.declared.state.Held.TheVariants as held
use Rattle.harp_types.specs.declared.state.Mode.TheVariants as mode
use Rattle.harp_types.specs.declared.state.Role.TheVariants as role
use Rattle.harp_types.specs.declared.pick.Pick.TheVariants as pick
use Rattle.trace_types.specs.declared.step.Step.{Step}
use Rattle.trace_types.specs.declared.step.Step.TheVariants as step
use Rattle.trace_types.specs.declared.line.Line.{Line}
use Rattle.trace_types.specs.declared.line.Line.TheVariants as line
use Rattle.trace_types.specs.declared.line.ShownMessage.TheVariants as shown
use Rattle.group_trace.specs.RowWords.{directory, entry, mode_755, state, time, view_one}
use Rattle.group_trace.specs.RowsOfOpening.{Plays, opening_lines, opening_steps}

-- MKDIR of a in the root
abbrev pub make_a : Call
make_a = call.MkDir 1 (0x61 ∷ []) mode_755

-- the root of the first tree
abbrev pub first_root : Attr
first_root = directory 493 2 0 0 1 (time 0 0) (time 0 0) (time 0 0)

-- the directory that is made
abbrev pub made : Attr
made = directory 493 2 0 0 2 (time 2 50000) (time 2 50000) (time 2 50000)

-- the root with the directory in it
abbrev pub root : Attr
root = directory 493 3 264 1 1 (time 0 0) (time 2 50000) (time 2 50000)

-- its steps
abbrev pub one_update_steps : List Step
one_update_steps =
    opening_steps ++
    (step.Ask server.Zero 7 1 SUPERUSER make_a ∷
    step.List server.Zero ∷
    step.Deliver 9 ∷
    step.Deliver 10 ∷
    step.List server.Zero ∷
    step.Tick server.Zero ∷
    step.Deliver 11 ∷
    step.Deliver 12 ∷
    step.Apply server.One 3 ∷
    step.Stop server.One 1 pick.None ∷
    step.Flush server.One ∷
    step.Boot server.One ∷
    step.List server.One ∷
    step.Stop server.Zero 0 pick.None ∷
    step.List server.Zero ∷
    step.Apply server.Zero 3 ∷
    [])

-- its lines
abbrev pub one_update_lines : List Line
one_update_lines =
    opening_lines ++
    (line.Event (step.Ask server.Zero 7 1 SUPERUSER make_a) ∷
    line.Sent 9 server.Zero server.One (shown.Event view_one 1 0 0 7 1) ∷
    state server.Zero mode.Open view_one view_one (role.Leads server.One) held.Held 0 0 0 0 1 ∷
    line.Event (step.List server.Zero) ∷
    line.Listed server.Zero 0 1 ∷
    line.Object first_root ∷
    line.Event (step.Deliver 9) ∷
    line.Sent 10 server.One server.Zero (shown.Ack view_one 1 0 4050) ∷
    state server.One mode.Live view_one view_one (role.Follows server.Zero) held.Held 0 0 0 0 1 ∷
    line.Event (step.Deliver 10) ∷
    line.Entered 1 (entry 1 7 1 2050 make_a (reply.Node 2 made)) ∷
    line.Answered server.Zero 7 1 1 (reply.Node 2 made) ∷
    state server.Zero mode.Open view_one view_one (role.Leads server.One) held.Held 0 0 0 1 1 ∷
    line.Event (step.List server.Zero) ∷
    line.Listed server.Zero 1 2 ∷
    line.Object root ∷
    line.Slot 1 0 2 (0x61 ∷ []) ∷
    line.Object made ∷
    line.Event (step.Tick server.Zero) ∷
    line.Sent 11 server.Zero server.One (shown.Beat view_one 1 0) ∷
    line.Event (step.Deliver 11) ∷
    line.Sent 12 server.One server.Zero (shown.Ack view_one 1 0 4050) ∷
    state server.One mode.Live view_one view_one (role.Follows server.Zero) held.Held 0 0 0 1 1 ∷
    line.Event (step.Deliver 12) ∷
    line.Event (step.Apply server.One 3) ∷
    state server.One mode.Live view_one view_one (role.Follows server.Zero) held.Held 0 0 1 1 1 ∷
    line.Event (step.Stop server.One 1 pick.None) ∷
    line.Event (step.Flush server.One) ∷
    line.Down server.One ∷
    line.Event (step.Boot server.One) ∷
    state server.One mode.Rests view_one view_one (role.Follows server.Zero) held.Lost 0 0 0 0 0 ∷
    line.Event (step.List server.One) ∷
    line.Unlisted server.One ∷
    line.Event (step.Stop server.Zero 0 pick.None) ∷
    line.Event (step.List server.Zero) ∷
    line.Listed server.Zero 1 2 ∷
    line.Object root ∷
    line.Slot 1 0 2 (0x61 ∷ []) ∷
    line.Object made ∷
    line.Event (step.Apply server.Zero 3) ∷
    state server.Zero mode.Open view_one view_one (role.Leads server.One) held.Held 0 0 1 1 1 ∷
    [])

-- one update and its listings at CP, a flush that stops at its mark, and a stop that no listing
-- heeds
abbrev pub OneUpdate : Type 0
OneUpdate = Plays one_update_steps one_update_lines
