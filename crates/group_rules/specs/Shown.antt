-- How a trace shows a server, and why it refuses an ask.
use Rattle.std.specs.Prelude.{Bool, option_map}
use Rattle.harp_types.specs.contracts.state.StateLinePartialEq.TheImpl as state_equality
use Rattle.harp_types.specs.declared.state.StateLine.{StateLine}
use Rattle.harp_types.specs.declared.state.Mode.{Mode as ModeShown}
use Rattle.harp_types.specs.declared.state.Mode.TheVariants as mode
use Rattle.harp_types.specs.declared.state.Role.{Role as RoleShown}
use Rattle.harp_types.specs.declared.state.Role.TheVariants as role
use Rattle.harp_types.specs.declared.state.Held.{Held as HeldShown}
use Rattle.harp_types.specs.declared.state.Held.TheVariants as held
use Rattle.harp_types.specs.declared.cause.Cause.{Cause as CauseShown}
use Rattle.harp_types.specs.declared.cause.Cause.TheVariants as cause
use Rattle.file_tree.specs.Book.{Entry}
use Rattle.group_rules.specs.Limits.{by_held}
use Rattle.group_rules.specs.Names.{id_of, view_of}
use Rattle.group_rules.specs.State.{BadClient, Cause, Chose, Collects, Duty, Empty, Follows, Held, Joins, Leads, Live, Log, LogFull, Lost, Mode, NoDuty, NoPromise, NotLeader, NotYetOpen, Old, Open, Outside, Pulls, Rests, Role, Server, Waits, top}

abbrev pub role_shown : Role → RoleShown
role_shown (Leads q) = role.Leads (id_of q)
role_shown (Follows q) = role.Follows (id_of q)
role_shown Outside = role.Outside

abbrev pub held_shown : Held → HeldShown
held_shown Log = held.Held
held_shown Lost = held.Lost
held_shown Empty = held.Empty

-- a coordinator without a choice calls
abbrev pub mode_joined : Duty → ModeShown
mode_joined (Collects reports) = mode.Calls
mode_joined (Chose v plan) = mode.Joined
mode_joined NoDuty = mode.Joined

abbrev pub mode_shown : Mode → Duty → ModeShown
mode_shown Rests duty = mode.Rests
mode_shown Joins duty = mode_joined duty
mode_shown Pulls duty = mode.Pulls
mode_shown Waits duty = mode.Waits
mode_shown Open duty = mode.Open
mode_shown Live duty = mode.Live

-- a server's state line; a lost server shows its LB for each number, an empty one 0
abbrev pub state_of : Server Entry → StateLine
state_of s = record {
  mode = mode_shown s.mode s.duty;
  promised = view_of s.promised;
  accepted = view_of s.accepted;
  role = role_shown s.role;
  held = held_shown s.held;
  base = by_held s.held s.base s.lb;
  lb = by_held s.held s.lb s.lb;
  ap = by_held s.held s.ap s.lb;
  cp = by_held s.held s.cp s.lb;
  top = by_held s.held (top s) s.lb;
}

abbrev pub cause_of : Cause → CauseShown
cause_of BadClient = cause.BadClient
cause_of (NotLeader hint) = cause.NotLeader (option_map id_of hint)
cause_of NotYetOpen = cause.NotYetOpen
cause_of NoPromise = cause.NoPromise
cause_of Old = cause.Old
cause_of LogFull = cause.LogFull

-- whether two states are one
unfoldable pub same_state : StateLine → StateLine → Bool
same_state s t = (state_equality.ghosts).eq s t
