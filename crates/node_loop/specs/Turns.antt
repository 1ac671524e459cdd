-- The turns of a running server: when it ticks and when it is nudged, what it is given then, and how
-- quiet it is.
use Rattle.std.specs.Prelude.{ℕ, ◌+◌, ◌%◌, ◌==◌, ◌&&◌, ◌||◌, Bool, true, false, List, [], ◌∷◌, ◌++◌, nat_le, if◌then◌else◌}
use Rattle.harp_types.specs.Memory.{raised}
use Rattle.harp_types.specs.Server.{number_of}
use Rattle.harp_types.specs.declared.server.ServerId.{ServerId}
use Rattle.harp_types.specs.declared.server.ServerId.TheVariants.{Zero, One, Two}
use Rattle.harp_types.specs.declared.state.Role.{Role}
use Rattle.harp_types.specs.declared.state.Role.TheVariants.{Leads, Follows, Outside}
use Rattle.node_link.specs.declared.link.LinkFault.{LinkFault}
use Rattle.node_link.specs.declared.link.LinkFault.TheVariants as link
use Rattle.node_loop.specs.declared.fault.LoopFault.{LoopFault}
use Rattle.node_loop.specs.declared.fault.LoopFault.TheVariants as loop
use Rattle.node.specs.declared.input.Input.{Input}
use Rattle.node.specs.declared.input.Input.TheVariants.{Tick, Apply, Flush, Suspect, Message, Ask, List as ListTree}
use Rattle.wire.specs.declared.message.Message.{Message as ServerMessage}
use Rattle.node_loop.specs.declared.habit.Doubled.{Doubled}
use Rattle.node_loop.specs.declared.habit.Doubled.TheVariants.{Never}
use Rattle.node_loop.specs.declared.habit.Habit.{Habit}
use Rattle.node_loop.specs.declared.habit.Habit.TheVariants.{Plain, Steady}
use Rattle.node_loop.specs.declared.look.Look.{Look}
use Rattle.node_loop.specs.Habits.{after_suspicion, applied_at_once, flushes_by, is_nudged_by, patience_by}
use Rattle.node_loop.specs.Looks.{is_told_in, view_told}

-- a server's habit; when it ticks next, and from when on it may be nudged; its ticks so far, and how
-- many of them it was quiet: since it heeded a message, or suspected last; and how often its patience
-- is doubled
pub record Pacing : Type 0 where
  pub habit : Habit
  pub due : ℕ
  pub nudge : ℕ
  pub ticks : ℕ
  pub quiet : ℕ
  pub doubled : Doubled

-- it is booted at a reading of its clock, and ticks at once
abbrev pub first_pace : Habit → ℕ → Pacing
first_pace habit now =
    record { habit = habit; due = now; nudge = now; ticks = 0; quiet = 0; doubled = Never }

-- ---- a tick

-- how many quiet ticks are too many at first
abbrev pub patience : ServerId → ℕ
patience Zero = 10
patience One = 15
patience Two = 20

-- the witness outside a view never suspects
abbrev pub may_suspect : ServerId → Role → Bool
may_suspect Zero role = true
may_suspect One role = true
may_suspect Two (Leads s) = true
may_suspect Two (Follows s) = true
may_suspect Two Outside = false

abbrev pub flushes : Look → Pacing → Bool
flushes look p = flushes_by p.habit look (raised p.ticks % 5 == 0)

-- an open view makes its patience the first again
abbrev pub doubled_at : Look → Pacing → Doubled
doubled_at look p = if look.is_open then Never else p.doubled

abbrev pub patience_at : ServerId → Look → Pacing → ℕ
patience_at me look p = patience_by p.habit (patience me) (doubled_at look p)

-- the tick counts before it is compared
abbrev pub suspects : ServerId → Look → Pacing → Bool
suspects me look p =
    nat_le (patience_at me look p) (raised p.quiet) && may_suspect me look.role

abbrev pub after_tick : ServerId → Look → ℕ → Pacing → Pacing
after_tick me look now p = record {
  habit = p.habit;
  due = now + 200;
  nudge = now + 10;
  ticks = raised p.ticks;
  quiet = if suspects me look p then 0 else raised p.quiet;
  doubled = after_suspicion p.habit (suspects me look p) (doubled_at look p);
}

abbrev pub given_if : Bool → Input → List Input
given_if true input = input ∷ []
given_if false input = []

-- WHAT A TICK GIVES, in order
abbrev pub tick_inputs : ServerId → Look → Pacing → List Input
tick_inputs me look p =
    Tick ∷ Apply (applied_at_once p.habit look)
    ∷ given_if (flushes look p) Flush ++ given_if (suspects me look p) Suspect

-- ---- a nudge

-- whether its time has come, where no tick is due
abbrev pub is_nudged : Look → ℕ → Pacing → Bool
is_nudged look now p = nat_le p.nudge now && is_nudged_by p.habit look

-- nothing but the time of the next one is another one then: a nudge is no tick
abbrev pub after_nudge : ℕ → Pacing → Pacing
after_nudge now p = record {
  habit = p.habit;
  due = p.due;
  nudge = now + 10;
  ticks = p.ticks;
  quiet = p.quiet;
  doubled = p.doubled;
}

-- ---- what is due

-- a tick or a nudge
abbrev pub is_due : Look → ℕ → Pacing → Bool
is_due look now p = nat_le p.due now || is_nudged look now p

-- WHAT IS GIVEN where something is due: what a tick gives, and at a nudge a Tick alone, so that a
-- leader sends again what wasn't acknowledged
abbrev pub due_inputs : ServerId → Look → ℕ → Pacing → List Input
due_inputs me look now p = if nat_le p.due now then tick_inputs me look p else Tick ∷ []

abbrev pub after_due : ServerId → Look → ℕ → Pacing → Pacing
after_due me look now p = if nat_le p.due now then after_tick me look now p else after_nudge now p

-- ---- a datagram

abbrev pub is_other : Role → ServerId → Bool
is_other (Leads other) from = number_of from == number_of other
is_other (Follows other) from = number_of from == number_of other
is_other Outside from = false

-- a plain server heeds the other storer of its view, and a steady one whoever tells of its view
abbrev pub is_heeded_by : Habit → Look → ServerId → ServerMessage → Bool
is_heeded_by Plain look from m = is_other look.role from
is_heeded_by Steady look from m = is_told_in look (view_told m)

-- an input is a message that a server with this habit heeds
abbrev pub is_heeded : Habit → Look → Input → Bool
is_heeded habit look (Message from message) = is_heeded_by habit look from message
is_heeded habit look (Ask peer client number cred call) = false
is_heeded habit look Tick = false
is_heeded habit look (Apply most) = false
is_heeded habit look Flush = false
is_heeded habit look Suspect = false
is_heeded habit look ListTree = false

-- what is heeded puts off a nudge, too: acknowledgements come as they should
abbrev pub after_input : Look → ℕ → Input → Pacing → Pacing
after_input look now input p = record {
  habit = p.habit;
  due = p.due;
  nudge = if is_heeded p.habit look input then now + 10 else p.nudge;
  ticks = p.ticks;
  quiet = if is_heeded p.habit look input then 0 else p.quiet;
  doubled = p.doubled;
}

-- ---- faults

-- the fault of a loop that a fault of its link is
abbrev pub of_link : LinkFault → LoopFault
of_link link.Failed = loop.LinkFailed
of_link link.NoMemory = loop.NoMemory
