-- A step is one server's: whom its lines name, which packets it sends, and how logs grow.
use Rattle.std.specs.Prelude.{◌≡◌, ℕ, ◌+◌, ◌-◌, ◌≤◌, Option, Some, None, fold, if◌then◌else◌}
use Rattle.harp_types.specs.declared.server.ServerId.{ServerId}
use Rattle.harp_types.specs.declared.state.StateLine.{StateLine}
use Rattle.trace_types.specs.declared.step.Step.{Step}
use Rattle.trace_types.specs.declared.step.Step.TheVariants as step
use Rattle.trace_types.specs.declared.line.Line.{Line}
use Rattle.trace_types.specs.declared.line.Line.TheVariants as line
use Rattle.trace_types.specs.declared.line.ShownMessage.{ShownMessage}
use Rattle.trace_types.specs.declared.line.ShownMessage.TheVariants as shown
use Rattle.harp_types.specs.Server.{same_server}
use Rattle.trace_claims.specs.Servers.{Packet, first_state, packet_in}
use Rattle.trace_claims.specs.Trace.{AtEachPlace, Trace, step_under_way}

-- ---- whose step it is

-- the server that a packet is for
abbrev pub target_of : Option Packet → Option ServerId
target_of None = None
target_of (Some p) = Some p.to

-- The server that steps: in a delivery the one that the packet is for. None does where only clocks
-- go on, a delta or a stop is set, or bytes are dropped
abbrev pub stepper : Trace → Step → Option ServerId
stepper before (step.Ask server client number cred call) = Some server
stepper before (step.Deliver n) = target_of (packet_in before n)
stepper before (step.Tick server) = Some server
stepper before (step.Suspect server) = Some server
stepper before (step.Apply server most) = Some server
stepper before (step.Flush server) = Some server
stepper before (step.List server) = Some server
stepper before (step.Boot server) = Some server
stepper before (step.Power server) = Some server
stepper before (step.PowerCut server calls pick) = Some server
stepper before (step.Crash server pick) = Some server
stepper before s = None

-- the server of the step that is under way
abbrev pub stepper_of : Trace → Option Step → Option ServerId
stepper_of before None = None
stepper_of before (Some s) = stepper before s

-- ---- the lines of a step

-- a line names no other server as the one that answers, refuses, sends, has a state or lists
abbrev pub Names : ServerId → Line → Type 0
Names s (line.Answered server client number index reply) = server ≡ s
Names s (line.Refused server client number cause) = server ≡ s
Names s (line.Sent packet from to message) = from ≡ s
Names s (line.State server state) = server ≡ s
Names s (line.Down server) = server ≡ s
Names s (line.Listed server cp objects) = server ≡ s
Names s (line.Unlisted server) = server ≡ s
Names s l = Unit {0}

-- a line of a step names its server; a step of no server has no lines
abbrev pub IsGiven : Option ServerId → Line → Type 0
IsGiven server (line.Event s) = Unit {0}
IsGiven server (line.Bad number fault) = Unit {0}
IsGiven server (line.End entered) = Unit {0}
IsGiven None l = ⊥
IsGiven (Some s) l = Names s l

-- each line is of the server that steps
abbrev pub IsOfItsStep : Trace → Line → Type 0
IsOfItsStep before l = IsGiven (stepper_of before (step_under_way before)) l

-- ---- packets

-- one more after a send line
abbrev pub more_sent : ℕ → Line → ℕ
more_sent n (line.Sent packet from to message) = n + 1
more_sent n l = n

-- how many packets were sent
abbrev pub sent_in : Trace → ℕ
sent_in trace = fold more_sent 0 trace

-- packets are numbered from 0, as they are sent
abbrev pub IsNextPacket : Trace → Line → Type 0
IsNextPacket before (line.Sent packet from to message) = packet ≡ sent_in before
IsNextPacket before l = Unit {0}

-- ---- logs

-- how many records a state line shows
abbrev pub records : StateLine → ℕ
records state = state.top - state.base

-- the state that a line shows of a server, one that goes down keeps what it showed
abbrev pub later_shown : ServerId → StateLine → Line → StateLine
later_shown s before (line.State server state) = if same_server server s then state else before
later_shown s before l = before

-- what a server's last state line shows, whether it went down since or not
abbrev pub last_shown : Trace → ServerId → StateLine
last_shown trace s = fold (later_shown s) (first_state s) trace

-- an Event brings one record, a Give any number, another message none
abbrev pub BringsRecords : ShownMessage → ℕ → ℕ → Type 0
BringsRecords (shown.Event view index cp base client number) old new = new ≤ old + 1
BringsRecords (shown.Give view first count) old new = Unit {0}
BringsRecords m old new = new ≤ old

-- the records that a packet brings
abbrev pub PacketBrings : Option Packet → ℕ → ℕ → Type 0
PacketBrings None old new = new ≤ old
PacketBrings (Some p) old new = BringsRecords p.message old new

-- an ask adds one record, a delivery what its packet brings, another step none; a boot gives back
-- at most those that the server had when it went down
abbrev pub Adds : Trace → Option Step → ℕ → ℕ → Type 0
Adds before (Some (step.Ask server client number cred call)) old new = new ≤ old + 1
Adds before (Some (step.Deliver n)) old new = PacketBrings (packet_in before n) old new
Adds before s old new = new ≤ old

-- how many records a state line has, beside the server's last one
abbrev pub AddsRecords : Trace → Line → Type 0
AddsRecords before (line.State server state) =
    Adds before (step_under_way before) (records (last_shown before server)) (records state)
AddsRecords before l = Unit {0}

-- ---- of a trace

-- Each line is of the server that steps, packets are numbered as they are sent, and logs grow by
-- asks, Events and Gives alone
pub record StepsAreLocal (trace : Trace) : Type 0 where
  pub names : AtEachPlace IsOfItsStep trace
  pub packets : AtEachPlace IsNextPacket trace
  pub records : AtEachPlace AddsRecords trace
