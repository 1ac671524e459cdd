-- What single lines tell.
use Rattle.std.specs.Prelude.{Bool, true, false, Option, Some, None}
use Rattle.harp_types.specs.declared.server.ServerId.{ServerId}
use Rattle.harp_types.specs.declared.state.StateLine.{StateLine}
use Rattle.trace_types.specs.declared.step.Step.TheVariants as step
use Rattle.trace_types.specs.declared.line.Line.{Line}
use Rattle.trace_types.specs.declared.line.Line.TheVariants as line
use Rattle.trace_check.specs.declared.readings.ClockTold.{ClockTold}
use Rattle.trace_check.specs.declared.readings.ClockTold.TheVariants as clock
use Rattle.trace_check.specs.declared.readings.PacketTold.{PacketTold}
use Rattle.trace_check.specs.declared.readings.PacketTold.TheVariants as packet

-- a server and its state, none where it is down
abbrev pub state_told : Line → Option (ServerId × Option StateLine)
state_told (line.State server state) = Some (server, Some state)
state_told (line.Down server) = Some (server, None)
state_told l = None

-- a packet that is sent or delivered
abbrev pub packet_told : Line → Option PacketTold
packet_told (line.Sent number from to message) = Some (packet.Sent number from to message)
packet_told (line.Event (step.Deliver number)) = Some (packet.Delivered number)
packet_told l = None

-- clocks that are set or go on
abbrev pub clock_told : Line → Option ClockTold
clock_told (line.Event (step.Clock server reading)) = Some (clock.Set server reading)
clock_told (line.Event (step.Advance millis)) = Some (clock.Advanced millis)
clock_told l = None

-- whether a step begins
abbrev pub begins_step : Line → Bool
begins_step (line.Event s) = true
begins_step l = false
