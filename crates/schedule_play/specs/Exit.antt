-- Which exits there are for what stops a play.
use Rattle.std.specs.Prelude.{ℕ, Option, Some, None}
use Rattle.harp_types.specs.declared.streams.SinkFault.{SinkFault}
use Rattle.harp_types.specs.declared.streams.SinkFault.TheVariants as sink
use Rattle.trace_types.specs.declared.line.LineFault.{LineFault}
use Rattle.schedule_play.specs.declared.exit.Exit.{Exit}
use Rattle.schedule_play.specs.declared.exit.Exit.TheVariants as exit
use Rattle.schedule_play.specs.declared.exit.Stop.{Stop}
use Rattle.schedule_play.specs.declared.exit.Stop.TheVariants as stop

-- the exit of a stop
abbrev pub exit_of : Stop → Exit
exit_of stop.SourceFailed = exit.SourceFailed
exit_of stop.SinkFailed = exit.SinkFailed
exit_of stop.NoMemory = exit.NoMemory

-- why a sink stops a play
abbrev pub stop_of_sink : SinkFault → Stop
stop_of_sink sink.Failed = stop.SinkFailed
stop_of_sink sink.NoMemory = stop.NoMemory

-- the exit where nothing stops a play: whether a line is refused
abbrev pub whole_exit : Option (ℕ × LineFault) → Exit
whole_exit None = exit.Done
whole_exit (Some refused) = exit.RefusedLine
