-- What is kept of the lines so far.
use Rattle.std.specs.Prelude.{◌≡◌, Bool, false, not, ◌&&◌}
use Rattle.harp_types.specs.Trio.{value_of, with_value}
use Rattle.harp_types.specs.declared.server.ServerId.{ServerId}
use Rattle.harp_types.specs.declared.trio.Trio.{Trio}
use Rattle.trace_types.specs.declared.line.Line.{Line}
use Rattle.trace_types.specs.declared.line.Line.TheVariants as line
use Rattle.trace_claims.specs.Servers.{is_open}
use Rattle.trace_claims.specs.Trace.{Trace}
use Rattle.sweep_player.specs.declared.tally.Tally.{Tally}
use Rattle.sweep_player.specs.Counts.{summary_of_trace, was_open}

-- a tally is that of these lines
pub record IsTallyOf (trace : Trace) (t : Tally) : Type 0 where
  pub summary : t.summary ≡ summary_of_trace trace
  pub stands_open : (server : ServerId) → value_of t.stands_open server ≡ was_open trace server

-- the next line opens a view
abbrev pub opens : Tally → Line → Bool
opens t (line.State server state) = is_open state.mode && not (value_of t.stands_open server)
opens t l = false

-- which servers are open after the next line
abbrev pub open_after : Trio Bool → Line → Trio Bool
open_after before (line.State server state) = with_value before server (is_open state.mode)
open_after before (line.Down server) = with_value before server false
open_after before l = before
