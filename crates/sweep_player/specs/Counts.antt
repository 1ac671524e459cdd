-- What the lines of a trace come to.
use Rattle.std.specs.Prelude.{ℕ, ◌+◌, Bool, true, false, not, ◌&&◌, [], ◌∷◌, ◌++◌, Option, Some, None, sum_by, if◌then◌else◌}
use Rattle.harp_types.specs.declared.server.ServerId.{ServerId}
use Rattle.harp_types.specs.declared.state.StateLine.{StateLine}
use Rattle.trace_types.specs.declared.line.Line.{Line}
use Rattle.trace_types.specs.declared.line.Line.TheVariants as line
use Rattle.trace_claims.specs.Servers.{is_open, last_state}
use Rattle.trace_claims.specs.Trace.{Trace}
use Rattle.sweep.specs.declared.summary.Summary.{Summary}

abbrev pub one_if : Bool → ℕ
one_if b = if b then 1 else 0

-- a call enters history
abbrev pub is_entered : Line → Bool
is_entered (line.Entered place entry) = true
is_entered l = false

-- a client is answered
abbrev pub is_answered : Line → Bool
is_answered (line.Answered server client number index reply) = true
is_answered l = false

-- a client is refused
abbrev pub is_refused : Line → Bool
is_refused (line.Refused server client number cause) = true
is_refused l = false

-- the state of a server that is up is open
abbrev pub is_open_state : Option StateLine → Bool
is_open_state None = false
is_open_state (Some state) = is_open state.mode

-- a server is open by its last line
abbrev pub was_open : Trace → ServerId → Bool
was_open before server = is_open_state (last_state before server)

-- a server is open by this line that wasn't by its last one
abbrev pub is_opening : Trace → Line → Bool
is_opening before (line.State server state) = is_open state.mode && not (was_open before server)
is_opening before l = false

-- how often a server opened its view in these lines, behind others
unfoldable pub openings_behind : Trace → Trace → ℕ
openings_behind before [] = 0
openings_behind before (l ∷ lines) =
    one_if (is_opening before l) + openings_behind (before ++ l ∷ []) lines

-- WHAT A TRACE COMES TO
unfoldable pub summary_of_trace : Trace → Summary
summary_of_trace trace = record {
  entered = sum_by (λ l. one_if (is_entered l)) trace;
  answered = sum_by (λ l. one_if (is_answered l)) trace;
  refused = sum_by (λ l. one_if (is_refused l)) trace;
  opened = openings_behind [] trace;
}
