-- What is kept of the states that servers have shown.
use Rattle.std.specs.Prelude.{◌≡◌, ◌↔◌, ℕ, Some}
use Rattle.std.specs.Bool.{MatchBool}
use Rattle.std.specs.Option.{option_map}
use Rattle.harp_types.specs.Trio.{value_of, with_value}
use Rattle.harp_types.specs.View.{View}
use Rattle.harp_types.specs.declared.server.ServerId.{ServerId}
use Rattle.harp_types.specs.declared.state.StateLine.{StateLine}
use Rattle.harp_types.specs.declared.trio.Trio.{Trio}
use Rattle.trace_claims.specs.Trace.{Trace}
use Rattle.trace_claims.specs.Servers.{HasShown, first_open, is_open, last_state}
use Rattle.trace_check.specs.Keys.{place_key}
use Rattle.trace_check.specs.Marks.{mark_at, Entries, IsNoted, IsRaised, Reaches}
use Rattle.trace_check.specs.declared.servers.Servers.{Servers}

-- this happens to the marks of one server, and the others stay
abbrev pub IsAt : ServerId → (Entries → Entries → Type 0) → Trio Entries → Trio Entries → Type 0
IsAt s P old new = (new ≡ with_value old s (value_of new s)) × P (value_of old s) (value_of new s)

-- the last states, the greatest tops and the CPs at openings are those of these lines
pub record AreServersOf (servers : Servers) (trace : Trace) : Type 0 where
  pub last : (s : ServerId) → value_of servers.last s ≡ last_state trace s
  pub shown : (s : ServerId) (view : View) (n : ℕ)
      → Reaches (value_of servers.shown s) (place_key s view) n ↔ HasShown trace s view n
  pub opened : (s : ServerId) (view : View) → mark_at (value_of servers.opened s) (place_key s view)
      ≡ option_map (λ (state : StateLine). state.cp) (first_open trace s view)

-- a server shows a state
pub record ShowsState (s : ServerId) (state : StateLine) (old new : Servers) : Type 0 where
  pub last : new.last ≡ with_value old.last s (Some state)
  pub shown : IsAt s (IsRaised (place_key s state.accepted) state.top) old.shown new.shown
  pub opened : MatchBool (is_open state.mode)
      (IsAt s (IsNoted (place_key s state.accepted) state.cp) old.opened new.opened)
      (new.opened ≡ old.opened)
