-- An answered update stands in every later view.
use Rattle.std.specs.Prelude.{◌≡◌, ℕ, ◌≤◌, true, false, [], Some}
use Rattle.std.specs.List.{AllByRecursion}
use Rattle.harp_types.specs.View.{View, above}
use Rattle.harp_types.specs.declared.server.ServerId.{ServerId}
use Rattle.harp_types.specs.declared.state.Held.TheVariants as held
use Rattle.harp_types.specs.declared.state.Mode.TheVariants as mode
use Rattle.harp_types.specs.declared.state.StateLine.{StateLine}
use Rattle.trace_types.specs.declared.line.Line.{Line}
use Rattle.trace_types.specs.declared.line.Line.TheVariants as line
use Rattle.trace_claims.specs.Acknowledged.{answers_read}
use Rattle.trace_claims.specs.Servers.{last_state}
use Rattle.trace_claims.specs.Trace.{AtPlacesAmid, Trace, step_under_way}

-- a server with a log, or one that is open, in a view above this one has the first n updates
abbrev pub HasAbove : View → ℕ → Line → Type 0
HasAbove view n (line.State server state) = above state.accepted view ≡ true
    → (state.held ≡ held.Held → n ≤ state.top) × (state.mode ≡ mode.Open → n ≤ state.cp)
HasAbove view n l = Unit {0}

-- a server with a log in this view has them
abbrev pub HasHere : View → ℕ → Line → Type 0
HasHere view n (line.State server state) = state.accepted ≡ view → state.held ≡ held.Held
    → n ≤ state.top
HasHere view n l = Unit {0}

-- An update that was answered with index n in a view: each state line above the view has it,
-- wherever it stands, and each later one of the view
pub record Survives (before : Trace) (s : ServerId) (n : ℕ) (later : Trace) : Type 0 where
  pub state : StateLine
  pub is : last_state before s ≡ Some state
  pub above_before : AllByRecursion (HasAbove state.accepted n) before
  pub above_later : AllByRecursion (HasAbove state.accepted n) later
  pub here_later : AllByRecursion (HasHere state.accepted n) later

-- an answered update stands in every later view
abbrev pub SurvivesLater : Trace → Line → Trace → Type 0
SurvivesLater before (line.Answered server client number index reply) later =
    answers_read (step_under_way before) ≡ false → Survives before server index later
SurvivesLater before l later = Unit {0}

-- each answered update stands in every later view
abbrev pub AllSurvive : Trace → Type 0
AllSurvive trace = AtPlacesAmid SurvivesLater [] trace
