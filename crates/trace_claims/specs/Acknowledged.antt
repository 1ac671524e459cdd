-- Updates are answered once the partner acknowledged them, and in the step that completes it.
use Rattle.std.specs.Prelude.{◌≡◌, ℕ, zero, suc, ◌+◌, ◌-◌, ◌<◌, ◌≤◌, ◌⊎◌, Bool, false, not, List, [], ◌∷◌, Option, Some}
use Rattle.harp_types.specs.View.{View}
use Rattle.harp_types.specs.Update.{is_update}
use Rattle.harp_types.specs.declared.server.ServerId.{ServerId}
use Rattle.harp_types.specs.declared.state.Mode.TheVariants as mode
use Rattle.harp_types.specs.declared.state.StateLine.{StateLine}
use Rattle.harp_types.specs.declared.state.Role.TheVariants as role
use Rattle.trace_types.specs.declared.step.Step.{Step}
use Rattle.trace_types.specs.declared.step.Step.TheVariants as step
use Rattle.trace_types.specs.declared.line.Line.{Line}
use Rattle.trace_types.specs.declared.line.Line.TheVariants as line
use Rattle.trace_claims.specs.Trace.{Trace, step_under_way, AtEachPlace, AtPlacesAmid}
use Rattle.trace_claims.specs.Servers.{AckDelivered, HasShown, ack_packet, first_open, last_state, packet_in}

-- ---- acknowledged

-- an index within CP in the server's first open state line of this view
pub record WithinOpening (before : Trace) (s : ServerId) (view : View) (n : ℕ) : Type 0 where
  pub state : StateLine
  pub is : first_open before s view ≡ Some state
  pub within : n ≤ state.cp

-- A leader's partner in its view showed that it has n updates; and an Ack that says so was
-- delivered to the leader, or the leader had them as committed when it opened the view
pub record HasAcknowledged (before : Trace) (s : ServerId) (n : ℕ) : Type 0 where
  pub state : StateLine
  pub is : last_state before s ≡ Some state
  pub partner : ServerId
  pub leads : state.role ≡ role.Leads partner
  pub shown : HasShown before partner state.accepted n
  pub acknowledged : AckDelivered before partner s state.accepted n
      ⊎ WithinOpening before s state.accepted n

-- an answered line belongs to a read where its step asks for one, else to an update
abbrev pub answers_read : Option Step → Bool
answers_read (Some (step.Ask server client number cred call)) = not (is_update call)
answers_read s = false

-- an answered update is acknowledged
abbrev pub IsAcknowledged : Trace → Line → Type 0
IsAcknowledged before (line.Answered server client number index reply) =
    answers_read (step_under_way before) ≡ false → HasAcknowledged before server index
IsAcknowledged before l = Unit {0}

-- each update was answered after the leader's partner acknowledged it
abbrev pub AreAcknowledged : Trace → Type 0
AreAcknowledged trace = AtEachPlace IsAcknowledged trace

-- ---- answered at once

-- who answers, and with which index, up to the next event line
abbrev pub answers_in_step : Trace → List (ServerId × ℕ)
answers_in_step [] = []
answers_in_step (line.Event step ∷ lines) = []
answers_in_step (line.Answered server client number index reply ∷ lines) = (server, index)
    ∷ answers_in_step lines
answers_in_step (l ∷ lines) = answers_in_step lines

-- a server's answers with the k indices after c
abbrev pub answers_after : ServerId → ℕ → ℕ → List (ServerId × ℕ)
answers_after s c zero = []
answers_after s c (suc k) = (s, c + 1) ∷ answers_after s (c + 1) k

-- The step that delivers an Ack to the open leader of its view, with a top above the leader's CP,
-- answers each index from the one after CP to the top, in order
abbrev pub AnswersUpToTop : Trace → ℕ → Trace → Type 0
AnswersUpToTop before packet later =
    (from to : ServerId) (view : View) (top lb until : ℕ) (state : StateLine)
    → packet_in before packet ≡ Some (ack_packet from to view top lb until)
    → last_state before to ≡ Some state
    → state.mode ≡ mode.Open → state.accepted ≡ view → state.cp < top
    → answers_in_step later ≡ answers_after to state.cp (top - state.cp)

-- a step that delivers an Ack answers what it completes
abbrev pub AnswersAtOnce : Trace → Line → Trace → Type 0
AnswersAtOnce before (line.Event (step.Deliver packet)) later = AnswersUpToTop before packet later
AnswersAtOnce before l later = Unit {0}

-- each update is answered in the step that completes its acknowledgement
abbrev pub AreAnsweredAtOnce : Trace → Type 0
AreAnsweredAtOnce trace = AtPlacesAmid AnswersAtOnce [] trace
