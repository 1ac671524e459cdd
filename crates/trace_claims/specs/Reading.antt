-- Reads are answered to their own ask, under an unexpired promise, by the last that opened a view,
-- on the whole book.
use Rattle.std.specs.Prelude.{◌≡◌, ℕ, true, false, length, Option, Some}
use Rattle.std.specs.List.{AllByRecursion}
use Rattle.harp_types.specs.View.{View, above}
use Rattle.harp_types.specs.declared.server.ServerId.{ServerId}
use Rattle.harp_types.specs.declared.state.Mode.TheVariants as mode
use Rattle.harp_types.specs.declared.state.Role.TheVariants as role
use Rattle.harp_types.specs.declared.state.StateLine.{StateLine}
use Rattle.harp_types.specs.Update.{is_update}
use Rattle.trace_types.specs.declared.step.Step.{Step}
use Rattle.trace_types.specs.declared.step.Step.TheVariants as step
use Rattle.trace_types.specs.declared.line.Line.{Line}
use Rattle.trace_types.specs.declared.line.Line.TheVariants as line
use Rattle.file_tree.specs.Book.{updates}
use Rattle.trace_claims.specs.Acknowledged.{answers_read}
use Rattle.trace_claims.specs.Servers.{PromiseDelivered, clock_after, last_state}
use Rattle.trace_claims.specs.Trace.{AtEachPlace, Trace, entries, step_under_way}

-- ---- own reads

-- what a step answers that asks for a read has the client and the number of this ask
abbrev pub IsOfItsAsk : Option Step → ℕ → ℕ → Type 0
IsOfItsAsk (Some (step.Ask server asker asked cred call)) client number =
    is_update call ≡ false → (client ≡ asker) × (number ≡ asked)
IsOfItsAsk s client number = Unit {0}

-- an answered read is that of its step's ask
abbrev pub AnswersItsAsk : Trace → Line → Type 0
AnswersItsAsk before (line.Answered server client number index reply) =
    IsOfItsAsk (step_under_way before) client number
AnswersItsAsk before l = Unit {0}

-- each read is answered to who asks for it
abbrev pub ReadsAreOwn : Trace → Type 0
ReadsAreOwn trace = AtEachPlace AnswersItsAsk trace

-- ---- promise use

-- An Ack of the leader's view from its partner was delivered, which promises beyond the leader's
-- clock. Where the step is an ask, it was in an earlier one
pub record HasPromise (before : Trace) (s : ServerId) : Type 0 where
  pub state : StateLine
  pub is : last_state before s ≡ Some state
  pub partner : ServerId
  pub leads : state.role ≡ role.Leads partner
  pub promised : PromiseDelivered before partner s state.accepted (clock_after before s)

-- an answered read has a promise
abbrev pub UsesPromise : Trace → Line → Type 0
UsesPromise before (line.Answered server client number index reply) =
    answers_read (step_under_way before) ≡ true → HasPromise before server
UsesPromise before l = Unit {0}

-- each read was answered under an unexpired promise
abbrev pub PromisesAreUsed : Trace → Type 0
PromisesAreUsed trace = AtEachPlace UsesPromise trace

-- ---- exclusive reading

-- a state line that is open in no view above this one
abbrev pub IsNotOpenAbove : View → Line → Type 0
IsNotOpenAbove view (line.State server state) = state.mode ≡ mode.Open → above state.accepted view
    ≡ false
IsNotOpenAbove view l = Unit {0}

-- no server was open in a view above the reader's, and the index is the number of updates entered
pub record ReadsAlone (before : Trace) (s : ServerId) (index : ℕ) : Type 0 where
  pub state : StateLine
  pub is : last_state before s ≡ Some state
  pub alone : AllByRecursion (IsNotOpenAbove state.accepted) before
  pub whole : index ≡ length (updates (entries before))

-- a read is answered by the last that opened a view
abbrev pub ReadsExclusively : Trace → Line → Type 0
ReadsExclusively before (line.Answered server client number index reply) =
    answers_read (step_under_way before) ≡ true → ReadsAlone before server index
ReadsExclusively before l = Unit {0}

-- each read is answered by the last that opened a view, on the whole book
abbrev pub AreExclusive : Trace → Type 0
AreExclusive trace = AtEachPlace ReadsExclusively trace
