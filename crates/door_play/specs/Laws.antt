-- What the calls of a door lead to in a group that is played, whatever bytes records and messages
-- have.
use Rattle.std.specs.Prelude.{◌≡◌, ℕ, ◌+◌, ◌<◌, List, [], ◌∷◌, ◌++◌, length, true, None, Some}
use Rattle.harp_types.specs.declared.call.Call.{Call}
use Rattle.harp_types.specs.declared.cred.Cred.{Cred}
use Rattle.harp_types.specs.declared.reply.Reply.{Reply}
use Rattle.trace_types.specs.declared.line.LineFault.{LineFault}
use Rattle.trace_types.specs.declared.line.LineFault.TheVariants as fault
use Rattle.file_tree.specs.Book.{Entry}
use Rattle.file_tree.specs.Calls.{outcome}
use Rattle.file_tree.specs.Tree.{Tree}
use Rattle.group_rules.specs.State.{Message}
use Rattle.group_trace.specs.Run.{AreTaken, run, run_lines}
use Rattle.group_trace.specs.Scene.{Measures, first_scene}
use Rattle.schedule_play.specs.Reading.{then_read}
use Rattle.door_play.specs.Played.{reading_of_calls}
use Rattle.door_play.specs.Replies.{answers_in, numbered_from, replies_to}
use Rattle.door_play.specs.Steps.{cut, steps_of_call, taken_from}
use Rattle.rpc_door.specs.Results.{is_reply_to}

-- each message has a byte, so that the network is full before a log's numbers end
abbrev pub HasBytes : Measures → Type 0
HasBytes m = (list : List Entry) (message : Message Entry) → 0 < m.bytes list message

-- the answers in the lines of these calls' steps
abbrev pub answers_to : Measures → Cred → List Call → List (ℕ × Reply)
answers_to m cred calls =
    answers_in (run_lines m first_scene (reading_of_calls m cred calls).steps)

-- THE ANSWERS ARE THE REPLIES OF ONE TREE, in order and each once, where no step is refused
abbrev pub AnswersAreReplies : Type 0
AnswersAreReplies = (m : Measures) (cred : Cred) (calls : List Call) → HasBytes m
    → (reading_of_calls m cred calls).refused ≡ None
    → answers_to m cred calls ≡ numbered_from 1 (replies_to cred calls)

-- A STEP IS REFUSED only since the network is full
abbrev pub OnlyFullNetRefuses : Type 0
OnlyFullNetRefuses = (m : Measures) (cred : Cred) (calls : List Call) → HasBytes m
    → (x : ℕ × LineFault) → (reading_of_calls m cred calls).refused ≡ Some x
    → x ≡ (0, fault.NetFull)

-- WHAT IS READ IS TAKEN, step by step
abbrev pub ReadStepsAreTaken : Type 0
ReadStepsAreTaken = (m : Measures) (cred : Cred) (calls : List Call)
    → AreTaken m first_scene (reading_of_calls m cred calls).steps

-- ONE CALL MORE: where no step of the calls so far is refused, its steps are read where they lead
abbrev pub OneCallMore : Type 0
OneCallMore = (m : Measures) (cred : Cred) (calls : List Call) (c : Call)
    → (reading_of_calls m cred calls).refused ≡ None
    → reading_of_calls m cred (calls ++ c ∷ [])
    ≡ then_read (reading_of_calls m cred calls).steps
    (taken_from m (steps_of_call cred (length calls + 1) c)
    (run m first_scene (reading_of_calls m cred calls).steps))

-- its answers stand behind those of the calls so far
abbrev pub AnswersGoOn : Type 0
AnswersGoOn = (m : Measures) (cred : Cred) (calls : List Call) (c : Call)
    → (reading_of_calls m cred calls).refused ≡ None
    → answers_to m cred (calls ++ c ∷ []) ≡ answers_to m cred calls
    ++ answers_in (run_lines m (run m first_scene (reading_of_calls m cred calls).steps)
    (taken_from m (steps_of_call cred (length calls + 1) c)
    (run m first_scene (reading_of_calls m cred calls).steps)).steps)

-- WHERE A STEP IS REFUSED nothing more is read
abbrev pub RefusedStays : Type 0
RefusedStays = (m : Measures) (cred : Cred) (calls : List Call) (c : Call) (x : ℕ × LineFault)
    → (reading_of_calls m cred calls).refused ≡ Some x
    → reading_of_calls m cred (calls ++ c ∷ []) ≡ reading_of_calls m cred calls

-- one call more has one reply more, and its one answer stands behind those of the calls before
pub record IsAnsweredNext (m : Measures) (cred : Cred) (calls : List Call) (c : Call)
    : Type 0 where
  pub reply : Reply
  pub replies : replies_to cred (calls ++ c ∷ []) ≡ replies_to cred calls ++ reply ∷ []
  pub before : (reading_of_calls m cred calls).refused ≡ None
  pub answers : answers_to m cred (calls ++ c ∷ [])
      ≡ answers_to m cred calls ++ (length calls + 1, reply) ∷ []
  pub form : is_reply_to c reply ≡ true

-- ONE CALL MORE IS ANSWERED ONCE, where none of its steps is refused
abbrev pub OneAnswerMore : Type 0
OneAnswerMore = (m : Measures) (cred : Cred) (calls : List Call) (c : Call) → HasBytes m
    → (reading_of_calls m cred (calls ++ c ∷ [])).refused ≡ None → IsAnsweredNext m cred calls c

-- EACH REPLY is of a form that its call can get
abbrev pub RepliesFit : Type 0
RepliesFit = (tree : Tree) (cred : Cred) (c : Call) (stamp : ℕ)
    → is_reply_to c (outcome tree cred (cut c) stamp).0 ≡ true
