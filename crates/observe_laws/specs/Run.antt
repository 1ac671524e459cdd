-- A run of the group with an observer beside it: what each step leaves, and the lines that it writes.
use Rattle.std.specs.Prelude.{◌≡◌, ℕ, zero, suc, ◌+◌, ◌==◌, nat_lt, Bool, true, false, List, [], ◌∷◌, ◌++◌, length, map, take, slice_get, Option, None, Some, option_map, if◌then◌else◌}
use Rattle.std.specs.List.{flat_map}
use Rattle.harp_types.specs.declared.call.Call.{Call}
use Rattle.harp_types.specs.declared.cred.TheConstants.{SUPERUSER}
use Rattle.harp_types.specs.declared.reply.Reply.{Reply}
use Rattle.harp_types.specs.declared.server.ServerId.{ServerId}
use Rattle.file_tree.specs.Book.{Entry, tree_after}
use Rattle.file_tree.specs.Calls.{outcome}
use Rattle.group_rules.specs.Names.{place_of}
use Rattle.trace_types.specs.declared.step.Step.{Step}
use Rattle.trace_types.specs.declared.line.LineFault.{LineFault}
use Rattle.trace_types.specs.declared.line.LineFault.TheVariants as fault
use Rattle.group_trace.specs.Pump.{spelled_out}
use Rattle.group_trace.specs.Refusals.{refusal, where_down}
use Rattle.group_trace.specs.Run.{is_elementary, next, step_lines}
use Rattle.group_trace.specs.Scene.{Measures}
use Rattle.observer.specs.declared.progress.Progress.{Progress}
use Rattle.observer.specs.Progress.{copied_anew, want_of}
use Rattle.shown.specs.declared.shown.Want.{Want}
use Rattle.shown.specs.Rule.{shown_by}
use Rattle.observed_text.specs.declared.step.Act.{Act}
use Rattle.observed_text.specs.declared.step.Act.TheVariants as act
use Rattle.observed_text.specs.declared.step.ObservedStep.{ObservedStep}
use Rattle.observed_text.specs.declared.step.ObservedStep.TheVariants as observed
use Rattle.observed_text.specs.declared.line.ObservedLine.{ObservedLine}
use Rattle.observed_text.specs.declared.line.ObservedLine.TheVariants as line
use Rattle.observe_laws.specs.Scene.{ObservedScene, Showing, filled, numbers_of, taken_by}

-- ---- what is shown

-- of what is wanted, if something is
abbrev pub shown_where : Measures → ObservedScene → ServerId → Option Want → Option Showing
shown_where m w server None = None
shown_where m w server (Some want) =
    option_map (filled w.scene.group.committed)
    (shown_by m.size w.scene.group (place_of server) want)

-- WHAT A SERVER SHOWS of what the observer wants, by the rule of showing and by the group's updates
abbrev pub shown_in : Measures → ObservedScene → ServerId → Option Showing
shown_in m w server = shown_where m w server (want_of w.progress)

abbrev pub with_shown : ObservedScene → Option Showing → ObservedScene
with_shown w None = w
with_shown w (Some x) = record w { shown = w.shown ++ x ∷ [] }

-- ---- what an act leaves

abbrev pub with_taken : ObservedScene → Option Showing → ObservedScene
with_taken w None = w
with_taken w (Some x) = record w { progress = taken_by w.progress x }

abbrev pub acted : Measures → ObservedScene → Act → ObservedScene
acted m w act.Copy = record w { progress = copied_anew w.progress }
acted m w (act.Want server) = with_shown w (shown_in m w server)
acted m w (act.Take packet) = with_taken w (slice_get w.shown packet)
acted m w (act.Drain server count) = w
acted m w (act.Peek call) = w

-- ---- which acts are refused

abbrev pub act_refusal : ObservedScene → Act → Option LineFault
act_refusal w act.Copy = None
act_refusal w (act.Want server) = where_down w.scene.group server
act_refusal w (act.Take packet) = if nat_lt packet (length w.shown) then None else
    Some fault.NoPacket
act_refusal w (act.Drain server count) = where_down w.scene.group server
act_refusal w (act.Peek call) = None

-- ---- the lines of an act

abbrev pub want_lines : ℕ → ServerId → Option Showing → List ObservedLine
want_lines packet server None = line.Unshown server ∷ []
want_lines packet server (Some x) = line.Shown packet server (numbers_of x) ∷ []

abbrev pub is_same_top : Option ℕ → Option ℕ → Bool
is_same_top None None = true
is_same_top (Some before) (Some after) = before == after
is_same_top before after = false

abbrev pub top_line : Option ℕ → List ObservedLine
top_line None = []
top_line (Some top) = line.Observer top ∷ []

-- the top of the finished copy, where it is another one than before
abbrev pub top_lines : Option ℕ → Option ℕ → List ObservedLine
top_lines before after = if is_same_top before after then [] else top_line after

-- the reply to a read on the tree after so many updates
abbrev pub peeked : List Entry → Call → ℕ → Reply
peeked updates call top = (outcome (tree_after (take top updates)) SUPERUSER call 0).0

abbrev pub peek_lines : List Entry → Call → Option ℕ → List ObservedLine
peek_lines updates call None = line.Blind ∷ []
peek_lines updates call (Some top) = line.Peeked top (peeked updates call top) ∷ []

-- what an act gives behind its event line
abbrev pub given_lines : Measures → ObservedScene → Act → List ObservedLine
given_lines m w (act.Want server) = want_lines (length w.shown) server (shown_in m w server)
given_lines m w (act.Take packet) =
    top_lines w.progress.finished (acted m w (act.Take packet)).progress.finished
given_lines m w (act.Peek call) = peek_lines w.scene.group.committed call w.progress.finished
given_lines m w a = []

-- ---- drains

-- the acts of a drain, at most so many times two: what is wanted is shown and reaches the observer,
-- until nothing is shown
unfoldable pub drained : Measures → ℕ → ServerId → ObservedScene → List Act
drained m zero server w = []
drained m (suc most) server w = elim (shown_in m w server) [
  | None ↦ act.Want server ∷ []
  | Some x ↦ act.Want server ∷ act.Take (length w.shown)
      ∷ drained m most server
      (acted m (acted m w (act.Want server)) (act.Take (length w.shown)))
]

-- ---- a step of either kind

abbrev pub observed_refusal : Measures → ObservedScene → ObservedStep → Option LineFault
observed_refusal m w (observed.Played s) = refusal m w.scene s
observed_refusal m w (observed.Acted a) = act_refusal w a

abbrev pub observed_next : Measures → ObservedScene → ObservedStep → ObservedScene
observed_next m w (observed.Played s) = record w { scene = next m w.scene s }
observed_next m w (observed.Acted a) = acted m w a

-- the lines of a step: its event line, and then what it gives
abbrev pub observed_lines : Measures → ObservedScene → ObservedStep → List ObservedLine
observed_lines m w (observed.Played s) = map line.Traced (step_lines m w.scene s)
observed_lines m w (observed.Acted a) = line.Event a ∷ given_lines m w a

-- the elementary steps that an act stands for
abbrev pub acts_out : Measures → ObservedScene → Act → List Act
acts_out m w (act.Drain server count) = drained m count server w
acts_out m w a = a ∷ []

-- the elementary steps that a step stands for
abbrev pub observed_out : Measures → ObservedScene → ObservedStep → List ObservedStep
observed_out m w (observed.Played s) = map observed.Played (spelled_out m w.scene s)
observed_out m w (observed.Acted a) = map observed.Acted (acts_out m w a)

abbrev pub is_act_elementary : Act → Bool
is_act_elementary (act.Drain server count) = false
is_act_elementary a = true

abbrev pub is_observed_elementary : ObservedStep → Bool
is_observed_elementary (observed.Played s) = is_elementary s
is_observed_elementary (observed.Acted a) = is_act_elementary a

-- ---- a run

-- no step is refused, and each is elementary
abbrev pub AreObserved : Measures → ObservedScene → List ObservedStep → Type 0
AreObserved m w [] = Unit {0}
AreObserved m w (s ∷ ss) = (observed_refusal m w s ≡ None) × (is_observed_elementary s ≡ true)
    × AreObserved m (observed_next m w s) ss

-- what steps leave, one after the other
unfoldable pub observed_run : Measures → ObservedScene → List ObservedStep → ObservedScene
observed_run m w [] = w
observed_run m w (s ∷ ss) = observed_run m (observed_next m w s) ss

-- the lines of steps, one after the other
unfoldable pub observed_run_lines : Measures → ObservedScene → List ObservedStep
    → List ObservedLine
observed_run_lines m w [] = []
observed_run_lines m w (s ∷ ss) =
    observed_lines m w s ++ observed_run_lines m (observed_next m w s) ss

-- the steps of a schedule among them
abbrev pub played_of : ObservedStep → List Step
played_of (observed.Played s) = s ∷ []
played_of (observed.Acted a) = []

abbrev pub played_steps : List ObservedStep → List Step
played_steps ss = flat_map played_of ss
