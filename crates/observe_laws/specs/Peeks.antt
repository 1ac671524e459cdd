-- What is to hold of the observed trace of every text.
use Rattle.std.specs.Prelude.{◌≡◌, ℕ, ◌≤◌, List, [], ◌∷◌, ◌++◌, length, fold, Option, Some, None}
use Rattle.std.specs.List.{AllByRecursion, flat_map}
use Rattle.harp_types.specs.declared.call.Call.{Call}
use Rattle.harp_types.specs.declared.reply.Reply.{Reply}
use Rattle.file_tree.specs.Book.{Entry, updates}
use Rattle.trace_claims.specs.Right.{IsRight}
use Rattle.trace_claims.specs.Trace.{entries, steps}
use Rattle.group_trace.specs.Scene.{Measures}
use Rattle.observed_text.specs.declared.step.Act.{Act}
use Rattle.observed_text.specs.declared.step.Act.TheVariants as act
use Rattle.observed_text.specs.declared.line.ObservedLine.{ObservedLine}
use Rattle.observed_text.specs.declared.line.ObservedLine.TheVariants as line
use Rattle.observe_laws.specs.Reading.{observed_reading}
use Rattle.observe_laws.specs.Run.{peeked, played_steps}
use Rattle.observe_laws.specs.Trace.{ObservedTrace, observed_trace, traced}

-- a fact of each line and the lines before it
abbrev pub AtObservedAfter : (ObservedTrace → ObservedLine → Type 0) → ObservedTrace
    → ObservedTrace → Type 0
AtObservedAfter P before [] = Unit {0}
AtObservedAfter P before (l ∷ lines) = P before l × AtObservedAfter P (before ++ l ∷ []) lines

abbrev pub AtEachObserved : (ObservedTrace → ObservedLine → Type 0) → ObservedTrace → Type 0
AtEachObserved P trace = AtObservedAfter P [] trace

-- ---- answers of the observer

-- the updates that are entered in these lines
abbrev pub updates_in : ObservedTrace → List Entry
updates_in trace = updates (entries (traced trace))

-- the act that is under way after a line
abbrev pub later_act : Option Act → ObservedLine → Option Act
later_act before (line.Event a) = Some a
later_act before l = before

abbrev pub act_under_way : ObservedTrace → Option Act
act_under_way trace = fold later_act None trace

-- after how many updates the observer answered
abbrev pub top_peeked : ObservedLine → List ℕ
top_peeked (line.Peeked top reply) = top ∷ []
top_peeked l = []

-- AN ANSWER OF THE OBSERVER: it peeks, after no more updates than are entered before and no fewer
-- than it ever answered after, and the reply is the one on the tree after just so many
pub record IsPeeked (before : ObservedTrace) (top : ℕ) (reply : Reply) : Type 0 where
  pub call : Call
  pub asked : act_under_way before ≡ Some (act.Peek call)
  pub within : top ≤ length (updates_in before)
  pub no_earlier : AllByRecursion (λ n. n ≤ top) (flat_map top_peeked before)
  pub reply_is : reply ≡ peeked (updates_in before) call top

abbrev pub IsPeekedIn : ObservedTrace → ObservedLine → Type 0
IsPeekedIn before (line.Peeked top reply) = IsPeeked before top reply
IsPeekedIn before l = Unit {0}

-- EACH ANSWER OF THE OBSERVER IS ONE ON A TREE OF THE BOOK
abbrev pub ArePeeked : ObservedTrace → Type 0
ArePeeked trace = AtEachObserved IsPeekedIn trace

-- ---- of every text

-- What holds of the observed trace of a text: without what tells of the observer it is a right
-- trace, of the steps of the schedule that were read, and each answer of the observer is one on a
-- tree of the book
pub record IsObservedRightly (m : Measures) (text : List ℕ) : Type 0 where
  pub right : IsRight (traced (observed_trace m text))
  pub events : steps (traced (observed_trace m text))
      ≡ played_steps (observed_reading m text).steps
  pub peeks : ArePeeked (observed_trace m text)
