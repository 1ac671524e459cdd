-- What the lines of every run are.
use Rattle.std.specs.Prelude.{◌≡◌, ℕ, ◌<◌, ◌≤◌, true, false, List, ◌∷◌, [], ◌++◌, length, take, Some}
use Rattle.harp_types.specs.View.{View}
use Rattle.harp_types.specs.declared.state.StateLine.{StateLine}
use Rattle.trace_types.specs.declared.step.Step.{Step}
use Rattle.trace_types.specs.declared.line.Line.{Line}
use Rattle.trace_types.specs.declared.line.Line.TheVariants as line
use Rattle.trace_claims.specs.Acknowledged.{answers_read}
use Rattle.trace_claims.specs.Servers.{last_state}
use Rattle.trace_claims.specs.Right.{IsRight}
use Rattle.trace_claims.specs.Trace.{AtEachPlace, Ends, Trace, entries, step_under_way, steps}
use Rattle.file_tree.specs.Book.{Entry, updates}
use Rattle.group_rules.specs.Names.{view_of}
use Rattle.group_rules.specs.State.{Group}
use Rattle.group_safety.specs.Laws.{Whole}
use Rattle.group_trace.specs.Run.{run, run_lines}
use Rattle.group_trace.specs.Scene.{Measures, first_scene}

-- The first n updates of the book stand in a view, and in each view formed above it within its
-- start
pub record StandsInViews (g : Group Entry) (view : View) (n : ℕ) : Type 0 where
  pub number : ℕ
  pub is : view_of number ≡ view
  pub in_book : n ≤ length (updates g.book)
  pub here : take n (g.page number).list ≡ take n (updates g.book)
  pub later : (w : ℕ) → number < w → (g.page w).formed ≡ true → (n ≤ (g.page w).plan.start)
      × (take n (g.page w).list ≡ take n (updates g.book))

-- an answered update stands in the views of a group, from its server's view on
abbrev pub StandsInGroup : Group Entry → Trace → Line → Type 0
StandsInGroup g before (line.Answered server client number index reply) =
    answers_read (step_under_way before) ≡ false → (state : StateLine)
    → last_state before server ≡ Some state → StandsInViews g state.accepted index
StandsInGroup g before l = Unit {0}

-- Of each list of steps that are taken from the first scene on: the event lines are these steps,
-- the entered lines are the group's book, the group meets the facts and has each answered update
-- in its views, and the lines with any right last line are a right trace
pub record RunIsRight (m : Measures) (ss : List Step) : Type 0 where
  pub events : steps (run_lines m first_scene ss) ≡ ss
  pub book : entries (run_lines m first_scene ss) ≡ (run m first_scene ss).group.book
  pub whole : Whole (run m first_scene ss).group
  pub views : AtEachPlace (StandsInGroup (run m first_scene ss).group) (run_lines m first_scene ss)
  pub right : (end : Line) → Ends (length (entries (run_lines m first_scene ss))) end
      → IsRight (run_lines m first_scene ss ++ end ∷ [])
