-- The text of a schedule, and of the summaries of a sweep.
use Rattle.std.specs.Prelude.{ℕ, ◌+◌, List, [], ◌∷◌, ◌++◌, length, sum_by, codes, decimal}
use Rattle.std.specs.List.{flat_map}
use Rattle.text_spelling.specs.Text.{spaced}
use Rattle.text_spelling.specs.Steps.{step_text}
use Rattle.trace_types.specs.declared.step.Step.{Step}
use Rattle.sweep.specs.declared.summary.Summary.{Summary}
use Rattle.sweep.specs.declared.summaries.Count.{Count}
use Rattle.sweep.specs.declared.summaries.Count.TheVariants.{Entered, Answered, Refused, Opened}

-- each step with its line feed
unfoldable pub schedule_text : List Step → List ℕ
schedule_text steps = flat_map (λ step. step_text step ++ 10 ∷ []) steps

-- one of the counts of a run
abbrev pub count_of : Count → Summary → ℕ
count_of Entered summary = summary.entered
count_of Answered summary = summary.answered
count_of Refused summary = summary.refused
count_of Opened summary = summary.opened

abbrev pub word_of : Count → List ℕ
word_of Entered = codes "entered"
word_of Answered = codes "answered"
word_of Refused = codes "refused"
word_of Opened = codes "opened"

abbrev pub counted : Count → Summary → List ℕ
counted count summary = spaced (word_of count) ++ spaced (decimal (count_of count summary))

-- the seed of a run, and each count behind its word
unfoldable pub run_text : ℕ → Summary → List ℕ
run_text seed summary =
    codes "run" ++ spaced (decimal seed) ++ counted Entered summary ++ counted Answered summary
    ++ counted Refused summary ++ counted Opened summary

-- the text of each run with its line feed, by seeds from this one on
unfoldable pub runs_text : ℕ → List Summary → List ℕ
runs_text seed [] = []
runs_text seed (summary ∷ all) = run_text seed summary ++ 10 ∷ runs_text (seed + 1) all

-- a count of all runs together
abbrev pub total : Count → List Summary → ℕ
total count all = sum_by (count_of count) all

-- how many runs there are, and each count of all together
unfoldable pub sum_text : List Summary → List ℕ
sum_text all =
    codes "sum" ++ spaced (decimal (length all)) ++ spaced (decimal (total Entered all))
    ++ spaced (decimal (total Answered all)) ++ spaced (decimal (total Refused all))
    ++ spaced (decimal (total Opened all))

unfoldable pub summaries_text : ℕ → List Summary → List ℕ
summaries_text seed all = runs_text seed all ++ sum_text all ++ 10 ∷ []
