-- What a sweep counts of a generated schedule is what a play writes of its text.
use Rattle.std.proofs.Common.{ℕ, ◌<◌, ◌≤◌, ◌^◌, List, [], ◌∷◌, length, map, subst, sym, ap, arith}
use Rattle.std.specs.List.{AllByRecursion}
use Rattle.std.specs.Prelude.{All}
use Rattle.trace_types.specs.declared.step.Step.{Step}
use Rattle.text_spelling.specs.StepFits.{StepFits}
use Rattle.text_spelling.specs.Steps.{step_text}
use Rattle.schedule_play.specs.Trace.{trace_of_reading}
use Rattle.sweep.specs.Lines.{generated}
use Rattle.sweep_player.specs.Counts.{summary_of_trace}
use Rattle.sweep_player.specs.Reading.{summary_of_steps}
use Rattle.sweep_player.specs.SweptLaws.{GeneratedAreShort, HasLine, SweepsCountPlays}
use Rattle.sweep_player.proofs.Generated.{HasShortLine, generated_have_lines}
use Rattle.sweep_player.proofs.Readings.{schedule_lines, steps_are_read}

lined : (steps : List Step) → AllByRecursion HasShortLine steps → AllByRecursion HasLine steps
lined [] h = tt
lined (s ∷ steps) h =
    let few = h.0.1 in
    ((h.0.0, omega (arith, few)), lined steps h.1)

short : (steps : List Step) → AllByRecursion HasShortLine steps
    → AllByRecursion (λ line. length line ≤ 19998) (map step_text steps)
short [] h = tt
short (s ∷ steps) h = (h.0.1, short steps h.1)

module _ (fit : (seed lines : ℕ) → lines < 2 ^ 32 → All StepFits (generated seed lines)) where
  pub generated_short : GeneratedAreShort
  generated_short seed lines few =
      let steps = generated seed lines in
      subst (AllByRecursion (λ (line : List ℕ). length line ≤ 19998)) (sym (schedule_lines steps))
      (short steps (generated_have_lines seed lines (fit seed lines few)))

  pub sweeps_count_plays : SweepsCountPlays
  unfolding summary_of_steps
  sweeps_count_plays m seed lines few =
      let steps = generated seed lines in
      let have = generated_have_lines seed lines (fit seed lines few) in
      ap (λ r. summary_of_trace (trace_of_reading m r))
      (sym (steps_are_read m steps (lined steps have)))
