-- The text of steps is read as the steps are.
use Rattle.std.proofs.Common.{◌≡◌, ℕ, ◌+◌, true, List, [], ◌∷◌, append_assoc, length, map, refl, ap, ◌∙◌}
use Rattle.std.specs.List.{AllByRecursion}
use Rattle.std.proofs.lemmas.Bool.{le-leb, le-ltb, lt-ltb, ne_eqb}
use Rattle.line_reader.specs.Lines.{Feedless, lines_of}
use Rattle.line_reader.proofs.LineLemmas.{lines_of-ended}
use Rattle.text_spelling.specs.Lines.{IsOneLine}
use Rattle.text_writer.proofs.OneStepLine.{step_line}
use Rattle.trace_types.specs.declared.step.Step.{Step}
use Rattle.trace_types.specs.declared.step.Step.TheVariants as step
use Rattle.text_spelling.specs.StepFits.{StepFits}
use Rattle.text_spelling.specs.Steps.{step_text}
use Rattle.schedule_text.proofs.MeaningLaws.{means_step}
use Rattle.group_trace.specs.Scene.{Measures, Scene, first_scene}
use Rattle.schedule_play.specs.Reading.{given_by, reading_from, reading_of, with_given}
use Rattle.sweep.specs.Texts.{schedule_text}
use Rattle.sweep_player.specs.Reading.{given_as, moves_within, steps_read_from}
use Rattle.sweep_player.specs.SweptLaws.{HasLine, StepsAreRead}

-- ---- the lines of a text

feedless : (line : List ℕ) → IsOneLine line → Feedless line
feedless [] h = tt
feedless (b ∷ line) h = (ne_eqb b 10 h.0, feedless line h.1)

pub schedule_lines : (steps : List Step) → lines_of (schedule_text steps) ≡ map step_text steps
unfolding lines_of schedule_text
schedule_lines [] = refl
schedule_lines (s ∷ steps) =
    ap lines_of (append_assoc (step_text s) (10 ∷ []) (schedule_text steps))
    ∙ lines_of-ended (step_text s) (schedule_text steps) (feedless (step_text s) (step_line s))
    ∙ ap (λ (lines : List (List ℕ)). step_text s ∷ lines) (schedule_lines steps)

-- ---- what a line gives

near : (s : Step) → StepFits s → moves_within s ≡ true
unfolding moves_within
near (step.Ask server client number cred call) f = refl
near (step.Deliver packet) f = refl
near (step.Pump among) f = refl
near (step.Tick server) f = refl
near (step.Suspect server) f = refl
near (step.Apply server most) f = refl
near (step.Flush server) f = refl
near (step.List server) f = refl
near (step.Boot server) f = refl
near (step.Power server) f = refl
near (step.PowerCut server calls pick) f = refl
near (step.Crash server pick) f = refl
near (step.Stop server calls pick) f = refl
near (step.Noise server bytes) f = refl
near (step.Clock server reading) f = lt-ltb _ _ f
near (step.Advance millis) f = le-leb _ _ f
near (step.Delta millis) f = refl

gives_step : (number : ℕ) (s : Step) → HasLine s → given_by number (step_text s) ≡ given_as number s
unfolding given_by given_as
gives_step number s h =
    let short = le-ltb 20000 (length (step_text s)) h.1 in
    let means = means_step s (step_text s) (record { fits = h.0; spelled = refl }) in
    let within = near s h.0 in
    rw (short, means, within) refl

-- ---- what is read

steps_from : (m : Measures) (number : ℕ) (steps : List Step) (w : Scene)
    → AllByRecursion HasLine steps
    → reading_from m number (map step_text steps) w ≡ steps_read_from m number steps w
unfolding reading_from steps_read_from
steps_from m number [] w h = refl
steps_from m number (s ∷ steps) w h =
    ap (λ r. with_given m number r (reading_from m (number + 1) (map step_text steps)) w)
    (gives_step number s h.0)
    ∙ (λ i. with_given m number (given_as number s)
    (λ v. steps_from m (number + 1) steps v h.1 i) w)

pub steps_are_read : StepsAreRead
steps_are_read m steps h =
    ap (λ (lines : List (List ℕ)). reading_of m lines) (schedule_lines steps)
    ∙ steps_from m 1 steps first_scene h
