-- The steps that are read of a text are elementary, and none is refused.
use Rattle.std.proofs.Common.{◌≡◌, ℕ, zero, suc, ◌+◌, true, List, [], ◌∷◌, ◌++◌, refl, Option, Some, None, Result, Ok, Err}
use Rattle.std.specs.List.{AllByRecursion}
use Rattle.harp_types.specs.declared.server.ServerId.{ServerId}
use Rattle.trace_types.specs.declared.step.Step.{Step}
use Rattle.trace_types.specs.declared.step.Step.TheVariants as step
use Rattle.trace_types.specs.declared.line.LineFault.{LineFault}
use Rattle.group_trace.specs.Pump.{deliveries, due, most_deliveries, spelled_out}
use Rattle.group_trace.specs.Refusals.{refusal}
use Rattle.group_trace.specs.Run.{AreTaken, is_elementary, next, run}
use Rattle.group_trace.specs.Scene.{Measures, Scene}
use Rattle.schedule_play.specs.Reading.{Reading, given_by, reading_from, then_read, unless_refused, with_given, with_steps}

-- one more step is taken behind others
pub taken-more : (m : Measures) (w : Scene) (ss : List Step) (s : Step) → AreTaken m w ss
    → refusal m (run m w ss) s ≡ None → is_elementary s ≡ true → AreTaken m w (ss ++ s ∷ [])
unfolding run
taken-more m w [] s t r e = (r, e, tt)
taken-more m w (x ∷ ss) s t r e = (t.0, t.1, taken-more m (next m w x) ss s t.2 r e)

-- ---- the steps that a step stands for

abbrev pub AreElementary : List Step → Type 0
AreElementary ss = AllByRecursion (λ s. is_elementary s ≡ true) ss

deliveries_elementary : (m : Measures) (most : ℕ) (among : Option (ServerId × ServerId)) (w : Scene)
    → AreElementary (deliveries m most among w)
unfolding deliveries
deliveries_elementary m zero among w = tt
deliveries_elementary m (suc most) among w =
    by (λ n. deliveries_elementary m most among (next m w (step.Deliver n))) (due among w)
  where
    by : ((n : ℕ) → AreElementary (deliveries m most among (next m w (step.Deliver n))))
        → (o : Option ℕ) → AreElementary (elim o [
          | None ↦ []
          | Some n ↦ step.Deliver n ∷ deliveries m most among (next m w (step.Deliver n))
        ])
    by later None = tt
    by later (Some n) = (refl, later n)

spelled_elementary : (m : Measures) (w : Scene) (s : Step) → AreElementary (spelled_out m w s)
spelled_elementary m w (step.Pump among) = deliveries_elementary m most_deliveries among w
spelled_elementary m w (step.Ask server client number cred call) = (refl, tt)
spelled_elementary m w (step.Deliver n) = (refl, tt)
spelled_elementary m w (step.Tick server) = (refl, tt)
spelled_elementary m w (step.Suspect server) = (refl, tt)
spelled_elementary m w (step.Apply server most) = (refl, tt)
spelled_elementary m w (step.Flush server) = (refl, tt)
spelled_elementary m w (step.List server) = (refl, tt)
spelled_elementary m w (step.Boot server) = (refl, tt)
spelled_elementary m w (step.Power server) = (refl, tt)
spelled_elementary m w (step.PowerCut server calls pick) = (refl, tt)
spelled_elementary m w (step.Crash server pick) = (refl, tt)
spelled_elementary m w (step.Stop server calls pick) = (refl, tt)
spelled_elementary m w (step.Noise server bytes) = (refl, tt)
spelled_elementary m w (step.Clock server reading) = (refl, tt)
spelled_elementary m w (step.Advance millis) = (refl, tt)
spelled_elementary m w (step.Delta millis) = (refl, tt)

-- ---- lines

-- what is read further is taken, wherever it begins
abbrev pub IsTakenOn : Measures → (Scene → Reading) → Type 0
IsTakenOn m rest = (w : Scene) → AreTaken m w (rest w).steps

steps_taken : (m : Measures) (number : ℕ) (ss : List Step) (rest : Scene → Reading) (w : Scene)
    → AreElementary ss → IsTakenOn m rest → AreTaken m w (with_steps m number ss rest w).steps
unfolding with_steps
steps_taken m number [] rest w e later = later w
steps_taken m number (s ∷ ss) rest w e later =
    by (steps_taken m number ss rest (next m w s) e.1 later) (refusal m w s) refl
  where
    more : Reading
    more = with_steps m number ss rest (next m w s)

    by : AreTaken m (next m w s) more.steps → (o : Option LineFault) → refusal m w s ≡ o
        → AreTaken m w (unless_refused number o (then_read (s ∷ []) more)).steps
    by t None r = (r, e.0, t)
    by t (Some fault) r = tt

given_taken : (m : Measures) (number : ℕ) (given : Result (Option Step) LineFault)
    (rest : Scene → Reading) → IsTakenOn m rest → IsTakenOn m (with_given m number given rest)
given_taken m number (Ok None) rest later w = later w
given_taken m number (Ok (Some s)) rest later w =
    steps_taken m number (spelled_out m w s) rest w (spelled_elementary m w s) later
given_taken m number (Err fault) rest later w = tt

pub reading_taken : (m : Measures) (number : ℕ) (lines : List (List ℕ))
    → IsTakenOn m (reading_from m number lines)
unfolding reading_from
reading_taken m number [] w = tt
reading_taken m number (line ∷ lines) w =
    given_taken m number (given_by number line) (reading_from m (number + 1) lines)
    (reading_taken m (number + 1) lines) w
