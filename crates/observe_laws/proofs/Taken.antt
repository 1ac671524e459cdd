-- The steps that are read of an observed schedule are elementary, and none is refused.
use Rattle.std.proofs.Common.{◌≡◌, ℕ, zero, suc, ◌+◌, true, List, [], ◌∷◌, ◌++◌, length, refl, Option, Some, None, Result, Ok, Err}
use Rattle.std.specs.Prelude.{map}
use Rattle.std.specs.List.{AllByRecursion}
use Rattle.harp_types.specs.declared.server.ServerId.{ServerId}
use Rattle.trace_types.specs.declared.step.Step.{Step}
use Rattle.trace_types.specs.declared.step.Step.TheVariants as step
use Rattle.trace_types.specs.declared.line.LineFault.{LineFault}
use Rattle.group_trace.specs.Pump.{deliveries, due, most_deliveries, spelled_out}
use Rattle.group_trace.specs.Run.{is_elementary, next}
use Rattle.group_trace.specs.Scene.{Measures, Scene}
use Rattle.observed_text.specs.declared.step.Act.{Act}
use Rattle.observed_text.specs.declared.step.Act.TheVariants as act
use Rattle.observed_text.specs.declared.step.ObservedStep.{ObservedStep}
use Rattle.observed_text.specs.declared.step.ObservedStep.TheVariants as observed
use Rattle.observe_laws.specs.Reading.{ObservedReading, observed_by, observed_from, then_observed, unless_observed_refused, with_observed, with_observed_given}
use Rattle.observe_laws.specs.Run.{AreObserved, acted, acts_out, drained, is_act_elementary, is_observed_elementary, observed_next, observed_out, observed_refusal, observed_run, shown_in}
use Rattle.observe_laws.specs.Scene.{ObservedScene, Showing}

-- one more step is taken behind others
pub observed-more : (m : Measures) (w : ObservedScene) (ss : List ObservedStep) (s : ObservedStep)
    → AreObserved m w ss → observed_refusal m (observed_run m w ss) s ≡ None
    → is_observed_elementary s ≡ true → AreObserved m w (ss ++ s ∷ [])
unfolding observed_run
observed-more m w [] s t r e = (r, e, tt)
observed-more m w (x ∷ ss) s t r e =
    (t.0, t.1, observed-more m (observed_next m w x) ss s t.2 r e)

-- ---- the steps that a step stands for

abbrev ArePlain : List Step → Type 0
ArePlain ss = AllByRecursion (λ s. is_elementary s ≡ true) ss

abbrev ArePlainActs : List Act → Type 0
ArePlainActs acts = AllByRecursion (λ a. is_act_elementary a ≡ true) acts

abbrev AreElementary : List ObservedStep → Type 0
AreElementary ss = AllByRecursion (λ s. is_observed_elementary s ≡ true) ss

played_plain : (ss : List Step) → ArePlain ss → AreElementary (map observed.Played ss)
played_plain [] e = tt
played_plain (s ∷ ss) e = (e.0, played_plain ss e.1)

acted_plain : (acts : List Act) → ArePlainActs acts → AreElementary (map observed.Acted acts)
acted_plain [] e = tt
acted_plain (a ∷ acts) e = (e.0, acted_plain acts e.1)

deliveries_plain : (m : Measures) (most : ℕ) (among : Option (ServerId × ServerId)) (w : Scene)
    → ArePlain (deliveries m most among w)
unfolding deliveries
deliveries_plain m zero among w = tt
deliveries_plain m (suc most) among w =
    by (λ n. deliveries_plain m most among (next m w (step.Deliver n))) (due among w)
  where
    by : ((n : ℕ) → ArePlain (deliveries m most among (next m w (step.Deliver n))))
        → (o : Option ℕ) → ArePlain (elim o [
          | None ↦ []
          | Some n ↦ step.Deliver n ∷ deliveries m most among (next m w (step.Deliver n))
        ])
    by later None = tt
    by later (Some n) = (refl, later n)

spelled_plain : (m : Measures) (w : Scene) (s : Step) → ArePlain (spelled_out m w s)
spelled_plain m w (step.Pump among) = deliveries_plain m most_deliveries among w
spelled_plain m w (step.Ask server client number cred call) = (refl, tt)
spelled_plain m w (step.Deliver n) = (refl, tt)
spelled_plain m w (step.Tick server) = (refl, tt)
spelled_plain m w (step.Suspect server) = (refl, tt)
spelled_plain m w (step.Apply server most) = (refl, tt)
spelled_plain m w (step.Flush server) = (refl, tt)
spelled_plain m w (step.List server) = (refl, tt)
spelled_plain m w (step.Boot server) = (refl, tt)
spelled_plain m w (step.Power server) = (refl, tt)
spelled_plain m w (step.PowerCut server calls pick) = (refl, tt)
spelled_plain m w (step.Crash server pick) = (refl, tt)
spelled_plain m w (step.Stop server calls pick) = (refl, tt)
spelled_plain m w (step.Noise server bytes) = (refl, tt)
spelled_plain m w (step.Clock server reading) = (refl, tt)
spelled_plain m w (step.Advance millis) = (refl, tt)
spelled_plain m w (step.Delta millis) = (refl, tt)

abbrev drained_next : Measures → ObservedScene → ServerId → ObservedScene
drained_next m w server = acted m (acted m w (act.Want server)) (act.Take (length w.shown))

drained_plain : (m : Measures) (most : ℕ) (server : ServerId) (w : ObservedScene)
    → ArePlainActs (drained m most server w)
unfolding drained
drained_plain m zero server w = tt
drained_plain m (suc most) server w =
    by (drained_plain m most server (drained_next m w server)) (shown_in m w server)
  where
    by : ArePlainActs (drained m most server (drained_next m w server))
        → (o : Option Showing) → ArePlainActs (elim o [
          | None ↦ act.Want server ∷ []
          | Some x ↦ act.Want server ∷ act.Take (length w.shown)
              ∷ drained m most server (drained_next m w server)
        ])
    by later None = (refl, tt)
    by later (Some x) = (refl, (refl, later))

acts_plain : (m : Measures) (w : ObservedScene) (a : Act) → ArePlainActs (acts_out m w a)
acts_plain m w act.Copy = (refl, tt)
acts_plain m w (act.Want server) = (refl, tt)
acts_plain m w (act.Take packet) = (refl, tt)
acts_plain m w (act.Drain server count) = drained_plain m count server w
acts_plain m w (act.Peek call) = (refl, tt)

out_plain : (m : Measures) (w : ObservedScene) (s : ObservedStep)
    → AreElementary (observed_out m w s)
out_plain m w (observed.Played s) =
    played_plain (spelled_out m w.scene s) (spelled_plain m w.scene s)
out_plain m w (observed.Acted a) = acted_plain (acts_out m w a) (acts_plain m w a)

-- ---- lines

-- what is read further is taken, wherever it begins
abbrev IsTakenOn : Measures → (ObservedScene → ObservedReading) → Type 0
IsTakenOn m rest = (w : ObservedScene) → AreObserved m w (rest w).steps

steps_taken : (m : Measures) (number : ℕ) (ss : List ObservedStep)
    (rest : ObservedScene → ObservedReading) (w : ObservedScene) → AreElementary ss
    → IsTakenOn m rest → AreObserved m w (with_observed m number ss rest w).steps
unfolding with_observed
steps_taken m number [] rest w e later = later w
steps_taken m number (s ∷ ss) rest w e later =
    by (steps_taken m number ss rest (observed_next m w s) e.1 later) (observed_refusal m w s) refl
  where
    more : ObservedReading
    more = with_observed m number ss rest (observed_next m w s)

    by : AreObserved m (observed_next m w s) more.steps → (o : Option LineFault)
        → observed_refusal m w s ≡ o
        → AreObserved m w (unless_observed_refused number o (then_observed (s ∷ []) more)).steps
    by t None r = (r, e.0, t)
    by t (Some fault) r = tt

given_taken : (m : Measures) (number : ℕ) (given : Result (Option ObservedStep) LineFault)
    (rest : ObservedScene → ObservedReading) → IsTakenOn m rest
    → IsTakenOn m (with_observed_given m number given rest)
given_taken m number (Ok None) rest later w = later w
given_taken m number (Ok (Some s)) rest later w =
    steps_taken m number (observed_out m w s) rest w (out_plain m w s) later
given_taken m number (Err fault) rest later w = tt

pub observed_taken : (m : Measures) (number : ℕ) (lines : List (List ℕ))
    → IsTakenOn m (observed_from m number lines)
unfolding observed_from
observed_taken m number [] w = tt
observed_taken m number (line ∷ lines) w =
    given_taken m number (observed_by number line) (observed_from m (number + 1) lines)
    (observed_taken m (number + 1) lines) w
