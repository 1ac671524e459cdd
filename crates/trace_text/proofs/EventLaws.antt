-- Steps of event lines: what is read is spelled so, and what is spelled so is read.
use Rattle.std.proofs.Common.{◌≡◌, ℕ, ◌+◌, true, inl, inr, List, [], ◌++◌, length, drop, Some, None, Ok, refl, sym, ap, subst, ◌∙◌}
use Rattle.std.specs.Prelude.{codes}
use Rattle.std.specs.Str.{bytes_eq}
use Rattle.trace_types.specs.declared.step.Step.{Step}
use Rattle.trace_types.specs.declared.step.Step.TheVariants as step
use Rattle.trace_types.specs.declared.line.Line.{Line}
use Rattle.trace_types.specs.declared.line.Line.TheVariants as lines
use Rattle.text_spelling.specs.StepFits.{StepFits}
use Rattle.schedule_text.specs.Fields.{Read, EndsWord}
use Rattle.schedule_text.proofs.Places.{Spells, chosen, read_of}
use Rattle.schedule_text.proofs.Faults.{PlacedReader}
use Rattle.schedule_text.specs.declared.form.Form.{Form as StepForm}
use Rattle.schedule_text.specs.declared.form.Form.TheVariants as stepform
use Rattle.schedule_text.specs.Reading as steps
use Rattle.schedule_text.proofs.Words.{names_form}
use Rattle.schedule_text.proofs.Words as words
use Rattle.schedule_text.proofs.FormTexts as texts
use Rattle.schedule_text.proofs.FormLaws as laws
use Rattle.schedule_text.proofs.MeaningLaws.{rest_ends}
use Rattle.trace_text.specs.Reading.{elementary_names, elementary_named, elementary_at}
use Rattle.trace_text.specs.Fits.{IsElementary}
use Rattle.trace_text.proofs.Named.{is_word, IsByName, by_takes, by_again, by_placed}

-- ---- steps

abbrev pub IsNothing : List ℕ → Type 0
IsNothing more = more ≡ []

abbrev pub StepStands : Step → Type 0
StepStands s = StepFits s × IsElementary s

no_pump : (w : List ℕ) (f : StepForm) → elementary_named w ≡ Some f → w ≡ words.form_name f
no_pump w f e =
    elim (chosen (bytes_eq w (codes "pump")) None (steps.form_named w) (Some f) e) [
      | inl pump ↦ absurd (none_is f pump.1)
      | inr other ↦ names_form w f other.1
    ]
  where
    none_is : (f : StepForm) → None ≡ Some f → ⊥
    none_is f e = cc

-- the name of a step means its form
abbrev IsNamed : Step → Type 0
IsNamed s = elementary_named (words.form_name (texts.form_of s)) ≡ Some (texts.form_of s)

named_again : (s : Step) → StepStands s → IsNamed s
named_again (step.Ask server client number cred asked) f = refl
named_again (step.Deliver packet) f = refl
named_again (step.Pump among) f = absurd f.1
named_again (step.Tick server) f = refl
named_again (step.Suspect server) f = refl
named_again (step.Apply server most) f = refl
named_again (step.Flush server) f = refl
named_again (step.List server) f = refl
named_again (step.Boot server) f = refl
named_again (step.Power server) f = refl
named_again (step.PowerCut server calls pick) f = refl
named_again (step.Crash server pick) f = refl
named_again (step.Stop server calls pick) f = refl
named_again (step.Noise server bytes) f = refl
named_again (step.Clock server reading) f = refl
named_again (step.Advance millis) f = refl
named_again (step.Delta millis) f = refl

elementary_is : (s : Step) → IsNamed s → IsElementary s
elementary_is (step.Ask server client number cred asked) e = tt
elementary_is (step.Deliver packet) e = tt
elementary_is (step.Pump among) e = absurd cc
elementary_is (step.Tick server) e = tt
elementary_is (step.Suspect server) e = tt
elementary_is (step.Apply server most) e = tt
elementary_is (step.Flush server) e = tt
elementary_is (step.List server) e = tt
elementary_is (step.Boot server) e = tt
elementary_is (step.Power server) e = tt
elementary_is (step.PowerCut server calls pick) e = tt
elementary_is (step.Crash server pick) e = tt
elementary_is (step.Stop server calls pick) e = tt
elementary_is (step.Noise server bytes) e = tt
elementary_is (step.Clock server reading) e = tt
elementary_is (step.Advance millis) e = tt
elementary_is (step.Delta millis) e = tt

step_word : (f : StepForm) → is_word (words.form_name f) ≡ true
step_word stepform.Ask = refl
step_word stepform.Deliver = refl
step_word stepform.Pump = refl
step_word stepform.Tick = refl
step_word stepform.Suspect = refl
step_word stepform.Apply = refl
step_word stepform.Flush = refl
step_word stepform.List = refl
step_word stepform.Boot = refl
step_word stepform.Power = refl
step_word stepform.Crash = refl
step_word stepform.Stop = refl
step_word stepform.Noise = refl
step_word stepform.Clock = refl
step_word stepform.Advance = refl
step_word stepform.Delta = refl

step_take : (f : StepForm) (line : List ℕ) (at : ℕ) (x : Step × ℕ)
    → elementary_named (words.form_name f) ≡ Some f → steps.form_at f line at ≡ Ok x
    → Spells line at (texts.rest_text x.0) x.1 × (StepStands x.0 × (texts.form_of x.0 ≡ f))
step_take f line at x means e =
    let t = laws.form_takes f line at x e in
    let named = subst (λ (g : StepForm). elementary_named (words.form_name g) ≡ Some g) (sym t.1.1)
    means in
    (t.0, ((t.1.0, elementary_is x.0 named), t.1.1))

steps_by_name : IsByName elementary_named steps.form_at words.form_name texts.form_of
    texts.rest_text StepStands IsNothing
steps_by_name = record {
  unique = no_pump;
  again = named_again;
  word = step_word;
  take = step_take;
  give = λ s line at more fits nothing within e. laws.form_again s line at fits.0 within
      (e ∙ ap (λ (l : List ℕ). texts.rest_text s ++ l) nothing);
  ends = λ s more nothing. subst (λ (l : List ℕ). EndsWord (texts.rest_text s ++ l)) (sym nothing)
      (rest_ends s);
  placed = laws.form_placed;
}

abbrev pub event_of : Step × ℕ → Read Line
event_of y = read_of (lines.Event y.0) y.1

pub elementary_takes : (line : List ℕ) (at : ℕ) (x : Step × ℕ) → elementary_at line at ≡ Ok x
    → Spells line at (words.form_name (texts.form_of x.0) ++ texts.rest_text x.0) x.1
    × StepStands x.0
unfolding elementary_at
elementary_takes line at x e = by_takes elementary_names steps_by_name line at x e

pub elementary_again : (line : List ℕ) (at : ℕ) (s : Step) → StepStands s
    → drop at line ≡ (words.form_name (texts.form_of s) ++ texts.rest_text s) ++ []
    → elementary_at line
    at ≡ Ok (s, at + length (words.form_name (texts.form_of s) ++ texts.rest_text s))
unfolding elementary_at
elementary_again line at s fits e = by_again elementary_names steps_by_name line at s [] fits refl e

pub elementary_placed : PlacedReader elementary_at
unfolding elementary_at
elementary_placed = by_placed elementary_names steps_by_name
