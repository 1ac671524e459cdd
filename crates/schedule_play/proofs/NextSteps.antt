-- What is still read, from lines to steps.
use Rattle.std.proofs.Common.{◌≡◌, ℕ, zero, suc, ◌+◌, ◌-◌, ◌<◌, ◌≤◌, arith, true, List, [], ◌∷◌, refl, ap, ◌∙◌, Option, Some, None, Result, Ok, Err}
use Rattle.harp_types.specs.declared.server.ServerId.{ServerId}
use Rattle.trace_types.specs.declared.line.LineFault.{LineFault}
use Rattle.trace_types.specs.declared.step.Step.{Step}
use Rattle.trace_types.specs.declared.step.Step.TheVariants as step
use Rattle.group_trace.specs.Pump.{deliveries, due, most_deliveries, spelled_out}
use Rattle.group_trace.specs.Run.{is_elementary, next, run}
use Rattle.group_trace.specs.Scene.{Measures, Scene, first_scene}
use Rattle.group_trace.specs.DiskCalls.{Spellings, measures_of}
use Rattle.group_trace.specs.DiskRun.{DiskScene}
use Rattle.schedule_play.specs.OnTheWay.{HasCome, with_pump}
use Rattle.schedule_play.specs.Reading.{Reading, all_read, given_by, reading_from, refused_at, with_given, with_step, with_steps}
use Rattle.schedule_play.proofs.Parts.{comes}

-- ---- lines

pub next-line : (f : Spellings) (all : Reading) (number : ℕ) (line : List ℕ)
    (lines : List (List ℕ)) (before mid : Option (List ℕ)) (stands : DiskScene → Type 0)
    → HasCome f all (reading_from (measures_of f) number (line ∷ lines)) before mid stands
    → HasCome f all (with_given (measures_of f) number (given_by number line)
    (reading_from (measures_of f) (number + 1) lines)) before mid stands
unfolding reading_from
next-line f all number line lines before mid stands h =
    comes f all _ _ before mid stands h refl

pub no-line : (f : Spellings) (all : Reading) (number : ℕ) (before mid : Option (List ℕ))
    (stands : DiskScene → Type 0)
    → HasCome f all (reading_from (measures_of f) number []) before mid stands
    → HasCome f all (λ w. all_read) before mid stands
unfolding reading_from
no-line f all number before mid stands h = comes f all _ _ before mid stands h refl

-- ---- what a line gave

pub gave-nothing : (f : Spellings) (all : Reading) (number : ℕ)
    (given : Result (Option Step) LineFault) (rest : Scene → Reading)
    (before mid : Option (List ℕ)) (stands : DiskScene → Type 0)
    → HasCome f all (with_given (measures_of f) number given rest) before mid stands
    → given ≡ Ok None → HasCome f all rest before mid stands
gave-nothing f all number given rest before mid stands h is =
    let m = measures_of f in
    comes f all (with_given m number given rest) rest before mid stands h
    (ap (λ g. with_given m number g rest (run m first_scene h.done)) is)

pub gave-fault : (f : Spellings) (all : Reading) (number : ℕ)
    (given : Result (Option Step) LineFault) (fault : LineFault) (rest : Scene → Reading)
    (before mid : Option (List ℕ)) (stands : DiskScene → Type 0)
    → HasCome f all (with_given (measures_of f) number given rest) before mid stands
    → given ≡ Err fault → HasCome f all (λ w. refused_at number fault) before mid stands
gave-fault f all number given fault rest before mid stands h is =
    let m = measures_of f in
    comes f all (with_given m number given rest) (λ w. refused_at number fault) before mid stands h
    (ap (λ g. with_given m number g rest (run m first_scene h.done)) is)

pub is-alone : (s : Step) → ((among : Option (ServerId × ServerId)) → s ≡ step.Pump among → ⊥)
    → is_elementary s ≡ true
is-alone (step.Pump among) not = absurd (not among refl)
is-alone (step.Ask server client number cred call) not = refl
is-alone (step.Deliver n) not = refl
is-alone (step.Tick server) not = refl
is-alone (step.Suspect server) not = refl
is-alone (step.Apply server most) not = refl
is-alone (step.Flush server) not = refl
is-alone (step.List server) not = refl
is-alone (step.Boot server) not = refl
is-alone (step.Power server) not = refl
is-alone (step.PowerCut server calls pick) not = refl
is-alone (step.Crash server pick) not = refl
is-alone (step.Stop server calls pick) not = refl
is-alone (step.Noise server bytes) not = refl
is-alone (step.Clock server reading) not = refl
is-alone (step.Advance millis) not = refl
is-alone (step.Delta millis) not = refl

stands_alone : (m : Measures) (w : Scene) (s : Step) → is_elementary s ≡ true
    → spelled_out m w s ≡ s ∷ []
stands_alone m w (step.Pump among) e = absurd cc
stands_alone m w (step.Ask server client number cred call) e = refl
stands_alone m w (step.Deliver n) e = refl
stands_alone m w (step.Tick server) e = refl
stands_alone m w (step.Suspect server) e = refl
stands_alone m w (step.Apply server most) e = refl
stands_alone m w (step.Flush server) e = refl
stands_alone m w (step.List server) e = refl
stands_alone m w (step.Boot server) e = refl
stands_alone m w (step.Power server) e = refl
stands_alone m w (step.PowerCut server calls pick) e = refl
stands_alone m w (step.Crash server pick) e = refl
stands_alone m w (step.Stop server calls pick) e = refl
stands_alone m w (step.Noise server bytes) e = refl
stands_alone m w (step.Clock server reading) e = refl
stands_alone m w (step.Advance millis) e = refl
stands_alone m w (step.Delta millis) e = refl

one_step : (m : Measures) (number : ℕ) (s : Step) (rest : Scene → Reading) (w : Scene)
    → with_steps m number (s ∷ []) rest w ≡ with_step m number s rest w
unfolding with_steps
one_step m number s rest w = refl

pub gave-step : (f : Spellings) (all : Reading) (number : ℕ) (s : Step) (rest : Scene → Reading)
    (before mid : Option (List ℕ)) (stands : DiskScene → Type 0) → is_elementary s ≡ true
    → HasCome f all (with_given (measures_of f) number (Ok (Some s)) rest) before mid stands
    → HasCome f all (with_step (measures_of f) number s rest) before mid stands
gave-step f all number s rest before mid stands e h =
    let m = measures_of f in
    let w = run m first_scene h.done in
    comes f all (with_given m number (Ok (Some s)) rest) (with_step m number s rest) before mid
    stands h
    (ap (λ ss. with_steps m number ss rest w) (stands_alone m w s e)
    ∙ one_step m number s rest w)

pub gave-pump : (f : Spellings) (all : Reading) (number : ℕ)
    (among : Option (ServerId × ServerId)) (rest : Scene → Reading)
    (before mid : Option (List ℕ)) (stands : DiskScene → Type 0)
    → HasCome f all (with_given (measures_of f) number (Ok (Some (step.Pump among))) rest) before
    mid stands
    → HasCome f all (with_pump (measures_of f) number most_deliveries among rest) before mid stands
gave-pump f all number among rest before mid stands h =
    comes f all _ (with_pump (measures_of f) number most_deliveries among rest) before mid stands h
    refl

-- ---- pumps

most_is : most_deliveries ≡ 1099511627776
unfolding most_deliveries
most_is = refl

deliveries_some : (m : Measures) (most : ℕ) (among : Option (ServerId × ServerId)) (w : Scene)
    (n : ℕ) → due among w ≡ Some n
    → deliveries m (suc most) among w ≡ step.Deliver n ∷ deliveries m most among
    (next m w (step.Deliver n))
unfolding deliveries
deliveries_some m most among w n is = by (due among w) is
  where
    by : (o : Option ℕ) → o ≡ Some n
        → (elim o [
          | None ↦ []
          | Some k ↦ step.Deliver k ∷ deliveries m most among
              (next m w (step.Deliver k))
        ])
        ≡ step.Deliver n ∷ deliveries m most among (next m w (step.Deliver n))
    by None e = absurd cc
    by (Some k) e = let same : k ≡ n = cc in rw same refl

deliveries_none : (m : Measures) (most : ℕ) (among : Option (ServerId × ServerId)) (w : Scene)
    → due among w ≡ None → deliveries m most among w ≡ []
unfolding deliveries
deliveries_none m zero among w is = refl
deliveries_none m (suc most) among w is = by (due among w) is
  where
    by : (o : Option ℕ) → o ≡ None
        → ◌≡◌ {A = List Step}
        (elim o [
          | None ↦ []
          | Some k ↦ step.Deliver k ∷ deliveries m most among
              (next m w (step.Deliver k))
        ]) []
    by None e = refl
    by (Some k) e = absurd cc

pump_step : (m : Measures) (number most : ℕ) (among : Option (ServerId × ServerId))
    (rest : Scene → Reading) (w : Scene) (n : ℕ) → due among w ≡ Some n
    → with_pump m number (suc most) among rest w ≡ with_step m number (step.Deliver n)
    (with_pump m number most among rest) w
unfolding with_steps
pump_step m number most among rest w n is =
    ap (λ ss. with_steps m number ss rest w) (deliveries_some m most among w n is)

-- the next delivery of a pump, after so many
pub pump-on : (f : Spellings) (all : Reading) (number made : ℕ)
    (among : Option (ServerId × ServerId)) (rest : Scene → Reading)
    (before mid : Option (List ℕ)) (stands : DiskScene → Type 0) (n : ℕ)
    → (h : HasCome f all (with_pump (measures_of f) number (most_deliveries - made) among rest)
    before mid stands)
    → made < 1099511627776
    → due among (run (measures_of f) first_scene h.done) ≡ Some n
    → HasCome f all
    (with_step (measures_of f) number (step.Deliver n)
    (with_pump (measures_of f) number (most_deliveries - (made + 1)) among rest)) before mid stands
pump-on f all number made among rest before mid stands n h few is =
    let m = measures_of f in
    let w = run m first_scene h.done in
    let less = most_deliveries - (made + 1) in
    let one : most_deliveries - made ≡ suc less = omega (arith, most_is) in
    comes f all _ (with_step m number (step.Deliver n) (with_pump m number less among rest)) before
    mid stands h
    (ap (λ k. with_pump m number k among rest w) one
    ∙ pump_step m number less among rest w n is)

none_left : (m : Measures) (number : ℕ) (rest : Scene → Reading) (w : Scene)
    → with_steps m number [] rest w ≡ rest w
unfolding with_steps
none_left m number rest w = refl

pub pump-ends : (f : Spellings) (all : Reading) (number most : ℕ)
    (among : Option (ServerId × ServerId)) (rest : Scene → Reading)
    (before mid : Option (List ℕ)) (stands : DiskScene → Type 0)
    → (h : HasCome f all (with_pump (measures_of f) number most among rest) before mid stands)
    → due among (run (measures_of f) first_scene h.done) ≡ None
    → HasCome f all rest before mid stands
pump-ends f all number most among rest before mid stands h is =
    let m = measures_of f in
    let w = run m first_scene h.done in
    comes f all (with_pump m number most among rest) rest before mid stands h
    (ap (λ ss. with_steps m number ss rest w) (deliveries_none m most among w is)
    ∙ none_left m number rest w)

no_more : (m : Measures) (among : Option (ServerId × ServerId)) (w : Scene)
    → deliveries m 0 among w ≡ []
unfolding deliveries
no_more m among w = refl

pub pump-spent : (f : Spellings) (all : Reading) (number made : ℕ)
    (among : Option (ServerId × ServerId)) (rest : Scene → Reading)
    (before mid : Option (List ℕ)) (stands : DiskScene → Type 0)
    → HasCome f all (with_pump (measures_of f) number (most_deliveries - made) among rest) before
    mid stands
    → 1099511627776 ≤ made
    → HasCome f all rest before mid stands
pump-spent f all number made among rest before mid stands h past =
    let m = measures_of f in
    let w = run m first_scene h.done in
    let none : most_deliveries - made ≡ 0 = omega (arith, most_is) in
    comes f all (with_pump m number (most_deliveries - made) among rest) rest before mid stands h
    (ap (λ k. with_pump m number k among rest w) none
    ∙ ap (λ ss. with_steps m number ss rest w) (no_more m among w)
    ∙ none_left m number rest w)
