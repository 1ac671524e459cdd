-- The deliveries of a pump, one after the other.
use Rattle.std.proofs.Common.{◌≡◌, ℕ, zero, suc, ◌-◌, ◌+◌, ◌<◌, ◌≤◌, arith, List, [], ◌∷◌, refl, ap, ◌∙◌, Option, Some, None}
use Rattle.harp_types.specs.declared.server.ServerId.{ServerId}
use Rattle.trace_types.specs.declared.step.Step.{Step}
use Rattle.trace_types.specs.declared.step.Step.TheVariants as step
use Rattle.group_trace.specs.Pump.{deliveries, due, most_deliveries}
use Rattle.group_trace.specs.Run.{next}
use Rattle.group_trace.specs.Scene.{Measures, Scene}
use Rattle.schedule_play.specs.OnTheWay.{with_pump}
use Rattle.schedule_play.specs.Reading.{Reading, with_step, with_steps}

deliveries_some : (m : Measures) (most : ℕ) (among : Option (ServerId × ServerId)) (w : Scene)
    (n : ℕ) → due among w ≡ Some n
    → deliveries m (suc most) among w ≡ step.Deliver n ∷ deliveries m most among
    (next m w (step.Deliver n))
unfolding deliveries
deliveries_some m most among w n is = by (due among w) is
  where
    by : (o : Option ℕ) → o ≡ Some n
        → (elim o [
          | None ↦ []
          | Some k ↦ step.Deliver k ∷ deliveries m most among
              (next m w (step.Deliver k))
        ])
        ≡ step.Deliver n ∷ deliveries m most among (next m w (step.Deliver n))
    by None e = absurd cc
    by (Some k) e = let same : k ≡ n = cc in rw same refl

deliveries_none : (m : Measures) (most : ℕ) (among : Option (ServerId × ServerId)) (w : Scene)
    → due among w ≡ None → deliveries m most among w ≡ []
unfolding deliveries
deliveries_none m zero among w is = refl
deliveries_none m (suc most) among w is = by (due among w) is
  where
    by : (o : Option ℕ) → o ≡ None
        → ◌≡◌ {A = List Step}
        (elim o [
          | None ↦ []
          | Some k ↦ step.Deliver k ∷ deliveries m most among
              (next m w (step.Deliver k))
        ]) []
    by None e = refl
    by (Some k) e = absurd cc

most_is : most_deliveries ≡ 1099511627776
unfolding most_deliveries
most_is = refl

step_first : (m : Measures) (number most : ℕ) (among : Option (ServerId × ServerId))
    (rest : Scene → Reading) (w : Scene) (n : ℕ) → due among w ≡ Some n
    → with_pump m number (suc most) among rest w ≡ with_step m number (step.Deliver n)
    (with_pump m number most among rest) w
unfolding with_steps
step_first m number most among rest w n is =
    ap (λ ss. with_steps m number ss rest w) (deliveries_some m most among w n is)

none_left : (m : Measures) (number : ℕ) (rest : Scene → Reading) (w : Scene)
    → with_steps m number [] rest w ≡ rest w
unfolding with_steps
none_left m number rest w = refl

no_more : (m : Measures) (among : Option (ServerId × ServerId)) (w : Scene)
    → deliveries m 0 among w ≡ []
unfolding deliveries
no_more m among w = refl

-- the next delivery, after so many
pub pump-on : (m : Measures) (number made : ℕ) (among : Option (ServerId × ServerId))
    (rest : Scene → Reading) (w : Scene) (n : ℕ) → made < 1099511627776 → due among w ≡ Some n
    → with_pump m number (most_deliveries - made) among rest w
    ≡ with_step m number (step.Deliver n)
    (with_pump m number (most_deliveries - (made + 1)) among rest) w
pump-on m number made among rest w n few is =
    let less = most_deliveries - (made + 1) in
    let one : most_deliveries - made ≡ suc less = omega (arith, most_is) in
    ap (λ k. with_pump m number k among rest w) one
    ∙ step_first m number less among rest w n is

-- no packet is due
pub pump-ends : (m : Measures) (number most : ℕ) (among : Option (ServerId × ServerId))
    (rest : Scene → Reading) (w : Scene) → due among w ≡ None
    → with_pump m number most among rest w ≡ rest w
pump-ends m number most among rest w is =
    ap (λ ss. with_steps m number ss rest w) (deliveries_none m most among w is)
    ∙ none_left m number rest w

-- so many were made that none is left
pub pump-spent : (m : Measures) (number made : ℕ) (among : Option (ServerId × ServerId))
    (rest : Scene → Reading) (w : Scene) → 1099511627776 ≤ made
    → with_pump m number (most_deliveries - made) among rest w ≡ rest w
pump-spent m number made among rest w past =
    let none : most_deliveries - made ≡ 0 = omega (arith, most_is) in
    ap (λ k. with_pump m number k among rest w) none
    ∙ ap (λ ss. with_steps m number ss rest w) (no_more m among w)
    ∙ none_left m number rest w
