-- What is still read of a line's step: the step alone, or the deliveries of a pump.
use Rattle.std.proofs.Common.{◌≡◌, ℕ, zero, suc, ◌+◌, ◌-◌, ◌<◌, ◌≤◌, arith, true, List, [], ◌∷◌}
use Rattle.std.proofs.Common.{refl, sym, ap, ◌∙◌, Option, Some, None, Ok}
use Rattle.std.specs.Prelude.{map}
use Rattle.harp_types.specs.declared.server.ServerId.{ServerId}
use Rattle.trace_types.specs.declared.step.Step.{Step}
use Rattle.trace_types.specs.declared.step.Step.TheVariants as step
use Rattle.group_trace.specs.Pump.{deliveries, due, most_deliveries, spelled_out}
use Rattle.group_trace.specs.Run.{is_elementary, next}
use Rattle.group_trace.specs.Scene.{Measures, Scene}
use Rattle.group_trace.specs.DiskCalls.{Spellings, measures_of}
use Rattle.group_trace.specs.DiskRun.{DiskScene}
use Rattle.schedule_play.specs.Stage.{IsReached}
use Rattle.observed_text.specs.declared.step.ObservedStep.TheVariants as observed
use Rattle.observe_laws.specs.Reading.{ObservedReading, with_observed, with_observed_given}
use Rattle.observe_laws.specs.Scene.{ObservedScene}
use Rattle.observe_play.specs.OnTheWay.{HasObserved, with_deliveries, with_played}
use Rattle.observe_play.specs.Watch.{WatchValue}
use Rattle.observe_play.proofs.Parts.{comes}
use Rattle.observe_play.proofs.Runs.{disks_after, reached_there, scene_after, scene_there}

-- ---- a step that stands for itself

stands_alone : (m : Measures) (w : Scene) (s : Step) → is_elementary s ≡ true
    → spelled_out m w s ≡ s ∷ []
stands_alone m w (step.Pump among) e = absurd cc
stands_alone m w (step.Ask server client number cred call) e = refl
stands_alone m w (step.Deliver n) e = refl
stands_alone m w (step.Tick server) e = refl
stands_alone m w (step.Suspect server) e = refl
stands_alone m w (step.Apply server most) e = refl
stands_alone m w (step.Flush server) e = refl
stands_alone m w (step.List server) e = refl
stands_alone m w (step.Boot server) e = refl
stands_alone m w (step.Power server) e = refl
stands_alone m w (step.PowerCut server calls pick) e = refl
stands_alone m w (step.Crash server pick) e = refl
stands_alone m w (step.Stop server calls pick) e = refl
stands_alone m w (step.Noise server bytes) e = refl
stands_alone m w (step.Clock server reading) e = refl
stands_alone m w (step.Advance millis) e = refl
stands_alone m w (step.Delta millis) e = refl

pub gave-step : (f : Spellings) (all : ObservedReading) (number : ℕ) (s : Step)
    (rest : ObservedScene → ObservedReading) (before mid : Option (List ℕ))
    (stands : DiskScene → Type 0) (x : WatchValue) → is_elementary s ≡ true
    → HasObserved f all
    (with_observed_given (measures_of f) number (Ok (Some (observed.Played s))) rest) before mid
    stands x
    → HasObserved f all (with_played (measures_of f) number s rest) before mid stands x
gave-step f all number s rest before mid stands x e h =
    let m = measures_of f in
    let w = scene_after f h.done in
    comes f all _ (with_played m number s rest) before mid stands x h
    (ap (λ (ss : List Step). with_observed m number (map observed.Played ss) rest w)
    (stands_alone m w.scene s e))

-- ---- pumps

most_is : most_deliveries ≡ 1099511627776
unfolding most_deliveries
most_is = refl

deliveries_some : (m : Measures) (most : ℕ) (among : Option (ServerId × ServerId)) (w : Scene)
    (n : ℕ) → due among w ≡ Some n
    → deliveries m (suc most) among w
    ≡ step.Deliver n ∷ deliveries m most among (next m w (step.Deliver n))
unfolding deliveries
deliveries_some m most among w n is = by (due among w) is
  where
    by : (o : Option ℕ) → o ≡ Some n
        → (elim o [
          | None ↦ []
          | Some k ↦ step.Deliver k ∷ deliveries m most among (next m w (step.Deliver k))
        ])
        ≡ step.Deliver n ∷ deliveries m most among (next m w (step.Deliver n))
    by None e = absurd cc
    by (Some k) e = let same : k ≡ n = cc in rw same refl

deliveries_none : (m : Measures) (most : ℕ) (among : Option (ServerId × ServerId)) (w : Scene)
    → due among w ≡ None → deliveries m most among w ≡ []
unfolding deliveries
deliveries_none m zero among w is = refl
deliveries_none m (suc most) among w is = by (due among w) is
  where
    by : (o : Option ℕ) → o ≡ None
        → ◌≡◌ {A = List Step}
        (elim o [
          | None ↦ []
          | Some k ↦ step.Deliver k ∷ deliveries m most among (next m w (step.Deliver k))
        ]) []
    by None e = refl
    by (Some k) e = absurd cc

no_more : (m : Measures) (among : Option (ServerId × ServerId)) (w : Scene)
    → deliveries m 0 among w ≡ []
unfolding deliveries
no_more m among w = refl

-- a delivery is read first, and then those where it leads
pump_step : (m : Measures) (number most : ℕ) (among : Option (ServerId × ServerId))
    (rest : ObservedScene → ObservedReading) (w : ObservedScene) (n : ℕ)
    → due among w.scene ≡ Some n
    → with_deliveries m number (suc most) among rest w
    ≡ with_played m number (step.Deliver n) (with_deliveries m number most among rest) w
unfolding with_observed
pump_step m number most among rest w n is =
    ap (λ (ss : List Step). with_observed m number (map observed.Played ss) rest w)
    (deliveries_some m most among w.scene n is)

none_left : (m : Measures) (number : ℕ) (ss : List Step) (rest : ObservedScene → ObservedReading)
    (w : ObservedScene) → ss ≡ []
    → with_observed m number (map observed.Played ss) rest w ≡ rest w
unfolding with_observed
none_left m number ss rest w none =
    ap (λ (s : List Step). with_observed m number (map observed.Played s) rest w) none

-- the packet that the world tells is due where the play has come to
told-due : (f : Spellings) (among : Option (ServerId × ServerId)) (told : Option ℕ)
    (all : ObservedReading) (rest : ObservedScene → ObservedReading)
    (before mid : Option (List ℕ)) (stands : DiskScene → Type 0) (x : WatchValue)
    → (h : HasObserved f all rest before mid stands x)
    → ((w : DiskScene) → IsReached f w → stands w → told ≡ due among w.scene)
    → due among (scene_after f h.done).scene ≡ told
told-due f among told all rest before mid stands x h tells =
    sym (ap (due among) (scene_there f h.done))
    ∙ sym (tells (disks_after f h.done) (reached_there f h.done h.taken) h.left)

-- one delivery is still to be made, after so many, and then those of a shorter pump
pub pump-on : (f : Spellings) (all : ObservedReading) (number made : ℕ)
    (among : Option (ServerId × ServerId)) (rest : ObservedScene → ObservedReading)
    (before mid : Option (List ℕ)) (stands : DiskScene → Type 0) (x : WatchValue)
    (told : Option ℕ) (n : ℕ)
    → HasObserved f all
    (with_deliveries (measures_of f) number (most_deliveries - made) among rest) before mid
    stands x
    → made < 1099511627776
    → ((w : DiskScene) → IsReached f w → stands w → told ≡ due among w.scene) → told ≡ Some n
    → HasObserved f all
    (with_played (measures_of f) number (step.Deliver n)
    (with_deliveries (measures_of f) number (most_deliveries - (made + 1)) among rest)) before mid
    stands x
pump-on f all number made among rest before mid stands x told n h few tells is =
    let m = measures_of f in
    let w = scene_after f h.done in
    let less = most_deliveries - (made + 1) in
    let one : most_deliveries - made ≡ suc less = omega (arith, most_is) in
    comes f all _
    (with_played m number (step.Deliver n) (with_deliveries m number less among rest)) before mid
    stands x h
    (ap (λ (k : ℕ). with_deliveries m number k among rest w) one
    ∙ pump_step m number less among rest w n
    (told-due f among told all _ before mid stands x h tells ∙ is))

-- no packet is due
pub pump-ends : (f : Spellings) (all : ObservedReading) (number most : ℕ)
    (among : Option (ServerId × ServerId)) (rest : ObservedScene → ObservedReading)
    (before mid : Option (List ℕ)) (stands : DiskScene → Type 0) (x : WatchValue)
    (told : Option ℕ)
    → HasObserved f all (with_deliveries (measures_of f) number most among rest) before mid
    stands x
    → ((w : DiskScene) → IsReached f w → stands w → told ≡ due among w.scene) → told ≡ None
    → HasObserved f all rest before mid stands x
pump-ends f all number most among rest before mid stands x told h tells is =
    let m = measures_of f in
    let w = scene_after f h.done in
    comes f all (with_deliveries m number most among rest) rest before mid stands x h
    (none_left m number (deliveries m most among w.scene) rest w
    (deliveries_none m most among w.scene
    (told-due f among told all _ before mid stands x h tells ∙ is)))

-- no delivery is left
pub pump-spent : (f : Spellings) (all : ObservedReading) (number made : ℕ)
    (among : Option (ServerId × ServerId)) (rest : ObservedScene → ObservedReading)
    (before mid : Option (List ℕ)) (stands : DiskScene → Type 0) (x : WatchValue)
    → HasObserved f all
    (with_deliveries (measures_of f) number (most_deliveries - made) among rest) before mid
    stands x
    → 1099511627776 ≤ made
    → HasObserved f all rest before mid stands x
pump-spent f all number made among rest before mid stands x h past =
    let m = measures_of f in
    let w = scene_after f h.done in
    let none : most_deliveries - made ≡ 0 = omega (arith, most_is) in
    comes f all (with_deliveries m number (most_deliveries - made) among rest) rest before mid
    stands x h
    (ap (λ (k : ℕ). with_deliveries m number k among rest w) none
    ∙ none_left m number (deliveries m 0 among w.scene) rest w (no_more m among w.scene))
