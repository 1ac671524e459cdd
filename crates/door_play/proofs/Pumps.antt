-- The steps that a step stands for, as they are still read.
use Rattle.std.proofs.Common.{append-nil, subst, ◌++◌, ◌≡◌, ℕ, zero, suc, ◌+◌, ◌-◌, ◌<◌, ◌≤◌, ◌%◌, ◌==◌, if◌then◌else◌, false, true, List, [], ◌∷◌, refl, sym, ap, ◌∙◌, Option, Some, None, arith}
use Rattle.harp_types.specs.declared.reply.Reply.{Reply}
use Rattle.harp_types.specs.declared.server.ServerId.{ServerId}
use Rattle.harp_types.specs.declared.server.ServerId.TheVariants as server
use Rattle.harp_types.specs.declared.call.Call.{Call}
use Rattle.harp_types.specs.declared.cred.Cred.{Cred}
use Rattle.trace_types.specs.declared.step.Step.{Step}
use Rattle.trace_types.specs.declared.step.Step.TheVariants as step
use Rattle.group_trace.specs.Pump.{deliveries, due, most_deliveries, spelled_out}
use Rattle.group_trace.specs.Run.{is_elementary, next, run}
use Rattle.group_trace.specs.Scene.{Measures, Scene, first_scene}
use Rattle.group_trace.specs.DiskCalls.{Spellings, measures_of}
use Rattle.group_trace.specs.DiskRun.{DiskScene, disk_run, first_disk_scene}
use Rattle.schedule_play.specs.OnTheWay.{with_pump}
use Rattle.schedule_play.specs.Reading.{Reading, with_step, with_steps}
use Rattle.schedule_play.specs.Stage.{IsReached}
use Rattle.schedule_play.proofs.Runs.{disk_scene, reached}
use Rattle.group_rules.specs.Places.{Place, Trio, Zero, One, Two, get}
use Rattle.schedule_play.specs.Stage.{AreReadings, clocks_after}
use Rattle.door_play.specs.OnTheWay.{AreReadable, HasHeard, clocks_behind, taken_then}
use Rattle.door_play.specs.Steps.{cut, opening, steps_of_call, upkeep}
use Rattle.door_play.proofs.Hears.{hears}

-- ---- one step

stands_alone : (m : Measures) (w : Scene) (s : Step) → is_elementary s ≡ true
    → spelled_out m w s ≡ s ∷ []
stands_alone m w (step.Pump among) e = absurd cc
stands_alone m w (step.Ask server client number cred call) e = refl
stands_alone m w (step.Deliver n) e = refl
stands_alone m w (step.Tick server) e = refl
stands_alone m w (step.Suspect server) e = refl
stands_alone m w (step.Apply server most) e = refl
stands_alone m w (step.Flush server) e = refl
stands_alone m w (step.List server) e = refl
stands_alone m w (step.Boot server) e = refl
stands_alone m w (step.Power server) e = refl
stands_alone m w (step.PowerCut server calls pick) e = refl
stands_alone m w (step.Crash server pick) e = refl
stands_alone m w (step.Stop server calls pick) e = refl
stands_alone m w (step.Noise server bytes) e = refl
stands_alone m w (step.Clock server reading) e = refl
stands_alone m w (step.Advance millis) e = refl
stands_alone m w (step.Delta millis) e = refl

one_step : (m : Measures) (s : Step) (rest : Scene → Reading) (w : Scene)
    → with_steps m 0 (s ∷ []) rest w ≡ with_step m 0 s rest w
unfolding with_steps
one_step m s rest w = refl

-- all that a step of one server, of the clocks or of the group's delta stands for is it
pub one-read : (f : Spellings) (all : Reading) (s : Step) (rest : Scene → Reading)
    (answers : List (ℕ × Reply)) (stands : DiskScene → Type 0) → is_elementary s ≡ true
    → HasHeard f all
    (λ w. with_steps (measures_of f) 0 (spelled_out (measures_of f) w s) rest w) answers stands
    → HasHeard f all (with_step (measures_of f) 0 s rest) answers stands
one-read f all s rest answers stands e h =
    let m = measures_of f in
    let w = run m first_scene h.done in
    hears f all _ (with_step m 0 s rest) answers stands h
    (ap (λ ss. with_steps m 0 ss rest w) (stands_alone m w s e) ∙ one_step m s rest w)

-- ---- pumps

most_is : most_deliveries ≡ 1099511627776
unfolding most_deliveries
most_is = refl

deliveries_some : (m : Measures) (most : ℕ) (among : Option (ServerId × ServerId)) (w : Scene)
    (n : ℕ) → due among w ≡ Some n
    → deliveries m (suc most) among w ≡ step.Deliver n ∷ deliveries m most among
    (next m w (step.Deliver n))
unfolding deliveries
deliveries_some m most among w n is = by (due among w) is
  where
    by : (o : Option ℕ) → o ≡ Some n
        → (elim o [
          | None ↦ []
          | Some k ↦ step.Deliver k ∷ deliveries m most among
              (next m w (step.Deliver k))
        ])
        ≡ step.Deliver n ∷ deliveries m most among (next m w (step.Deliver n))
    by None e = absurd cc
    by (Some k) e = let same : k ≡ n = cc in rw same refl

deliveries_none : (m : Measures) (most : ℕ) (among : Option (ServerId × ServerId)) (w : Scene)
    → due among w ≡ None → deliveries m most among w ≡ []
unfolding deliveries
deliveries_none m zero among w is = refl
deliveries_none m (suc most) among w is = by (due among w) is
  where
    by : (o : Option ℕ) → o ≡ None
        → ◌≡◌ {A = List Step}
        (elim o [
          | None ↦ []
          | Some k ↦ step.Deliver k ∷ deliveries m most among
              (next m w (step.Deliver k))
        ]) []
    by None e = refl
    by (Some k) e = absurd cc

pump_step : (m : Measures) (most : ℕ) (among : Option (ServerId × ServerId))
    (rest : Scene → Reading) (w : Scene) (n : ℕ) → due among w ≡ Some n
    → with_pump m 0 (suc most) among rest w ≡ with_step m 0 (step.Deliver n)
    (with_pump m 0 most among rest) w
unfolding with_steps
pump_step m most among rest w n is =
    ap (λ ss. with_steps m 0 ss rest w) (deliveries_some m most among w n is)

-- the packet that the world tells is due where the door has come to
told-due : (f : Spellings) (among : Option (ServerId × ServerId)) (told : Option ℕ)
    (stands : DiskScene → Type 0) (all : Reading) (rest : Scene → Reading)
    (answers : List (ℕ × Reply)) → (h : HasHeard f all rest answers stands)
    → ((w : DiskScene) → IsReached f w → stands w → told ≡ due among w.scene)
    → due among (run (measures_of f) first_scene h.done) ≡ told
told-due f among told stands all rest answers h tells =
    sym (ap (due among) (disk_scene f h.done))
    ∙ sym (tells (disk_run f first_disk_scene h.done) (reached f h.done h.taken) h.left)

-- the next delivery of a pump, after so many
pub pump-on : (f : Spellings) (all : Reading) (made : ℕ) (among : Option (ServerId × ServerId))
    (rest : Scene → Reading) (answers : List (ℕ × Reply)) (stands : DiskScene → Type 0)
    (told : Option ℕ) (n : ℕ)
    → HasHeard f all (with_pump (measures_of f) 0 (most_deliveries - made) among rest) answers
    stands
    → made < 1099511627776
    → ((w : DiskScene) → IsReached f w → stands w → told ≡ due among w.scene) → told ≡ Some n
    → HasHeard f all
    (with_step (measures_of f) 0 (step.Deliver n)
    (with_pump (measures_of f) 0 (most_deliveries - (made + 1)) among rest)) answers stands
pump-on f all made among rest answers stands told n h few tells is =
    let m = measures_of f in
    let w = run m first_scene h.done in
    let less = most_deliveries - (made + 1) in
    let one : most_deliveries - made ≡ suc less = omega (arith, most_is) in
    let here = told-due f among told stands all _ answers h tells ∙ is in
    hears f all _ (with_step m 0 (step.Deliver n) (with_pump m 0 less among rest)) answers stands h
    (ap (λ k. with_pump m 0 k among rest w) one ∙ pump_step m less among rest w n here)

none_left : (m : Measures) (rest : Scene → Reading) (w : Scene)
    → with_steps m 0 [] rest w ≡ rest w
unfolding with_steps
none_left m rest w = refl

-- no packet is due any more
pub pump-ends : (f : Spellings) (all : Reading) (most : ℕ) (among : Option (ServerId × ServerId))
    (rest : Scene → Reading) (answers : List (ℕ × Reply)) (stands : DiskScene → Type 0)
    (told : Option ℕ)
    → HasHeard f all (with_pump (measures_of f) 0 most among rest) answers stands
    → ((w : DiskScene) → IsReached f w → stands w → told ≡ due among w.scene) → told ≡ None
    → HasHeard f all rest answers stands
pump-ends f all most among rest answers stands told h tells is =
    let m = measures_of f in
    let w = run m first_scene h.done in
    let here = told-due f among told stands all _ answers h tells ∙ is in
    hears f all (with_pump m 0 most among rest) rest answers stands h
    (ap (λ ss. with_steps m 0 ss rest w) (deliveries_none m most among w here)
    ∙ none_left m rest w)

no_more : (m : Measures) (among : Option (ServerId × ServerId)) (w : Scene)
    → deliveries m 0 among w ≡ []
unfolding deliveries
no_more m among w = refl

pub pump-spent : (f : Spellings) (all : Reading) (made : ℕ) (among : Option (ServerId × ServerId))
    (rest : Scene → Reading) (answers : List (ℕ × Reply)) (stands : DiskScene → Type 0)
    → HasHeard f all (with_pump (measures_of f) 0 (most_deliveries - made) among rest) answers
    stands
    → 1099511627776 ≤ made
    → HasHeard f all rest answers stands
pump-spent f all made among rest answers stands h past =
    let m = measures_of f in
    let w = run m first_scene h.done in
    let none : most_deliveries - made ≡ 0 = omega (arith, most_is) in
    hears f all (with_pump m 0 (most_deliveries - made) among rest) rest answers stands h
    (ap (λ k. with_pump m 0 k among rest w) none
    ∙ ap (λ ss. with_steps m 0 ss rest w) (no_more m among w) ∙ none_left m rest w)

-- ---- more steps

-- the first of some steps is read, and then the others
pub first-read : (f : Spellings) (all : Reading) (s : Step) (ss : List Step)
    (rest : Scene → Reading) (answers : List (ℕ × Reply)) (stands : DiskScene → Type 0)
    → HasHeard f all (taken_then (measures_of f) (s ∷ ss) rest) answers stands
    → HasHeard f all
    (λ w. with_steps (measures_of f) 0 (spelled_out (measures_of f) w s)
    (taken_then (measures_of f) ss rest) w) answers stands
unfolding taken_then
first-read f all s ss rest answers stands h = hears f all _ _ answers stands h refl

-- the first of some steps, which is of one server, of the clocks or of the group's delta, is read
pub alone-read : (f : Spellings) (all : Reading) (s : Step) (ss : List Step)
    (rest : Scene → Reading) (answers : List (ℕ × Reply)) (stands : DiskScene → Type 0)
    → is_elementary s ≡ true
    → HasHeard f all (taken_then (measures_of f) (s ∷ ss) rest) answers stands
    → HasHeard f all (with_step (measures_of f) 0 s (taken_then (measures_of f) ss rest)) answers
    stands
alone-read f all s ss rest answers stands e h =
    one-read f all s (taken_then (measures_of f) ss rest) answers stands e
    (first-read f all s ss rest answers stands h)

-- no steps are left
pub all-read : (f : Spellings) (all : Reading) (rest : Scene → Reading)
    (answers : List (ℕ × Reply)) (stands : DiskScene → Type 0)
    → HasHeard f all (taken_then (measures_of f) [] rest) answers stands
    → HasHeard f all rest answers stands
unfolding taken_then
all-read f all rest answers stands h = hears f all _ rest answers stands h refl

-- what the clocks read now, where steps are to be taken
pub readable-now : (clocks : Trio ℕ) (ss : List Step) → AreReadable clocks ss → AreReadings clocks
readable-now clocks [] r = r
readable-now clocks (s ∷ ss) r = r.0

pub readable-next : (clocks : Trio ℕ) (s : Step) (ss : List Step) → AreReadable clocks (s ∷ ss)
    → AreReadings (clocks_after clocks s)
readable-next clocks s ss r = readable-now (clocks_after clocks s) ss r.1

-- the steps that were made are those that are to be taken, and nothing is heard yet
pub asks-steps : (f : Spellings) (all : Reading) (made steps : List Step) (rest : Scene → Reading)
    (before heard : List (ℕ × Reply)) (stands : DiskScene → Type 0) → made ≡ steps → heard ≡ []
    → HasHeard f all (taken_then (measures_of f) steps rest) before stands
    → HasHeard f all (taken_then (measures_of f) made rest) (before ++ heard) stands
asks-steps f all made steps rest before heard stands is none h =
    subst (λ answers. HasHeard f all (taken_then (measures_of f) made rest) answers stands)
    (sym (ap (λ xs. before ++ xs) none ∙ append-nil before))
    (subst (λ ss. HasHeard f all (taken_then (measures_of f) ss rest) before stands) (sym is) h)

-- nothing more is heard yet
pub unheard : (f : Spellings) (all : Reading) (rest : Scene → Reading)
    (before heard : List (ℕ × Reply)) (stands : DiskScene → Type 0) → heard ≡ []
    → HasHeard f all rest before stands → HasHeard f all rest (before ++ heard) stands
unheard f all rest before heard stands none h =
    subst (λ answers. HasHeard f all rest answers stands)
    (sym (ap (λ xs. before ++ xs) none ∙ append-nil before)) h

-- what stands behind a call and its deliveries
abbrev pub behind : ℕ → List Step
behind number = if number % 64 == 0 then upkeep else []

-- the call that is asked is the cut one
pub call-asked : (f : Spellings) (all : Reading) (cred : Cred) (number : ℕ)
    (call copied asked : Call) (rest : Scene → Reading) (before : List (ℕ × Reply))
    (stands : DiskScene → Type 0) → asked ≡ cut copied → copied ≡ call
    → HasHeard f all (taken_then (measures_of f) (steps_of_call cred number call) rest) before
    stands
    → HasHeard f all (taken_then (measures_of f)
    (step.Ask server.Zero 0 number cred asked ∷ step.Pump None ∷ behind number) rest) before stands
call-asked f all cred number call copied asked rest before stands is same h =
    subst (λ ss. HasHeard f all (taken_then (measures_of f) ss rest) before stands)
    (sym (ap (λ (c : Call). step.Ask server.Zero 0 number cred c ∷ step.Pump None ∷ behind number)
    (is ∙ ap cut same))) h

-- what they read behind the last step
pub readable-last : (clocks : Trio ℕ) (ss : List Step) → AreReadable clocks ss
    → AreReadings (clocks_behind clocks ss)
readable-last clocks [] r = r
readable-last clocks (s ∷ ss) r = readable-last (clocks_after clocks s) ss r.1

-- what they read while the view is opened
pub readable-first : (clocks : Trio ℕ)
    → ((q : Place) → get clocks q ≡ first_disk_scene.scene.group.clock q)
    → AreReadable clocks opening
readable-first clocks are =
    let zero_th = are Zero in
    let one_th = are One in
    let two_th = are Two in
    let now : AreReadings clocks =
    (omega (arith, zero_th), omega (arith, one_th), omega (arith, two_th)) in
    let then_ : AreReadings (clocks_after clocks (step.Advance 2050)) =
    (omega (arith, zero_th), omega (arith, one_th), omega (arith, two_th)) in
    (now, (now, (now, (then_, (then_, then_)))))

-- no upkeep stands behind most calls
pub upkeep-not : (n : ℕ) → (n % 64 == 0) ≡ false → (if n % 64 == 0 then upkeep else []) ≡ []
upkeep-not n is = rw is refl
