-- What is still read, from steps of a list to elementary ones.
use Rattle.std.proofs.Common.{◌≡◌, ℕ, ◌+◌, ◌-◌, ◌<◌, ◌≤◌, arith, true, false, List, [], ◌∷◌, refl, sym, ap, ◌∙◌, Option, Some, None, Ok, Err}
use Rattle.std.specs.Prelude.{nat_lt}
use Rattle.std.proofs.lemmas.Bool.{ltb-true, false_from_ne_true, lt-ltb}
use Rattle.harp_types.specs.declared.server.ServerId.{ServerId}
use Rattle.trace_types.specs.declared.line.LineFault.{LineFault}
use Rattle.trace_types.specs.declared.line.LineFault.TheVariants as fault
use Rattle.trace_types.specs.declared.step.Step.{Step}
use Rattle.trace_types.specs.declared.step.Step.TheVariants as step
use Rattle.group_trace.specs.Pump.{due, most_deliveries, spelled_out}
use Rattle.group_trace.specs.Run.{is_elementary, run, run_lines}
use Rattle.group_trace.specs.Scene.{Measures, Scene, first_scene}
use Rattle.group_trace.specs.DiskCalls.{Spellings, measures_of}
use Rattle.group_trace.specs.DiskRun.{DiskScene, disk_run, first_disk_scene}
use Rattle.schedule_play.specs.OnTheWay.{with_pump}
use Rattle.schedule_play.specs.Reading.{Reading, all_read, refused_at, with_given, with_step, with_steps}
use Rattle.schedule_play.specs.Stage.{IsReached}
use Rattle.schedule_play.proofs.Runs.{disk_scene, reached}
use Rattle.sweep_player.specs.declared.tally.Tally.{Tally}
use Rattle.sweep_player.specs.OnTheWay.{HasAll, HasCounted}
use Rattle.sweep_player.specs.Reading.{given_as, moves_within, steps_read, steps_read_from}
use Rattle.sweep_player.specs.Tally.{IsTallyOf}
use Rattle.sweep_player.proofs.Counting.{counted-as, has-all}
use Rattle.sweep_player.proofs.Deliveries.{pump-ends, pump-on, pump-spent}

-- ---- pumps

-- the packet that the world tells is due where the play has come to
told_due : (f : Spellings) (among : Option (ServerId × ServerId)) (told : Option ℕ) (all : Reading)
    (rest : Scene → Reading) (t : Tally) (stands : DiskScene → Type 0)
    → (h : HasCounted f all rest t stands)
    → ((w : DiskScene) → IsReached f w → stands w → told ≡ due among w.scene)
    → due among (run (measures_of f) first_scene h.done) ≡ told
told_due f among told all rest t stands h tells =
    sym (ap (due among) (disk_scene f h.done))
    ∙ sym (tells (disk_run f first_disk_scene h.done) (reached f h.done h.taken) h.left)

-- one delivery is still to be made, and then those of a shorter pump
pub one-on : (f : Spellings) (all : Reading) (number made : ℕ)
    (among : Option (ServerId × ServerId)) (rest : Scene → Reading) (t : Tally)
    (stands : DiskScene → Type 0) (told : Option ℕ) (n : ℕ)
    → HasCounted f all (with_pump (measures_of f) number (most_deliveries - made) among rest) t
    stands
    → made < 1099511627776
    → ((w : DiskScene) → IsReached f w → stands w → told ≡ due among w.scene) → told ≡ Some n
    → HasCounted f all
    (with_step (measures_of f) number (step.Deliver n)
    (with_pump (measures_of f) number (most_deliveries - (made + 1)) among rest)) t stands
one-on f all number made among rest t stands told n h few tells is =
    let m = measures_of f in
    counted-as f all _ (with_step m number (step.Deliver n)
    (with_pump m number (most_deliveries - (made + 1)) among rest)) t stands h
    (pump-on m number made among rest (run m first_scene h.done) n few
    (told_due f among told all _ t stands h tells ∙ is))

-- no delivery is to be made
pub none-due : (f : Spellings) (all : Reading) (number most : ℕ)
    (among : Option (ServerId × ServerId)) (rest : Scene → Reading) (t : Tally)
    (stands : DiskScene → Type 0) (told : Option ℕ)
    → HasCounted f all (with_pump (measures_of f) number most among rest) t stands
    → ((w : DiskScene) → IsReached f w → stands w → told ≡ due among w.scene) → told ≡ None
    → HasCounted f all rest t stands
none-due f all number most among rest t stands told h tells is =
    let m = measures_of f in
    counted-as f all (with_pump m number most among rest) rest t stands h
    (pump-ends m number most among rest (run m first_scene h.done)
    (told_due f among told all _ t stands h tells ∙ is))

-- so many were made that none is left
pub all-made : (f : Spellings) (all : Reading) (number made : ℕ)
    (among : Option (ServerId × ServerId)) (rest : Scene → Reading) (t : Tally)
    (stands : DiskScene → Type 0)
    → HasCounted f all (with_pump (measures_of f) number (most_deliveries - made) among rest) t
    stands
    → 1099511627776 ≤ made → HasCounted f all rest t stands
all-made f all number made among rest t stands h past =
    let m = measures_of f in
    counted-as f all (with_pump m number (most_deliveries - made) among rest) rest t stands h
    (pump-spent m number made among rest (run m first_scene h.done) past)

-- ---- what a step gave

not_past : (number : ℕ) → number ≤ 50000 → nat_lt 50000 number ≡ false
not_past number within =
    false_from_ne_true (nat_lt 50000 number)
    (λ past. let gt = ltb-true 50000 number past in absurd (omega (arith, gt, within)))

stands_alone : (m : Measures) (w : Scene) (s : Step) → is_elementary s ≡ true
    → spelled_out m w s ≡ s ∷ []
stands_alone m w (step.Pump among) e = absurd cc
stands_alone m w (step.Ask server client number cred call) e = refl
stands_alone m w (step.Deliver n) e = refl
stands_alone m w (step.Tick server) e = refl
stands_alone m w (step.Suspect server) e = refl
stands_alone m w (step.Apply server most) e = refl
stands_alone m w (step.Flush server) e = refl
stands_alone m w (step.List server) e = refl
stands_alone m w (step.Boot server) e = refl
stands_alone m w (step.Power server) e = refl
stands_alone m w (step.PowerCut server calls pick) e = refl
stands_alone m w (step.Crash server pick) e = refl
stands_alone m w (step.Stop server calls pick) e = refl
stands_alone m w (step.Noise server bytes) e = refl
stands_alone m w (step.Clock server reading) e = refl
stands_alone m w (step.Advance millis) e = refl
stands_alone m w (step.Delta millis) e = refl

one_step : (m : Measures) (number : ℕ) (s : Step) (rest : Scene → Reading) (w : Scene)
    → with_steps m number (s ∷ []) rest w ≡ with_step m number s rest w
unfolding with_steps
one_step m number s rest w = refl

pub gave-step : (f : Spellings) (all : Reading) (number : ℕ) (s : Step) (rest : Scene → Reading)
    (t : Tally) (stands : DiskScene → Type 0) → is_elementary s ≡ true
    → HasCounted f all (with_given (measures_of f) number (Ok (Some s)) rest) t stands
    → HasCounted f all (with_step (measures_of f) number s rest) t stands
gave-step f all number s rest t stands e h =
    let m = measures_of f in
    let w = run m first_scene h.done in
    counted-as f all (with_given m number (Ok (Some s)) rest) (with_step m number s rest) t stands h
    (ap (λ ss. with_steps m number ss rest w) (stands_alone m w s e)
    ∙ one_step m number s rest w)

pub gave-pump : (f : Spellings) (all : Reading) (number : ℕ) (s : Step)
    (among : Option (ServerId × ServerId)) (rest : Scene → Reading) (t : Tally)
    (stands : DiskScene → Type 0) → s ≡ step.Pump among
    → HasCounted f all (with_given (measures_of f) number (Ok (Some s)) rest) t stands
    → HasCounted f all (with_pump (measures_of f) number most_deliveries among rest) t stands
gave-pump f all number s among rest t stands is h =
    let m = measures_of f in
    counted-as f all (with_given m number (Ok (Some s)) rest)
    (with_pump m number most_deliveries among rest) t stands h
    (ap (λ x. with_given m number (Ok (Some x)) rest (run m first_scene h.done)) is)

pub gave-fault : (f : Spellings) (all : Reading) (number : ℕ) (s : Step) (fault : LineFault)
    (rest : Scene → Reading) (t : Tally) (stands : DiskScene → Type 0)
    → given_as number s ≡ Err fault
    → HasCounted f all (with_given (measures_of f) number (given_as number s) rest) t stands
    → HasAll f all t
gave-fault f all number s fault rest t stands is h =
    let m = measures_of f in
    has-all f all (Some (number, fault)) t stands
    (counted-as f all (with_given m number (given_as number s) rest)
    (λ w. refused_at number fault) t stands h
    (ap (λ x. with_given m number x rest (run m first_scene h.done)) is))

-- a step past the last line
pub given-past : (number : ℕ) (s : Step) → 50000 < number
    → given_as number s ≡ Err fault.TooMany
unfolding given_as
given-past number s past = let gt = lt-ltb 50000 number past in rw gt refl

-- a step that moves clocks too far
pub given-far : (number : ℕ) (s : Step) → number ≤ 50000 → moves_within s ≡ false
    → given_as number s ≡ Err fault.Grammar
unfolding given_as
given-far number s within far =
    let le = not_past number within in rw (le, far) refl

-- another step
pub given-near : (number : ℕ) (s : Step) → number ≤ 50000 → moves_within s ≡ true
    → given_as number s ≡ Ok (Some s)
unfolding given_as
given-near number s within near =
    let le = not_past number within in rw (le, near) refl

-- a step past the last line is refused
pub line-past : (f : Spellings) (all : Reading) (before : ℕ) (s : Step) (rest : Scene → Reading)
    (t : Tally) (stands : DiskScene → Type 0) → 50000 ≤ before
    → HasCounted f all (with_given (measures_of f) (before + 1) (given_as (before + 1) s) rest) t
    stands → HasAll f all t
line-past f all before s rest t stands past h =
    gave-fault f all (before + 1) s fault.TooMany rest t stands
    (given-past (before + 1) s (omega (arith, past))) h

-- and so is one that moves clocks too far
pub line-far : (f : Spellings) (all : Reading) (before : ℕ) (s : Step) (rest : Scene → Reading)
    (t : Tally) (stands : DiskScene → Type 0) → before < 50000 → moves_within s ≡ false
    → HasCounted f all (with_given (measures_of f) (before + 1) (given_as (before + 1) s) rest) t
    stands → HasAll f all t
line-far f all before s rest t stands within far h =
    gave-fault f all (before + 1) s fault.Grammar rest t stands
    (given-far (before + 1) s (omega (arith, within)) far) h

-- another step is given
pub line-near : (f : Spellings) (all : Reading) (before : ℕ) (s : Step)
    (rest : Scene → Reading) (t : Tally) (stands : DiskScene → Type 0) → before < 50000
    → moves_within s ≡ true
    → HasCounted f all (with_given (measures_of f) (before + 1) (given_as (before + 1) s) rest) t
    stands
    → HasCounted f all (with_given (measures_of f) (before + 1) (Ok (Some s)) rest) t stands
line-near f all before s rest t stands within near h =
    let m = measures_of f in
    counted-as f all (with_given m (before + 1) (given_as (before + 1) s) rest)
    (with_given m (before + 1) (Ok (Some s)) rest) t stands h
    (ap (λ x. with_given m (before + 1) x rest (run m first_scene h.done))
    (given-near (before + 1) s (omega (arith, within)) near))

-- ---- steps of a list

-- no step was taken yet
pub list-first : (f : Spellings) (steps left : List Step) (t : Tally)
    (stands : DiskScene → Type 0) → left ≡ steps → IsTallyOf [] t → stands first_disk_scene
    → HasCounted f (steps_read (measures_of f) steps) (steps_read_from (measures_of f) 1 left) t
    stands
unfolding run run_lines disk_run
list-first f steps left t stands is tally here = record {
  done = [];
  taken = tt;
  reading_is = ap (λ ss. steps_read_from (measures_of f) 1 ss first_scene) (sym is);
  tally = tally;
  left = here;
}

-- the next step of a list is still read
pub list-on : (f : Spellings) (all : Reading) (i : ℕ) (s : Step) (steps left : List Step)
    (t : Tally) (stands : DiskScene → Type 0) → steps ≡ s ∷ left
    → HasCounted f all (steps_read_from (measures_of f) (i + 1) steps) t stands
    → HasCounted f all (with_given (measures_of f) (i + 1) (given_as (i + 1) s)
    (steps_read_from (measures_of f) (i + 1 + 1) left)) t stands
unfolding steps_read_from
list-on f all i s steps left t stands is h =
    let m = measures_of f in
    let w = run m first_scene h.done in
    counted-as f all _ (with_given m (i + 1) (given_as (i + 1) s)
    (steps_read_from m (i + 1 + 1) left)) t stands h
    (ap (λ ss. steps_read_from m (i + 1) ss w) is)

-- all steps of a list were taken
pub list-ends : (f : Spellings) (all : Reading) (i : ℕ) (steps : List Step) (t : Tally)
    (stands : DiskScene → Type 0) → steps ≡ []
    → HasCounted f all (steps_read_from (measures_of f) (i + 1) steps) t stands → HasAll f all t
unfolding steps_read_from
list-ends f all i steps t stands is h =
    let m = measures_of f in
    let w = run m first_scene h.done in
    has-all f all None t stands
    (counted-as f all _ (λ w. all_read) t stands h
    (ap (λ ss. steps_read_from m (i + 1) ss w) is))
