-- What is still read of an act: the act alone, or what a drain wants and takes.
use Rattle.std.proofs.Common.{◌≡◌, ℕ, suc, ◌+◌, ◌-◌, ◌<◌, ◌≤◌, ◌==◌, eq-eqb, arith, Bool, true}
use Rattle.std.proofs.Common.{false, List, [], ◌∷◌, length, length-append, refl, sym, ap, ◌∙◌}
use Rattle.std.proofs.Common.{Option, Some, None, Ok, if◌then◌else◌}
use Rattle.std.specs.Prelude.{map}
use Rattle.std.proofs.lemmas.Bool.{eqb-true, false_from_ne_true}
use Rattle.std.proofs.lemmas.List.{length-map}
use Rattle.harp_types.specs.declared.server.ServerId.{ServerId}
use Rattle.group_trace.specs.Scene.{Measures}
use Rattle.group_trace.specs.DiskCalls.{Spellings, measures_of}
use Rattle.group_trace.specs.DiskRun.{DiskScene}
use Rattle.observed_text.specs.declared.step.Act.{Act}
use Rattle.observed_text.specs.declared.step.Act.TheVariants as act
use Rattle.observed_text.specs.declared.step.ObservedStep.TheVariants as observed
use Rattle.observe_laws.specs.Reading.{ObservedReading, with_observed, with_observed_given}
use Rattle.observe_laws.specs.Run.{acted, acts_out, drained, is_act_elementary, shown_in, with_shown}
use Rattle.observe_laws.specs.Scene.{ObservedScene, Showing, showing_of}
use Rattle.observe_play.specs.OnTheWay.{HasObserved, with_act, with_drain}
use Rattle.observe_play.specs.Watch.{StandsAt, WatchValue}
use Rattle.observe_play.proofs.Parts.{comes}
use Rattle.observe_play.proofs.Runs.{scene_after}
use Rattle.observe_play.proofs.Steps.{none_more, one_more}

-- ---- an act that stands for itself

pub is-one : (a : Act)
    → ((server : ServerId) (count : ℕ) → a ≡ act.Drain server count → ⊥)
    → is_act_elementary a ≡ true
is-one act.Copy not = refl
is-one (act.Want server) not = refl
is-one (act.Take packet) not = refl
is-one (act.Drain server count) not = absurd (not server count refl)
is-one (act.Peek call) not = refl

acts_alone : (m : Measures) (w : ObservedScene) (a : Act) → is_act_elementary a ≡ true
    → acts_out m w a ≡ a ∷ []
acts_alone m w act.Copy e = refl
acts_alone m w (act.Want server) e = refl
acts_alone m w (act.Take packet) e = refl
acts_alone m w (act.Drain server count) e = absurd cc
acts_alone m w (act.Peek call) e = refl

pub gave-act : (f : Spellings) (all : ObservedReading) (number : ℕ) (a : Act)
    (rest : ObservedScene → ObservedReading) (before mid : Option (List ℕ))
    (stands : DiskScene → Type 0) (x : WatchValue) → is_act_elementary a ≡ true
    → HasObserved f all
    (with_observed_given (measures_of f) number (Ok (Some (observed.Acted a))) rest) before mid
    stands x
    → HasObserved f all (with_act (measures_of f) number a rest) before mid stands x
gave-act f all number a rest before mid stands x e h =
    let m = measures_of f in
    let w = scene_after f h.done in
    comes f all _ (with_act m number a rest) before mid stands x h
    (ap (λ (acts : List Act). with_observed m number (map observed.Acted acts) rest w)
    (acts_alone m w a e))

-- ---- the acts of a drain

drained_none : (m : Measures) (most : ℕ) (server : ServerId) (w : ObservedScene)
    → shown_in m w server ≡ None → drained m (suc most) server w ≡ act.Want server ∷ []
unfolding drained
drained_none m most server w is = by (shown_in m w server) is
  where
    by : (o : Option Showing) → o ≡ None
        → ◌≡◌ {A = List Act}
        (elim o [
          | None ↦ act.Want server ∷ []
          | Some x ↦ act.Want server ∷ act.Take (length w.shown)
              ∷ drained m most server
              (acted m (acted m w (act.Want server)) (act.Take (length w.shown)))
        ])
        (act.Want server ∷ [])
    by None e = refl
    by (Some x) e = absurd cc

drained_some : (m : Measures) (most : ℕ) (server : ServerId) (w : ObservedScene) (x : Showing)
    → shown_in m w server ≡ Some x
    → drained m (suc most) server w
    ≡ act.Want server ∷ act.Take (length w.shown)
    ∷ drained m most server (acted m (acted m w (act.Want server)) (act.Take (length w.shown)))
unfolding drained
drained_some m most server w x is = by (shown_in m w server) is
  where
    by : (o : Option Showing) → o ≡ Some x
        → ◌≡◌ {A = List Act}
        (elim o [
          | None ↦ act.Want server ∷ []
          | Some y ↦ act.Want server ∷ act.Take (length w.shown)
              ∷ drained m most server
              (acted m (acted m w (act.Want server)) (act.Take (length w.shown)))
        ])
        (act.Want server ∷ act.Take (length w.shown)
        ∷ drained m most server
        (acted m (acted m w (act.Want server)) (act.Take (length w.shown))))
    by None e = absurd cc
    by (Some y) e = refl

-- what is still read of a drain behind a want, whose packet has this number if something was shown
abbrev pub after_want : Measures → ℕ → ℕ → ServerId → ℕ → (ObservedScene → ObservedReading)
    → ObservedScene → ObservedReading
after_want m number most server packet rest v =
    if length v.shown == packet then rest v
    else with_act m number (act.Take packet) (with_drain m number most server rest) v

unshown_over : (m : Measures) (number most : ℕ) (server : ServerId) (packet : ℕ)
    (rest : ObservedScene → ObservedReading) (v : ObservedScene) → length v.shown ≡ packet
    → after_want m number most server packet rest v ≡ rest v
unshown_over m number most server packet rest v is =
    let same : (length v.shown == packet) ≡ true = eq-eqb (length v.shown) packet is in
    ap (λ (b : Bool). if b then rest v
    else with_act m number (act.Take packet) (with_drain m number most server rest) v) same

shown_next : (m : Measures) (number most : ℕ) (server : ServerId) (packet : ℕ)
    (rest : ObservedScene → ObservedReading) (v : ObservedScene)
    → (length v.shown ≡ packet → ⊥)
    → after_want m number most server packet rest v
    ≡ with_act m number (act.Take packet) (with_drain m number most server rest) v
shown_next m number most server packet rest v not =
    let other : (length v.shown == packet) ≡ false =
    false_from_ne_true (length v.shown == packet)
    (λ t. absurd (not (eqb-true (length v.shown) packet t))) in
    ap (λ (b : Bool). if b then rest v
    else with_act m number (act.Take packet) (with_drain m number most server rest) v) other

-- one packet more was shown
one_longer : (w : ObservedScene) (o : Option Showing) (x : Showing) → o ≡ Some x
    → length (with_shown w o).shown ≡ length w.shown → ⊥
one_longer w None x is same = absurd cc
one_longer w (Some y) x is same =
    let more = length-append w.shown (y ∷ []) in omega (arith, more, same)

-- a want is read first, and then what is left behind it: where nothing is shown
unshown_step : (m : Measures) (number most : ℕ) (server : ServerId)
    (rest : ObservedScene → ObservedReading) (w : ObservedScene) → shown_in m w server ≡ None
    → with_drain m number (suc most) server rest w
    ≡ with_act m number (act.Want server)
    (after_want m number most server (length w.shown) rest) w
unshown_step m number most server rest w is =
    let v = acted m w (act.Want server) in
    ap (λ (acts : List Act). with_observed m number (map observed.Acted acts) rest w)
    (drained_none m most server w is)
    ∙ one_more m number (observed.Acted (act.Want server)) [] rest
    (after_want m number most server (length w.shown) rest) w
    (none_more m number rest v
    ∙ sym (unshown_over m number most server (length w.shown) rest v
    (ap (λ (o : Option Showing). length (with_shown w o).shown) is)))

-- and where something is
shown_step : (m : Measures) (number most : ℕ) (server : ServerId)
    (rest : ObservedScene → ObservedReading) (w : ObservedScene) (x : Showing)
    → shown_in m w server ≡ Some x
    → with_drain m number (suc most) server rest w
    ≡ with_act m number (act.Want server)
    (after_want m number most server (length w.shown) rest) w
shown_step m number most server rest w x is =
    let v = acted m w (act.Want server) in
    let taking = act.Take (length w.shown) in
    let others = map observed.Acted (drained m most server (acted m v taking)) in
    ap (λ (acts : List Act). with_observed m number (map observed.Acted acts) rest w)
    (drained_some m most server w x is)
    ∙ one_more m number (observed.Acted (act.Want server)) (observed.Acted taking ∷ others) rest
    (after_want m number most server (length w.shown) rest) w
    (one_more m number (observed.Acted taking) others rest
    (with_drain m number most server rest) v refl
    ∙ sym (shown_next m number most server (length w.shown) rest v
    (one_longer w (shown_in m w server) x is)))

drain_step : (m : Measures) (number most : ℕ) (server : ServerId)
    (rest : ObservedScene → ObservedReading) (w : ObservedScene)
    → with_drain m number (suc most) server rest w
    ≡ with_act m number (act.Want server)
    (after_want m number most server (length w.shown) rest) w
drain_step m number most server rest w = by (shown_in m w server) refl
  where
    by : (o : Option Showing) → shown_in m w server ≡ o
        → with_drain m number (suc most) server rest w
        ≡ with_act m number (act.Want server)
        (after_want m number most server (length w.shown) rest) w
    by None is = unshown_step m number most server rest w is
    by (Some x) is = shown_step m number most server rest w x is

-- ---- where a play has come to

-- so many packets were shown
count_there : (o : ObservedScene) (x : WatchValue) → StandsAt o x
    → length o.shown ≡ length x.shown
count_there o x h = sym (ap length h.is_of.shown) ∙ length-map x.shown showing_of

pub drain-first : (f : Spellings) (all : ObservedReading) (number most : ℕ) (server : ServerId)
    (packet : ℕ) (rest : ObservedScene → ObservedReading) (before mid : Option (List ℕ))
    (stands : DiskScene → Type 0) (x : WatchValue) → packet ≡ length x.shown
    → HasObserved f all (with_drain (measures_of f) number (suc most) server rest) before mid
    stands x
    → HasObserved f all
    (with_act (measures_of f) number (act.Want server)
    (after_want (measures_of f) number most server packet rest)) before mid stands x
drain-first f all number most server packet rest before mid stands x is h =
    let m = measures_of f in
    let w = scene_after f h.done in
    comes f all (with_drain m number (suc most) server rest)
    (with_act m number (act.Want server) (after_want m number most server packet rest)) before mid
    stands x h
    (drain_step m number most server rest w
    ∙ ap (λ (n : ℕ). with_act m number (act.Want server)
    (after_want m number most server n rest) w)
    (count_there w x h.watch ∙ sym is))

-- nothing was shown
pub drain-over : (f : Spellings) (all : ObservedReading) (number most : ℕ) (server : ServerId)
    (packet : ℕ) (rest : ObservedScene → ObservedReading) (before mid : Option (List ℕ))
    (stands : DiskScene → Type 0) (x : WatchValue) → length x.shown ≡ packet
    → HasObserved f all (after_want (measures_of f) number most server packet rest) before mid
    stands x
    → HasObserved f all rest before mid stands x
drain-over f all number most server packet rest before mid stands x is h =
    let m = measures_of f in
    let w = scene_after f h.done in
    comes f all (after_want m number most server packet rest) rest before mid stands x h
    (unshown_over m number most server packet rest w (count_there w x h.watch ∙ is))

-- something was shown, and is taken next
pub drain-next : (f : Spellings) (all : ObservedReading) (number most : ℕ) (server : ServerId)
    (packet : ℕ) (rest : ObservedScene → ObservedReading) (before mid : Option (List ℕ))
    (stands : DiskScene → Type 0) (x : WatchValue) → (length x.shown ≡ packet → ⊥)
    → HasObserved f all (after_want (measures_of f) number most server packet rest) before mid
    stands x
    → HasObserved f all
    (with_act (measures_of f) number (act.Take packet)
    (with_drain (measures_of f) number most server rest)) before mid stands x
drain-next f all number most server packet rest before mid stands x not h =
    let m = measures_of f in
    let w = scene_after f h.done in
    comes f all (after_want m number most server packet rest)
    (with_act m number (act.Take packet) (with_drain m number most server rest)) before mid
    stands x h
    (shown_next m number most server packet rest w
    (λ same. not (sym (count_there w x h.watch) ∙ same)))

-- so many wants and takes were made, and one more is to come
pub drain-more : (f : Spellings) (all : ObservedReading) (number count made : ℕ)
    (server : ServerId) (rest : ObservedScene → ObservedReading) (before mid : Option (List ℕ))
    (stands : DiskScene → Type 0) (x : WatchValue) → made < count
    → HasObserved f all (with_drain (measures_of f) number (count - made) server rest) before mid
    stands x
    → HasObserved f all
    (with_drain (measures_of f) number (suc (count - (made + 1))) server rest) before mid stands x
drain-more f all number count made server rest before mid stands x few h =
    let m = measures_of f in
    let less = count - (made + 1) in
    let one : count - made ≡ suc less = omega arith in
    comes f all _ (with_drain m number (suc less) server rest) before mid stands x h
    (ap (λ (k : ℕ). with_drain m number k server rest (scene_after f h.done)) one)

none_drained : (m : Measures) (number : ℕ) (server : ServerId)
    (rest : ObservedScene → ObservedReading) (w : ObservedScene)
    → with_drain m number 0 server rest w ≡ rest w
unfolding drained with_observed
none_drained m number server rest w = refl

-- all were made
pub drain-spent : (f : Spellings) (all : ObservedReading) (number count made : ℕ)
    (server : ServerId) (rest : ObservedScene → ObservedReading) (before mid : Option (List ℕ))
    (stands : DiskScene → Type 0) (x : WatchValue) → count ≤ made
    → HasObserved f all (with_drain (measures_of f) number (count - made) server rest) before mid
    stands x
    → HasObserved f all rest before mid stands x
drain-spent f all number count made server rest before mid stands x past h =
    let m = measures_of f in
    let w = scene_after f h.done in
    let none : count - made ≡ 0 = omega arith in
    comes f all (with_drain m number (count - made) server rest) rest before mid stands x h
    (ap (λ (k : ℕ). with_drain m number k server rest w) none
    ∙ none_drained m number server rest w)
