-- What a server shows while it takes its turns.
use Rattle.std.proofs.Common.{◌≡◌, ◌≤◌, ◌∙◌, ℕ, ◌+◌, ◌-◌, arith, List, [], ◌∷◌, ◌++◌, Option, None, Some}
use Rattle.std.proofs.Common.{ap, inl, refl, subst, sym}
use Rattle.std.proofs.lemmas.List.{append-nil, append_assoc}
use Rattle.harp_types.specs.Trio.{value_of}
use Rattle.harp_types.specs.declared.server.ServerId.{ServerId}
use Rattle.harp_types.specs.declared.server.ServerId.TheVariants.{Zero, One, Two}
use Rattle.node_loop.specs.declared.turned.TurnEnd.{TurnEnd}
use Rattle.node_loop.specs.declared.watcher.Sight.{Sight}
use Rattle.node_loop.specs.Chain.{Chain, Stops}
use Rattle.node_loop.specs.Cut.{IsTurnInPart, SpotLeft}
use Rattle.node_loop.specs.Run.{TurnsTo, rounds}
use Rattle.node_loop.specs.Scene.{Spot, alone, around, nobody, only, start}
use Rattle.node_loop.specs.Stay.{ShowsRuns, ShowsStops, TurnsWatched, TurnsWatchedInPart, WatchedLeft, watched}
use Rattle.node_loop.specs.Watch.{Showed, ShowsBehind, ShowsNew, dropped_after, state_shown}
use Rattle.node_loop.proofs.Chains.{chain-push, stops-behind}
use Rattle.node_loop.proofs.Scenes.{part-alone, rounds-more, spot-again, stops-sooner}

-- ---- sights

-- nothing was shown
pub showed-none : (told : Option (List Sight)) → Showed [] told told
showed-none None = tt
showed-none (Some sights) = sym (append-nil sights)

pub showed-then : (xs ys : List Sight) (a b c : Option (List Sight)) → Showed xs a b
    → Showed ys b c → Showed (xs ++ ys) a c
showed-then xs ys a b None first then_ = tt
showed-then xs ys a None (Some z) first then_ = absurd then_
showed-then xs ys None (Some y) (Some z) first then_ = absurd first
showed-then xs ys (Some x) (Some y) (Some z) first then_ =
    then_ ∙ ap (λ sights. sights ++ ys) first ∙ append_assoc x xs ys

-- ---- a server alone

pub server-alone : (place : ServerId) (s : Spot) → value_of (alone place s).servers place ≡ Some s.server
server-alone Zero s = refl
server-alone One s = refl
server-alone Two s = refl

watch_turn : (place : ServerId) (a c : Spot) (end : TurnEnd) (before sights : List Sight) (n : ℕ)
    → TurnsTo place end a c
    → ShowsNew place end.now (state_shown a.server.node) (state_shown c.server.node) sights
    → TurnsWatched place (watched (alone place a) before n)
    (watched (alone place c) (before ++ sights) (dropped_after end.dropped n))
watch_turn place a c end before sights n h shows = record {
  turns = record {
    old = a;
    new = c;
    was = sym (spot-again place a a (start nobody None None));
    turns = h.turns;
    is = sym (spot-again place a c (start nobody None None));
  };
  sights = sights;
  shows = subst (λ at. ShowsNew place at (state_shown a.server.node) (state_shown c.server.node)
      sights) h.to shows;
  is = refl;
  counts = ap (λ is. dropped_after is n) h.dropped;
}

-- no turn was taken
pub runs-none : (place : ServerId) (a : Spot) (told : Option (List Sight))
    → ShowsRuns place 0 (alone place a) (alone place a) 0 told told
runs-none place a told = ([], record { turned = refl }, showed-none told)

-- one more is
pub runs-on : (place : ServerId) (n k : ℕ) (end : TurnEnd) (a b c : Spot)
    (first mid new : Option (List Sight))
    → ShowsRuns place n (alone place a) (alone place b) k first mid → TurnsTo place end b c
    → ShowsBehind place end.now (state_shown b.server.node) (state_shown c.server.node) mid new
    → ShowsRuns place (n + 1) (alone place a) (alone place c) (dropped_after end.dropped k)
    first new
runs-on place n k end a b c first mid new runs h shows =
    let sights = runs.0 ++ shows.0 in
    let last = watched (alone place c) sights (dropped_after end.dropped k) in (
      sights,
      record {
        turned = subst (λ xs. Chain TurnsWatched xs (watched (alone place a) [] 0) last)
            (sym (rounds-more n (place ∷ [])))
            (chain-push TurnsWatched (rounds n (place ∷ [])) place (watched (alone place a) [] 0)
            (watched (alone place b) runs.0 k) last runs.1.turned
            (watch_turn place b c end runs.0 shows.0 k h shows.1));
      },
      showed-then runs.0 shows.0 first mid new runs.2 shows.2,
    )

-- or it is cut off
pub stops-on : (place : ServerId) (n k most : ℕ) (a b : Spot) (at : SpotLeft)
    (first mid : Option (List Sight)) → n + 1 ≤ most
    → ShowsRuns place n (alone place a) (alone place b) k first mid → IsTurnInPart place b at
    → ShowsStops place most (alone place a) (around (only place at.disk) at.link at.clock) first mid
stops-on place n k most a b at first mid within runs h =
    let around_left = around (only place at.disk) at.link at.clock in
    let left : WatchedLeft = record { around = around_left; sights = runs.0 } in
    let part : TurnsWatchedInPart place (watched (alone place b) runs.0 k) left =
    record { turns = part-alone place b at h; is = refl } in
    let is : most ≡ (most - (n + 1)) + (n + 1) = omega (arith, within) in (
      runs.0,
      record {
        stops = stops-sooner TurnsWatched TurnsWatchedInPart (place ∷ [])
            (watched (alone place a) [] 0) left (most - (n + 1)) (n + 1) most is
            (subst (λ xs. Stops TurnsWatched TurnsWatchedInPart xs
            (watched (alone place a) [] 0) left)
            (sym (rounds-more n (place ∷ [])))
            (stops-behind TurnsWatched TurnsWatchedInPart (rounds n (place ∷ [])) (place ∷ [])
            (watched (alone place a) [] 0) (watched (alone place b) runs.0 k) left runs.1.turned
            (inl part)));
      },
      runs.2,
    )
