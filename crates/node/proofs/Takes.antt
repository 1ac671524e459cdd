-- A message, from its tests to the test of opening.
use Rattle.std.proofs.Common.{◌≡◌, ℕ, ◌+◌, Bool, true, false, List, [], ◌++◌, ◌∷◌, refl, sym, subst, if◌then◌else◌}
use Rattle.std.specs.Prelude.{Option, None, Some, nat_le}
use Rattle.std.proofs.lemmas.List.{append-nil}
use Rattle.file_tree.specs.Book.{Entry}
use Rattle.group_rules.proofs.Tests.{if_is, if_not}
use Rattle.group_rules.specs.Moves.{Hearing, Move, acts}
use Rattle.group_rules.specs.Open.{and_then, formed_tests, on_formed, open_heard, open_moves, open_tests, try_open}
use Rattle.group_rules.specs.Places.{Place, all_of, get, is_s01, partner}
use Rattle.group_rules.specs.State.{Server}
use Rattle.harp_types.specs.Limits.{clock_skew}
use Rattle.harp_types.specs.declared.peer.Peer.{Peer}
use Rattle.node.proofs.Calls.{AreSilent, mute}
use Rattle.node.proofs.Heeds.{leaves}
use Rattle.node_outputs.specs.Makes.{IsMute, Makes, with_moves}
use Rattle.node_outputs.specs.Said.{Said, said}
use Rattle.node_outputs.specs.declared.outputs.Outputs.{Outputs}
use Rattle.node_outputs.proofs.Makes.{makes_then, same_said}

pub silent_if : (b : Bool) (ms : List (Move Entry)) → AreSilent ms
    → AreSilent (if b then ms else [])
silent_if true ms h = h
silent_if false ms h = tt

pub silent_then : (ms ns : List (Move Entry)) → AreSilent ms → AreSilent ns → AreSilent (ms ++ ns)
silent_then [] ns h k = k
silent_then (m ∷ ms) ns h k = (h.0, silent_then ms ns h.1 k)

silent_demotes : (b : Bool) (m : Move Entry) (n : Move Entry) → AreSilent (m ∷ []) → AreSilent
    (n ∷ [])
    → AreSilent ((if b then m ∷ [] else []) ++ n ∷ [])
silent_demotes b m n h k = silent_then (if b then m ∷ [] else []) (n ∷ [])
    (silent_if b (m ∷ []) h) k

silent_open_moves : (s : Server Entry) (lb : ℕ) → AreSilent (open_moves s lb)
silent_open_moves s lb = (tt, silent_demotes (is_s01 s.plan.storers) _ _ (tt, tt) (tt, tt))

silent_heard : (clock : ℕ) (s : Server Entry) (heard : Option ℕ) → AreSilent
    (open_heard clock s heard)
silent_heard clock s None = tt
silent_heard clock s (Some lb) = silent_if (nat_le (s.plan.horizon + clock_skew) clock)
    (open_moves s lb) (silent_open_moves s lb)

pub silent_open : (q : Place) (clock : ℕ) (s : Server Entry) → AreSilent (try_open q clock s)
silent_open q clock s = silent_if (all_of (open_tests q s))
    (open_heard clock s (get s.heard (partner s.plan.storers)))
    (silent_heard clock s (get s.heard (partner s.plan.storers)))

pub mute_open : (q : Place) (clock : ℕ) (s : Server Entry) → IsMute (try_open q clock s)
mute_open q clock s = mute (try_open q clock s) (silent_open q clock s)

-- a misfit
pub ignored : (q : Place) (clock : ℕ) (b : Bool) (ms : List (Move Entry)) (s : Server Entry)
    (peers : List Peer) (outs : Outputs) → b ≡ true
    → Makes q clock (if b then [] else ms) peers s s outs outs
ignored q clock b ms s peers outs misfit =
    leaves q clock (if b then [] else ms) s peers outs (if_is b [] ms misfit)

-- another message
pub taken_then : (q : Place) (clock : ℕ) (b : Bool) (ms : List (Move Entry))
    (s t u : Server Entry) (p : Place) (peers : List Peer) (before between after : Outputs)
    → b ≡ false → p ≡ q → Makes q clock ms peers s t before between
    → Makes p clock (try_open p clock t) [] t u between after
    → Makes q clock (if b then [] else and_then q clock s ms (try_open q clock)) peers s u before
    after
taken_then q clock b ms s t u p peers before between after proper same made opens =
    let second : Makes q clock (try_open q clock t) [] t u between after =
    subst (λ (x : Place). Makes x clock (try_open x clock t) [] t u between after) same opens in
    let both = makes_then q clock ms (try_open q clock t) peers [] s t u before between after made
    second (mute_open q clock t) in
    let all = subst (λ (x : Server Entry). Makes q clock (ms ++ try_open q clock x) peers s u
    before after)
    made.state both in
    subst (λ (xs : List (Move Entry)). Makes q clock xs peers s u before after)
    (sym (if_not b [] (and_then q clock s ms (try_open q clock)) proper)) all

-- a Formed that is kept says nothing
hears_if : (b : Bool) (q : Place) (clock : ℕ) (s : Server Entry) (from : Place) (lb : ℕ)
    (before : Said)
    → before ≡ with_moves q clock s (if b then Hearing from lb ∷ [] else []) [] before
hears_if true q clock s from lb before =
    same_said before (with_moves q clock s (Hearing from lb ∷ []) [] before)
    (sym (append-nil before.committed)) (sym (append-nil before.answers))
    (sym (append-nil before.refusals)) (sym (append-nil before.sends)) refl refl refl
hears_if false q clock s from lb before =
    same_said before (with_moves q clock s [] [] before)
    (sym (append-nil before.committed)) (sym (append-nil before.answers))
    (sym (append-nil before.refusals)) (sym (append-nil before.sends)) refl refl refl

pub hears_made : (q : Place) (clock : ℕ) (s t : Server Entry) (from : Place) (v lb : ℕ)
    (outs : Outputs) → t ≡ acts q clock s (on_formed s from v lb)
    → Makes q clock (on_formed s from v lb) [] s t outs outs
hears_made q clock s t from v lb outs is = record {
  state = is;
  said = hears_if (all_of (formed_tests s v)) q clock s from lb (said outs);
}
