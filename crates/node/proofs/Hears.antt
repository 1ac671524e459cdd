-- A Formed that is heard.
use Rattle.std.proofs.Common.{◌≡◌, ℕ, ◌||◌, ◌==◌, Bool, true, false, [], ◌∷◌, Option, Some, None, refl}
use Rattle.file_tree.specs.Book.{Entry}
use Rattle.group_rules.proofs.Tests.{if_not}
use Rattle.group_rules.specs.Limits.{is_joining, is_waits}
use Rattle.group_rules.specs.Moves.{Hearing}
use Rattle.group_rules.specs.Open.{on_formed}
use Rattle.group_rules.specs.Places.{Zero, One, Two, Place, Trio, all_of, get, same, with_at}
use Rattle.group_rules.specs.State.{Server}

-- of another server's Formed none is its own
pub hears_on : (t : Trio (Option ℕ)) (from me : Place) (lb : ℕ) → same from me ≡ false
    → get t me ≡ None → get (with_at t from (Some lb)) me ≡ None
hears_on t Zero Zero lb other is = cc
hears_on t Zero One lb other is = is
hears_on t Zero Two lb other is = is
hears_on t One Zero lb other is = is
hears_on t One One lb other is = cc
hears_on t One Two lb other is = is
hears_on t Two Zero lb other is = is
hears_on t Two One lb other is = is
hears_on t Two Two lb other is = cc

second_fails : (a b : Bool) → b ≡ false → all_of (a ∷ b ∷ []) ≡ false
unfolding all_of
second_fails true true h = cc
second_fails true false h = refl
second_fails false b h = refl

-- a server that is neither joining nor waiting heeds none
pub heeds_none : (s : Server Entry) (from : Place) (v lb : ℕ)
    → (is_joining s.mode || is_waits s.mode) ≡ false → on_formed s from v lb ≡ []
heeds_none s from v lb active =
    if_not (all_of ((v == s.promised) ∷ (is_joining s.mode || is_waits s.mode) ∷ []))
    (Hearing from lb ∷ []) []
    (second_fails (v == s.promised) (is_joining s.mode || is_waits s.mode) active)
