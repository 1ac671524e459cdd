-- What the rules' tests say of modes, storers and places.
use Rattle.std.proofs.Common.{◌≡◌, ◌⊎◌, true, inl, inr, refl, sym, true≢false}
use Rattle.group_rules.specs.Form.{role_of}
use Rattle.group_rules.specs.Limits.{is_active, is_joining, is_joins, is_open, is_pulls, is_settled, is_waits}
use Rattle.group_rules.specs.Places.{IsIn, Zero, One, Two, Pair, Place, S01, S02, S12, is_in, is_p2, is_s01}
use Rattle.group_rules.specs.State.{Joins, Live, Mode, Open, Outside, Pulls, Rests, Waits}
use Rattle.group_safety.specs.Words.{IsActive, IsJoining}

pub joins_is : (m : Mode) → is_joins m ≡ true → m ≡ Joins
joins_is Rests e = cc
joins_is Joins e = refl
joins_is Pulls e = cc
joins_is Waits e = cc
joins_is Open e = cc
joins_is Live e = cc

pub pulls_is : (m : Mode) → is_pulls m ≡ true → m ≡ Pulls
pulls_is Rests e = cc
pulls_is Joins e = cc
pulls_is Pulls e = refl
pulls_is Waits e = cc
pulls_is Open e = cc
pulls_is Live e = cc

pub waits_is : (m : Mode) → is_waits m ≡ true → m ≡ Waits
waits_is Rests e = cc
waits_is Joins e = cc
waits_is Pulls e = cc
waits_is Waits e = refl
waits_is Open e = cc
waits_is Live e = cc

pub open_is : (m : Mode) → is_open m ≡ true → m ≡ Open
open_is Rests e = cc
open_is Joins e = cc
open_is Pulls e = cc
open_is Waits e = cc
open_is Open e = refl
open_is Live e = cc

pub active_is : (m : Mode) → is_active m ≡ true → IsActive m
active_is Rests e = absurd (true≢false (sym e))
active_is Joins e = absurd (true≢false (sym e))
active_is Pulls e = absurd (true≢false (sym e))
active_is Waits e = tt
active_is Open e = tt
active_is Live e = tt

pub settled_is : (m : Mode) → is_settled m ≡ true → IsActive m
settled_is Rests e = absurd (true≢false (sym e))
settled_is Joins e = absurd (true≢false (sym e))
settled_is Pulls e = absurd (true≢false (sym e))
settled_is Waits e = absurd (true≢false (sym e))
settled_is Open e = tt
settled_is Live e = tt

pub settles_is : (m : Mode) → is_settled m ≡ true → (m ≡ Open) ⊎ (m ≡ Live)
settles_is Rests e = absurd (true≢false (sym e))
settles_is Joins e = absurd (true≢false (sym e))
settles_is Pulls e = absurd (true≢false (sym e))
settles_is Waits e = absurd (true≢false (sym e))
settles_is Open e = inl refl
settles_is Live e = inr refl

pub joining_is : (m : Mode) → is_joining m ≡ true → IsJoining m
joining_is Rests e = absurd (true≢false (sym e))
joining_is Joins e = tt
joining_is Pulls e = tt
joining_is Waits e = absurd (true≢false (sym e))
joining_is Open e = absurd (true≢false (sym e))
joining_is Live e = absurd (true≢false (sym e))

pub s01_is : (p : Pair) → is_s01 p ≡ true → p ≡ S01
s01_is S01 e = refl
s01_is S02 e = cc
s01_is S12 e = cc

pub in_is : (p : Pair) (q : Place) → is_in p q ≡ true → IsIn p q
in_is S01 Zero e = tt
in_is S01 One e = tt
in_is S01 Two e = absurd (true≢false (sym e))
in_is S02 Zero e = tt
in_is S02 One e = absurd (true≢false (sym e))
in_is S02 Two e = tt
in_is S12 Zero e = absurd (true≢false (sym e))
in_is S12 One e = tt
in_is S12 Two e = tt

pub role_inside : (p : Pair) (q : Place) → role_of p q ≡ Outside → ⊥
role_inside S01 Zero e = cc
role_inside S01 One e = cc
role_inside S01 Two e = cc
role_inside S02 Zero e = cc
role_inside S02 One e = cc
role_inside S02 Two e = cc
role_inside S12 Zero e = cc
role_inside S12 One e = cc
role_inside S12 Two e = cc

pub p2_is : (q : Place) → is_p2 q ≡ true → q ≡ Two
p2_is Zero e = cc
p2_is One e = cc
p2_is Two e = refl
