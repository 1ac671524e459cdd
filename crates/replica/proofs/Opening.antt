-- When a leader opens its view.
use Rattle.std.proofs.Common.{◌≡◌, ℕ, ◌+◌, Bool, true, false, [], ◌∷◌, Option, Some, None, refl, ap, ◌∙◌, subst, if◌then◌else◌}
use Rattle.std.specs.Prelude.{nat_le}
use Rattle.harp_types.specs.Limits.{clock_skew}
use Rattle.group_rules.specs.Limits.{is_open, is_waits}
use Rattle.group_rules.specs.Open.{open_heard, open_moves, try_open}
use Rattle.group_rules.specs.Places.{Zero, One, Two, Place, all_of, get, partner, same}
use Rattle.group_rules.specs.Tick.{beats}
use Rattle.replica.proofs.Follows.{same_place}
use Rattle.replica.specs.Leading.{Leading, Outer, heard_from, led, mode_led, place_led, storers_led}
use Rattle.replica.specs.declared.leader.Beside.{Beside}
use Rattle.replica.specs.declared.leader.Beside.TheVariants as beside

heard_got : (b : Beside) (me : Place) (f : Option ℕ)
    → get (heard_from b f) (partner (storers_led b me)) ≡ f
heard_got beside.DataServer me None = refl
heard_got beside.DataServer me (Some lb) = refl
heard_got beside.Witness Zero None = refl
heard_got beside.Witness Zero (Some lb) = refl
heard_got beside.Witness One None = refl
heard_got beside.Witness One (Some lb) = refl
heard_got beside.Witness Two None = refl
heard_got beside.Witness Two (Some lb) = refl

open_tested : (opened : Bool) (q : Place) → opened ≡ false
    → all_of (is_waits (mode_led opened) ∷ same q q ∷ []) ≡ true
unfolding all_of
open_tested opened q shut = rw (shut, same_place q) refl

-- a leader that waits, heard of its partner and whose horizon is over opens
pub opens : (l : Leading) (o : Outer) (now lb : ℕ) → l.opened ≡ false → l.formed ≡ Some lb
    → nat_le (l.horizon + clock_skew) now ≡ true
    → try_open (place_led l o) now (led l o) ≡ open_moves (led l o) lb
opens l o now lb shut heard over =
    let got : open_heard now (led l o) (get (heard_from l.beside l.formed) (partner
    (storers_led l.beside o.me))) ≡ open_heard now (led l o) (Some lb) =
    ap (open_heard now (led l o)) (heard_got l.beside o.me l.formed ∙ heard) in
    let opening : open_heard now (led l o) (Some lb) ≡ open_moves (led l o) lb = rw over refl in
    rw (open_tested l.opened (place_led l o) shut) (got ∙ opening)

pub ticks_open : (l : Leading) (o : Outer) (now : ℕ) → l.opened ≡ true
    → (if is_open (mode_led l.opened) then beats (led l o) else try_open (place_led l o) now
    (led l o)) ≡ beats (led l o)
ticks_open l o now is = rw is refl

pub ticks_waiting : (l : Leading) (o : Outer) (now : ℕ) → l.opened ≡ false
    → (if is_open (mode_led l.opened) then beats (led l o) else try_open (place_led l o) now
    (led l o)) ≡ try_open (place_led l o) now (led l o)
ticks_waiting l o now is = rw is refl

-- the same from the leader's own fields
pub opens_at : (a l : Leading) (o : Outer) (now lb : ℕ) → a ≡ l → a.opened ≡ false → a.formed
    ≡ Some lb → nat_le (a.horizon + clock_skew) now ≡ true
    → try_open (place_led l o) now (led l o) ≡ open_moves (led l o) lb
opens_at a l o now lb view shut heard over =
    subst (λ (l : Leading). try_open (place_led l o) now (led l o)
    ≡ open_moves (led l o) lb) view (opens a o now lb shut heard over)
