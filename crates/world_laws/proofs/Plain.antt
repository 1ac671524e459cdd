-- The moves that touch no record of a server.
use Rattle.std.proofs.Common.{◌≡◌, ℕ, ◌+◌, Bool, true, false, List, [], ◌∷◌, ◌++◌, Option, None, Some, nat_le, if◌then◌else◌, le_of_lt}
use Rattle.std.specs.Prelude.{⊤}
use Rattle.event_record.specs.declared.record.RecordFields.{RecordFields}
use Rattle.file_tree.specs.Book.{Entry}
use Rattle.group_rules.proofs.Tests.{by_if, each_of, is_lt}
use Rattle.group_rules.specs.Joining.{to_each}
use Rattle.group_rules.specs.Limits.{is_open, is_pulls}
use Rattle.group_rules.specs.Moves.{Accepting, Appending, Basing, Booting, Falling, Heeding, Move, Saving, Sending, Staging, act, acts, moved, moved_by}
use Rattle.group_rules.specs.Open.{base_tests, open_heard, open_tests, rebase, try_open}
use Rattle.group_rules.specs.Places.{Zero, One, Two, Place, all_of, get, is_s01, other_storers, partner}
use Rattle.group_rules.specs.Replicate.{answers}
use Rattle.group_rules.specs.State.{Chose, Collects, Duty, Form, Group, Message, NoDuty, Page, Report, Server}
use Rattle.group_rules.specs.Tick.{again, again_tests, beats, duties, duty_tests, events, invite_again}
use Rattle.world_laws.proofs.Moves.{Fed, Feeds}

abbrev pub Plain : Move Entry → Type 0
Plain (Staging items) = ⊥
Plain (Accepting plan role n) = ⊥
Plain (Heeding items cp base) = ⊥
Plain (Appending e) = ⊥
Plain (Basing n) = ⊥
Plain Falling = ⊥
Plain Saving = ⊥
Plain (Booting d) = ⊥
Plain m = ⊤

abbrev pub PlainAll : List (Move Entry) → Type 0
PlainAll [] = ⊤
PlainAll (m ∷ ms) = Plain m × PlainAll ms

plain_feeds : (page : ℕ → Page Entry) (list : List Entry) (came : List RecordFields) (q : Place)
    (s : Server Entry) (m : Move Entry) → Plain m → Feeds page list came q s m
plain_feeds page list came q s (Staging items) p = absurd p
plain_feeds page list came q s (Accepting plan role n) p = absurd p
plain_feeds page list came q s (Heeding items cp base) p = absurd p
plain_feeds page list came q s (Appending e) p = absurd p
plain_feeds page list came q s (Basing n) p = absurd p
plain_feeds page list came q s Falling p = absurd p
plain_feeds page list came q s Saving p = absurd p
plain_feeds page list came q s (Booting d) p = absurd p
plain_feeds page list came q s m p = tt

pub plain_fed : (ms : List (Move Entry)) (g : Group Entry) (q : Place) (s : Server Entry)
    (list : List Entry) (came : List RecordFields) → PlainAll ms → Fed g q s list came ms
unfolding Fed
plain_fed [] g q s list came p = tt
plain_fed (m ∷ ms) g q s list came p = (
  λ _. plain_feeds g.page list came q s m p.0,
  plain_fed ms (moved g q s m) q (act q (g.clock q) s m) list came p.1,
)

pub fed_both : (a b : List (Move Entry)) (g : Group Entry) (q : Place) (s : Server Entry)
    (list : List Entry) (came : List RecordFields) → Fed g q s list came a
    → Fed (moved_by g q s a) q (acts q (g.clock q) s a) list came b
    → Fed g q s list came (a ++ b)
unfolding Fed
fed_both [] b g q s list came f h = h
fed_both (m ∷ a) b g q s list came f h = (
  f.0,
  fed_both a b (moved g q s m) q (act q (g.clock q) s m) list came f.1 h,
)

pub fed_if : (g : Group Entry) (q : Place) (s : Server Entry) (list : List Entry)
    (came : List RecordFields) (b : Bool) (x y : List (Move Entry))
    → (b ≡ true → Fed g q s list came x) → (b ≡ false → Fed g q s list came y)
    → Fed g q s list came (if b then x else y)
fed_if g q s list came b x y = by_if (λ ms. Fed g q s list came ms) b x y

pub fed_none : (g : Group Entry) (q : Place) (s : Server Entry) (list : List Entry)
    (came : List RecordFields) → Fed g q s list came []
unfolding Fed
fed_none g q s list came = tt

-- messages to some, and then moves that rest on the pages alone
pub fed_sends : (m : Message Entry) (ps : List Place) (b : List (Move Entry)) (q : Place)
    (s : Server Entry) (list : List Entry) (came : List RecordFields) (page : ℕ → Page Entry)
    → ((g : Group Entry) → g.page ≡ page → Fed g q s list came b)
    → (g : Group Entry) → g.page ≡ page → Fed g q s list came (to_each m ps ++ b)
unfolding Fed
fed_sends m [] b q s list came page f g e = f g e
fed_sends m (p ∷ ps) b q s list came page f g e = (
  λ _. tt,
  fed_sends m ps b q s list came page f (moved g q s (Sending p m)) e,
)

pub fed_base : (g : Group Entry) (q : Place) (s : Server Entry) (list : List Entry)
    (came : List RecordFields) → Fed g q s list came (rebase s)
unfolding Fed
fed_base g q s list came = by_if (λ ms. Fed g q s list came ms) (all_of (base_tests s)) _ []
    (λ t. (λ _. le_of_lt (is_lt _ _ (each_of (base_tests s) t).1.1.0), tt)) (λ _. tt)

-- ---- which rules make such moves alone

pub plain_if : (b : Bool) (x y : List (Move Entry)) → PlainAll x → PlainAll y
    → PlainAll (if b then x else y)
plain_if b x y h k = by_if (λ ms. PlainAll ms) b x y (λ _. h) (λ _. k)

pub plain_both : (a b : List (Move Entry)) → PlainAll a → PlainAll b → PlainAll (a ++ b)
plain_both [] b h k = k
plain_both (m ∷ a) b h k = (h.0, plain_both a b h.1 k)

pub plain_each : (m : Message Entry) (ps : List Place) → PlainAll (to_each m ps)
plain_each m [] = tt
plain_each m (p ∷ ps) = (tt, plain_each m ps)

plain_events : (to : Place) (v cp base n : ℕ) (es : List Entry)
    → PlainAll (events to v cp base n es)
plain_events to v cp base n [] = tt
plain_events to v cp base n (e ∷ es) = (tt, plain_events to v cp base (n + 1) es)

pub plain_answers : (n : ℕ) (es : List Entry) → PlainAll (answers n es)
plain_answers n [] = tt
plain_answers n (e ∷ es) = (tt, plain_answers (n + 1) es)

pub plain_open : (q : Place) (clock : ℕ) (s : Server Entry) → PlainAll (try_open q clock s)
plain_open q clock s = plain_if (all_of (open_tests q s)) _ []
    (heard (get s.heard (partner s.plan.storers))) tt
  where
    heard : (o : Option ℕ) → PlainAll (open_heard clock s o)
    heard None = tt
    heard (Some lb) = plain_if (nat_le (s.plan.horizon + 50) clock) _ []
        (tt, plain_both _ _ (plain_if (is_s01 s.plan.storers) _ [] (tt, tt) tt) (tt, tt)) tt

plain_invite : (v : ℕ) (p : Place) (o : Option Report) → PlainAll (invite_again v p o)
plain_invite v p None = (tt, tt)
plain_invite v p (Some t) = tt

plain_duties : (q : Place) (s : Server Entry) (d : Duty) → PlainAll (duties q s d)
plain_duties q s NoDuty = tt
plain_duties q s (Collects reports) = plain_both _ _ (plain_invite s.promised Zero (get reports
    Zero))
    (plain_both _ _ (plain_invite s.promised One (get reports One))
    (plain_invite s.promised Two (get reports Two)))
plain_duties q s (Chose v plan) = plain_if (all_of (duty_tests q s v plan)) _ []
    (plain_each (Form v plan) (other_storers q plan.storers)) tt

plain_again : (q : Place) (s : Server Entry) → PlainAll (again q s)
plain_again q s = plain_both _ _ (plain_if (is_pulls s.mode) _ [] (tt, tt) tt)
    (plain_if (all_of (again_tests q s)) _ [] (tt, tt) tt)

-- what a tick does first, and what then
pub plain_first : (q : Place) (clock : ℕ) (s : Server Entry)
    → PlainAll (if is_open s.mode then beats s else try_open q clock s)
plain_first q clock s = plain_if (is_open s.mode) _ _ (tt, plain_events _ _ _ _ _ _)
    (plain_open q clock s)

pub plain_last : (q : Place) (s : Server Entry) → PlainAll (duties q s s.duty ++ again q s)
plain_last q s = plain_both _ _ (plain_duties q s s.duty) (plain_again q s)
