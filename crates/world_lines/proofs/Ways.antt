-- The first packets that are due from each server to each.
use Rattle.std.proofs.Common.{◌≡◌, ℕ, zero, suc, ◌+◌, ◌<◌, ◌&&◌, ◌||◌, Bool, true, false, not, List}
use Rattle.std.proofs.Common.{[], ◌∷◌}
use Rattle.std.proofs.Common.{◌++◌, length, drop, Option, None, Some, refl, sym, ap, ◌∙◌, ◌⊎◌, inl}
use Rattle.std.proofs.Common.{inr}
use Rattle.std.proofs.Common.{arith, subst, if◌then◌else◌}
use Rattle.std.specs.Prelude.{eqb, get_or, slice_get}
use Rattle.std.specs.Option.{option_eq, option_or}
use Rattle.std.proofs.lemmas.Bool.{eqb-false, eqb-true}
use Rattle.std.proofs.lemmas.Option.{same_Some, slice_get_read}
use Rattle.harp_types.specs.declared.server.ServerId.{ServerId}
use Rattle.harp_types.specs.declared.server.ServerId.TheVariants.{Zero, One, Two}
use Rattle.harp_types.specs.declared.trio.Trio.{Trio}
use Rattle.harp_types.specs.Trio.{value_of, with_value}
use Rattle.wire.specs.declared.message.Message.{Message}
use Rattle.group_rules.specs.Names.{place_of}
use Rattle.group_rules.specs.Places.{same}
use Rattle.world_lines.specs.Posted.{Posted, arrived, delivered_at, posted}
use Rattle.world_lines.specs.Due.{first_due, first_from, goes, is_among, lower}
use Rattle.world_lines.specs.Kept.{AreFirst, Ways, way, with_way}
use Rattle.world_lines.proofs.Firsts.{first_alike, first_moves, first_of_either, first_push}
use Rattle.world_lines.proofs.Firsts.{first_push_other}
use Rattle.world_lines.proofs.Firsts.{first_stays, first_stays_other}

-- ---- servers

abbrev alike : ServerId → ServerId → Bool
alike p q = same (place_of p) (place_of q)

pub alike_cases : (p q : ServerId) → (p ≡ q) ⊎ (alike p q ≡ false)
alike_cases Zero Zero = inl refl
alike_cases Zero One = inr refl
alike_cases Zero Two = inr refl
alike_cases One Zero = inr refl
alike_cases One One = inl refl
alike_cases One Two = inr refl
alike_cases Two Zero = inr refl
alike_cases Two One = inr refl
alike_cases Two Two = inl refl

pub alike_itself : (p : ServerId) → alike p p ≡ true
alike_itself Zero = refl
alike_itself One = refl
alike_itself Two = refl

-- ---- one value of three is set

put_here : {A : Type 0} (three : Trio A) (p : ServerId) (x : A)
    → value_of (with_value three p x) p ≡ x
put_here three Zero x = refl
put_here three One x = refl
put_here three Two x = refl

put_other : {A : Type 0} (three : Trio A) (p q : ServerId) (x : A) → alike q p ≡ false
    → value_of (with_value three p x) q ≡ value_of three q
put_other three Zero Zero x other = absurd cc
put_other three Zero One x other = refl
put_other three Zero Two x other = refl
put_other three One Zero x other = refl
put_other three One One x other = absurd cc
put_other three One Two x other = refl
put_other three Two Zero x other = refl
put_other three Two One x other = refl
put_other three Two Two x other = absurd cc

module _ (due : Ways) (from to : ServerId) (n : Option ℕ) where
  abbrev row : Trio (Option ℕ)
  row = with_value (value_of due from) to n

  set_here : way (with_way due from to n) from to ≡ n
  set_here = ap (λ (r : Trio (Option ℕ)). value_of r to) (put_here due from row)
      ∙ put_here (value_of due from) to n

  set_from_other : (f t : ServerId) → alike f from ≡ false
      → way (with_way due from to n) f t ≡ way due f t
  set_from_other f t other =
      ap (λ (r : Trio (Option ℕ)). value_of r t) (put_other due from f row other)

  set_to_other : (t : ServerId) → alike t to ≡ false
      → way (with_way due from to n) from t ≡ way due from t
  set_to_other t other = ap (λ (r : Trio (Option ℕ)). value_of r t) (put_here due from row)
      ∙ put_other (value_of due from) to t n other

-- ---- a packet goes one way

right_false : (a b : Bool) → b ≡ false → (a && b) ≡ false
right_false true b e = e
right_false false b e = refl

goes_so : (p : Posted) → goes p.packet.from p.packet.to p ≡ true
goes_so p = ap (λ b. b && alike p.packet.to p.packet.to) (alike_itself p.packet.from)
    ∙ alike_itself p.packet.to

from_another : (f t : ServerId) (p : Posted) → alike f p.packet.from ≡ false → goes f t p ≡ false
from_another f t p other = ap (λ b. b && alike t p.packet.to) other

to_another : (f t : ServerId) (p : Posted) → alike t p.packet.to ≡ false → goes f t p ≡ false
to_another f t p other = right_false (alike f p.packet.from) (alike t p.packet.to) other

-- where one way is set to what is first of it, and of the others the first stays
module _ (ps qs : List Posted) (due : Ways) (p : Posted) (n : Option ℕ) where
  pub one_set : AreFirst ps due
      → n ≡ first_from (goes p.packet.from p.packet.to) 0 qs
      → ((f t : ServerId) → goes f t p ≡ false
      → first_from (goes f t) 0 qs ≡ first_from (goes f t) 0 ps)
      → AreFirst qs (with_way due p.packet.from p.packet.to n)
  one_set first here others f t = elim (alike_cases f p.packet.from) [
    | inl same_from ↦ elim (alike_cases t p.packet.to) [
      | inl same_to ↦ rw (same_from, same_to)
          (set_here due p.packet.from p.packet.to n ∙ here)
      | inr other ↦ rw same_from (set_to_other due p.packet.from p.packet.to n t other
          ∙ first p.packet.from t
          ∙ sym (others p.packet.from t (to_another p.packet.from t p other)))
    ]
    | inr other ↦ set_from_other due p.packet.from p.packet.to n f t other ∙ first f t
        ∙ sym (others f t (from_another f t p other))
  ]

-- ---- a packet is sent

sent_last : (k : ℕ) (p : Posted) → p.delivered ≡ false → (b : Bool) → b ≡ true
    → (if b && not p.delivered then Some (0 + k) else None) ≡ Some k
sent_last k p waits b is = ap (λ d. if b && not d then Some (0 + k) else None) waits
    ∙ ap (λ c. if c && true then Some (0 + k) else None) is ∙ ap Some (omega arith)

pub first_sent : (ps : List Posted) (due : Ways) (from to : ServerId) (m : Message)
    → AreFirst ps due
    → AreFirst (ps ++ posted from to m ∷ [])
    (with_way due from to (option_or (way due from to) (Some (length ps))))
first_sent ps due from to m first =
    let p = posted from to m in
    one_set ps (ps ++ p ∷ []) due p (option_or (way due from to) (Some (length ps))) first
    (ap (λ o. option_or o (Some (length ps))) (first from to)
    ∙ ap (option_or (first_from (goes from to) 0 ps))
    (sym (sent_last (length ps) p refl (goes from to p) (goes_so p)))
    ∙ sym (first_push (goes from to) 0 ps p))
    (λ f t other. first_push_other (goes f t) 0 ps p other)

-- ---- a number compared

some_is : (o : Option ℕ) (n : ℕ) → option_eq eqb o (Some n) ≡ true → o ≡ Some n
some_is None n e = absurd cc
some_is (Some m) n e = ap Some (eqb-true m n e)

other_than : (o : Option ℕ) (n : ℕ) → option_eq eqb o (Some n) ≡ false → o ≡ Some n → ⊥
other_than None n e is = absurd cc
other_than (Some m) n e is = eqb-false m n e (same_Some m n is)

-- ---- a packet is delivered

-- what was packet n before it was delivered
pub before : (ps : List Posted) (n : ℕ) (q : Posted) → slice_get (delivered_at ps n) n ≡ Some q
    → (p : Posted) × (slice_get ps n ≡ Some p) × (arrived p ≡ q)
unfolding delivered_at
before [] n q at = absurd cc
before (x ∷ ps) zero q at = (x, refl, (let e : Some (arrived x) ≡ Some q = at in cc))
before (x ∷ ps) (suc n) q at = before ps n q at

-- it was the first that was due on its way
pub first_moved : (ps : List Posted) (due : Ways) (n : ℕ) (q : Posted) → AreFirst ps due
    → slice_get (delivered_at ps n) n ≡ Some q
    → way due q.packet.from q.packet.to ≡ Some n
    → AreFirst (delivered_at ps n) (with_way due q.packet.from q.packet.to
    (first_from (goes q.packet.from q.packet.to) (n + 1) (drop (n + 1) (delivered_at ps n))))
first_moved ps due n q first at is =
    let was = before ps n q at in
    let kind = goes q.packet.from q.packet.to in
    let none_before : 0 + suc n ≡ suc n = omega arith in
    let step : suc n ≡ n + 1 = omega arith in
    one_set ps (delivered_at ps n) due q (first_from kind (n + 1) (drop (n + 1) (delivered_at ps n)))
    first
    (sym (first_moves kind 0 ps n (sym (first q.packet.from q.packet.to) ∙ is
    ∙ ap Some (omega arith))
    ∙ ap (λ m. first_from kind m (drop (suc n) (delivered_at ps n))) none_before
    ∙ ap (λ m. first_from kind m (drop m (delivered_at ps n))) step))
    (λ f t other. first_stays_other (goes f t) (λ p. refl) 0 ps n was.0 was.1
    (ap (goes f t) was.2 ∙ other))

-- it wasn't
pub first_stood : (ps : List Posted) (due : Ways) (n : ℕ) (q : Posted) → AreFirst ps due
    → slice_get (delivered_at ps n) n ≡ Some q
    → (way due q.packet.from q.packet.to ≡ Some n → ⊥)
    → AreFirst (delivered_at ps n) due
first_stood ps due n q first at other f t =
    let was = before ps n q at in
    let away = λ (is : goes f t q ≡ false). first f t
    ∙ sym (first_stays_other (goes f t) (λ p. refl) 0 ps n was.0 was.1
    (ap (goes f t) was.2 ∙ is)) in
    elim (alike_cases f q.packet.from) [
      | inl same_from ↦ elim (alike_cases t q.packet.to) [
        | inl same_to ↦ first f t ∙ sym (first_stays (goes f t) 0 ps n (λ e. other
            (rw (← same_from, ← same_to) (first f t ∙ e ∙ ap Some (omega arith)))))
        | inr differs ↦ away (to_another f t q differs)
      ]
      | inr differs ↦ away (from_another f t q differs)
    ]

-- the same of what stands for the packets after it was delivered
module _ (ps qs : List Posted) (due : Ways) (n : ℕ) (q : Posted) where
  stands : qs ≡ delivered_at ps n → n < length qs → q ≡ get_or qs n q
      → slice_get (delivered_at ps n) n ≡ Some q
  stands is within at = sym (ap (λ (ys : List Posted). slice_get ys n) is)
      ∙ slice_get_read qs (length qs) n q refl within at

  pub moved : qs ≡ delivered_at ps n → AreFirst ps due → n < length qs → q ≡ get_or qs n q
      → option_eq eqb (way due q.packet.from q.packet.to) (Some n) ≡ true
      → AreFirst qs (with_way due q.packet.from q.packet.to
      (first_from (goes q.packet.from q.packet.to) (n + 1) (drop (n + 1) qs)))
  moved is first within at was =
      subst (λ (ys : List Posted). AreFirst ys (with_way due q.packet.from q.packet.to
      (first_from (goes q.packet.from q.packet.to) (n + 1) (drop (n + 1) ys)))) (sym is)
      (first_moved ps due n q first (stands is within at)
      (some_is (way due q.packet.from q.packet.to) n was))

  pub stood : qs ≡ delivered_at ps n → AreFirst ps due → n < length qs → q ≡ get_or qs n q
      → option_eq eqb (way due q.packet.from q.packet.to) (Some n) ≡ false → AreFirst qs due
  stood is first within at was =
      subst (λ (ys : List Posted). AreFirst ys due) (sym is)
      (first_stood ps due n q first (stands is within at)
      (other_than (way due q.packet.from q.packet.to) n was))

-- ---- nothing was sent

abbrev nothing : Trio (Option ℕ)
nothing = record { zero = None; one = None; two = None }

pub none_first : AreFirst [] (record { zero = nothing; one = nothing; two = nothing })
unfolding first_from
none_first Zero Zero = refl
none_first Zero One = refl
none_first Zero Two = refl
none_first One Zero = refl
none_first One One = refl
none_first One Two = refl
none_first Two Zero = refl
none_first Two One = refl
none_first Two Two = refl

-- ---- the next

pub next_among : (ps : List Posted) (due : Ways) (one other : ServerId) → AreFirst ps due
    → lower (way due one other) (way due other one) ≡ first_due (Some (one, other)) ps
next_among ps due one other first =
    ap (λ o. lower o (way due other one)) (first one other)
    ∙ ap (lower (first_from (goes one other) 0 ps)) (first other one)
    ∙ first_of_either (goes one other) (goes other one) 0 ps

abbrev comes : ServerId → Posted → Bool
comes p x = goes p Zero x || (goes p One x || goes p Two x)

abbrev three_of : (f g h : Posted → Bool) → Posted → Bool
three_of f g h x = f x || (g x || h x)

three : (f g h : Posted → Bool) (ps : List Posted) (a b c : Option ℕ) → a ≡ first_from f 0 ps
    → b ≡ first_from g 0 ps → c ≡ first_from h 0 ps
    → lower a (lower b c) ≡ first_from (three_of f g h) 0 ps
three f g h ps a b c ea eb ec =
    rw (ea, eb, ec) (ap (lower (first_from f 0 ps)) (first_of_either g h 0 ps)
    ∙ first_of_either f (λ x. g x || h x) 0 ps)

any_way : (from to : ServerId) (x : Posted) → x.packet.from ≡ from → x.packet.to ≡ to
    → three_of (comes Zero) (comes One) (comes Two) x ≡ true
any_way Zero Zero x f t = rw (f, t) refl
any_way Zero One x f t = rw (f, t) refl
any_way Zero Two x f t = rw (f, t) refl
any_way One Zero x f t = rw (f, t) refl
any_way One One x f t = rw (f, t) refl
any_way One Two x f t = rw (f, t) refl
any_way Two Zero x f t = rw (f, t) refl
any_way Two One x f t = rw (f, t) refl
any_way Two Two x f t = rw (f, t) refl

pub next_of_all : (ps : List Posted) (due : Ways) → AreFirst ps due
    → lower (lower (way due Zero Zero) (lower (way due Zero One) (way due Zero Two)))
    (lower (lower (way due One Zero) (lower (way due One One) (way due One Two)))
    (lower (way due Two Zero) (lower (way due Two One) (way due Two Two))))
    ≡ first_due None ps
next_of_all ps due first =
    let row = λ (p : ServerId). three (goes p Zero) (goes p One) (goes p Two) ps
    (way due p Zero) (way due p One) (way due p Two) (first p Zero) (first p One) (first p Two) in
    three (comes Zero) (comes One) (comes Two) ps _ _ _ (row Zero) (row One) (row Two)
    ∙ first_alike (three_of (comes Zero) (comes One) (comes Two)) (is_among None)
    (λ x. any_way x.packet.from x.packet.to x refl refl) 0 ps
