-- The first packet that is due, where packets come behind, or one is delivered.
use Rattle.std.proofs.Common.{◌≡◌, ℕ, zero, suc, ◌+◌, ◌<◌, ◌≤◌, ◌&&◌, ◌||◌, Bool, true, false, not}
use Rattle.std.proofs.Common.{List, [], ◌∷◌, ◌++◌, length, drop, Option, None, Some, refl, sym, ap}
use Rattle.std.proofs.Common.{◌∙◌, arith, drop-cons, get_or, set, if◌then◌else◌}
use Rattle.std.proofs.lemmas.List.{drop_all}
use Rattle.std.proofs.lemmas.List.Sums.{sum_by-cons}
use Rattle.std.specs.Prelude.{slice_get}
use Rattle.std.specs.Option.{option_or}
use Rattle.world_lines.specs.Posted.{Posted, arrived, bytes_of, bytes_sent, delivered_at}
use Rattle.world_lines.specs.Due.{first_from, lower}

abbrev Test : Type 0
Test = Posted → Bool

-- what is first where this is due, and the first of the others is that
abbrev pub one_then : Bool → ℕ → Option ℕ → Option ℕ
one_then due n rest = if due then Some n else rest

-- ---- more packets

-- the number of the last packet, where it is due
abbrev pub last_due : Test → ℕ → Posted → Option ℕ
last_due is_one n p = one_then (is_one p && not p.delivered) n None

or_none : (o : Option ℕ) → option_or o None ≡ o
or_none None = refl
or_none (Some n) = refl

pub first_push : (is_one : Test) (n : ℕ) (ps : List Posted) (p : Posted)
    → first_from is_one n (ps ++ p ∷ [])
    ≡ option_or (first_from is_one n ps) (last_due is_one (n + length ps) p)
unfolding first_from
first_push is_one n [] p = ap (λ k. last_due is_one k p) (omega arith)
first_push is_one n (x ∷ ps) p =
    let rest : first_from is_one (suc n) (ps ++ p ∷ [])
    ≡ option_or (first_from is_one (suc n) ps) (last_due is_one (n + suc (length ps)) p) =
    first_push is_one (suc n) ps p
    ∙ ap (λ k. option_or (first_from is_one (suc n) ps) (last_due is_one k p)) (omega arith) in
    by (is_one x && not x.delivered) rest
  where
    by : (b : Bool) → first_from is_one (suc n) (ps ++ p ∷ [])
        ≡ option_or (first_from is_one (suc n) ps) (last_due is_one (n + suc (length ps)) p)
        → one_then b n (first_from is_one (suc n) (ps ++ p ∷ []))
        ≡ option_or (one_then b n (first_from is_one (suc n) ps))
        (last_due is_one (n + suc (length ps)) p)
    by true rest = refl
    by false rest = rest

-- a packet of another kind changes nothing
pub first_push_other : (is_one : Test) (n : ℕ) (ps : List Posted) (p : Posted) → is_one p ≡ false
    → first_from is_one n (ps ++ p ∷ []) ≡ first_from is_one n ps
first_push_other is_one n ps p other = first_push is_one n ps p
    ∙ ap (λ b. option_or (first_from is_one n ps)
    (one_then (b && not p.delivered) (n + length ps) None)) other
    ∙ or_none (first_from is_one n ps)

-- ---- a packet is delivered

-- a test looks only at where packets go
abbrev IsOfPackets : Test → Type 0
IsOfPackets is_one = (p : Posted) → is_one (arrived p) ≡ is_one p

never : (b : Bool) → (b && not true) ≡ false
never true = refl
never false = refl

-- another packet than the first that is due
pub first_stays : (is_one : Test) (n : ℕ) (ps : List Posted) (k : ℕ)
    → (first_from is_one n ps ≡ Some (n + k) → ⊥)
    → first_from is_one n (delivered_at ps k) ≡ first_from is_one n ps
unfolding first_from delivered_at
first_stays is_one n [] k other = refl
first_stays is_one n (x ∷ ps) zero other =
    ap (λ b. one_then b n (first_from is_one (suc n) ps)) (never (is_one (arrived x)))
    ∙ by (is_one x && not x.delivered) (λ e. other (e ∙ ap Some (omega arith)))
  where
    by : (b : Bool) → (one_then b n (first_from is_one (suc n) ps) ≡ Some n → ⊥)
        → first_from is_one (suc n) ps ≡ one_then b n (first_from is_one (suc n) ps)
    by true other = absurd (other refl)
    by false other = refl
first_stays is_one n (x ∷ ps) (suc k) other =
    by (is_one x && not x.delivered) other
    (λ later. first_stays is_one (suc n) ps k (λ e. later (e ∙ ap Some (omega arith))))
  where
    by : (b : Bool) → (one_then b n (first_from is_one (suc n) ps) ≡ Some (n + suc k) → ⊥)
        → ((first_from is_one (suc n) ps ≡ Some (n + suc k) → ⊥)
        → first_from is_one (suc n) (delivered_at ps k) ≡ first_from is_one (suc n) ps)
        → one_then b n (first_from is_one (suc n) (delivered_at ps k))
        ≡ one_then b n (first_from is_one (suc n) ps)
    by true other stays = refl
    by false other stays = stays other

-- the first that is due: then the next of them is
pub first_moves : (is_one : Test) (n : ℕ) (ps : List Posted) (k : ℕ)
    → first_from is_one n ps ≡ Some (n + k)
    → first_from is_one n (delivered_at ps k)
    ≡ first_from is_one (n + suc k) (drop (suc k) (delivered_at ps k))
unfolding first_from delivered_at
first_moves is_one n [] k first = absurd cc
first_moves is_one n (x ∷ ps) zero first =
    ap (λ b. one_then b n (first_from is_one (suc n) ps)) (never (is_one (arrived x)))
    ∙ ap (λ m. first_from is_one m ps) (omega arith)
first_moves is_one n (x ∷ ps) (suc k) first =
    by (is_one x && not x.delivered)
    (first_from is_one (n + suc (suc k)) (drop (suc k) (delivered_at ps k))) first
    (λ e. first_moves is_one (suc n) ps k (e ∙ ap Some (omega arith))
    ∙ ap (λ m. first_from is_one m (drop (suc k) (delivered_at ps k))) (omega arith))
  where
    here : (a b : ℕ) → ◌≡◌ {A = Option ℕ} (Some a) (Some b) → a ≡ b
    here a b e = cc

    by : (b : Bool) (later : Option ℕ) → one_then b n (first_from is_one (suc n) ps) ≡ Some (n + suc k)
        → (first_from is_one (suc n) ps ≡ Some (n + suc k)
        → first_from is_one (suc n) (delivered_at ps k) ≡ later)
        → one_then b n (first_from is_one (suc n) (delivered_at ps k)) ≡ later
    by true later first moves = absurd (omega (arith, here n (n + suc k) first))
    by false later first moves = moves first

-- a packet of another kind
pub first_stays_other : (is_one : Test) → IsOfPackets is_one → (n : ℕ) (ps : List Posted) (k : ℕ)
    (p : Posted) → slice_get ps k ≡ Some p → is_one p ≡ false
    → first_from is_one n (delivered_at ps k) ≡ first_from is_one n ps
unfolding first_from delivered_at
first_stays_other is_one of n [] k p at other = refl
first_stays_other is_one of n (x ∷ ps) zero p at other =
    let same : x ≡ p = cc in
    let is : is_one x ≡ false = ap is_one same ∙ other in
    ap (λ b. one_then (b && false) n (first_from is_one (suc n) ps)) (of x ∙ is)
    ∙ sym (ap (λ b. one_then (b && not x.delivered) n (first_from is_one (suc n) ps)) is)
first_stays_other is_one of n (x ∷ ps) (suc k) p at other =
    ap (λ o. one_then (is_one x && not x.delivered) n o)
    (first_stays_other is_one of (suc n) ps k p at other)

-- ---- one packet after the other

next_from : (is_one : Test) (ps : List Posted) (n : ℕ) (p : Posted) → n < length ps
    → p ≡ get_or ps n p
    → first_from is_one n (drop n ps)
    ≡ one_then (is_one p && not p.delivered) n (first_from is_one (n + 1) (drop (n + 1) ps))
unfolding first_from
next_from is_one ps n p within is =
    let step : suc n ≡ n + 1 = omega arith in
    ap (first_from is_one n) (drop-cons ps n p within)
    ∙ ap (λ q. first_from is_one n (q ∷ drop (suc n) ps)) (sym is)
    ∙ ap (λ m. one_then (is_one p && not p.delivered) n (first_from is_one m (drop m ps))) step

-- it is due
pub found_from : (is_one : Test) (ps : List Posted) (n : ℕ) (p : Posted) → n < length ps
    → p ≡ get_or ps n p → (is_one p && not p.delivered) ≡ true
    → Some n ≡ first_from is_one n (drop n ps)
found_from is_one ps n p within is due =
    sym (next_from is_one ps n p within is
    ∙ ap (λ b. one_then b n (first_from is_one (n + 1) (drop (n + 1) ps))) due)

-- it isn't
pub passed_from : (is_one : Test) (ps : List Posted) (n : ℕ) (p : Posted) → n < length ps
    → p ≡ get_or ps n p → (is_one p && not p.delivered) ≡ false
    → first_from is_one (n + 1) (drop (n + 1) ps) ≡ first_from is_one n (drop n ps)
passed_from is_one ps n p within is due =
    sym (next_from is_one ps n p within is
    ∙ ap (λ b. one_then b n (first_from is_one (n + 1) (drop (n + 1) ps))) due)

pub none_from : (is_one : Test) (ps : List Posted) (n : ℕ) → length ps ≤ n
    → first_from is_one n (drop n ps) ≡ None
unfolding first_from
none_from is_one ps n past = ap (first_from is_one n) (drop_all n ps past)

-- ---- kinds of packets together

pub first_alike : (f g : Test) → ((p : Posted) → f p ≡ g p) → (n : ℕ) (ps : List Posted)
    → first_from f n ps ≡ first_from g n ps
unfolding first_from
first_alike f g alike n [] = refl
first_alike f g alike n (x ∷ ps) =
    ap (λ b. one_then (b && not x.delivered) n (first_from f (suc n) ps)) (alike x)
    ∙ ap (λ o. one_then (g x && not x.delivered) n o) (first_alike f g alike (suc n) ps)

-- the numbers are counted from n on
abbrev IsFrom : ℕ → Option ℕ → Type 0
IsFrom n None = Unit {0}
IsFrom n (Some m) = n ≤ m

from_on : (is_one : Test) (n : ℕ) (ps : List Posted) → IsFrom n (first_from is_one n ps)
unfolding first_from
from_on is_one n [] = tt
from_on is_one n (x ∷ ps) =
    by (is_one x && not x.delivered) (first_from is_one (suc n) ps) (from_on is_one (suc n) ps)
  where
    by : (b : Bool) (o : Option ℕ) → IsFrom (suc n) o → IsFrom n (one_then b n o)
    by true o h = omega arith
    by false None h = tt
    by false (Some m) h = omega (arith, h)

-- of packets of one of two kinds the lower of the first is the first
pub first_of_either : (f g : Test) (n : ℕ) (ps : List Posted)
    → lower (first_from f n ps) (first_from g n ps) ≡ first_from (λ p. f p || g p) n ps
unfolding first_from
first_of_either f g n [] = refl
first_of_either f g n (x ∷ ps) =
    by (f x) (g x) x.delivered (first_from f (suc n) ps) (first_from g (suc n) ps)
    (first_from (λ p. f p || g p) (suc n) ps) (from_on f (suc n) ps) (from_on g (suc n) ps)
    (first_of_either f g (suc n) ps)
  where
    left : (o : Option ℕ) → IsFrom (suc n) o → lower (Some n) o ≡ Some n
    left None h = refl
    left (Some m) h = ap Some (omega (arith, h))

    right : (o : Option ℕ) → IsFrom (suc n) o → lower o (Some n) ≡ Some n
    right None h = refl
    right (Some m) h = ap Some (omega (arith, h))

    by : (a b d : Bool) (o p q : Option ℕ) → IsFrom (suc n) o → IsFrom (suc n) p → lower o p ≡ q
        → lower (one_then (a && not d) n o) (one_then (b && not d) n p)
        ≡ one_then ((a || b) && not d) n q
    by true true true o p q ho hp e = e
    by true true false o p q ho hp e = ap Some (omega arith)
    by true false true o p q ho hp e = e
    by true false false o p q ho hp e = left p hp
    by false true true o p q ho hp e = e
    by false true false o p q ho hp e = right o ho
    by false false d o p q ho hp e = e

-- ---- what a delivery leaves

pub set_is : (ps : List Posted) (n : ℕ) (p : Posted) → n < length ps → p ≡ get_or ps n p
    → set ps n (arrived p) ≡ delivered_at ps n
unfolding delivered_at
set_is [] n p within is = absurd (omega (arith, within))
set_is (x ∷ ps) zero p within is = ap (λ y. arrived y ∷ ps) is
set_is (x ∷ ps) (suc n) p within is = ap (λ ys. x ∷ ys) (set_is ps n p (omega (arith, within)) is)

pub none_at : (ps : List Posted) (n : ℕ) → length ps ≤ n → ps ≡ delivered_at ps n
unfolding delivered_at
none_at [] n past = refl
none_at (x ∷ ps) zero past = absurd (omega (arith, past))
none_at (x ∷ ps) (suc n) past = ap (λ ys. x ∷ ys) (none_at ps n (omega (arith, past)))

pub bytes_stay : (ps : List Posted) (n : ℕ) → bytes_sent (delivered_at ps n) ≡ bytes_sent ps
unfolding delivered_at
bytes_stay [] n = refl
bytes_stay (x ∷ ps) zero = sum_by-cons bytes_of (arrived x) ps ∙ sym (sum_by-cons bytes_of x ps)
bytes_stay (x ∷ ps) (suc n) = sum_by-cons bytes_of x (delivered_at ps n)
    ∙ ap (λ k. bytes_of x + k) (bytes_stay ps n) ∙ sym (sum_by-cons bytes_of x ps)
