-- Numbers in base 8 and base 10: what is read is spelled so, and what is spelled so is read.
use Rattle.std.proofs.Common.{◌≡◌, ℕ, zero, suc, ◌+◌, ◌-◌, ◌*◌, ◌/◌, ◌%◌, ◌^◌, ◌<◌, ◌≤◌, ◌⊎◌, inl, inr, Bool, false, cond, eqb, List, [], ◌∷◌, ◌++◌, length, get_or, drop, Option, Some, None, Ok, Err, refl, sym, ap, subst, ◌∙◌, append_assoc, arith}
use Rattle.std.proofs.lemmas.Bool.{cases_lt, eqb-true, eq-eqb, ne_eqb}
use Rattle.std.proofs.lemmas.List.{length-append, append-nil}
use Rattle.std.proofs.Math.Nat.{mul-le-mul_left}
use Rattle.std.proofs.lemmas.Fmt.{decimal_digit, decimal_step}
use Rattle.std.specs.Fmt.{digits}
use Rattle.schedule_text.specs.declared.fault.TextFault.TheVariants.{Grammar}
use Rattle.schedule_text.specs.Fields.{Read, longer, number_from, number_at}
use Rattle.schedule_text.proofs.Octal.{octal_digit, octal_step}
use Rattle.schedule_text.proofs.Places.{Spells, Spells-then, Spells-byte, Spells-from, head_at, drop_past, chosen, ok_is, read_of}

abbrev pub numeral : ℕ → ℕ → List ℕ
numeral base n = digits base false n

-- the digits of a base, and how a number is its front and its last digit
pub record IsBase (base : ℕ) : Type 0 where
  pub low : 2 ≤ base
  pub high : base ≤ 10
  pub one : (d : ℕ) → d < base → numeral base d ≡ (48 + d) ∷ []
  pub more : (n d : ℕ) → 0 < n → d < base → n * base + d < 10 ^ 18
      → numeral base (n * base + d) ≡ numeral base n ++ (48 + d) ∷ []
  pub split : (m : ℕ) → base ≤ m → (q : ℕ) × (d : ℕ) × (0 < q) × (q < m) × (d < base)
      × (m ≡ q * base + d)

pub base_ten : IsBase 10
base_ten = record {
  low = omega arith;
  high = omega arith;
  one = decimal_digit;
  more = λ n d some lt small.
      let front : (n * 10 + d) / 10 ≡ n = omega arith in
      let last : (n * 10 + d) % 10 ≡ d = omega arith in
      decimal_step (n * 10 + d) (omega arith) (omega arith)
      ∙ (λ i. numeral 10 (front i) ++ (48 + last i) ∷ []);
  split = λ m le. (m / 10, m % 10, omega arith, omega arith, omega arith, omega arith);
}

pub base_eight : IsBase 8
base_eight = record {
  low = omega arith;
  high = omega arith;
  one = octal_digit;
  more = λ n d some lt small.
      let front : (n * 8 + d) / 8 ≡ n = omega arith in
      let last : (n * 8 + d) % 8 ≡ d = omega arith in
      octal_step (n * 8 + d) (omega arith) (omega arith)
      ∙ (λ i. numeral 8 (front i) ++ (48 + last i) ∷ []);
  split = λ m le. (m / 8, m % 8, omega arith, omega arith, omega arith, omega arith);
}

-- ---- one more digit

pub longer_takes : (base most n b m : ℕ) → longer base most n b ≡ Some m → (d : ℕ) × (b ≡ 48 + d)
    × (d < base) × (m ≡ n * base + d) × (m ≤ most)
longer_takes base most n b m e =
    (b - 48, grind (arith), grind (arith), grind (arith), grind (arith))

pub longer_again : (base most n d : ℕ) → d < base → n * base + d ≤ most
    → longer base most n (48 + d) ≡ Some (n * base + d)
longer_again base most n d lt le = grind (arith)

pub longer_stops : (base most n b : ℕ) → (b < 48) ⊎ (48 + base ≤ b) → longer base most n b ≡ None
longer_stops base most n b h = grind (arith)

-- ---- what is read is spelled so

abbrev after_digit : ℕ → ℕ → List ℕ → ℕ → ℕ → Option ℕ → ℕ × ℕ
after_digit base most rest n at longer =
    elim longer [ None ↦ (n, at) | Some m ↦ number_from base most rest m (at + 1) ]

-- the digits that were read behind the number n, and what is left
pub record Reads (base most n : ℕ) (rest : List ℕ) (at : ℕ) (x : ℕ × ℕ) : Type 0 where
  pub digits : List ℕ
  pub left : List ℕ
  pub parts : rest ≡ digits ++ left
  pub place : x.1 ≡ at + length digits
  pub spelled : numeral base x.0 ≡ numeral base n ++ digits
  pub bound : x.0 ≤ most

from_takes : (base most : ℕ) → IsBase base → most < 10 ^ 18 → (rest : List ℕ) (n at : ℕ) → 0 < n
    → n ≤ most → Reads base most n rest at (number_from base most rest n at)
unfolding number_from
from_takes base most is small [] n at some le =
    record {
      digits = [];
      left = [];
      parts = refl;
      place = omega arith;
      spelled = sym (append-nil (numeral base n));
      bound = le;
    }
from_takes base most is small (b ∷ rest) n at some le =
    by (longer base most n b) refl (λ m. from_takes base most is small rest m (at + 1))
  where
    by : (o : Option ℕ) → longer base most n b ≡ o
        → ((m : ℕ) → 0 < m → m ≤ most
        → Reads base most m rest (at + 1) (number_from base most rest m (at + 1)))
        → Reads base most n (b ∷ rest) at (after_digit base most rest n at o)
    by None e on =
        record {
          digits = [];
          left = b
              ∷ rest;
          parts = refl;
          place = omega arith;
          spelled =
              sym (append-nil (numeral base n));
          bound = le;
        }
    by (Some m) e on =
        let t = longer_takes base most n b m e in
        let low : n * 2 ≤ n * base = mul-le-mul_left n is.low in
        let more = on m (omega (arith, t.3, low)) t.4 in
        let step : numeral base m ≡ numeral base n ++ b ∷ [] =
        ap (numeral base) t.3 ∙ is.more n t.0 some t.2 (omega (arith, t.3, t.4))
        ∙ ap (λ (c : ℕ). numeral base n ++ c ∷ []) (sym t.1) in
        record {
          digits = b ∷ more.digits;
          left = more.left;
          parts = ap (λ (l : List ℕ). b ∷ l) more.parts;
          place = omega (arith, more.place);
          spelled = more.spelled ∙ ap (λ (l : List ℕ). l ++ more.digits) step
              ∙ append_assoc (numeral base n) (b ∷ []) more.digits;
          bound = more.bound;
        }

abbrev first_digit : ℕ → ℕ → List ℕ → ℕ → Option ℕ → Read ℕ
first_digit base most line at o =
    elim o [
      | None ↦ Err (Grammar at)
      | Some n ↦ Ok (number_from base most (drop (at + 1) line) n (at + 1))
    ]

first_takes : (base most : ℕ) → IsBase base → most < 10 ^ 18
    → (line : List ℕ) (at : ℕ) (o : Option ℕ) (x : ℕ × ℕ)
    → longer base most 0 (get_or line at 0) ≡ o → (get_or line at 0 ≡ 48 → ⊥)
    → first_digit base most line at o ≡ Ok x
    → Spells line at (numeral base x.0) x.1 × (x.0 ≤ most)
first_takes base most is small line at None x longer-is nonzero e = absurd cc
first_takes base most is small line at (Some n) x longer-is nonzero e =
    let b = get_or line at 0 in
    let t = longer_takes base most 0 b n longer-is in
    let n-is : n ≡ t.0 = omega (arith, t.3) in
    let some : 0 < n = omega (arith, t.1, n-is, nonzero) in
    let r = from_takes base most is small (drop (at + 1) line) n (at + 1) some t.4 in
    let b-is : b ≡ 48 + n = omega (arith, t.1, n-is) in
    let one : numeral base n ≡ b ∷ [] =
    is.one n (omega (arith, n-is, t.2)) ∙ ap (λ (c : ℕ). c ∷ []) (sym b-is) in
    let y = number_from base most (drop (at + 1) line) n (at + 1) in
    let front : Spells line at (b ∷ []) (at + 1) =
    Spells-byte line at b refl (omega (arith, b-is)) in
    let back : Spells line (at + 1) r.digits y.1 =
    Spells-from line (at + 1) r.digits r.left y.1 r.parts r.place in
    let whole : Spells line at ((b ∷ []) ++ r.digits) y.1 =
    Spells-then line at (b ∷ []) (at + 1) r.digits y.1 front back in
    let text : (b ∷ []) ++ r.digits ≡ numeral base y.0 =
    ap (λ (l : List ℕ). l ++ r.digits) (sym one) ∙ sym r.spelled in
    subst (λ (z : ℕ × ℕ). Spells line at (numeral base z.0) z.1 × (z.0 ≤ most)) (ok_is y x e)
    (subst (λ (l : List ℕ). Spells line at l y.1) text whole, r.bound)

pub number_takes : (base most : ℕ) → IsBase base → most < 10 ^ 18
    → (line : List ℕ) (at : ℕ) (x : ℕ × ℕ) → number_at base most line at ≡ Ok x
    → Spells line at (numeral base x.0) x.1 × (x.0 ≤ most)
unfolding number_at
number_takes base most is small line at x e =
    elim (chosen (eqb (get_or line at 0) 48) (read_of 0 (at + 1))
    (first_digit base most line at (longer base most 0 (get_or line at 0))) (Ok x) e) [
      | inl naught ↦
          let one : 48 ∷ [] ≡ numeral base 0 = sym (is.one 0 (omega (arith, is.low))) in
          let here = Spells-byte line at 48 (eqb-true _ 48 naught.0) (omega arith) in
          subst (λ (z : ℕ × ℕ). Spells line at (numeral base z.0) z.1 × (z.0 ≤ most))
          (ok_is (0, at + 1) x naught.1)
          (subst (λ (l : List ℕ). Spells line at l (at + 1)) one here, omega arith)
      | inr other ↦ first_takes base most is small line at (longer base most 0 (get_or line at 0)) x
          refl (λ z. absurd_eqb (get_or line at 0) z other.0) other.1
    ]
  where
    absurd_eqb : (b : ℕ) → b ≡ 48 → eqb b 48 ≡ false → ⊥
    absurd_eqb b z other = let same = eq-eqb b 48 z in cc

-- ---- what is spelled so is read

-- no digit of the base stands here
abbrev pub StopsDigits : ℕ → List ℕ → Type 0
StopsDigits base [] = Unit {0}
StopsDigits base (b ∷ rest) = (b < 48) ⊎ (48 + base ≤ b)

from_stops : (base most : ℕ) (rest : List ℕ) (n at : ℕ) → StopsDigits base rest
    → number_from base most rest n at ≡ (n, at)
unfolding number_from
from_stops base most [] n at stops = refl
from_stops base most (b ∷ rest) n at stops =
    ap (after_digit base most rest n at) (longer_stops base most n b stops)

from_one : (base most : ℕ) (rest : List ℕ) (n d at : ℕ) → d < base → n * base + d ≤ most
    → number_from base most ((48 + d) ∷ rest) n at ≡ number_from base most rest (n * base + d)
    (at + 1)
unfolding number_from
from_one base most rest n d at lt le =
    ap (after_digit base most rest n at) (longer_again base most n d lt le)

-- the digits of a number are read, and the first of them isn't a zero
pub record Rereads (base most m : ℕ) : Type 0 where
  pub all : (rest : List ℕ) (at : ℕ)
      → number_from base most (numeral base m ++ rest) 0 at ≡ number_from base most rest m
      (at + length (numeral base m))
  pub first : ℕ
  pub others : List ℕ
  pub parts : numeral base m ≡ (48 + first) ∷ others
  pub digit : first < base
  pub nonzero : 0 < m → 0 < first
  pub least : first ≤ m

one_digit : (base most : ℕ) → IsBase base → (m : ℕ) → m < base → m ≤ most → Rereads base most m
one_digit base most is m lt within =
    let e : numeral base m ≡ (48 + m) ∷ [] = is.one m lt in
    record {
      all = λ rest at.
          let next : 0 * base + m ≡ m = omega arith in
          let len : at + length (numeral base m) ≡ at + 1 = ap (λ (l : List ℕ). at + length l) e in
          ap (λ (l : List ℕ). number_from base most (l ++ rest) 0 at) e
          ∙ from_one base most rest 0 m at lt (omega arith)
          ∙ (λ i. number_from base most rest (next i) (sym len i));
      first = m;
      others = [];
      parts = e;
      digit = lt;
      nonzero = λ some. some;
      least = omega arith;
    }

one_more : (base most : ℕ) → IsBase base → most < 10 ^ 18 → (m q d : ℕ) → 0 < q → q < m → d < base
    → m ≡ q * base + d → m ≤ most → Rereads base most q → Rereads base most m
one_more base most is small m q d some below lt m-is within r =
    let e : numeral base m ≡ numeral base q ++ (48 + d) ∷ [] =
    ap (numeral base) m-is ∙ is.more q d some lt (omega arith) in
    record {
      all = λ rest at.
          let len : at + length (numeral base q) + 1 ≡ at + length (numeral base m) =
          omega (arith, ap length e, length-append (numeral base q) ((48 + d) ∷ [])) in
          ap (λ (l : List ℕ). number_from base most (l ++ rest) 0 at) e
          ∙ ap (λ (l : List ℕ). number_from base most l 0 at)
          (append_assoc (numeral base q) ((48 + d) ∷ []) rest)
          ∙ r.all ((48 + d) ∷ rest) at
          ∙ from_one base most rest q d (at + length (numeral base q)) lt (omega arith)
          ∙ (λ i. number_from base most rest (sym m-is i) (len i));
      first = r.first;
      others = r.others ++ (48 + d) ∷ [];
      parts = e ∙ ap (λ (l : List ℕ). l ++ (48 + d) ∷ []) r.parts;
      digit = r.digit;
      nonzero = λ _. r.nonzero some;
      least = omega (arith, r.least);
    }

rereads_by : (base most : ℕ) → IsBase base → most < 10 ^ 18 → (k m : ℕ) → m ≤ k → m ≤ most
    → Rereads base most m
rereads_by base most is small zero m le within =
    one_digit base most is m (omega (arith, is.low)) within
rereads_by base most is small (suc k) m le within =
    elim (cases_lt m base) [
      | inl lt ↦ one_digit base most is m lt within
      | inr more ↦
          let s = is.split m more in
          one_more base most is small m s.0 s.1 s.2 s.3 s.4 s.5 within
          (rereads_by base most is small k s.0 (omega (arith, s.3)) (omega (arith, s.3)))
    ]

pub rereads : (base most : ℕ) → IsBase base → most < 10 ^ 18 → (m : ℕ) → m ≤ most
    → Rereads base most m
rereads base most is small m within = rereads_by base most is small m m (omega arith) within

pub number_again : (base most : ℕ) → IsBase base → most < 10 ^ 18
    → (line : List ℕ) (at m : ℕ) (rest : List ℕ) → m ≤ most → StopsDigits base rest
    → drop at line ≡ numeral base m ++ rest
    → number_at base most line at ≡ Ok (m, at + length (numeral base m))
unfolding number_at
number_again base most is small line at m rest within stops e =
    elim (cases_lt 0 m) [ inl some ↦ positive some | inr none ↦ zero_again (omega arith) ]
  where
    r : Rereads base most m
    r = rereads base most is small m within

    here : get_or line at 0 ≡ 48 + r.first
    here = head_at line at ((48 + r.first) ∷ (r.others ++ rest))
        (e ∙ ap (λ (l : List ℕ). l ++ rest) r.parts)

    zero_again : m ≡ 0 → number_at base most line at ≡ Ok (m, at + length (numeral base m))
    zero_again none =
        let one : numeral base m ≡ 48 ∷ [] =
        ap (numeral base) none ∙ is.one 0 (omega (arith, is.low)) in
        let byte : get_or line at 0 ≡ 48 =
        head_at line at (48 ∷ rest) (e ∙ ap (λ (l : List ℕ). l ++ rest) one) in
        let len : at + 1 ≡ at + length (numeral base m) =
        ap (λ (l : List ℕ). at + length l) (sym one) in
        ap (λ (b : Bool). cond b (read_of 0 (at + 1))
        (first_digit base most line at (longer base most 0 (get_or line at 0))))
        (eq-eqb _ 48 byte) ∙ (λ i. read_of (sym none i) (len i))

    positive : 0 < m → number_at base most line at ≡ Ok (m, at + length (numeral base m))
    positive some =
        let first = r.first in
        let digit = r.digit in
        let nonzero : 0 < first = r.nonzero some in
        let other : eqb (get_or line at 0) 48 ≡ false =
        ne_eqb _ 48 (λ z. omega (arith, here, nonzero)) in
        let before = r.all rest at in
        let behind : drop (at + 1) line ≡ r.others ++ rest =
        drop_past line at ((48 + first) ∷ []) (r.others ++ rest)
        (e ∙ ap (λ (l : List ℕ). l ++ rest) r.parts) in
        let v = 0 * base + first in
        let one : longer base most 0 (get_or line at 0) ≡ Some v =
        ap (longer base most 0) here
        ∙ longer_again base most 0 first digit (omega (arith, r.least)) in
        let end = at + length (numeral base m) in
        let on : number_from base most (drop (at + 1) line) v (at + 1) ≡ (m, end) =
        ap (λ (l : List ℕ). number_from base most l v (at + 1)) behind
        ∙ sym (from_one base most (r.others ++ rest) 0 first at digit (omega (arith, r.least)))
        ∙ ap (λ (l : List ℕ). number_from base most (l ++ rest) 0 at) (sym r.parts) ∙ before
        ∙ from_stops base most rest m end stops in
        ap (λ (b : Bool). cond b (read_of 0 (at + 1))
        (first_digit base most line at (longer base most 0 (get_or line at 0)))) other
        ∙ ap (first_digit base most line at) one
        ∙ ap (λ (x : ℕ × ℕ). read_of x.0 x.1) on
