-- The digits of a number by their count, and the last four digits of a longer one.
use Rattle.std.proofs.Common.{◌≡◌, ◌<◌, ◌≤◌, ℕ, ◌+◌, ◌/◌, ◌%◌, ◌^◌, List, [], ◌∷◌, ◌++◌, length, ap, ◌∙◌, arith, length-append}
use Rattle.std.specs.Prelude.{decimal}
use Rattle.std.proofs.lemmas.Fmt.{decimal_digit, length-decimal-le}
use Rattle.itoa.proofs.Decimal.{pair, decimal_two, decimal_pair, decimal_four}

pub one : (n : ℕ) → n < 10 → decimal n ≡ (48 + n) ∷ []
one n small = decimal_digit n small

pub two : (n : ℕ) → 10 ≤ n → n < 100 → decimal n ≡ pair n
two n large small = decimal_two n large small

pub three : (n : ℕ) → 100 ≤ n → n < 1000
    → decimal n ≡ (48 + n / 100) ∷ (48 + n % 100 / 10) ∷ (48 + n % 100 % 10) ∷ []
three n large small =
    decimal_pair n large (omega (arith, small))
    ∙ ap (λ (l : List ℕ). l ++ pair (n % 100)) (decimal_digit (n / 100) (omega (arith, small)))

pub four : (n : ℕ) → 1000 ≤ n → n < 10000 → decimal n ≡ pair (n / 100) ++ pair (n % 100)
four n large small =
    decimal_pair n (omega (arith, large)) (omega (arith, small))
    ∙ ap (λ (l : List ℕ). l ++ pair (n % 100))
    (decimal_two (n / 100) (omega (arith, large)) (omega (arith, small)))

pub more : (n : ℕ) → 10000 ≤ n → n < 2 ^ 64 → decimal n
    ≡ decimal (n / 10000) ++ (pair (n % 10000 / 100) ++ pair (n % 10000 % 100))
more n large small = decimal_four n large small

pub more_long : (n : ℕ) → 10000 ≤ n → n < 2 ^ 64
    → length (decimal n) ≡ length (decimal (n / 10000)) + 4
more_long n large small = ap length (more n large small) ∙ length-append _ _

pub at_most_twenty : (n : ℕ) → n < 2 ^ 64 → length (decimal n) ≤ 20
at_most_twenty n small = length-decimal-le 20 n (omega arith) (omega (arith, small)) small
