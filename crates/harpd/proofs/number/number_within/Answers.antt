use Rattle.std.proofs.Common.{◌≡◌, ◌∙◌, sym, arith}
use Rattle.std.proofs.lemmas.Fmt.{decimal_injective}
use Rattle.harpd.proofs.number.number_within.Goals as goal

pub returns-then-number-least : goal.returns-then-number-least
returns-then-number-least c = λ n low high is.
    let same : n ≡ c.in_ok-number.number = decimal_injective n c.in_ok-number.number
    (omega (arith, high)) (omega arith) (sym is ∙ c.in_ok-number.ensures) in
    omega (arith, same, low, c.if-number-least.true)

pub returns-then-number-most : goal.returns-then-number-most
returns-then-number-most c = λ n low high is.
    let same : n ≡ c.in_ok-number.number = decimal_injective n c.in_ok-number.number
    (omega (arith, high)) (omega arith) (sym is ∙ c.in_ok-number.ensures) in
    omega (arith, same, high, c.if-number-most.true)
