use Rattle.std.proofs.Common.{◌/◌, ◌%◌, List, ℕ, ◌++◌, decimal, ap, sym, ◌∙◌, append_assoc, arith}
use Rattle.itoa.proofs.Decimal.{pair}
use Rattle.text_writer.proofs.Numerals.{more}
use Rattle.text_writer.proofs.decimals.+push_digits.Goals as goal

pub returns-clause-items : goal.returns-clause-items
returns-clause-items t c =
    let n = c.args.n in
    let old = c.args.out.now.items in
    let front = c.push_digits.new.out.items in
    let high = pair (n % 10000 / 100) in
    let low = pair (n % 10000 % 100) in
    c.push_four.ensures.items ∙ append_assoc front high low
    ∙ ap (λ (x : List ℕ). x ++ (high ++ low)) c.push_digits.ensures.items
    ∙ append_assoc old (decimal (n / 10000)) (high ++ low)
    ∙ ap (λ (x : List ℕ). old ++ x) (sym (more n (omega arith) (omega arith)))
