use Rattle.std.proofs.Common.{◌/◌, ◌%◌, ◌+◌, List, ℕ, [], ◌∷◌, ◌++◌, ap, sym, ◌∙◌, append_assoc, arith}
use Rattle.itoa.proofs.Decimal.{pair}
use Rattle.text_writer.proofs.Numerals.{three, four}
use Rattle.text_writer.proofs.decimals.push_short.Goals as goal

pub returns-then-n-lt1000-clause-items : goal.returns-then-n-lt1000-clause-items
returns-then-n-lt1000-clause-items c =
    let n = c.args.n in
    let old = c.args.out.now.items in
    let first : List ℕ = (48 + n / 100) ∷ [] in
    c.push_two-then-n-lt1000.ensures.items
    ∙ ap (λ (x : List ℕ). x ++ pair (n % 100)) c.push_one-then-n-lt1000.ensures.items
    ∙ append_assoc old first (pair (n % 100))
    ∙ ap (λ (x : List ℕ). old ++ x) (sym (three n (omega arith) (omega arith)))

pub returns-clause-items : goal.returns-clause-items
returns-clause-items c =
    let n = c.args.n in
    let old = c.args.out.now.items in
    c.push_four.ensures.items ∙ append_assoc old (pair (n / 100)) (pair (n % 100))
    ∙ ap (λ (x : List ℕ). old ++ x) (sym (four n (omega arith) (omega arith)))
