use Rattle.std.proofs.Common.{rules, arith, ℕ, ◌+◌, ◌/◌, ◌%◌, List, [], ◌∷◌, ◌++◌, ap, sym, ◌∙◌, append_assoc}
use Rattle.text_spelling.specs.Text.{octal}
use Rattle.text_writer.proofs.Octal.{octal_digit, octal_step}
use Rattle.text_writer.proofs.put.+put_octal.Goals as goal

pub returns-then-n-lt8 : goal.returns-then-n-lt8
returns-then-n-lt8 t c = search (rules, octal_digit)

pub returns : goal.returns
returns t c =
    let n = c.args.n in
    let before = c.args.out.now.items in
    let last = (48 + n % 8) ∷ [] in
    c.in_ok-push-2.ensures.items ∙ ap (λ (x : List ℕ). x ++ last) c.in_ok-put_octal.ensures
    ∙ append_assoc before (octal (n / 8)) last ∙ ap (λ (x : List ℕ). before ++ x)
    (sym (octal_step n (omega (arith, c.if-n-lt8.false)) c.ranges.n.fits))
