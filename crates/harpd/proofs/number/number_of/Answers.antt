use Rattle.std.proofs.Common.{◌≡◌, ◌∙◌, ap, sym, Ok, Err, decimal}
use Rattle.std.proofs.lemmas.Fmt.{parse-decimal}
use Rattle.std.specs.Cmp.Lexicographic.{other_text}
use Rattle.harpd.proofs.number.number_of.Goals as goal

pub returns-in_default : goal.returns-in_default
returns-in_default c = λ n small is.
    let parsed = parse-decimal 64 n c.args.word.now c.parse.result small small is
    c.parse.ensures.value.0 in
    let clash : Err c.in_default.field-0 ≡ Ok n = sym c.in_default.is ∙ parsed in
    absurd cc

pub returns-else-eq : goal.returns-else-eq
returns-else-eq c = λ n small is.
    let parsed = parse-decimal 64 n c.args.word.now c.parse.result small small is
    c.parse.ensures.value.0 in
    let both : Ok c.in-Ok.number ≡ Ok n = sym c.in-Ok.is ∙ parsed in
    let same : c.in-Ok.number ≡ n = cc in
    other_text c.format.result.now c.args.word.now c.if-eq.ensures
    (c.format.ensures.text ∙ ap decimal same ∙ sym is)
