use Rattle.std.proofs.Common.{List, ℕ, ◌++◌, sym, ap, ◌∙◌}
use Rattle.text_writer.proofs.Hex.{all_groups, hex-some}
use Rattle.text_writer.proofs.digits.put_hex.Goals as goal

pub returns : goal.returns
returns c =
    let before = c.args.out.now.items in
    all_groups c.put_groups-3.new.out.items c.in_ok-_none._none.now _ c.in_ok-_none.ensures.0
    (c.in_ok-_none.ensures.1 ∙ c.in_ok-rest-2.ensures.1 ∙ c.in_ok-rest.ensures.1)
    ∙ ap (λ (x : List ℕ). before ++ x) (sym (hex-some c.args.bytes.now (sym c.is_empty.ensures ∙ c.if-is_empty.false)))
