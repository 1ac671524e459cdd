use Rattle.std.proofs.Common.{◌≡◌, ◌+◌, true, length, arith}
use Rattle.std.proofs.lemmas.Result.{IfOk-weaker}
use Rattle.trace_claims.specs.Trace.{entries}
use Rattle.trace_check.proofs.checker.is_in_order.Goals as goal

pub returns : goal.returns
returns c before h book a =
    let next_is : c.is_next.result ≡ true = c.if-not-is_next.false in
    let above = c.if-place-eq0.false in
    let same = c.if-place-entered.false in
    let count = c.entered.ensures in
    let entered = h.entered in
    let numbered : c.args.place ≡ length (entries before) + 1 =
    omega (arith, above, same, count, entered) in
    IfOk-weaker c.was_asked.result _ _
    (λ was w. (
      λ t. record {
        numbered = numbered;
        next = (c.is_next.ensures (entries before) h book).0 next_is;
        asked = w.0 t;
      },
      λ o. w.1 o.asked,
    )) (c.was_asked.ensures before c.args.place a)
