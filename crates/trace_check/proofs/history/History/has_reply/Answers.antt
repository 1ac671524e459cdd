use Rattle.std.proofs.Common.{◌-◌, length, get_or, arith, ap, ◌∙◌}
use Rattle.std.proofs.lemmas.Result.{IfOk-weaker}
use Rattle.trace_check.proofs.HistoryLemmas.{kept_is, no_place, reply_place}
use Rattle.trace_check.proofs.history.History.has_reply.Goals as goal

pub returns-then-index-eq0 : goal.returns-then-index-eq0
returns-then-index-eq0 c entries h book = (
  λ t. absurd cc,
  λ r. let p = reply_place entries c.args.client c.args.number c.args.index c.args.reply.now book r in
      let zero = c.if-index-eq0.true in
      absurd (omega (arith, p.2, zero)),
)

pub returns-in_default : goal.returns-in_default
returns-in_default c entries h book =
    let past = c.in_default.ensures.lookup.3 in
    let same = ap length c.deref.ensures.value in (
      λ t. absurd cc,
      λ r. absurd (no_place c.args.self.now entries c.args.client c.args.number c.args.index
          c.args.reply.now h book (omega (arith, past, same)) r),
    )

pub returns-then-kept-client : goal.returns-then-kept-client
returns-then-kept-client c entries h book =
    let items = c.deref.ensures.value in
    let same = ap length items in
    let lt = c.in-Some.ensures.lookup.3.0 in
    let k = kept_is c.args.self.now entries c.args.client c.args.number c.args.index
    c.args.reply.now c.in-Some.kept.now h book c.if-index-eq0.false (omega (arith, lt, same))
    (c.in-Some.ensures.lookup.1
    ∙ ap (λ ks. get_or ks (c.args.index - 1) c.in-Some.kept.now) items) in (
      λ t. absurd cc,
      λ r. absurd (c.if-kept-client.true (k.0 r).0),
    )

pub returns-then-kept-number : goal.returns-then-kept-number
returns-then-kept-number c entries h book =
    let items = c.deref.ensures.value in
    let same = ap length items in
    let lt = c.in-Some.ensures.lookup.3.0 in
    let k = kept_is c.args.self.now entries c.args.client c.args.number c.args.index
    c.args.reply.now c.in-Some.kept.now h book c.if-index-eq0.false (omega (arith, lt, same))
    (c.in-Some.ensures.lookup.1
    ∙ ap (λ ks. get_or ks (c.args.index - 1) c.in-Some.kept.now) items) in (
      λ t. absurd cc,
      λ r. absurd (c.if-kept-number.true (k.0 r).1),
    )

pub returns : goal.returns
returns c entries h book =
    let items = c.deref.ensures.value in
    let same = ap length items in
    let lt = c.in-Some.ensures.lookup.3.0 in
    let k = kept_is c.args.self.now entries c.args.client c.args.number c.args.index
    c.args.reply.now c.in-Some.kept.now h book c.if-index-eq0.false (omega (arith, lt, same))
    (c.in-Some.ensures.lookup.1
    ∙ ap (λ ks. get_or ks (c.args.index - 1) c.in-Some.kept.now) items) in
    IfOk-weaker c.same_reply.result _ _
    (λ found s. (
      λ t. k.1 (c.if-kept-client.false, c.if-kept-number.false, s.0 t),
      λ r. s.1 (k.0 r).2,
    )) c.same_reply.ensures
