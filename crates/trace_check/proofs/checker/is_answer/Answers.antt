use Rattle.std.proofs.Common.{sym, ◌∙◌}
use Rattle.std.proofs.lemmas.Result.{IfOk-weaker}
use Rattle.trace_claims.specs.Trace.{entries, step_under_way}
use Rattle.trace_check.proofs.CheckerLemmas.{kept_reply, none_of, reply_reading, reply_update, some_of}
use Rattle.trace_check.proofs.checker.is_answer.Goals as goal

pub returns-then-is_reading : goal.returns-then-is_reading
returns-then-is_reading c before h book u =
    let w = some_of c.args.under_way.now.reading (sym c.is_reading.ensures ∙ c.if-is_reading.true) in
    let m = reply_reading (step_under_way before) w.0 (sym u.reading ∙ w.1) before c.args.client
    c.args.number c.args.index c.args.reply.now in
    IfOk-weaker c.is_reply.result _ _ (λ is p. (λ t. m.1 (p.0 t), λ r. p.1 (m.0 r)))
    (c.is_reply.ensures before w.0.cred w.0.call u w.1)

pub returns-else-is_reading : goal.returns-else-is_reading
returns-else-is_reading c before h book u =
    let none = none_of c.args.under_way.now.reading
    (sym c.is_reading.ensures ∙ c.if-is_reading.false) in
    let m = reply_update (step_under_way before) (sym u.reading ∙ none) before c.args.client
    c.args.number c.args.index c.args.reply.now in
    let k = kept_reply before c.args.client c.args.number c.args.index c.args.reply.now in
    IfOk-weaker c.has_reply.result _ _
    (λ is p. (λ t. m.1 (k.0 (p.0 t)), λ r. p.1 (k.1 (m.0 r))))
    (c.has_reply.ensures (entries before) h book)
