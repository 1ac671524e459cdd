use Rattle.std.proofs.Common.{◌≡◌, true, false, is_some, sym, ap, ◌∙◌}
use Rattle.std.proofs.lemmas.Result.{IfOk-weaker}
use Rattle.trace_check.specs.declared.under_way.Reading.{Reading}
use Rattle.trace_check.proofs.UnderWayLemmas.{enters_by, enters_is, not_first}
use Rattle.trace_check.proofs.under_way.UnderWay.is_reply.Goals as goal

pub returns-in_default-entered : goal.returns-in_default-entered
returns-in_default-entered c before cred call a r =
    let e = enters_is c.args.self.now before c.args.client c.args.number cred call
    c.args.reply.now a (ap is_some r) in (
      λ t. absurd cc,
      λ h. let w = e.1 h in absurd (not_first w.entry (sym c.in_default-entered.is ∙ w.is)),
    )

pub returns-then-entry-client : goal.returns-then-entry-client
returns-then-entry-client c before cred call a r =
    let e = enters_is c.args.self.now before c.args.client c.args.number cred call
    c.args.reply.now a (ap is_some r) in
    let by = enters_by c.args.self.now.entered c.in-Some-entered.entry c.args.client c.args.number
    cred call c.args.reply.now c.in-Some-entered.is in
    (λ t. absurd cc, λ h. absurd (c.if-entry-client.true (by (e.1 h)).0))

pub returns-then-entry-number : goal.returns-then-entry-number
returns-then-entry-number c before cred call a r =
    let e = enters_is c.args.self.now before c.args.client c.args.number cred call
    c.args.reply.now a (ap is_some r) in
    let by = enters_by c.args.self.now.entered c.in-Some-entered.entry c.args.client c.args.number
    cred call c.args.reply.now c.in-Some-entered.is in
    (λ t. absurd cc, λ h. absurd (c.if-entry-number.true (by (e.1 h)).1))

pub returns-then-not-same_cred : goal.returns-then-not-same_cred
returns-then-not-same_cred c before cred call a r =
    let e = enters_is c.args.self.now before c.args.client c.args.number cred call
    c.args.reply.now a (ap is_some r) in
    let by = enters_by c.args.self.now.entered c.in-Some-entered.entry c.args.client c.args.number
    cred call c.args.reply.now c.in-Some-entered.is in
    let i = c.in-Some.is in
    let read : c.in-Some.reading ≡ record { cred = cred; call = call } = cc in
    let cred_is = ap (λ (x : Reading). x.cred) read in
    let call_is = ap (λ (x : Reading). x.call) read in
    let other : c.same_cred.result ≡ false = c.if-not-same_cred.true in
    (λ t. absurd cc, λ h. sym other ∙ c.same_cred.ensures.1 ((by (e.1 h)).2 ∙ sym cred_is))

pub returns-then-not-branch : goal.returns-then-not-branch
returns-then-not-branch c before cred call a r =
    let e = enters_is c.args.self.now before c.args.client c.args.number cred call
    c.args.reply.now a (ap is_some r) in
    let by = enters_by c.args.self.now.entered c.in-Some-entered.entry c.args.client c.args.number
    cred call c.args.reply.now c.in-Some-entered.is in
    let i = c.in-Some.is in
    let read : c.in-Some.reading ≡ record { cred = cred; call = call } = cc in
    let cred_is = ap (λ (x : Reading). x.cred) read in
    let call_is = ap (λ (x : Reading). x.call) read in
    let same = c.in_ok-same_call.ensures in
    let other : c.in_ok-same_call.field-0 ≡ false = c.if-not-branch.true in
    (λ t. absurd cc, λ h. sym other ∙ same.1 ((by (e.1 h)).3 ∙ sym call_is))

pub returns : goal.returns
returns c before cred call a r =
    let e = enters_is c.args.self.now before c.args.client c.args.number cred call
    c.args.reply.now a (ap is_some r) in
    let by = enters_by c.args.self.now.entered c.in-Some-entered.entry c.args.client c.args.number
    cred call c.args.reply.now c.in-Some-entered.is in
    let i = c.in-Some.is in
    let read : c.in-Some.reading ≡ record { cred = cred; call = call } = cc in
    let cred_is = ap (λ (x : Reading). x.cred) read in
    let call_is = ap (λ (x : Reading). x.call) read in
    let same = c.in_ok-same_call.ensures in
    let one_cred : c.same_cred.result ≡ true = c.if-not-same_cred.false in
    let one_call : c.in_ok-same_call.field-0 ≡ true = c.if-not-branch.false in
    IfOk-weaker c.same_reply.result _ _
    (λ is s. (
      λ t. e.0 (record {
        entry = c.in-Some-entered.entry;
        is = c.in-Some-entered.is;
        client_is = c.if-entry-client.false;
        number_is = c.if-entry-number.false;
        cred_is = c.same_cred.ensures.0 one_cred ∙ cred_is;
        call_is = same.0 one_call ∙ call_is;
        reply_is = s.0 t;
      }),
      λ h. s.1 (by (e.1 h)).4,
    )) c.same_reply.ensures
