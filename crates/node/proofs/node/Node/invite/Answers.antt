use Rattle.std.proofs.Common.{Option, [], inl, le_refl, refl, sym, ◌∙◌, ap}
use Rattle.std.specs.Prelude.{option_map, ⊤}
use Rattle.group_rules.specs.Names.{number_of_view, place_of}
use Rattle.group_rules.specs.State.{NoDuty, Server}
use Rattle.view_form.specs.Choice.{report}
use Rattle.view_form.specs.declared.join.JoinInfo.{JoinInfo}
use Rattle.file_tree.specs.Book.{Entry}
use Rattle.node.proofs.Handled.{acts_idle, acts_so, acts_then, fails_as, fails_memory, fails_so, fails_then, part_then_more, then_moves}
use Rattle.node.proofs.Joined.{invited, invited_again, invites, joined_acts, joined_fails, joins, telling_acts, tells, tells_quiet, told_again, uninvited}
use Rattle.node.proofs.Saying.{part_so}
use Rattle.node.proofs.node.Node.invite.Goals as goal

pub returns-in_err-join-clause-handles : goal.returns-in_err-join-clause-handles
returns-in_err-join-clause-handles g c clock =
    let now = c.args.self.now in
    let from = place_of c.args.from in
    let v = number_of_view c.args.view in
    let disk = g.D.Store.told c.args.store.now in
    let left = g.D.Store.told c.join.new.store in
    let faults = g.D.Store.faults c.args.store.now in
    let risen = g.D.Store.faults c.join.new.store in
    let why = c.in_err-join.field-0.0 in
    fails_as c.from_residual.result why _ _ _ _ _ _ _ _ _ _ _ _ _
    c.from_residual.ensures.1
    (fails_so (invites from v) (then_moves clock (joins v NoDuty) (tells from v)) now
    c.join.new.self disk left faults risen why
    (invited clock now from v (sym c.is_new.ensures ∙ c.if-is_new.true))
    (fails_then clock (joins v NoDuty) (tells from v) now c.join.new.self disk left faults risen why
    (joined_fails c.join.result c.args.view NoDuty now c.join.new.self disk left faults risen why
    c.in_err-join.was c.join.ensures.stays.me c.in_err-join.ensures.part
    c.join.ensures.faults.running c.join.ensures.faults.counts.rose) (tells_quiet from v)))

pub returns-in_err-join-clause-count : goal.returns-in_err-join-clause-count
returns-in_err-join-clause-count g c = c.join.ensures.faults.counts.count

pub returns-in_err-send-clause-handles : goal.returns-in_err-send-clause-handles
returns-in_err-send-clause-handles g c clock =
    let now = c.args.self.now in
    let from = place_of c.args.from in
    let v = number_of_view c.args.view in
    fails_memory c.from_residual-in_err-send.result _ _ _ _ _ _ _ _ _ _ _ _ _
    c.from_residual-in_err-send.ensures.1 c.join.ensures.stays.me
    (part_so now.mark _ _ (g.D.Store.told c.args.store.now) (g.D.Store.told c.join.new.store)
    (invited clock now from v (sym c.is_new.ensures ∙ c.if-is_new.true) now.plain.saved)
    (part_then_more ⊤ clock (joins v NoDuty) (tells from v) [] [] now c.join.new.self
    c.args.outs.now c.args.outs.now (g.D.Store.told c.args.store.now)
    (g.D.Store.told c.join.new.store) (joined_acts clock c.args.view NoDuty c.args.self.now
    c.join.new.self c.args.outs.now
    (g.D.Store.told c.args.store.now) (g.D.Store.told c.join.new.store)
    c.in_ok-join.ensures.state c.join.ensures.stays.me c.in_ok-join.ensures.stays.up
    c.in_ok-join.ensures.stock c.in_ok-join.ensures.stays.cached c.in_ok-join.ensures.mark
    c.in_ok-join.ensures.written) (tells_quiet from v)))

pub returns-in_err-send-clause-count : goal.returns-in_err-send-clause-count
returns-in_err-send-clause-count g c = c.join.ensures.faults.counts.count

pub returns-then-is_new-clause-handles : goal.returns-then-is_new-clause-handles
returns-then-is_new-clause-handles g c clock =
    let now = c.args.self.now in
    let mid = c.join.new.self in
    let from = place_of c.args.from in
    let v = number_of_view c.args.view in
    let disk = g.D.Store.told c.args.store.now in
    let left = g.D.Store.told c.join.new.store in
    let reported = c.report-info.ensures ∙ sym (ap (λ (s : Server Entry). s.report)
    (c.in_ok-join.ensures.state [])) in
    acts_so ⊤ clock (invites from v) (then_moves clock (joins v NoDuty) (tells from v)) [] [] now
    mid c.args.outs.now c.send.new.self disk left
    (invited clock now from v (sym c.is_new.ensures ∙ c.if-is_new.true))
    (acts_then ⊤ clock (joins v NoDuty) (tells from v) [] [] now mid mid c.args.outs.now
    c.args.outs.now c.send.new.self disk left left (joined_acts clock c.args.view NoDuty
    c.args.self.now c.join.new.self c.args.outs.now
    (g.D.Store.told c.args.store.now) (g.D.Store.told c.join.new.store)
    c.in_ok-join.ensures.state c.join.ensures.stays.me c.in_ok-join.ensures.stays.up
    c.in_ok-join.ensures.stock c.in_ok-join.ensures.stays.cached c.in_ok-join.ensures.mark
    c.in_ok-join.ensures.written)
    (telling_acts clock mid from v (report c.report-info.result) _ c.args.outs.now
    c.send.new.self left c.in_ok-join.ensures.stays.up c.join_message.ensures reported
    c.in_ok-send.ensures.said) (tells_quiet from v))

pub returns-then-is_new-clause-count : goal.returns-then-is_new-clause-count
returns-then-is_new-clause-count g c = c.join.ensures.faults.counts.count

pub returns-in_err-send-in-Some-clause-handles : goal.returns-in_err-send-in-Some-clause-handles
returns-in_err-send-in-Some-clause-handles g c clock =
    fails_memory c.from_residual-in_err-send-in-Some.result _ _ _ _ _ _ _ _ _ _ _ _ _
    c.from_residual-in_err-send-in-Some.ensures.1 refl (inl refl)

pub returns-in_err-send-in-Some-clause-count : goal.returns-in_err-send-in-Some-clause-count
returns-in_err-send-in-Some-clause-count g c = le_refl _

pub returns-in_ok-send-in-Some-clause-handles : goal.returns-in_ok-send-in-Some-clause-handles
returns-in_ok-send-in-Some-clause-handles g c clock =
    let now = c.args.self.now in
    let from = place_of c.args.from in
    let v = number_of_view c.args.view in
    let disk = g.D.Store.told c.args.store.now in
    let r = report c.in-Some.info in
    let found = ap (λ (o : Option JoinInfo). option_map report o) (sym c.in-Some.is) ∙
    c.told.ensures in
    acts_so ⊤ clock (invites from v) (tells from v) [] [] now now c.args.outs.now
    c.send-in-Some.new.self disk disk
    (invited_again now from v r (sym c.is_new.ensures ∙ c.if-is_new.false) found)
    (telling_acts clock now from v r _ c.args.outs.now c.send-in-Some.new.self disk c.requires.up
    c.join_message-in-Some.ensures (told_again now v r found)
    c.in_ok-send-in-Some.ensures.said)

pub returns-in_ok-send-in-Some-clause-count : goal.returns-in_ok-send-in-Some-clause-count
returns-in_ok-send-in-Some-clause-count g c = le_refl _

pub returns-in-None-clause-handles : goal.returns-in-None-clause-handles
returns-in-None-clause-handles g c clock =
    let now = c.args.self.now in
    let from = place_of c.args.from in
    let v = number_of_view c.args.view in
    let found = ap (λ (o : Option JoinInfo). option_map report o) (sym c.in-None.is) ∙
    c.told.ensures in
    acts_idle ⊤ clock (invites from v) [] now now c.args.outs.now
    (g.D.Store.told c.args.store.now) refl c.requires.up
    (uninvited now from v (sym c.is_new.ensures ∙ c.if-is_new.false) found)

pub returns-in-None-clause-count : goal.returns-in-None-clause-count
returns-in-None-clause-count g c = le_refl _
