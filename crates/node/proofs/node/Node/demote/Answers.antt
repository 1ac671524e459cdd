use Rattle.std.proofs.Common.{[], ap, false, le_refl, refl, sym, true, ◌∙◌}
use Rattle.std.specs.Prelude.{⊤}
use Rattle.group_rules.specs.Disk.{on_demote}
use Rattle.group_rules.specs.Names.{number_of_view}
use Rattle.group_rules.specs.Places.{is_p2}
use Rattle.node.proofs.Demoted.{above_at, demoted_acts, heeds_demotion, leaves_part, mark_back, no_witness, not_above}
use Rattle.node.proofs.Handled.{acts_idle, fails_stored, saving}
use Rattle.node.specs.Node.{NodeValue}
use Rattle.node.proofs.node.Node.demote.Goals as goal

pub returns-then-not-is_witness-clause-handles : goal.returns-then-not-is_witness-clause-handles
returns-then-not-is_witness-clause-handles g c clock outs =
    let now = c.args.self.now in
    let v = number_of_view c.args.view in
    acts_idle ⊤ clock (λ q s. on_demote q s v) [] now now outs (g.D.Store.told c.args.store.now)
    refl c.requires.up
    (λ saved. no_witness now.me (saving now saved) v
    (ap (λ (n : NodeValue). is_p2 n.me) (sym c.self.view_is) ∙ sym c.is_witness.ensures
    ∙ c.if-not-is_witness.true))

pub returns-then-not-is_witness-clause-count : goal.returns-then-not-is_witness-clause-count
returns-then-not-is_witness-clause-count g c = le_refl _

pub returns-then-not-is_above-clause-handles : goal.returns-then-not-is_above-clause-handles
returns-then-not-is_above-clause-handles g c clock outs =
    let now = c.args.self.now in
    let v = number_of_view c.args.view in
    acts_idle ⊤ clock (λ q s. on_demote q s v) [] now now outs (g.D.Store.told c.args.store.now)
    refl c.requires.up
    (λ saved. not_above now.me (saving now saved) v
    (above_at c.self.inside.me c.self.inside.mark c.self.inside.horizon c.self.inside.served
    c.self.inside.duty c.self.inside.state now c.args.view c.accepted.result
    c.is_above.result false c.self.view_is c.accepted.ensures c.is_above.ensures
    c.if-not-is_above.true))

pub returns-then-not-is_above-clause-count : goal.returns-then-not-is_above-clause-count
returns-then-not-is_above-clause-count g c = le_refl _

pub returns-in_err-write_mark-clause-handles : goal.returns-in_err-write_mark-clause-handles
returns-in_err-write_mark-clause-handles g c clock outs =
    let now = c.args.self.now in
    let v = number_of_view c.args.view in
    fails_stored c.from_residual.result c.write_mark.result c.in_err-write_mark.field-0.0
    _ _ _ _ _ _ _ _ _ _ _ _ _ c.from_residual.ensures.1
    c.in_err-write_mark.was c.write_mark.ensures.rose refl
    (leaves_part c.demoted_mark-mark.result now.mark (g.D.Store.told c.args.store.now)
    (g.D.Store.told c.write_mark.new.self) v (on_demote now.me now.plain v)
    (heeds_demotion now.me now.plain v
    (ap (λ (n : NodeValue). is_p2 n.me) (sym c.self.view_is) ∙ sym c.is_witness.ensures
    ∙ c.if-not-is_witness.false)
    (above_at c.self.inside.me c.self.inside.mark c.self.inside.horizon c.self.inside.served
    c.self.inside.duty c.self.inside.state now c.args.view c.accepted.result
    c.is_above.result true c.self.view_is c.accepted.ensures c.is_above.ensures
    c.if-not-is_above.false)) (mark_back c.self.inside.me c.self.inside.mark c.self.inside.horizon
    c.self.inside.served
    c.self.inside.duty c.self.inside.state now c.demoted_mark-mark.result c.args.view
    c.self.view_is c.demoted_mark-mark.ensures)
    c.in_err-write_mark.ensures.part)

pub returns-in_err-write_mark-clause-count : goal.returns-in_err-write_mark-clause-count
returns-in_err-write_mark-clause-count g c = c.write_mark.ensures.count

pub returns-then-is_above-clause-handles : goal.returns-then-is_above-clause-handles
returns-then-is_above-clause-handles g c clock outs =
    let now = c.args.self.now in
    let v = number_of_view c.args.view in
    demoted_acts clock v now c.go_on.new.self c.demoted_mark-mark.result outs
    (g.D.Store.told c.args.store.now) (g.D.Store.told c.write_mark.new.self)
    (λ saved. heeds_demotion now.me (saving now saved) v
    (ap (λ (n : NodeValue). is_p2 n.me) (sym c.self.view_is) ∙ sym c.is_witness.ensures
    ∙ c.if-not-is_witness.false)
    (above_at c.self.inside.me c.self.inside.mark c.self.inside.horizon c.self.inside.served
    c.self.inside.duty c.self.inside.state now c.args.view c.accepted.result
    c.is_above.result true c.self.view_is c.accepted.ensures c.is_above.ensures
    c.if-not-is_above.false))
    c.go_on.ensures.state c.go_on.ensures.me c.go_on.ensures.up c.go_on.ensures.stock
    c.go_on.ensures.cached c.go_on.ensures.mark (mark_back c.self.inside.me c.self.inside.mark
    c.self.inside.horizon c.self.inside.served
    c.self.inside.duty c.self.inside.state now c.demoted_mark-mark.result c.args.view
    c.self.view_is c.demoted_mark-mark.ensures)
    c.in_ok-write_mark.ensures.written

pub returns-then-is_above-clause-count : goal.returns-then-is_above-clause-count
returns-then-is_above-clause-count g c = c.write_mark.ensures.count

pub returns-clause-handles : goal.returns-clause-handles
returns-clause-handles g c clock outs =
    let now = c.args.self.now in
    let v = number_of_view c.args.view in
    demoted_acts clock v now c.rest.new.self c.demoted_mark-mark.result outs
    (g.D.Store.told c.args.store.now) (g.D.Store.told c.write_mark.new.self)
    (λ saved. heeds_demotion now.me (saving now saved) v
    (ap (λ (n : NodeValue). is_p2 n.me) (sym c.self.view_is) ∙ sym c.is_witness.ensures
    ∙ c.if-not-is_witness.false)
    (above_at c.self.inside.me c.self.inside.mark c.self.inside.horizon c.self.inside.served
    c.self.inside.duty c.self.inside.state now c.args.view c.accepted.result
    c.is_above.result true c.self.view_is c.accepted.ensures c.is_above.ensures
    c.if-not-is_above.false))
    c.rest.ensures.state c.rest.ensures.me c.rest.ensures.up c.rest.ensures.stock
    c.rest.ensures.cached c.rest.ensures.mark (mark_back c.self.inside.me c.self.inside.mark
    c.self.inside.horizon c.self.inside.served
    c.self.inside.duty c.self.inside.state now c.demoted_mark-mark.result c.args.view
    c.self.view_is c.demoted_mark-mark.ensures)
    c.in_ok-write_mark.ensures.written

pub returns-clause-count : goal.returns-clause-count
returns-clause-count g c = c.write_mark.ensures.count
