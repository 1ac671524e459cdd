use Rattle.std.proofs.Common.{[], le_refl, refl, sym, ◌==◌, ◌∙◌}
use Rattle.std.specs.Prelude.{⊤}
use Rattle.group_rules.proofs.Tests.{if_is}
use Rattle.group_rules.specs.Form.{form_moves, on_form}
use Rattle.group_rules.specs.Names.{number_of_view}
use Rattle.idle_log.specs.Kept.{plan_of}
use Rattle.node.proofs.Handled.{acts_idle, handles_so, saving}
use Rattle.node.proofs.Unmoved.{other_form}
use Rattle.node.proofs.node.Node.form.Goals as goal

pub returns-then-not-has_promised-clause-handles : goal.returns-then-not-has_promised-clause-handles
returns-then-not-has_promised-clause-handles g c clock =
    let now = c.args.self.now in
    let plan = plan_of c.args.form in
    acts_idle ⊤ clock (λ q s. on_form q s (number_of_view c.args.view) plan) [] now now
    c.args.outs.now (g.D.Store.told c.args.store.now) refl c.requires.up
    (λ saved. other_form now.me (saving now saved) (number_of_view c.args.view) plan
    (sym c.has_promised.ensures.test ∙ c.if-not-has_promised.true))

pub returns-then-not-has_promised-clause-count : goal.returns-then-not-has_promised-clause-count
returns-then-not-has_promised-clause-count g c = le_refl _

pub returns-clause-handles : goal.returns-clause-handles
returns-clause-handles g c clock =
    let now = c.args.self.now in
    let plan = plan_of c.args.form in
    handles_so _ _ _ (λ q s. on_form q s (number_of_view c.args.view) plan)
    (λ q s. form_moves q s plan) _ _ _ _ _ _ _ _ _ _
    (λ saved. if_is (number_of_view c.args.view == now.plain.promised)
    (form_moves now.me (saving now saved) plan) []
    (sym c.has_promised.ensures.test ∙ c.if-not-has_promised.false))
    (c.form_part.ensures.handles clock)

pub returns-clause-count : goal.returns-clause-count
returns-clause-count g c = c.form_part.ensures.count
