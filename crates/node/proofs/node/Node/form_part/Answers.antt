use Rattle.std.proofs.Common.{[], ap, le_refl, refl, subst, sym, ◌∙◌}
use Rattle.std.specs.Prelude.{⊤}
use Rattle.group_rules.specs.Form.{form_moves}
use Rattle.group_rules.specs.Limits.{is_joins}
use Rattle.group_rules.specs.Names.{place_of}
use Rattle.idle_log.specs.Kept.{plan_of}
use Rattle.node.specs.Handles.{Handles}
use Rattle.node.specs.Node.{NodeValue}
use Rattle.node.specs.State.{Fits, mode_in}
use Rattle.node.specs.declared.state.State.{State}
use Rattle.node.proofs.Handled.{acts_idle, joined_now, saving}
use Rattle.node.proofs.Unmoved.{unjoined}
use Rattle.node.proofs.node.Node.form_part.Goals as goal

pub returns-then-not-is_joined-clause-handles : goal.returns-then-not-is_joined-clause-handles
returns-then-not-is_joined-clause-handles g c clock =
    let now = c.args.self.now in
    acts_idle ⊤ clock (λ q s. form_moves q s (plan_of c.args.form)) [] now now c.args.outs.now
    (g.D.Store.told c.args.store.now) refl c.requires.up
    (λ saved. unjoined now.me (saving now saved) (plan_of c.args.form)
    (sym c.is_joined.ensures ∙ c.if-not-is_joined.true))

pub returns-then-not-is_joined-clause-count : goal.returns-then-not-is_joined-clause-count
returns-then-not-is_joined-clause-count g c = le_refl _

pub into_joined-part-requires : goal.into_joined-part-requires
into_joined-part-requires g c = ap (λ (s : State). is_joins (mode_in s)) c.replace.ensures.value
    ∙ ap (λ (x : NodeValue). is_joins x.plain.mode) c.self.view_is
    ∙ sym c.is_joined.ensures ∙ c.if-not-is_joined.false

pub take_part-requires-clause-kept : goal.take_part-requires-clause-kept
take_part-requires-clause-kept g c =
    (subst (λ (s : State). Fits (place_of c.self.inside.me) c.self.inside.mark s)
    (sym c.replace.ensures.value ∙ c.into_joined-part.ensures) c.self.invariant.1).0

pub take_part-requires-clause-others : goal.take_part-requires-clause-others
take_part-requires-clause-others g c =
    (subst (λ (s : State). Fits (place_of c.self.inside.me) c.self.inside.mark s)
    (sym c.replace.ensures.value ∙ c.into_joined-part.ensures) c.self.invariant.1).1

pub returns-clause-handles : goal.returns-clause-handles
returns-clause-handles g c clock =
    let n = c.self.inside in
    let at = sym c.replace.ensures.value ∙ c.into_joined-part.ensures in
    let fits = subst (λ (s : State). Fits (place_of n.me) n.mark s) at c.self.invariant.1 in
    subst (λ (x : NodeValue). Handles c.take_part.result ⊤ clock (λ q s. form_moves q s (plan_of
    c.args.form)) [] [] x
    c.take_part.new.self c.args.outs.now c.take_part.new.outs (g.D.Store.told c.args.store.now)
    (g.D.Store.told c.take_part.new.store) (g.D.Store.faults c.args.store.now)
    (g.D.Store.faults c.take_part.new.store))
    (joined_now n.me n.mark n.horizon n.served n.duty n.state c.args.self.now
    c.into_joined-part.result.0 c.into_joined-part.result.1 c.self.view_is at fits.0)
    (c.take_part.ensures.handles clock)

pub returns-clause-count : goal.returns-clause-count
returns-clause-count g c = c.take_part.ensures.count
