use Rattle.std.proofs.Common.{[], ap, le_refl, refl, subst, sym, ◌∙◌, ℕ}
use Rattle.std.specs.Prelude.{map, ⊤}
use Rattle.std.proofs.lemmas.Bool.{eqb-true}
use Rattle.event_record.specs.Record.{entry_of}
use Rattle.group_rules.proofs.Tests.{each_of}
use Rattle.group_rules.specs.Form.{on_give}
use Rattle.group_rules.specs.Limits.{is_pulls}
use Rattle.group_rules.specs.Names.{number_of_view, place_of}
use Rattle.node.specs.Handles.{Handles}
use Rattle.node.specs.Node.{NodeValue}
use Rattle.node.proofs.Given.{given_within}
use Rattle.node.proofs.Handled.{acts_idle, handles_so, pulled_now, saving}
use Rattle.node.proofs.Unmoved.{unpulled_for}
use Rattle.node.specs.State.{Fits, mode_in}
use Rattle.node.specs.declared.state.State.{State}
use Rattle.node.proofs.node.Node.give.Goals as goal

pub returns-then-not-pulls_for-clause-handles : goal.returns-then-not-pulls_for-clause-handles
returns-then-not-pulls_for-clause-handles g c clock =
    let now = c.args.self.now in
    let given = map entry_of c.args.records in
    acts_idle ⊤ clock (λ q s. on_give q s (number_of_view c.args.view) c.args.first given)
    c.args.records now now c.args.outs.now (g.D.Store.told c.args.store.now) refl c.requires.up
    (λ saved. unpulled_for now.me (saving now saved) (number_of_view c.args.view) c.args.first given
    (sym c.pulls_for.ensures ∙ c.if-not-pulls_for.true))

pub returns-then-not-pulls_for-clause-count : goal.returns-then-not-pulls_for-clause-count
returns-then-not-pulls_for-clause-count g c = le_refl _

pub into_pull-pull-requires : goal.into_pull-pull-requires
into_pull-pull-requires g c = ap (λ (s : State). is_pulls (mode_in s)) c.replace.ensures.value
    ∙ ap (λ (x : NodeValue). is_pulls x.plain.mode) c.self.view_is
    ∙ (each_of _ (sym c.pulls_for.ensures ∙ c.if-not-pulls_for.false)).1.0

pub take_given-requires-clause-within : goal.take_given-requires-clause-within
take_given-requires-clause-within g c = given_within c.self.inside.me c.self.inside.mark
    c.self.inside.horizon c.self.inside.served c.self.inside.duty c.self.inside.state
    c.args.self.now c.into_pull-pull.result.kept c.into_pull-pull.result.joining
    c.into_pull-pull.result.form c.into_pull-pull.result.staged _
    c.args.first c.args.records (sym c.replace.ensures.value ∙ c.into_pull-pull.ensures)
    c.self.view_is
    ((each_of _ (sym c.pulls_for.ensures ∙ c.if-not-pulls_for.false)).0) c.requires.within

pub take_given-requires-clause-kept : goal.take_given-requires-clause-kept
take_given-requires-clause-kept g c =
    let n = c.self.inside in
    let at = sym c.replace.ensures.value ∙ c.into_pull-pull.ensures in
    let fits = subst (λ (s : State). Fits (place_of n.me) n.mark s) at c.self.invariant.1 in
    fits.0

pub take_given-requires-clause-others : goal.take_given-requires-clause-others
take_given-requires-clause-others g c =
    let n = c.self.inside in
    let at = sym c.replace.ensures.value ∙ c.into_pull-pull.ensures in
    let fits = subst (λ (s : State). Fits (place_of n.me) n.mark s) at c.self.invariant.1 in
    fits.2

pub take_given-requires-clause-pulls : goal.take_given-requires-clause-pulls
take_given-requires-clause-pulls g c =
    let n = c.self.inside in
    let at = sym c.replace.ensures.value ∙ c.into_pull-pull.ensures in
    let fits = subst (λ (s : State). Fits (place_of n.me) n.mark s) at c.self.invariant.1 in
    fits.3

pub returns-clause-handles : goal.returns-clause-handles
returns-clause-handles g c clock =
    let n = c.self.inside in
    let now = c.args.self.now in
    let given = map entry_of c.args.records in
    let at = sym c.replace.ensures.value ∙ c.into_pull-pull.ensures in
    let fits = subst (λ (s : State). Fits (place_of n.me) n.mark s) at c.self.invariant.1 in
    let same = (each_of _ (sym c.pulls_for.ensures ∙ c.if-not-pulls_for.false)).0 in
    handles_so _ _ _ _ (λ q s. on_give q s s.promised c.args.first given) _ _ _ _ _ _ _ _ _ _
    (λ saved. ap (λ (w : ℕ). on_give now.me (saving now saved) w c.args.first given)
    (eqb-true (number_of_view c.args.view) now.plain.promised same))
    (subst (λ (x : NodeValue). Handles c.take_given.result ⊤ clock (λ q s. on_give q s s.promised
    c.args.first given) c.args.records [] x
    c.take_given.new.self c.args.outs.now c.take_given.new.outs (g.D.Store.told c.args.store.now)
    (g.D.Store.told c.take_given.new.store) (g.D.Store.faults c.args.store.now)
    (g.D.Store.faults c.take_given.new.store))
    (pulled_now n.me n.mark n.horizon n.served n.duty n.state now c.into_pull-pull.result
    c.self.view_is at fits.0) (c.take_given.ensures.handles clock))

pub returns-clause-count : goal.returns-clause-count
returns-clause-count g c = c.take_given.ensures.count
