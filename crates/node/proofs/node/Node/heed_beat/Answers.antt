use Rattle.std.proofs.Common.{◌≡◌, ◌≤◌, ◌==◌, [], true, false, ℕ, sym, subst, refl, ◌∙◌}
use Rattle.std.proofs.lemmas.Bool.{eqb-true}
use Rattle.group_rules.specs.Names.{number_of_view, place_of}
use Rattle.group_rules.specs.Places.{Place, leader}
use Rattle.group_rules.specs.Replicate.{on_event}
use Rattle.node.proofs.Heeds.{accepted_test, base_within, heeded, in_view_followed, leader_followed, leaves, no_follower, not_both, unheeded}
use Rattle.node.proofs.InView.{follows_beat, follows_made}
use Rattle.node.specs.Active.{is_followed}
use Rattle.node.specs.Node.{server, value}
use Rattle.node.specs.State.{Fits, IsFollowing, outer}
use Rattle.node.specs.declared.state.State.{State}
use Rattle.node.specs.declared.state.State.TheVariants as state
use Rattle.idle_log.specs.Kept.{plan_of}
use Rattle.node_outputs.specs.Makes.{Makes}
use Rattle.replica.specs.Following.{followed, place_followed}
use Rattle.node.proofs.Stocked.{beat_stock}
use Rattle.node.proofs.Stocks.{stocks_so}
use Rattle.node.specs.Stock.{stock}
use Rattle.node.proofs.node.Node.heed_beat.Goals as goal
use Rattle.node.proofs.node.Node.heed_beat.Goals.{After-beat}

pub returns-then-not-heeds_leader-clause-makes : goal.returns-then-not-heeds_leader-clause-makes
returns-then-not-heeds_leader-clause-makes c items from led =
    let n = c.self.inside in
    let s = server c.args.self.now items in
    leaves c.args.self.now.me c.args.now _ s [] c.args.outs.now
    (unheeded n.me n.mark n.horizon n.served n.duty n.state c.args.self.now items c.args.now from
    c.args.view c.accepted.result c.is_following.result c.heeds_leader.result c.args.cp c.args.base
    s.items c.self.view_is c.self.invariant.1
    c.accepted.ensures c.is_following.ensures c.heeds_leader.ensures c.if-not-heeds_leader.true)

pub unreachable-requires : goal.unreachable-requires
unreachable-requires c = not_both (is_followed c.self.inside.state)
    (sym c.is_following.ensures
    ∙ (heeded _ _ _ c.heeds_leader.ensures c.if-not-heeds_leader.false).1)
    (no_follower c.self.inside.state c.in_default.not-Follows)

ours : (c : goal.After-beat-arg-2-1)
    → (number_of_view c.args.view == c.args.self.now.plain.accepted) ≡ true
ours c =
    let n = c.self.inside in
    accepted_test n.me n.mark n.horizon n.served n.duty n.state c.args.self.now c.args.view
    c.accepted.result (number_of_view c.args.view == number_of_view c.accepted.result) true
    c.self.view_is c.accepted.ensures refl
    (heeded _ _ _ c.heeds_leader.ensures c.if-not-heeds_leader.false).0

pub beat-requires-clause-base : goal.beat-requires-clause-base
beat-requires-clause-base c =
    let n = c.self.inside in
    base_within n.me n.mark n.horizon n.served n.duty n.state c.in-Follows.partner
    c.in-Follows.field-1 c.args.self.now (number_of_view c.args.view) c.args.base c.self.view_is
    c.in-Follows.is c.self.invariant.1 (ours c) c.requires.base

followed_at : (c : After-beat)
    → IsFollowing (place_of c.self.inside.me) c.self.inside.mark c.in-Follows.partner
    (plan_of c.in-Follows.field-1)
followed_at c = subst (λ (s : State). Fits (place_of c.self.inside.me) c.self.inside.mark s)
    c.in-Follows.is c.self.invariant.1

low : (c : After-beat) → c.args.base ≤ c.in-Follows.partner.log.lb
low c =
    let n = c.self.inside in
    base_within n.me n.mark n.horizon n.served n.duty n.state c.in-Follows.partner
    c.in-Follows.field-1 c.args.self.now (number_of_view c.args.view) c.args.base c.self.view_is
    c.in-Follows.is c.self.invariant.1
    (accepted_test n.me n.mark n.horizon n.served n.duty n.state c.args.self.now c.args.view
    c.accepted.result (number_of_view c.args.view == number_of_view c.accepted.result) true
    c.self.view_is c.accepted.ensures refl
    (heeded _ _ _ c.heeds_leader.ensures c.if-not-heeds_leader.false).0) c.requires.base

follows : (c : After-beat)
    → IsFollowing (place_of c.self.inside.me) c.self.inside.mark c.beat.new.self
    (plan_of c.in-Follows.field-1)
follows c = follows_beat (place_of c.self.inside.me) c.self.inside.mark c.in-Follows.partner
    c.beat.new.self c.args.cp c.args.base (plan_of c.in-Follows.field-1)
    c.beat.ensures.log (low c) (followed_at c)

pub invariant_of-self : goal.invariant_of-self
invariant_of-self c =
    (c.self.invariant.0, follows (goal.at.invariant_of-self c).After-beat)

pub invariant_of-self-2 : goal.invariant_of-self-2
invariant_of-self-2 c = (c.self.invariant.0, follows (goal.at.invariant_of-self-2 c).After-beat)

pub returns-clause-makes : goal.returns-clause-makes
returns-clause-makes c items from led =
    let n = c.self.inside in
    let at = (goal.at.returns-clause-makes c).After-beat in
    let f = c.in-Follows.partner in
    let o = outer n.me n.mark n.horizon n.served n.duty c.in-Follows.field-1 in
    let q = place_followed f o in
    let v = number_of_view c.args.view in
    let now = c.args.self.now in
    let s = server now items in
    let new = server (value n.me n.mark c.beat.new.horizon n.served n.duty
    (state.Follows c.beat.new.self c.in-Follows.field-1)) items in
    let es = s.items in
    let test = accepted_test n.me n.mark n.horizon n.served n.duty n.state now c.args.view
    c.accepted.result (number_of_view c.args.view == number_of_view c.accepted.result) true
    c.self.view_is c.accepted.ensures refl
    (heeded _ _ _ c.heeds_leader.ensures c.if-not-heeds_leader.false).0 in
    let is_from = led (in_view_followed n.me n.mark n.horizon n.served n.duty n.state f
    c.in-Follows.field-1 now v c.self.view_is c.in-Follows.is test) in
    let made = subst (λ (p : Place). Makes q c.args.now (on_event q c.args.now (followed f o) p
    f.view c.args.cp c.args.base
    (followed f o).items) [] (followed f o)
    (followed c.beat.new.self
    (outer n.me n.mark c.beat.new.horizon n.served n.duty c.in-Follows.field-1))
    c.args.outs.now c.beat.new.outs) (sym (leader_followed f.ahead (place_of n.me)))
    (c.in_ok-beat.ensures.makes o) in
    subst (λ (p : Place). Makes now.me c.args.now (on_event now.me c.args.now s p v c.args.cp
    c.args.base es) [] s new c.args.outs.now c.beat.new.outs) (sym is_from)
    (subst (λ (w : ℕ). Makes now.me c.args.now (on_event now.me c.args.now s
    (leader s.plan.storers) w c.args.cp c.args.base es) [] s new c.args.outs.now
    c.beat.new.outs) (sym (eqb-true v now.plain.accepted test))
    (follows_made n.me n.mark n.horizon c.beat.new.horizon n.served n.duty f c.beat.new.self
    c.in-Follows.field-1 n.state now items c.args.now
    (λ q t. on_event q c.args.now t (leader t.plan.storers) t.accepted c.args.cp c.args.base
    t.items) c.args.outs.now c.beat.new.outs
    c.in-Follows.is c.self.view_is (followed_at at) (follows at) made))

pub returns-then-not-heeds_leader-clause-stock : goal.returns-then-not-heeds_leader-clause-stock
returns-then-not-heeds_leader-clause-stock c items from =
    let n = c.self.inside in
    let now = c.args.self.now in
    stocks_so [] now.me (server now items) _ [] (stock now) (stock now)
    (unheeded n.me n.mark n.horizon n.served n.duty n.state now items c.args.now from
    c.args.view c.accepted.result c.is_following.result c.heeds_leader.result c.args.cp c.args.base
    (server now items).items c.self.view_is c.self.invariant.1
    c.accepted.ensures c.is_following.ensures c.heeds_leader.ensures c.if-not-heeds_leader.true) (λ clock list askers. refl)

pub returns-clause-stock : goal.returns-clause-stock
returns-clause-stock c items from =
    let n = c.self.inside in
    beat_stock n.me n.mark n.horizon n.served n.duty items n.state c.in-Follows.partner
    c.beat.new.self c.in-Follows.field-1 c.args.self.now (number_of_view c.args.view) c.args.now
    from c.args.cp c.args.base c.in-Follows.is c.self.view_is
    (followed_at (goal.at.returns-clause-stock c).After-beat)
    c.beat.ensures.log
    (in_view_followed n.me n.mark n.horizon n.served n.duty n.state c.in-Follows.partner
    c.in-Follows.field-1 c.args.self.now (number_of_view c.args.view) c.self.view_is
    c.in-Follows.is
    (accepted_test n.me n.mark n.horizon n.served n.duty n.state c.args.self.now c.args.view
    c.accepted.result (number_of_view c.args.view == number_of_view c.accepted.result) true
    c.self.view_is c.accepted.ensures refl
    (heeded _ _ _ c.heeds_leader.ensures c.if-not-heeds_leader.false).0))
