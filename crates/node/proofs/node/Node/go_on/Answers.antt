use Rattle.std.proofs.Common.{[], ap, refl, subst, sym, true, ◌∙◌}
use Rattle.group_rules.specs.Effects.{demoted}
use Rattle.group_rules.specs.Names.{number_of_view, place_of}
use Rattle.group_rules.specs.Places.{is_p2}
use Rattle.harp_store.specs.Mark.{MarkFields}
use Rattle.node.proofs.Demoted.{closed_at, mark_at, under_at}
use Rattle.node.specs.Node.{NodeValue, server, value}
use Rattle.node.specs.State.{Fits, pulled_in}
use Rattle.node.specs.declared.state.State.{State}
use Rattle.node.proofs.Stocked.{demoted_stock}
use Rattle.node.specs.Stock.{stock_in}
use Rattle.node.proofs.Stocks.{as_stock}
use Rattle.node.proofs.node.Node.go_on.Goals as goal

pub without_log-requires-clause-closed : goal.without_log-requires-clause-closed
without_log-requires-clause-closed c =
    let n = c.self.inside in
    closed_at n.me n.mark n.horizon n.served n.duty n.state c.args.self.now c.replace.result
    (number_of_view c.args.view) c.self.view_is c.replace.ensures.value c.self.invariant.1
    c.requires.above c.requires.below

pub invariant_of-self : goal.invariant_of-self
invariant_of-self c = (
  c.self.invariant.0,
  c.without_log.ensures.fits (place_of c.self.inside.me) c.self.inside.mark c.args.mark
      (ap (λ (n : NodeValue). is_p2 n.me) c.self.view_is ∙ c.requires.witness)
      (subst (λ (s : State). Fits (place_of c.self.inside.me) c.self.inside.mark s)
      (sym c.replace.ensures.value) c.self.invariant.1),
)

pub returns : goal.returns
returns c = record {
  me = ap (λ (n : NodeValue). n.me) c.self.view_is;
  up = c.without_log.ensures.up;
  state = λ items.
      let n = c.self.inside in
      ap (λ (m : MarkFields). server (value n.me m n.horizon 0 n.duty c.without_log.result) items)
      (mark_at n.me n.mark n.horizon n.served n.duty n.state c.args.self.now c.args.mark c.args.view
      c.self.view_is c.requires.mark)
      ∙ c.without_log.ensures.drops n.me n.mark n.horizon n.served n.duty items c.args.view
      (under_at n.me n.mark n.horizon n.served n.duty n.state c.args.self.now c.args.view true
      c.self.view_is c.requires.below)
      ∙ ap (λ (s : State). demoted (server (value n.me n.mark n.horizon n.served n.duty s) items)
      (number_of_view c.args.view)) c.replace.ensures.value
      ∙ ap (λ (x : NodeValue). demoted (server x items) (number_of_view c.args.view))
      c.self.view_is;
  stock = λ items.
      let n = c.self.inside in
      demoted_stock n.me n.mark n.horizon n.served n.duty n.state c.args.self.now
      (number_of_view c.args.view) true items (stock_in c.without_log.result) c.self.view_is
      (under_at n.me n.mark n.horizon n.served n.duty n.state c.args.self.now c.args.view true
      c.self.view_is c.requires.below)
      (c.without_log.ensures.stock
      ∙ ap (λ (s : State). as_stock [] (pulled_in s) [])
      c.replace.ensures.value);
  cached = c.without_log.ensures.cached;
  mark = refl;
}
