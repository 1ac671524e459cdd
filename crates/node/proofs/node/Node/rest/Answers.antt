use Rattle.std.proofs.Common.{List, [], ap, false, refl, ◌∙◌}
use Rattle.file_tree.specs.Book.{Entry}
use Rattle.group_rules.specs.Effects.{demoted, down, first_mark}
use Rattle.group_rules.specs.Names.{number_of_view, place_of}
use Rattle.group_rules.specs.Places.{Zero, is_p2}
use Rattle.group_rules.specs.State.{Server}
use Rattle.node.proofs.Demoted.{keeps_lb, mark_at, rests_demoted, under_at}
use Rattle.node.specs.Node.{NodeValue, server}
use Rattle.event_record.specs.declared.record.RecordFields.{RecordFields}
use Rattle.node.proofs.Stocked.{demoted_stock}
use Rattle.node.specs.Stock.{stock_kept}
use Rattle.node.proofs.Stocks.{as_stock}
use Rattle.node.proofs.node.Node.rest.Goals as goal

any : Server Entry
any = down (first_mark Entry 0 Zero)

pub invariant_of-self : goal.invariant_of-self
invariant_of-self c = (
  tt,
  keeps_lb (place_of c.self.inside.me) c.args.mark any c.forget.result c.forget.ensures.drops
      (c.forget.ensures.placed (place_of c.self.inside.me)
      (ap (λ (n : NodeValue). is_p2 n.me) c.self.view_is ∙ c.requires.witness)),
)

pub returns : goal.returns
returns c = record {
  me = ap (λ (n : NodeValue). n.me) c.self.view_is;
  up = refl;
  state = λ items.
      let n = c.self.inside in
      rests_demoted n.me n.mark c.args.mark n.horizon n.served n.duty n.state c.forget.result items
      c.args.view
      (mark_at n.me n.mark n.horizon n.served n.duty n.state c.args.self.now c.args.mark c.args.view
      c.self.view_is c.requires.mark)
      (under_at n.me n.mark n.horizon n.served n.duty n.state c.args.self.now c.args.view false
      c.self.view_is c.requires.below)
      c.forget.ensures.drops
      ∙ ap (λ (x : NodeValue). demoted (server x items) (number_of_view c.args.view))
      c.self.view_is;
  stock = λ items.
      let n = c.self.inside in
      demoted_stock n.me n.mark n.horizon n.served n.duty n.state c.args.self.now
      (number_of_view c.args.view) false items (stock_kept c.forget.result []) c.self.view_is
      (under_at n.me n.mark n.horizon n.served n.duty n.state c.args.self.now c.args.view false
      c.self.view_is c.requires.below)
      (ap (λ (xs : List RecordFields). as_stock xs [] [])
      c.forget.ensures.records);
  cached = refl;
  mark = refl;
}
