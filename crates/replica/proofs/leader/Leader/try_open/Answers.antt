use Rattle.std.proofs.Common.{sym, subst, [], List}
use Rattle.std.proofs.lemmas.Result.{on_ok_weaker}
use Rattle.file_tree.specs.Book.{Entry}
use Rattle.group_rules.specs.Moves.{Move}
use Rattle.node_outputs.specs.Makes.{Makes}
use Rattle.replica.specs.Leading.{led, place_led}
use Rattle.replica.proofs.Opening.{opens_at}
use Rattle.replica.proofs.leader.Leader.try_open.Goals as goal

pub returns-then-may_open-clause-makes : goal.returns-then-may_open-clause-makes
returns-then-may_open-clause-makes c = on_ok_weaker c.open.result
    (λ made o. subst (λ (ms : List (Move Entry)). Makes
    (place_led c.args.self.now o) c.args.now ms [] (led c.args.self.now o)
    (led c.open.new.self o) c.args.outs.now c.open.new.outs)
    (sym (opens_at _ c.args.self.now o c.args.now c.in-Some.lb c.self.view_is c.if-self.false
    c.in-Some.is (sym c.if-may_open.ensures)))
    (made o c.args.now))
    c.open.ensures.makes
