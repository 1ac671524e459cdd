use Rattle.std.proofs.Common.{◌∙◌, ap, sym, subst, rules, [], List}
use Rattle.std.proofs.lemmas.Result.{on_ok_weaker}
use Rattle.file_tree.specs.Book.{Entry}
use Rattle.group_rules.specs.Moves.{Move}
use Rattle.node_outputs.specs.Makes.{Makes}
use Rattle.replica.specs.Leading.{Leading, led, place_led}
use Rattle.replica.proofs.Opening.{ticks_open}
use Rattle.replica.proofs.leader.Leader.tick.Goals as goal

pub returns-clause-makes : goal.returns-clause-makes
returns-clause-makes c = on_ok_weaker c.beat_and_events.result
    (λ made o. subst (λ (ms : List (Move Entry)). Makes
    (place_led c.args.self.now o) c.args.now ms [] (led c.args.self.now o)
    (led c.args.self.now o) c.args.outs.now c.beat_and_events.new.outs)
    (sym (ticks_open c.args.self.now o c.args.now (ap (λ (l : Leading). l.opened)
    (sym c.self.view_is) ∙ search rules)))
    (made o c.args.now))
    c.beat_and_events.ensures.makes
