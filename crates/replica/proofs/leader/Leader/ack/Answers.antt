use Rattle.std.proofs.Common.{◌∙◌, ap, sym, rules}
use Rattle.replica.specs.Leading.{Leading}
use Rattle.replica.proofs.Committing.{ack_ignored, acked}
use Rattle.replica.proofs.Trees.{acks_keep}
use Rattle.node_outputs.specs.Said.{said}
use Rattle.replica.proofs.leader.Leader.ack.Goals as goal

pub returns-then-not-self-clause-makes : goal.returns-then-not-self-clause-makes
returns-then-not-self-clause-makes c o clock = ack_ignored c.args.self.now c.args.top c.args.lb
    c.args.until clock o c.args.outs.now
    (ap (λ (l : Leading). l.opened) (sym c.self.view_is) ∙ search rules)

pub returns-clause-makes : goal.returns-clause-makes
returns-clause-makes c o clock = acked c.args.self.now c.note.new.self c.commit_to.new.self
    c.args.top c.args.lb c.args.until clock o
    c.args.outs.now c.commit_to.new.outs (ap (λ (l : Leading). l.opened) (sym c.self.view_is)
    ∙ search rules) c.note.ensures
    c.in_ok-commit_to.ensures.all c.in_ok-commit_to.ensures.cp

pub returns-clause-tree : goal.returns-clause-tree
returns-clause-tree c = acks_keep c.args.self.now c.note.new.self c.commit_to.new.self c.args.top
    c.args.lb c.args.until (said c.args.outs.now) (said c.commit_to.new.outs) c.note.ensures
    c.in_ok-commit_to.ensures.all
