use Rattle.std.proofs.lemmas.Result.{on_ok_weaker}
use Rattle.replica.proofs.Follows.{heeds_beat}
use Rattle.replica.proofs.partner.Partner.beat.Goals as goal

pub returns-clause-makes : goal.returns-clause-makes
returns-clause-makes c = on_ok_weaker c.acknowledge.result
    (λ told. heeds_beat c.args.self.now c.drop_to.new.self c.acknowledge.new.self
    c.args.horizon.now c.acknowledge.new.horizon
    c.args.now c.args.cp c.args.base c.args.outs.now c.acknowledge.new.outs c.drop_to.ensures.log
    c.acknowledge.ensures.state
    c.acknowledge.ensures.horizon c.drop_to.ensures.within told)
    c.acknowledge.ensures.said

pub returns-clause-tree : goal.returns-clause-tree
returns-clause-tree c list upto told h = c.acknowledge.ensures.tree list upto told
    (c.drop_to.ensures.tree list upto told h)
