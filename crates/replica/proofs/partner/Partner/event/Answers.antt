use Rattle.std.proofs.lemmas.Result.{on_ok_weaker}
use Rattle.replica.proofs.Follows.{heeds_event, room_left}
use Rattle.replica.proofs.Trees.{between_keeps, drop_tops, event_records}
use Rattle.replica.proofs.partner.Partner.event.Goals as goal

pub take-requires : goal.take-requires
take-requires c = room_left c.args.self.now c.drop_to.new.self c.args.base c.args.item.index
    c.drop_to.ensures.log c.drop_to.ensures.within c.requires.room

pub returns-clause-makes : goal.returns-clause-makes
returns-clause-makes c = on_ok_weaker c.acknowledge.result
    (λ told. heeds_event c.args.self.now c.drop_to.new.self c.take.new.self c.acknowledge.new.self
    c.args.horizon.now c.acknowledge.new.horizon
    c.args.now c.args.cp c.args.base c.args.item c.args.outs.now c.acknowledge.new.outs
    c.drop_to.ensures.log c.in_ok-take.ensures.log
    c.acknowledge.ensures.state c.acknowledge.ensures.horizon c.drop_to.ensures.within told)
    c.acknowledge.ensures.said

pub returns-clause-tree : goal.returns-clause-tree
returns-clause-tree c = on_ok_weaker c.acknowledge.result
    (λ told. between_keeps c.args.item c.args.self.now.log c.drop_to.new.self.log
    c.take.new.self.log c.acknowledge.new.self.log
    (drop_tops c.args.self.now c.drop_to.new.self c.args.base c.drop_to.ensures.log
    c.drop_to.ensures.within) c.drop_to.ensures.tree c.in_ok-take.ensures.tree
    c.acknowledge.ensures.tree)
    c.acknowledge.ensures.said

pub returns-clause-records : goal.returns-clause-records
returns-clause-records c = on_ok_weaker c.acknowledge.result
    (λ told. event_records c.args.self.now c.drop_to.new.self c.take.new.self
    c.acknowledge.new.self c.args.base c.args.cp c.args.item c.drop_to.ensures.log
    c.in_ok-take.ensures.log c.acknowledge.ensures.state c.drop_to.ensures.within)
    c.acknowledge.ensures.said
