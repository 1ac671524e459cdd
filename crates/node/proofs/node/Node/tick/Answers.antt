use Rattle.std.proofs.lemmas.Result.{on_ok_weaker}
use Rattle.node.proofs.Ticks.{ticks}
use Rattle.node.specs.Node.{server}
use Rattle.std.proofs.Common.{List, ◌++◌, sym, subst, ◌∙◌}
use Rattle.event_record.specs.declared.record.RecordFields.{RecordFields}
use Rattle.idle_log.specs.Gives.{StandIn}
use Rattle.node_outputs.specs.Records.{records_sent}
use Rattle.node.proofs.node.Node.tick.Goals as goal

pub returns-clause-makes : goal.returns-clause-makes
returns-clause-makes c =
    on_ok_weaker c.send_again.result
    (λ third items. ticks c.args.self.now.me c.args.now (server c.args.self.now items)
    (server c.lead.new.self items) c.lead.new.self.me c.args.outs.now c.lead.new.outs
    c.do_duty.new.outs c.send_again.new.outs c.in_ok-lead.ensures.me
    (c.in_ok-lead.ensures.makes items) (c.in_ok-do_duty.ensures.makes items c.args.now)
    (third items c.args.now))
    c.send_again.ensures.makes

pub returns-clause-sent : goal.returns-clause-sent
returns-clause-sent c = on_ok_weaker c.send_again.result
    (λ same. subst (λ (xs : List RecordFields). StandIn
    (records_sent c.args.outs.now ++ c.args.self.now.records) xs)
    (sym (same ∙ c.in_ok-do_duty.ensures.records)) c.in_ok-lead.ensures.sent)
    c.send_again.ensures.records
