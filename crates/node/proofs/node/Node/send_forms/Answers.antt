use Rattle.std.proofs.Common.{ap, ◌∙◌}
use Rattle.group_rules.specs.Names.{place_of}
use Rattle.idle_log.specs.Kept.{plan_of}
use Rattle.node.proofs.Collects.{sends_both}
use Rattle.node.proofs.Storers.{leader_place, partner_place}
use Rattle.node.proofs.node.Node.send_forms.Goals as goal

pub returns : goal.returns
returns c s clock = sends_both c.args.self.now.me _ _ clock (plan_of c.args.form.now).storers _ s
    _ _ _ (ap place_of c.leader.ensures ∙ leader_place c.args.form.now.storers)
    (ap place_of c.partner.ensures ∙ partner_place c.args.form.now.storers)
    (c.in_ok-send_form.ensures s clock) (c.in_ok-send_form-2.ensures s clock)
