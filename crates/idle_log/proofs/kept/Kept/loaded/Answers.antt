use Rattle.std.proofs.Common.{ap, sym, ◌∙◌}
use Rattle.group_rules.proofs.Tests.{if_is}
use Rattle.idle_log.proofs.Booting.{rests_held, rests_loaded}
use Rattle.idle_log.specs.Boots.{rests}
use Rattle.idle_log.specs.declared.kept.Kept.TheVariants as kept
use Rattle.volatile_log.specs.Log.{LogValue}
use Rattle.idle_log.proofs.kept.Kept.loaded.Goals as goal

pub returns-then-is_witness-clause-boots : goal.returns-then-is_witness-clause-boots
returns-then-is_witness-clause-boots c clock delta m can low applied saved =
    rests_held _ clock delta m c.args.log c.args.log.base c.cp.ensures.order can low saved
    (if_is _ _ _ (sym c.is_witness.ensures ∙ c.if-is_witness.true))
    ∙ ap (λ (log : LogValue). rests clock delta m (kept.Held log)) (sym c.at_base.ensures)

pub returns-clause-boots : goal.returns-clause-boots
returns-clause-boots c clock delta m can low applied saved =
    rests_loaded _ clock delta m c.args.log c.cp.ensures.order can low applied saved
    (sym c.is_witness.ensures ∙ c.if-is_witness.false)
