use Rattle.accept_laws.proofs.Sizes.{gives_short, ticks_short, within}
use Rattle.accept_laws.proofs.StepSizes.{steps_little}
use Rattle.accept_laws.proofs.message_bounds.size_laws.Goals as goal

pub returns : goal.returns
returns c =
    record { within = within; gives = gives_short; ticks = ticks_short; steps = steps_little }
