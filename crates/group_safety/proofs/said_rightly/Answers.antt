use Rattle.group_safety.proofs.Lawful.{deeds_say_rightly, deliveries_say_rightly}
use Rattle.group_safety.proofs.said_rightly.Goals as goal

pub returns : goal.returns
returns c = record { deeds = deeds_say_rightly; deliveries = deliveries_say_rightly }
