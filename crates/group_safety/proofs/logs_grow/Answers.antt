use Rattle.group_safety.proofs.Records.{deeds_grow, deliveries_grow}
use Rattle.group_safety.proofs.logs_grow.Goals as goal

pub returns : goal.returns
returns c = record { deeds = deeds_grow; deliveries = deliveries_grow }
