use Rattle.world_laws.proofs.Sends.{deeds_send, deliveries_send}
use Rattle.world_laws.proofs.stock_laws.sends_are_right.Goals as goal

pub returns : goal.returns
returns c = record { deeds = deeds_send; deliveries = deliveries_send }
